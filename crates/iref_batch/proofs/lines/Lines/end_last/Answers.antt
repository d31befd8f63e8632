use Rattle.std.proofs.Common.{◌∷◌, ◌++◌, [], refl, append-nil, sym, ap, ◌∙◌}
use Rattle.iref_batch.specs.Lines.{newline, lines_of}
use Rattle.iref_batch.proofs.{Writing.{on_err}, EndLemmas.{last_line, begun_same}, SeenLemmas.{no_byte}}
use Rattle.iref_batch.proofs.lines.Lines.end_last.Goals as goal

pub end_line-requires-clause-line : goal.end_line-requires-clause-line
end_line-requires-clause-line g c = no_byte

pub returns-clause-ok : goal.returns-clause-ok
returns-clause-ok g c = λ seen before s. (
  seen ++ newline ∷ [],
  last_line seen before _ c.args.self.now (c.is_empty.ensures.some c.if-is_empty.false) s,
  c.in_ok-end_line.ensures.ok seen before s,
)

pub returns-then-is_empty-clause-ok : goal.returns-then-is_empty-clause-ok
returns-then-is_empty-clause-ok g c = λ seen before s. (seen, refl, s)

pub returns-in_err-end_line-clause-cut : goal.returns-in_err-end_line-clause-cut
returns-in_err-end_line-clause-cut g c =
    on_err c.from_residual.result (λ seen before s.
    begun_same (seen ++ newline ∷ []) (seen ++ []) before _
    (last_line seen before _ c.args.self.now (c.is_empty.ensures.some c.if-is_empty.false) s ∙ sym (ap lines_of (append-nil seen)))
    (c.in_err-end_line.ensures.cut [] seen before s))
