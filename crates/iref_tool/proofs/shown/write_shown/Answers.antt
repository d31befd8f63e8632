use Rattle.std.proofs.Common.{encode_utf8_all, map, map-id, sym, ap, ◌∙◌, append-nil, rules}
use Rattle.std.proofs.{Output.{has_written_append, has_written_of_eq}, lemmas.Iterator.{YieldsList-from_chars}}
use Rattle.std.proofs.lemmas.{Iterator.Consumers.{YieldsList-end}, List.{map-append}, Str.{encodes-append}}
use Rattle.iref_tool.specs.Shown.{shown_char}
use Rattle.iref_tool.proofs.shown.write_shown.Goals as goal

pub loop-c-preserved : goal.loop-c-preserved
loop-c-preserved g c plain =
    let sofar = c.loop-c.invariant plain in
    let one = c.write_char.ensures.writes sofar.plain (search rules) in
    has_written_of_eq _ _ _ _ _ (rw (map-append, encodes-append, append-nil) (search rules)) (has_written_append _ _ _ _ _ _ sofar one)

pub returns : goal.returns
returns g c plain ok =
    let end = YieldsList-end (YieldsList-from_chars c.args.text.now c.utf8.text cc) c.loop-c.yielded _ c.loop-c.yielded_by _ _ c.in-None.is c.next.ensures.steps in
    has_written_of_eq _ _ _ _ _ (ap (λ cs. encode_utf8_all (map shown_char cs)) (sym (map-id c.loop-c.yielded) ∙ end.0)) (c.loop-c.invariant plain)
