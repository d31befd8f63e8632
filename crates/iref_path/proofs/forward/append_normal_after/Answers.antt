use Rattle.std.proofs.{Common.{◌++◌, ◌∙◌, ap, arith, take}, lemmas.Result.{on_ok_weaker}}
use Rattle.iref_grammar.specs.{Grammar.{slash}, PathValue.{read_path}, Texts.{pieces_at}}
use Rattle.iref_path.proofs.ForwardLemmas.{appended_twice, relative_after}
use Rattle.iref_path.proofs.forward.append_normal_after.Goals as goal

pub returns : goal.returns
returns c =
    let old = c.args.out.now.items in
    let base = read_path c.args.base.now in
    let path = c.args.path.now in
    let below = c.unwrap_or.result.now in
    let closed = take c.last_start.result c.as_bytes-segments.result.now in
    on_ok_weaker c.put_all-3.result
    (λ e context h.
    appended_twice old c.extend_from_slice.new.self.items c.len-floor.result (pieces_at slash closed) (grind arith) (grind arith) c.put_all-2.new.out.items c.put_all-3.new.out.items (pieces_at slash path) (grind arith) (grind arith)
    ∙ ap (λ t. old ++ t) (relative_after context base below path closed h c.requires.base (grind arith) c.requires.path c.in_default.ensures (grind arith)))
    c.put_all-3.ensures
