use Rattle.std.proofs.Common.{◌≡◌, ◌∙◌, ◌&&◌, ap, arith, false, sym, true, None, is_some}
use Rattle.std.specs.Option.{option_copied}
use Rattle.iref_grammar.proofs.ComponentLemmas.{is_some-copied}
use Rattle.iref_grammar.specs.{Authority.{read_authority}, ComponentTexts.{ComponentTexts, spell_components}}
use Rattle.iref_grammar.proofs.MappedMarkLemmas.{is_some-map}
use Rattle.iref_parse.specs.ReferenceSlices.{value_of}
use Rattle.iref_reference_text.specs.ShortestTexts.{shared_of, shares_authority, shares_scheme}
use Rattle.iref_reference_text.proofs.ShortestTextLemmas.{whole-authority, whole-own, whole-rooted}
use Rattle.iref_reference_text.proofs.relativized.with_whole_path.Goals as goal

pub returns-then-has_authority-split_root-clause-texts : goal.returns-then-has_authority-split_root-clause-texts
returns-then-has_authority-split_root-clause-texts c = λ base e.
    let t = value_of c.args.target in
    let rooted : (shares_authority (shared_of t base) && t.path.absolute) ≡ true = grind arith in
    grind (arith, whole-rooted t base rooted)

pub returns-then-has_scheme-is_some-clause-texts : goal.returns-then-has_scheme-is_some-clause-texts
returns-then-has_scheme-is_some-clause-texts c = λ base e.
    let t = value_of c.args.target in
    let some = is_some-copied c.args.target.authority ∙ sym (is_some-map read_authority (option_copied c.args.target.authority)) in
    let rooted : (shares_authority (shared_of t base) && t.path.absolute) ≡ false = grind arith in
    let authority : (shares_scheme (shared_of t base) && is_some t.authority) ≡ true = grind (arith, some) in
    ap (λ (x : ComponentTexts). record x { scheme = None }) c.whole-whole.ensures.texts ∙ ap spell_components (sym (whole-authority t base rooted authority))

pub returns-clause-texts : goal.returns-clause-texts
returns-clause-texts c = λ base e.
    let t = value_of c.args.target in
    let some = is_some-copied c.args.target.authority ∙ sym (is_some-map read_authority (option_copied c.args.target.authority)) in
    let rooted : (shares_authority (shared_of t base) && t.path.absolute) ≡ false = grind arith in
    let authority : (shares_scheme (shared_of t base) && is_some t.authority) ≡ false = grind (arith, some) in
    c.with_own_scheme.ensures.texts ∙ ap spell_components (sym (whole-own t base rooted authority))
