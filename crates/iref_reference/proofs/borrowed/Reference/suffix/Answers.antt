use Rattle.std.proofs.{Common.{Some, ap, refl, subst, sym, None, option_map}, lemmas.Bool.{false≢true}}
use Rattle.iref_component.specs.{Suffixes.{SpellsSuffix}, Paths.{path_value}}
use Rattle.iref_reference.proofs.SuffixLemmas.{left-of_path, none-left, none-of_path}
use Rattle.iref_reference.proofs.borrowed.Reference.suffix.Goals as goal

pub returns-then-not-share_scheme_and_authority-clause-suffix : goal.returns-then-not-share_scheme_and_authority-clause-suffix
returns-then-not-share_scheme_and_authority-clause-suffix g c =
    let none = none-left _ _ _ _ c.reference_parts-prefix.ensures.value c.reference_parts-parts.ensures.value _ c.share_scheme_and_authority.ensures c.if-not-share_scheme_and_authority.true in
    record { text = sym (ap (option_map _) none); read = sym none }

pub returns-in_err-path-clause-none : goal.returns-in_err-path-clause-none
returns-in_err-path-clause-none g c = λ none.
    let of_path = none-of_path _ _ _ _ c.reference_parts-prefix.ensures.value c.reference_parts-parts.ensures.value _ c.share_scheme_and_authority.ensures
    c.if-not-share_scheme_and_authority.false none in
    absurd (false≢true (c.in_err-path.ensures.none of_path))

pub returns-in_default-clause-suffix : goal.returns-in_default-clause-suffix
returns-in_default-clause-suffix g c =
    left-of_path _ _ _ _ c.reference_parts-prefix.ensures.value c.reference_parts-parts.ensures.value _ c.share_scheme_and_authority.ensures
    c.if-not-share_scheme_and_authority.false None c.reference_parts-parts.result.query c.reference_parts-parts.result.fragment
    (subst (SpellsSuffix (path_value c.reference_parts-prefix.result.path) (path_value c.reference_parts-parts.result.path)) c.in_default.is c.in_ok-path.ensures.suffix) refl refl

pub returns-clause-suffix : goal.returns-clause-suffix
returns-clause-suffix g c =
    left-of_path _ _ _ _ c.reference_parts-prefix.ensures.value c.reference_parts-parts.ensures.value _ c.share_scheme_and_authority.ensures
    c.if-not-share_scheme_and_authority.false (Some c.in-Some.path) c.reference_parts-parts.result.query c.reference_parts-parts.result.fragment
    (subst (SpellsSuffix (path_value c.reference_parts-prefix.result.path) (path_value c.reference_parts-parts.result.path)) c.in-Some.is c.in_ok-path.ensures.suffix) refl refl
