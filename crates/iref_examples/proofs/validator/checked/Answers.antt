use Rattle.std.proofs.{Common.{refl}, lemmas.Result.{err_from_is_err_and}}
use Rattle.iref.specs.{Characters.{iri_chars}, Grammar.{IsAuthority, IsQuery, IsScheme}, ReferenceSlices.{texts_of}}
use Rattle.iref_examples.specs.declared.validator.Component.TheVariants.{Scheme, Authority, Path, Query}
use Rattle.iref_examples.proofs.CheckLemmas.{by_fragment, no_reference, refused, taken}
use Rattle.iref_examples.proofs.validator.checked.Goals as goal

pub returns-in_err-check : goal.returns-in_err-check
returns-in_err-check c =
    let p = err_from_is_err_and c.from_residual.result c.from_residual.ensures.1 in
    let parts = c.split_reference-parts in
    rw (p.1, p.2)
    (no_reference c.args.text.now (texts_of parts.result) _ Scheme parts.ensures.value parts.ensures.texts c.in_err-check.ensures.0
    (refused IsScheme _ parts.result.scheme c.in_err-check.ensures.1))

pub returns-in_err-check-2 : goal.returns-in_err-check-2
returns-in_err-check-2 c =
    let p = err_from_is_err_and c.from_residual-in_err-check-2.result c.from_residual-in_err-check-2.ensures.1 in
    let parts = c.split_reference-parts in
    rw (p.1, p.2)
    (no_reference c.args.text.now (texts_of parts.result) _ Authority parts.ensures.value parts.ensures.texts c.in_err-check-2.ensures.0
    (taken IsScheme _ parts.result.scheme c.in_ok-check.ensures, refused (IsAuthority iri_chars) _ parts.result.authority c.in_err-check-2.ensures.1))

pub returns-in_err-check-3 : goal.returns-in_err-check-3
returns-in_err-check-3 c =
    let p = err_from_is_err_and c.from_residual-in_err-check-3.result c.from_residual-in_err-check-3.ensures.1 in
    let parts = c.split_reference-parts in
    rw (p.1, p.2)
    (no_reference c.args.text.now (texts_of parts.result) _ Path parts.ensures.value parts.ensures.texts c.in_err-check-3.ensures.0 (
      taken IsScheme _ parts.result.scheme c.in_ok-check.ensures,
      taken (IsAuthority iri_chars) _ parts.result.authority c.in_ok-check-2.ensures,
      c.in_err-check-3.ensures.1.1.0,
    ))

pub returns-in_err-check-4 : goal.returns-in_err-check-4
returns-in_err-check-4 c =
    let p = err_from_is_err_and c.from_residual-in_err-check-4.result c.from_residual-in_err-check-4.ensures.1 in
    let parts = c.split_reference-parts in
    rw (p.1, p.2)
    (no_reference c.args.text.now (texts_of parts.result) _ Query parts.ensures.value parts.ensures.texts c.in_err-check-4.ensures.0 (
      taken IsScheme _ parts.result.scheme c.in_ok-check.ensures,
      taken (IsAuthority iri_chars) _ parts.result.authority c.in_ok-check-2.ensures,
      c.in_ok-check-3.ensures.1.0,
      refused (IsQuery iri_chars) _ parts.result.query c.in_err-check-4.ensures.1,
    ))

pub returns : goal.returns
returns c =
    let parts = c.split_reference-parts in
    by_fragment _ _ c.args.text.now (texts_of parts.result) parts.result.fragment c.check-5.result parts.ensures.value parts.ensures.texts refl
    (taken IsScheme _ parts.result.scheme c.in_ok-check.ensures)
    (taken (IsAuthority iri_chars) _ parts.result.authority c.in_ok-check-2.ensures)
    c.in_ok-check-3.ensures.1.0
    (taken (IsQuery iri_chars) _ parts.result.query c.in_ok-check-4.ensures)
    c.check-5.ensures
