use Rattle.std.proofs.{Common.{◌≡◌, ◌++◌, take, length, ap, ◌∙◌}, Math.Seq.{take-append_seam}}
use Rattle.std.proofs.lemmas.Str.{IsCharBoundary-at_seam}
use Rattle.std.specs.String.{string_bytes}
use Rattle.iref_grammar.specs.{Characters.{iri_chars}, Reference.{is_uri}}
use Rattle.iref.proofs.compact.entry.Entry.new.Goals as goal

pub invariant_of-result : goal.invariant_of-result
invariant_of-result c =
    let label = c.args.label.now in
    let iri = c.args.iri.now in
    let bytes : string_bytes c.push_str-2.new.self ≡ iri ++ label = c.in_ok-push_str-2.ensures.bytes ∙ ap (λ s. s ++ label) (c.in_ok-push_str.ensures.bytes ∙ ap (λ s. s ++ iri) c.in_ok-text.ensures.bytes) in
    (IsCharBoundary-at_seam (string_bytes c.push_str-2.new.self) iri label bytes c.utf8.label, ap (is_uri iri_chars) (ap (take (length iri)) bytes ∙ take-append_seam iri label) ∙ c.requires)
