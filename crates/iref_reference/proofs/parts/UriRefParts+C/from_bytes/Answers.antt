use Rattle.std.proofs.Common.{◌≡◌, true, rules}
use Rattle.iref_grammar.specs.Reference.{is_reference, read_reference}
use Rattle.iref_grammar.proofs.ReferenceRuleLemmas.{Decides-is_uri_reference}
use Rattle.iref_reference.specs.Parts.{uri_ref_parts_value}
use Rattle.iref_reference.proofs.ResolutionLemmas.{readable_slices}
use Rattle.iref_reference.proofs.parts.UriRefParts+C.from_bytes.Goals as goal

pub returns-in-Some-clause-parsed : goal.returns-in-Some-clause-parsed
returns-in-Some-clause-parsed g c =
    search (rules, (Decides-is_uri_reference g.C.CharSet.tests g.met.C.CharSet.above_ascii c.args.bytes.now).0)

pub returns-in-Some-clause-readable : goal.returns-in-Some-clause-readable
returns-in-Some-clause-readable g c =
    let set = g.C.CharSet.tests in
    let bytes = c.args.bytes.now in
    let value : uri_ref_parts_value c.from_slices.result ≡ read_reference bytes = search rules in
    let is : is_reference set bytes ≡ true = search rules in
    readable_slices set bytes (uri_ref_parts_value c.from_slices.result) value is

pub returns-in-None-clause-parsed : goal.returns-in-None-clause-parsed
returns-in-None-clause-parsed g c =
    search (rules, (Decides-is_uri_reference g.C.CharSet.tests g.met.C.CharSet.above_ascii c.args.bytes.now).1)
