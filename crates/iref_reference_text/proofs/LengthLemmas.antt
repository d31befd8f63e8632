-- The offsets of a reference follow from the lengths of its components.
use Rattle.std.proofs.Common.{◌≡◌, ◌+◌, [], ◌∷◌, length, length-take, refl, ◌∙◌, ap, arith, Option, codes}
use Rattle.std.proofs.lemmas.Grind.{common_steps}
use Rattle.iref_grammar.specs.{Rules.{Text}, Grammar.{colon}, Texts.{part_then, then_part}}
use Rattle.iref_grammar.specs.ComponentTexts.{ComponentTexts, read_components}
use Rattle.iref_grammar.specs.Reference.{ReferenceValue, context_of, spell, read_reference}
use Rattle.iref_grammar.specs.ComponentOffsets.{offsets_in, offsets_of, path_start, query_mark, fragment_mark}
use Rattle.iref_grammar.proofs.{ComponentLemmas.{spelled_as_read}, ReferenceCutLemmas.{read_reference-spelled}}
use Rattle.iref_parse.specs.{declared.split.ReferenceSlices.{ReferenceSlices}, ReferenceSlices.{texts_of, value_of}}
use Rattle.iref_splice.proofs.PartLemmas.{first_len}
use Rattle.iref_reference_text.specs.ComponentLengths.{with_mark, lengths_of, lengths_of_texts, context_by, path_after, query_after, fragment_after, placed, total_length}

-- the lengths of the texts of a reference are those of its components
pub lengths-slices : (s : ReferenceSlices) (r : ReferenceValue) → value_of s ≡ r → lengths_of_texts (texts_of s) ≡ lengths_of r
lengths-slices s r e = ap lengths_of_texts (spelled_as_read (texts_of s) r e)

-- a part with the delimiter before it
pub marked_len : (mark : Text) (o : Option Text) → with_mark (length mark) o ≡ length (then_part mark o)
marked_len mark o = grind (arith, common_steps)

-- the scheme and the authority of texts of components
pub path_after-texts : (t : ComponentTexts) → path_after (lengths_of_texts t) ≡ length (part_then (colon ∷ []) t.scheme) + length (then_part (codes "//") t.authority)
path_after-texts t = grind (arith, first_len colon, marked_len (codes "//"))

-- where the path, the query and the fragment begin
pub path_after-lengths : (r : ReferenceValue) → path_after (lengths_of r) ≡ path_start r
path_after-lengths r = grind (arith, common_steps)

pub query_after-lengths : (r : ReferenceValue) → query_after (lengths_of r) ≡ query_mark r
query_after-lengths r = grind (arith, path_after-lengths r)

pub fragment_after-lengths : (r : ReferenceValue) → fragment_after (lengths_of r) ≡ fragment_mark r
fragment_after-lengths r = grind (arith, common_steps, query_after-lengths r)

-- of the components of a spelled reference
pub total-spelled : (r : ReferenceValue) → total_length (lengths_of r) ≡ length (spell r)
unfolding spell
total-spelled r = grind (arith, common_steps, first_len colon, marked_len)

pub placed-spelled : (r : ReferenceValue) → placed (lengths_of r) ≡ offsets_in r
unfolding offsets_in
placed-spelled r = grind (arith, first_len colon, marked_len)

-- and of those that are read from a text
pub total-read : (text : Text) → total_length (lengths_of (read_reference text)) ≡ length text
total-read text = total-spelled (read_reference text) ∙ ap length (read_reference-spelled text)

pub total-slices : (s : ReferenceSlices) (text : Text) → value_of s ≡ read_reference text → total_length (lengths_of_texts (texts_of s)) ≡ length text
total-slices s text e = ap total_length (lengths-slices s (read_reference text) e) ∙ total-read text

pub query_after-texts : (t : ComponentTexts) → query_after (lengths_of_texts t) ≡ query_mark (read_components t)
query_after-texts t = ap query_after (ap lengths_of_texts (spelled_as_read t (read_components t) refl)) ∙ query_after-lengths (read_components t)

pub placed-read : (text : Text) → placed (lengths_of (read_reference text)) ≡ offsets_of text
unfolding offsets_of
placed-read text = placed-spelled (read_reference text)

pub context-lengths : (r : ReferenceValue) → context_by (lengths_of r) ≡ context_of r
context-lengths r = grind arith

pub ruleset measures = (lengths-slices, placed-read)

pub ruleset totals = (total-slices, length-take)
