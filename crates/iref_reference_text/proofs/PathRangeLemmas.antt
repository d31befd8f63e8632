-- The path of a reference where it stands, and after an edit of it.
use Rattle.std.proofs.Common.{arith, ◌≡◌, ℕ, ◌+◌, Bool, true, not, ◌&&◌, ◌||◌, length, sym, ◌∙◌, Option}
use Rattle.std.specs.{List.{splice}, declared.ops.Range.{Range}}
use Rattle.iref_grammar.specs.{declared.context.PathContext.{PathContext}, Characters.{CharTests, AreAboveAscii}}
use Rattle.iref_grammar.specs.{Rules.{Text}, Tests.{is_path}, Texts.{is_empty}, Contexts.{is_path_in}}
use Rattle.iref_grammar.specs.{PathValue.{PathValue, read_path, spell_path}, ComponentOffsets.{offsets_in, offsets_of}}
use Rattle.iref_grammar.specs.Reference.{ReferenceValue, read_reference, context_of, is_readable, is_reference}
use Rattle.iref_grammar.proofs.{PathLemmas.{read_path-reads, read-spelled}, PathTestLemmas.{is_path-segments}}
use Rattle.iref_grammar.proofs.{ReadableLemmas.{readable_delimited}, ReadablePartsLemmas.{readable_parts}}
use Rattle.iref_grammar.proofs.RangeLemmas.{path_range}
use Rattle.iref_grammar.specs.{Guard.{guarded, made_absolute}, NormalList.{normal}}
use Rattle.iref_grammar.specs.ComponentSteps.{with_path, with_new_normal_path}
use Rattle.iref_grammar.proofs.NormalPathLemmas.{normal-with_dot}
use Rattle.iref_grammar.proofs.ReferenceStepLemmas.{with_path-readable, with_normal_path-removes}
use Rattle.iref_path.specs.{PathParts.{is_path_after}, Spelling.{normal_in}}
use Rattle.iref_splice.specs.{Changes.{IsWithin, part_at}, declared.change.Span.{Span}}
use Rattle.iref_reference_text.specs.{ComponentLengths.{HasLengths, lengths_of}, PathRanges.{IsPathOf, RemovesDots}}
use Rattle.iref_reference_text.specs.PathTexts.{with_path_read}
use Rattle.iref_reference_text.proofs.{ReferenceTextLemmas.{offsets_within}, EditLemmas.{is_step, readable_of}}
use Rattle.iref_reference_text.proofs.PathEditLemmas.{path_text_replaced, read_path-readable}

-- ---- where it stands

-- it is read back, may stand there, and is read there as a path
pub record PathStands (set : CharTests) (context : PathContext) (path : Text) (value : PathValue) : Type 0 where
  pub read : read_path path ≡ value
  pub path_in : is_path_in set context path ≡ true
  pub path_after : is_path_after set context path ≡ true

pub path_stands : (set : CharTests) → AreAboveAscii set → (text : Text) → is_reference set text ≡ true → let r = read_reference text in PathStands set (context_of r) (spell_path r.path) r.path
path_stands set above text h =
    let r = read_reference text in
    let readable = readable_of set text h in
    let delimited = readable_delimited set above r readable in
    let read : read_path (spell_path r.path) ≡ r.path = read-spelled r.path.absolute r.path.segments delimited.segments delimited.shown in
    grind (arith, read, readable_parts set r readable, is_path-segments set above (spell_path r.path))

pub path_range_within : (set : CharTests) → AreAboveAscii set → (text : Text) (context : PathContext) (at : Span) → IsPathOf set text context at.start at.end → IsWithin text (record { start = at.start; end = at.end })
path_range_within set above text context at stands =
    rw (stands.1, stands.2) (offsets_within set above text stands.0).path

-- ---- after an edit

range_of_new_path : (old new path : Text) → read_reference new ≡ with_path_read path (read_reference old) → let start = (offsets_of old).path.start in
    let range : Range ℕ = record { start = start; end = start + length path } in (offsets_of new).path ≡ range
unfolding offsets_of offsets_in
range_of_new_path old new path e = grind (arith, read_path-reads path)

-- the new path stands where the old one did, and the other components stay
pub record HoldsPath (set : CharTests) (test : Text → Bool) (old : ReferenceValue) (context : PathContext) (start : ℕ) (path new : Text) : Type 0 where
  pub stands : IsPathOf set new context start (start + length path)
  pub leaves : HasLengths test (record (lengths_of old) { path = length path }) new

module _ (set : CharTests) (above : AreAboveAscii set) (test : Text → Bool) (allows : Option Text → Bool)
    (by_scheme : (text : Text) → is_reference set text ≡ true → allows (read_reference text).scheme ≡ true → test text ≡ true)
    (references : (text : Text) → test text ≡ true → is_reference set text ≡ true)
    (text : Text) (context : PathContext) (at : Span) (stands : IsPathOf set text context at.start at.end) (allowed : allows (read_reference text).scheme ≡ true) where
  pub path_put : (path new : Text) → (is_path_in set context (part_at text at) ≡ true → is_path_in set context path ≡ true) → new ≡ splice text at.start at.end path
      → HoldsPath set test (read_reference text) context at.start path new
  path_put path new keeps e =
      let old = read_reference text in
      let stood : is_path_in set context (part_at text at) ≡ true = grind (arith, path_range text, path_stands set above text stands.0) in
      let fits : is_path_in set (context_of old) path ≡ true = grind (arith, keeps stood) in
      let spelled = rw (stands.1, stands.2) at e ∙ path_text_replaced text path in
      let step = is_step set above test allows by_scheme new (with_path_read path old) spelled (read_path-readable set old path (readable_of set text stands.0) fits) allowed in
      grind (arith, references new, step, range_of_new_path text new path, read_path-reads path)

-- ---- the normal path

normal-guard : (context : PathContext) (p : PathValue) → normal (guarded context p) ≡ normal (made_absolute context p)
unfolding guarded
normal-guard context p = grind (arith, normal-with_dot (made_absolute context p))

-- the path that was made absolute is made normal, instead of the guarded one, in the context and with the flag that it has there
pub normal_in_place : (path : Text) (r : ReferenceValue) (context : PathContext) (absolute : Bool) → context ≡ context_of r
    → absolute ≡ ((read_path path).absolute || context.has_authority && not (is_empty (read_path path).segments))
    → normal_in context absolute path ≡ (with_new_normal_path (read_path path) r).path
unfolding with_path
normal_in_place path r context absolute e f = grind (arith, normal-guard (context_of r) (read_path path))

pub removes_dots : (set : CharTests) → AreAboveAscii set → (path : Text) (r : ReferenceValue) → is_path set path ≡ true → is_readable set r ≡ true → RemovesDots (with_path (read_path path) r) (with_new_normal_path (read_path path) r)
removes_dots set above path r k h has absolute =
    let readable = with_path-readable set (read_path path) r (sym (is_path-segments set above path) ∙ k) h in
    with_normal_path-removes (with_path (read_path path) r) has absolute (readable_delimited set above (with_path (read_path path) r) readable).segments
