-- The base of a reference is readable, and its text is a beginning of the whole.
use Rattle.std.proofs.lemmas.Grind.{common_steps}
use Rattle.std.proofs.Common.{◌≡◌, ◌+◌, Bool, true, List, [], ◌∷◌, ◌++◌, length, refl, ◌∙◌, ap, append_assoc, arith, is_some}
use Rattle.std.proofs.lemmas.List.{append-nil, length-append}
use Rattle.std.specs.{List.{join_with_byte, list_all}, Str.{IsUtf8}}
use Rattle.iref_grammar.specs.{declared.context.PathContext.{PathContext}, Characters.{CharTests, AreAboveAscii}}
use Rattle.iref_grammar.specs.{Rules.{Text}, Grammar.{hash_sign, question_mark, slash}, Tests.{is_segment}}
use Rattle.iref_grammar.specs.Texts.{all_but_last, pieces_at, then_part}
use Rattle.iref_grammar.specs.{PathValue.{spell_path, read_path, segments_of}, Contexts.{fits}}
use Rattle.iref_grammar.specs.ComponentTexts.{ComponentTexts, AreComponents, read_components}
use Rattle.iref_grammar.specs.Reference.{ReferenceValue, context_of, is_readable, spell, read_reference, is_reference, is_uri}
use Rattle.iref_grammar.specs.ComponentOffsets.{query_mark}
use Rattle.iref_grammar.proofs.{TextLemmas.{join-pieces_at}, PathLemmas.{read_path-reads}}
use Rattle.iref_grammar.proofs.{ReadablePartsLemmas.{readable_parts}, ReadableLemmas.{readable_read}}
use Rattle.iref_grammar.proofs.ComponentLemmas.{uri_if_scheme, scheme_if_uri, reference_if_uri}
use Rattle.iref_grammar.proofs.EmptyLemmas.{is_segment_empty}
use Rattle.iref_grammar.specs.{NormalList.{closed}, PathFunctions.{directory}, ReferenceParts.{base_of}}
use Rattle.iref_grammar.proofs.{DirectoryLemmas.{all_but_last-snoc}, PieceLemmas.{some_piece}}
use Rattle.iref_reference_text.specs.ComponentLengths.{lengths_of_texts, query_after}
use Rattle.iref_reference_text.proofs.LengthLemmas.{query_after-texts}
use Rattle.iref_reference_text.proofs.ReferenceTextLemmas.{behind_path, components_utf8}

-- ---- the base of a readable reference is readable

closed_in : (test : Text → Bool) (list : List Text) → test [] ≡ true → list_all test list ≡ true → list_all test (all_but_last list ++ [] ∷ []) ≡ true
closed_in test [] e h = grind arith
closed_in test (s ∷ list) e h = grind (arith, closed_in test list)

directory_in : (test : Text → Bool) (list : List Text) → test [] ≡ true → list_all test list ≡ true → list_all test (closed (all_but_last list)) ≡ true
directory_in test list e h = grind (arith, closed_in)

directory_fits : (context : PathContext) (absolute : Bool) (list : List Text) → fits context (record { absolute = absolute; segments = list }) ≡ true
    → fits context (record { absolute = absolute; segments = closed (all_but_last list) }) ≡ true
directory_fits context absolute list h = grind arith

pub base_of-readable : (set : CharTests) (r : ReferenceValue) → is_readable set r ≡ true → is_readable set (base_of r) ≡ true
unfolding base_of directory is_readable
base_of-readable set r h =
    grind (arith, readable_parts set r h, directory_in (is_segment set) r.path.segments (is_segment_empty set), directory_fits (context_of r) r.path.absolute r.path.segments)

-- so it is read from its text
pub base_of-read : (set : CharTests) → AreAboveAscii set → (text : Text) → is_reference set text ≡ true → read_reference (spell (base_of (read_reference text))) ≡ base_of (read_reference text)
unfolding is_reference
base_of-read set above text h = readable_read set above (base_of (read_reference text)) (base_of-readable set (read_reference text) h)

pub base_of_in_rule : (set : CharTests) → AreAboveAscii set → (text : Text) → is_reference set text ≡ true → is_reference set (spell (base_of (read_reference text))) ≡ true
unfolding is_reference
base_of_in_rule set above text h = ap (is_readable set) (base_of-read set above text h) ∙ base_of-readable set (read_reference text) h

-- and has a scheme where the whole has one
pub base_of-full : (set : CharTests) (text base : Text) → is_uri set text ≡ true → is_reference set base ≡ true → read_reference base ≡ base_of (read_reference text) → is_uri set base ≡ true
unfolding base_of
base_of-full set text base h k e = uri_if_scheme set base k (ap (λ (r : ReferenceValue). is_some r.scheme) e ∙ scheme_if_uri set text h)

-- ---- its text is a beginning of the text

-- what follows the path
abbrev pub tail : ComponentTexts → Text
tail t = then_part (question_mark ∷ []) t.query ++ then_part (hash_sign ∷ []) t.fragment

-- the segments before the last one, each with a `/` after it, and the last one
closed_then : (front : List Text) (last : Text) → join_with_byte slash (closed front) ++ last ≡ join_with_byte slash (front ++ last ∷ [])
closed_then [] last = refl
closed_then (s ∷ rest) last = grind (arith, common_steps, closed_then rest last)

rooted : (cs : Text) → slash ∷ join_with_byte slash (closed (all_but_last (segments_of cs))) ≡ join_with_byte slash (closed (all_but_last ([] ∷ pieces_at slash cs)))
rooted cs = grind (arith, common_steps, some_piece)

directory_joined : (path : Text) → spell_path (directory (read_path path)) ≡ join_with_byte slash (closed (all_but_last (pieces_at slash path)))
unfolding directory read_path spell_path
directory_joined [] = refl
directory_joined (c ∷ cs) = grind (arith, rooted)

module _ (t : ComponentTexts) (front : List Text) (file_name : Text) (cut : pieces_at slash t.path ≡ front ++ file_name ∷ []) where
  same_path : spell_path (directory (read_path t.path)) ++ file_name ≡ spell_path (read_path t.path)
  same_path = grind (arith, directory_joined, all_but_last-snoc, closed_then, join-pieces_at slash t.path, read_path-reads t.path)

  pub base-joins : spell (base_of (read_components t)) ++ (file_name ++ tail t) ≡ spell (read_components t)
  unfolding spell base_of
  base-joins = rw (← same_path) (simp (append_assoc, append-nil))

  pub base-ends : query_after (lengths_of_texts t) ≡ length (spell (base_of (read_components t))) + length file_name
  unfolding spell base_of
  base-ends =
      let end : query_mark (read_components t) ≡ length (spell (base_of (read_components t))) + length file_name = rw (← same_path) (simp (length-append, append-nil) (omega arith)) in
      query_after-texts t ∙ end

-- ---- and what follows it is UTF-8

pub tail_utf8 : (set : CharTests) → AreAboveAscii set → (t : ComponentTexts) → AreComponents set t → IsUtf8 (tail t)
tail_utf8 set above t components = behind_path t (components_utf8 set above t components)

pub base_of_in_uri_rule : (set : CharTests) → AreAboveAscii set → (text : Text) → is_uri set text ≡ true → is_uri set (spell (base_of (read_reference text))) ≡ true
base_of_in_uri_rule set above text h =
    let reference = reference_if_uri set text h in
    base_of-full set text (spell (base_of (read_reference text))) h (base_of_in_rule set above text reference) (base_of-read set above text reference)
