-- What jobs make of lines.
use Rattle.std.proofs.{Common.{◌≡◌, Bool, true, false, cond, ◌||◌, Some, None, List, [], ◌∷◌, ◌++◌, refl, ap, sym, ◌∙◌, arith, if◌then◌else◌}, lemmas.Grind.{common_steps}}
use Rattle.std.proofs.{lemmas.List.{flat_map_more}, lemmas.List.Elements.{All-push}}
use Rattle.std.specs.{BTreeSet.{BTreeSet, contains, Updates}, List.{All, filter, starts_with}, Ordering.{is_eq}, Prelude.{is_none, ◌==◌}}
use Rattle.iref.specs.{Characters.{iri_chars}, Faults.{FaultValue, fault_of_reference}, Rules.{Text}}
use Rattle.iref.specs.{Key.{are_alike, key}, Keys.{text_order}, Reference.{ReferenceValue, read_reference, spell}, Relativized.{relativized}}
use Rattle.iref.specs.{SortKey.{sort_key}, SortPrefix.{sort_prefix}, Faults.{fault_of_uri}}
use Rattle.iref.proofs.ReferenceCutLemmas.{read_reference-spelled}
use Rattle.iref_canonical.proofs.{SortKeyLemmas.{text_order-sort_key}, SortPrefixLemmas.{below_begins}}
use Rattle.iref_batch.specs.{Gathering.{IsLine}, Lines.{newline}, Runs.{ended_lines, with_newline, with_newlines}}
use Rattle.iref_batch.proofs.LineLemmas.{ended_lines_of}
use Rattle.iref_tool.specs.Jobs.{Written, answer_line, is_below, lines_in, of_iri, of_reference, or_unreached, unless_fault}
use Rattle.iref_tool.specs.declared.jobs.{Sort.{Sort}}

-- what is below a reference begins with its sort prefix
pub below_line : (line spelled key_bytes prefix : Text) (above : ReferenceValue) (starts : Bool) (old new : Text) → fault_of_reference iri_chars line ≡ None → spelled ≡ line → key_bytes ≡ sort_key (key (read_reference spelled)) → prefix ≡ sort_prefix (key above) → starts ≡ starts_with ◌==◌ key_bytes prefix
    → new ≡ old ++ (if starts then with_newline line else [])
    → (x : Text) × (of_reference (λ r. Written (if is_below above r then with_newline line else [])) line ≡ Written x) × (new ≡ old ++ x)
below_line line spelled key_bytes prefix above starts old new none same is_key is_prefix begins is =
    let same_test : is_below above (read_reference line) ≡ starts =
    sym (below_begins above (read_reference line))
    ∙ ap (λ t. starts_with ◌==◌ (sort_key (key (read_reference t))) (sort_prefix (key above))) (sym same)
    ∙ ap (λ t. starts_with ◌==◌ t (sort_prefix (key above))) (sym is_key) ∙ ap (λ t. starts_with ◌==◌ key_bytes t) (sym is_prefix) ∙ sym begins in (
      (if starts then with_newline line else []),
      ap (λ o. unless_fault o (Written (if is_below above (read_reference line) then with_newline line else []))) none ∙ ap (λ b. Written (if b then with_newline line else [])) same_test,
      is,
    )

-- the shortest reference is written
pub relativized_line : (line spelled found : Text) (keep : Bool) (base : ReferenceValue) (old new : Text) → fault_of_uri iri_chars line ≡ None → spelled ≡ line → Some (read_reference found) ≡ relativized (read_reference spelled) base → new ≡ old ++ answer_line keep line found
    → (x : Text) × (of_iri (λ target. or_unreached (λ shortest. answer_line keep line (spell shortest)) (relativized target base)) line ≡ Written x) × (new ≡ old ++ x)
relativized_line line spelled found keep base old new none same is_found is =
    let write : ReferenceValue → Text = λ shortest. answer_line keep line (spell shortest) in (
      answer_line keep line found,
      ap (λ o. unless_fault o (or_unreached write (relativized (read_reference line) base))) none ∙ ap (λ t. or_unreached write (relativized (read_reference t) base)) (sym same)
          ∙ ap (or_unreached write) (sym is_found) ∙ ap (λ t. Written (answer_line keep line t)) (read_reference-spelled found),
      is,
    )

or_is : (b c : Bool) → cond b true c ≡ (b || c)
or_is true c = refl
or_is false c = refl

-- after an insert the line is seen, and what was seen before
pub sees_line : (seen : BTreeSet Text) (new : BTreeSet Text) (line spelled key_bytes : Text) → spelled ≡ line → key_bytes ≡ sort_key (key (read_reference spelled)) → Updates text_order seen new key_bytes true
    → (r : ReferenceValue) → contains text_order new (sort_key (key r)) ≡ (are_alike (read_reference line) r || contains text_order seen (sort_key (key r)))
sees_line seen new line spelled key_bytes same is_key updates r =
    updates.0 (sort_key (key r))
    ∙ ap (λ k. cond (is_eq (text_order k (sort_key (key r)))) true (contains text_order seen (sort_key (key r)))) (is_key ∙ ap (λ t. sort_key (key (read_reference t))) same)
    ∙ ap (λ b. cond b true (contains text_order seen (sort_key (key r)))) (ap is_eq (text_order-sort_key (key (read_reference line)) (key r)))
    ∙ or_is (are_alike (read_reference line) r) (contains text_order seen (sort_key (key r)))

abbrev in_rule : Text → Bool
in_rule line = is_none (fault_of_reference iri_chars line)

-- these are the references among the lines that were read of a text; the rest was not
pub record AreRead (text rest : Text) (references : List Text) : Type 0 where
  pub lines : List Text
  pub division : text ≡ with_newlines lines ++ rest
  pub are : All IsLine lines
  pub kept : references ≡ filter in_rule lines

line_read : (text rest line more : Text) (old new : List Text) → AreRead text rest old → IsLine line → rest ≡ line ++ newline ∷ more → new ≡ (if in_rule line then old ++ line ∷ [] else old) → AreRead text more new
line_read text rest line more old new g l cut is = record {
  lines = g.lines ++ line ∷ [];
  division = grind (arith, common_steps, flat_map_more, g.division);
  are = All-push IsLine g.lines line g.are l;
  kept = grind (arith, common_steps, g.kept);
}

-- a line that is no reference is passed over
pub line_passed : (text rest line more : Text) (old : List Text) (fault : FaultValue) → AreRead text rest old → IsLine line → rest ≡ line ++ newline ∷ more → fault_of_reference iri_chars line ≡ Some fault → AreRead text more old
line_passed text rest line more old fault g l cut is = line_read text rest line more old old g l cut (ap (λ o. if is_none o then old ++ line ∷ [] else old) (sym is))

-- any other is one more
pub line_kept : (text rest line more spelled : Text) (old new : List Text) → AreRead text rest old → IsLine line → rest ≡ line ++ newline ∷ more → fault_of_reference iri_chars line ≡ None → spelled ≡ line → new ≡ old ++ spelled ∷ [] → AreRead text more new
line_kept text rest line more spelled old new g l cut none same is =
    line_read text rest line more old new g l cut (is ∙ ap (λ t. old ++ t ∷ []) same ∙ ap (λ o. if is_none o then old ++ line ∷ [] else old) (sym none))

pub all_read : (sort : Sort) (rest : Text) (references : List Text) → AreRead sort.text.items rest references → IsLine rest → references ≡ lines_in sort
all_read sort rest references g l = g.kept ∙ ap (filter in_rule) (sym (ap ended_lines g.division ∙ ended_lines_of g.lines rest g.are l))
