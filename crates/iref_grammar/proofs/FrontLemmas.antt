-- The front of a reference, before its fragment or its query, is a reference.
use Rattle.std.proofs.{Common.{arith, ◌≡◌, true, refl, sym, ◌∙◌, ap, ℕ, Option, None, option_map}, lemmas.Grind.{common_steps}}
use Rattle.iref_grammar.specs.{Characters.{CharTests}, Rules.{Text}, Grammar.{hash_sign, question_mark}}
use Rattle.iref_grammar.specs.Texts.{before, after, after_first_char, lacks}
use Rattle.iref_grammar.specs.Reference.{ReferenceValue, split_scheme, split_authority, hierarchy, read_reference, is_reference}
use Rattle.iref_grammar.specs.{Authority.{read_authority}, PathValue.{read_path}}
use Rattle.iref_grammar.proofs.CutLemmas.{before-lacking, from_first-lacking}
use Rattle.iref_grammar.proofs.ReadablePartsLemmas.{readable_parts, readable_from}
use Rattle.iref_grammar.proofs.SplitLemmas.{ends_path, hash, question, lacks-before, hierarchy-cut}

after-lacking : (mark : ℕ) (text : Text) → lacks mark text ≡ true → after mark text ≡ None
after-lacking mark text h = ap after_first_char (from_first-lacking mark text h)

-- the reference of a hierarchical part, a query and a fragment
with_hierarchy : Text → Option Text → Option Text → ReferenceValue
with_hierarchy text query fragment =
    let s = split_scheme text in
    let a = split_authority s.1 in
    record { scheme = s.0; authority = option_map read_authority a.0; path = read_path a.1; query = query; fragment = fragment }

-- without its fragment, and without both
pub read_reference-before_hash : (text : Text) → read_reference (before hash text) ≡ record (read_reference text) { fragment = None }
unfolding read_reference with_hierarchy
read_reference-before_hash text = grind (arith, common_steps, lacks-before, before-lacking)

pub read_reference-hierarchy : (text : Text) → read_reference (hierarchy text) ≡ record (read_reference text) { query = None; fragment = None }
unfolding read_reference with_hierarchy
read_reference-hierarchy text =
    let no_hash : lacks hash_sign (hierarchy text) ≡ true = ap (lacks hash_sign) (sym (hierarchy-cut text)) ∙ lacks-before ends_path hash_sign text refl in
    let no_question = lacks-before question question_mark (before hash text) refl in
    let same = before-lacking hash_sign (hierarchy text) no_hash in
    (λ i. with_hierarchy (before question (same i)) (after question_mark (same i)) (after-lacking hash_sign (hierarchy text) no_hash i))
    ∙ (λ i. with_hierarchy (before-lacking question_mark (hierarchy text) no_question i) (after-lacking question_mark (hierarchy text) no_question i) None)

-- both are references where the whole is
pub is_reference-before_hash : (set : CharTests) (text : Text) → is_reference set text ≡ true → is_reference set (before hash text) ≡ true
unfolding is_reference
is_reference-before_hash set text h = grind (arith, readable_parts, read_reference-before_hash, readable_from)

pub is_reference-hierarchy : (set : CharTests) (text : Text) → is_reference set text ≡ true → is_reference set (hierarchy text) ≡ true
unfolding is_reference
is_reference-hierarchy set text h = grind (arith, readable_parts, read_reference-hierarchy, readable_from)

pub ruleset fronts = (read_reference-before_hash, is_reference-before_hash, read_reference-hierarchy, is_reference-hierarchy)
