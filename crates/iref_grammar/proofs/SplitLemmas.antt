-- The pieces into which code cuts a reference are its components.
use Rattle.std.proofs.Common.{◌≡◌, ◌≢◌, ℕ, Bool, true, false, not, cond, ◌||◌, ltb, List, [], ◌∷◌, ◌++◌, length, refl, sym, ◌∙◌, ap, subst, arith, inl, inr, true≢false}
use Rattle.std.proofs.{lemmas.Grind.{common_steps}, lemmas.List.Sums.{prefix_len-le-length}}
use Rattle.std.proofs.{lemmas.Bool.Decides.{eqb_tells}, lemmas.List.{append-nil}}
use Rattle.std.specs.{Prelude.{◌==◌, Option, Some, None, MatchOption, unwrap_or}, Borrow.{Bor}, Option.{option_copied}}
use Rattle.std.specs.{Char.{char_set_contains}, List.{position_or_len}}
use Rattle.iref_grammar.specs.{Rules.{Text}, Grammar.{hash_sign, slash, colon, question_mark}}
use Rattle.iref_grammar.specs.Texts.{before, from_first, after, after_first_char, lacks}
use Rattle.iref_grammar.specs.Reference.{split_scheme, hierarchy}
use Rattle.iref_grammar.proofs.CutLemmas.{before-from_first, before-no, before-yes, from_first-no, from_first-yes, is_mark}
use Rattle.iref_grammar.proofs.OnlyLemmas.{scheme-back, no_scheme, no_colon}

-- the first index that passes, or the length
pub range_or_len : (p : ℕ → Bool) (text : Text) → unwrap_or (cond (ltb (position_or_len p text) (length text)) (Some (position_or_len p text)) None) (length text) ≡ position_or_len p text
range_or_len p text = let bound = prefix_len-le-length (λ c. not (p c)) text in grind (arith, common_steps)

-- what stands before the delimiters lacks each of them
pub lacks-before : (marks : List ℕ) (mark : ℕ) (text : Text) → char_set_contains marks mark ≡ true → lacks mark (before marks text) ≡ true
lacks-before marks mark [] h = refl
lacks-before marks mark (c ∷ cs) h = grind (arith, before-no, lacks-before marks mark cs h)

-- what follows begins with one of them
pub begins_with_mark : (marks : List ℕ) (text : Text) (c : ℕ) (rest : Text) → from_first marks text ≡ c ∷ rest → char_set_contains marks c ≡ true
begins_with_mark marks [] c rest h = cc
begins_with_mark marks (d ∷ ds) c rest h = grind (arith, from_first-no, begins_with_mark marks ds c rest)

-- ---- the scheme

abbrev pub ends_scheme : List ℕ
ends_scheme = colon ∷ slash ∷ []

pub cut_in_two : (marks : List ℕ) (text back : Text) → from_first marks text ≡ back → text ≡ before marks text ++ back
cut_in_two marks text back e = sym (before-from_first marks text) ∙ ap (λ t. before marks text ++ t) e

pub scheme-found : (text rest : Text) → from_first ends_scheme text ≡ colon ∷ rest → split_scheme text ≡ (Some (before ends_scheme text), rest)
scheme-found text rest e =
    ap split_scheme (cut_in_two ends_scheme text (colon ∷ rest) e)
    ∙ scheme-back (before ends_scheme text) rest (lacks-before ends_scheme colon text refl) (lacks-before ends_scheme slash text refl)

pub scheme-missing : (text : Text) → ((rest : Text) → from_first ends_scheme text ≢ colon ∷ rest) → split_scheme text ≡ (None, text)
scheme-missing text none = by (from_first ends_scheme text) refl
  where
    lacking : lacks colon (before ends_scheme text) ≡ true
    lacking = lacks-before ends_scheme colon text refl

    whole : (back : Text) → from_first ends_scheme text ≡ back → split_scheme (before ends_scheme text ++ back) ≡ (None, before ends_scheme text ++ back) → split_scheme text ≡ (None, text)
    whole back e h = subst (λ t. split_scheme t ≡ (None, t)) (sym (cut_in_two ends_scheme text back e)) h

    by : (back : Text) → from_first ends_scheme text ≡ back → split_scheme text ≡ (None, text)
    by [] e = whole [] e (subst (λ t. split_scheme t ≡ (None, t)) (sym (append-nil (before ends_scheme text))) (no_colon (before ends_scheme text) lacking))
    by (c ∷ rest) e = elim (eqb_tells colon c) [
      | inl f ↦ absurd (none rest (e ∙ ap (λ d. d ∷ rest) (sym f.1)))
      | inr f ↦ elim (eqb_tells slash c) [
        | inl g ↦ whole (c ∷ rest) e (subst (λ d. split_scheme (before ends_scheme text ++ d ∷ rest) ≡ (None, before ends_scheme text ++ d ∷ rest)) g.1 (no_scheme (before ends_scheme text) rest lacking))
        | inr g ↦ absurd (true≢false (sym (begins_with_mark ends_scheme text c rest e) ∙ (λ i. f.0 i || (g.0 i || false))))
      ]
    ]

-- ---- the query and the fragment

abbrev pub ends_path : List ℕ
ends_path = question_mark ∷ hash_sign ∷ []

abbrev pub hash : List ℕ
hash = hash_sign ∷ []

abbrev pub question : List ℕ
question = question_mark ∷ []

-- a character that is no delimiter, and one that is
no_single : (mark c : ℕ) → (mark == c) ≡ false → char_set_contains (mark ∷ []) c ≡ false
no_single mark c h = λ i. h i || false

yes_single : (mark c : ℕ) → (mark == c) ≡ true → char_set_contains (mark ∷ []) c ≡ true
yes_single mark c h = λ i. h i || false

record IsTailOf (tail text : Text) : Type 0 where
  hierarchy : before ends_path text ≡ hierarchy text
  query : after question_mark (before hash tail) ≡ after question_mark (before hash text)
  fragment : after hash_sign tail ≡ after hash_sign text

is_tail : (text : Text) → IsTailOf (from_first ends_path text) text
is_tail [] = record { hierarchy = refl; query = refl; fragment = refl }
is_tail (c ∷ cs) = elim (eqb_tells question_mark c) [
  | inl q ↦
      let yes : char_set_contains ends_path c ≡ true = (λ i. q.0 i || ((hash_sign == c) || false)) in
      let no : char_set_contains hash c ≡ false = ap (char_set_contains hash) (sym q.1) in
      record {
        hierarchy = before-yes ends_path c cs yes ∙ sym (ap (before question) (before-no hash c cs no) ∙ before-yes question c (before hash cs) (yes_single question_mark c q.0));
        query = ap (λ t. after question_mark (before hash t)) (from_first-yes ends_path c cs yes);
        fragment = ap (after hash_sign) (from_first-yes ends_path c cs yes);
      }
  | inr q ↦ elim (eqb_tells hash_sign c) [
    | inl h ↦
        let yes : char_set_contains ends_path c ≡ true = (λ i. q.0 i || (h.0 i || false)) in
        record {
          hierarchy = before-yes ends_path c cs yes ∙ sym (ap (before question) (before-yes hash c cs (yes_single hash_sign c h.0)));
          query = ap (λ t. after question_mark (before hash t)) (from_first-yes ends_path c cs yes);
          fragment = ap (after hash_sign) (from_first-yes ends_path c cs yes);
        }
    | inr h ↦
        let no : char_set_contains ends_path c ≡ false = (λ i. q.0 i || (h.0 i || false)) in
        let no_hash = no_single hash_sign c h.0 in
        let no_question = no_single question_mark c q.0 in
        let later = is_tail cs in
        record {
          hierarchy = before-no ends_path c cs no ∙ ap (λ t. c ∷ t) later.hierarchy ∙ sym (ap (before question) (before-no hash c cs no_hash) ∙ before-no question c (before hash cs) no_question);
          query = ap (λ t. after question_mark (before hash t)) (from_first-no ends_path c cs no) ∙ later.query
              ∙ sym (ap (after question_mark) (before-no hash c cs no_hash) ∙ ap after_first_char (from_first-no question c (before hash cs) no_question));
          fragment = ap (after hash_sign) (from_first-no ends_path c cs no) ∙ later.fragment ∙ sym (ap after_first_char (from_first-no hash c cs no_hash));
        }
  ]
]

pub hierarchy-cut : (text : Text) → before ends_path text ≡ hierarchy text
hierarchy-cut text = (is_tail text).hierarchy

pub fragment-cut : (text : Text) → after hash_sign (from_first ends_path text) ≡ after hash_sign text
fragment-cut text = (is_tail text).fragment

-- the query stands behind its delimiter at the front of the tail
query-found : (text rest : Text) → before hash (from_first ends_path text) ≡ question_mark ∷ rest → after question_mark (before hash text) ≡ Some rest
query-found text rest e = sym (is_tail text).query ∙ ap (after question_mark) e ∙ ap after_first_char (from_first-yes question question_mark rest (is_mark question_mark))

query-missing : (text : Text) → ((rest : Text) → before hash (from_first ends_path text) ≢ question_mark ∷ rest) → after question_mark (before hash text) ≡ None
query-missing text none = sym (is_tail text).query ∙ by (from_first ends_path text) refl
  where
    by : (tail : Text) → from_first ends_path text ≡ tail → after question_mark (before hash (from_first ends_path text)) ≡ None
    by [] e = ap (λ t. after question_mark (before hash t)) e
    by (c ∷ rest) e = elim (eqb_tells hash_sign c) [
      | inl h ↦ ap (λ t. after question_mark (before hash t)) e ∙ ap (after question_mark) (before-yes hash c rest (yes_single hash_sign c h.0))
      | inr h ↦ elim (eqb_tells question_mark c) [
        | inl q ↦ absurd (none (before hash rest) (ap (before hash) e ∙ before-no hash c rest (no_single hash_sign c h.0) ∙ ap (λ d. d ∷ before hash rest) (sym q.1)))
        | inr q ↦ absurd (true≢false (sym (begins_with_mark ends_path text c rest e) ∙ (λ i. q.0 i || (h.0 i || false))))
      ]
    ]

pub query-cut : (text front : Text) (query : Option (Bor Text)) → front ≡ before hash (from_first ends_path text)
    → MatchOption query ((rest : Text) → front ≢ question_mark ∷ rest) (λ rest. front ≡ question_mark ∷ rest.now) → option_copied query ≡ after question_mark (before hash text)
query-cut text front None e none = sym (query-missing text (λ rest f. none rest (e ∙ f)))
query-cut text front (Some rest) e found = sym (query-found text rest.now (sym e ∙ found))

pub ruleset schemes = (scheme-found, scheme-missing)
