-- The first place in a reference, from those in its parts.
use Rattle.std.proofs.Common.{◌≡◌, ℕ, ◌+◌, ◌-◌, ◌≤◌, Bool, [], ◌∷◌, ◌++◌, length, sym, ap, ◌∙◌, arith, append_assoc, length-append, ◌||◌, codes, Option, is_some}
use Rattle.std.specs.Option.{option_or}
use Rattle.iref_grammar.specs.{Characters.{CharTests}, Rules.{Text}, Grammar.{colon, hash_sign, question_mark}}
use Rattle.iref_grammar.specs.{Texts.{before, after, part_then, then_part}, Reference.{split_authority, hierarchy}}
use Rattle.iref_grammar.proofs.ReferenceCutLemmas.{split_authority-joins}
use Rattle.iref_fault.specs.{declared.pieces.Place.{Place}, Places.{Scheme, Query, Fragment}}
use Rattle.iref_fault.specs.Cut.{piece, piece_if, authority_pieces_if, cut_scheme, pieces_of}
use Rattle.iref_fault.specs.{CutSteps.{path_rule, pieces_after_scheme, hierarchy_pieces}, BytePlaces.{first_place}}
use Rattle.iref_fault.proofs.{CutPieceLemmas.{cut_scheme_joins}, FirstPlaceLemmas.{first_place-append}}

module _ (set : CharTests) where
  pub place_behind : (start : ℕ) (scheme authority : Option Text) (text path : Text) (front place : Option Place) (follows : Bool)
      → authority ≡ (split_authority text).0 → path ≡ (split_authority text).1 → front ≡ first_place set (authority_pieces_if (start + 2) authority) → follows ≡ (is_some scheme || is_some authority)
      → place ≡ first_place set (piece (path_rule follows) (start + (length text - length path)) path) → option_or front place ≡ first_place set (pieces_after_scheme start scheme text)
  place_behind start scheme authority text path front place follows e f g h k =
      let a = (split_authority text).0 in
      let p = (split_authority text).1 in
      let rule = path_rule (is_some scheme || is_some a) in
      let at : start + (length text - length p) ≡ start + length (then_part (codes "//") a) = omega (arith, length-append (then_part (codes "//") a) p, ap length (split_authority-joins text)) in
      let first = g ∙ ap (λ o. first_place set (authority_pieces_if (start + 2) o)) e in
      let second =
      k ∙ ap (λ b. first_place set (piece (path_rule b) (start + (length text - length path)) path)) (h ∙ ap (λ o. is_some scheme || is_some o) e)
      ∙ ap (λ t. first_place set (piece rule (start + (length text - length t)) t)) f
      ∙ ap (λ n. first_place set (piece rule n p)) at in
      (λ i. option_or (first i) (second i)) ∙ sym (first_place-append set (authority_pieces_if (start + 2) a) (piece rule (start + length (then_part (codes "//") a)) p))

  pub place_in_front : (scheme : Option Text) (text rest : Text) (front place : Option Place) → scheme ≡ (cut_scheme text).0 → rest ≡ (cut_scheme text).1 → front ≡ first_place set (piece_if Scheme 0 scheme)
      → place ≡ first_place set (pieces_after_scheme (length text - length rest) scheme rest) → option_or front place ≡ first_place set (hierarchy_pieces text)
  place_in_front scheme text rest front place e f g k =
      let s = (cut_scheme text).0 in
      let r = (cut_scheme text).1 in
      let at : length text - length r ≡ length (part_then (colon ∷ []) s) = omega (arith, length-append (part_then (colon ∷ []) s) r, ap length (cut_scheme_joins text)) in
      let first = g ∙ ap (λ o. first_place set (piece_if Scheme 0 o)) e in
      let second =
      k ∙ ap (λ o. first_place set (pieces_after_scheme (length text - length rest) o rest)) e
      ∙ ap (λ t. first_place set (pieces_after_scheme (length text - length t) s t)) f
      ∙ ap (λ n. first_place set (pieces_after_scheme n s r)) at in
      (λ i. option_or (first i) (second i)) ∙ sym (first_place-append set (piece_if Scheme 0 s) (pieces_after_scheme (length (part_then (colon ∷ []) s)) s r))

  -- the pieces of a reference, in those of its parts
  pub place_in_parts : (text : Text)
      → option_or (option_or (first_place set (hierarchy_pieces (hierarchy text))) (first_place set (piece_if Query (length (hierarchy text) + 1) (after question_mark (before (hash_sign ∷ []) text)))))
      (first_place set (piece_if Fragment (length (before (hash_sign ∷ []) text) + 1) (after hash_sign text)))
      ≡ first_place set (pieces_of text)
  unfolding pieces_of
  place_in_parts text =
      let front = cut_scheme (hierarchy text) in
      let middle = split_authority front.1 in
      let scheme_len = length (part_then (colon ∷ []) front.0) in
      let a = piece_if Scheme 0 front.0 in
      let b = authority_pieces_if (scheme_len + 2) middle.0 in
      let c = piece (path_rule (is_some front.0 || is_some middle.0)) (scheme_len + length (then_part (codes "//") middle.0)) middle.1 in
      let query = piece_if Query (length (hierarchy text) + 1) (after question_mark (before (hash_sign ∷ []) text)) in
      let fragment = piece_if Fragment (length (before (hash_sign ∷ []) text) + 1) (after hash_sign text) in
      ap (λ o. option_or o (first_place set fragment)) (sym (first_place-append set (a ++ (b ++ c)) query))
      ∙ sym (first_place-append set ((a ++ (b ++ c)) ++ query) fragment)
      ∙ ap (λ ps. first_place set ((ps ++ query) ++ fragment)) (sym (append_assoc a b c))

pub rest_within : (text : Text) → length (cut_scheme text).1 ≤ length text
rest_within text = omega (arith, length-append (part_then (colon ∷ []) (cut_scheme text).0) (cut_scheme text).1, ap length (cut_scheme_joins text))
