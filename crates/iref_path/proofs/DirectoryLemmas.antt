-- The directories that two texts begin with.
use Rattle.std.proofs.Common.{◌≡◌, ℕ, zero, suc, ◌+◌, ◌<◌, ◌≤◌, List, [], ◌∷◌, ◌++◌, length, take, drop, get_or, get_or-take, add-one, ap, subst, drop-cons, refl, sym, ◌∙◌, arith, nat_eq}
use Rattle.std.proofs.{lemmas.Bool.Decides.{nat_tests}, lemmas.List.{length-take-le, take-append-drop}}
use Rattle.std.proofs.{lemmas.List.Sums.{common_prefix_len-le}, lemmas.Str.{IsCharBoundary-after_ascii}}
use Rattle.std.specs.List.{common_prefix_len}
use Rattle.iref_grammar.specs.{Grammar.{slash}, Rules.{Text}, Texts.{pieces_at}}
use Rattle.iref_grammar.proofs.{PieceLemmas.{pieces-append}, DirectoryLemmas.{all_but_last-snoc}}
use Rattle.iref_path.specs.{Pieces.{ShareFront}, Slashes.{IsLastSlash}}

same_front : (a b : Text) (n : ℕ) → n ≤ common_prefix_len nat_eq a b → take n a ≡ take n b
same_front a b zero h = refl
same_front [] b (suc n) h = absurd (omega arith)
same_front (x ∷ a) [] (suc n) h = absurd (omega arith)
same_front (x ∷ a) (y ∷ b) (suc n) h = grind (arith, nat_tests, same_front a b n)

-- a text around a slash
around : (text : Text) (at : ℕ) → at < length text → get_or text at 0 ≡ slash → text ≡ take at text ++ slash ∷ drop (at + 1) text
around text at h e = grind (arith, take-append-drop, drop-cons text at 0, add-one)

pub around_pieces : (text : Text) (at : ℕ) → at < length text → get_or text at 0 ≡ slash → pieces_at slash text ≡ pieces_at slash (take at text) ++ pieces_at slash (drop (at + 1) text)
around_pieces text at h e = ap (pieces_at slash) (around text at h e) ∙ pieces-append slash (take at text) (drop (at + 1) text)

pub no_front : (xs ys : List Text) → ShareFront xs ys xs ys
no_front xs ys = record { front = []; first = refl; second = refl }

module _ (left right a b d : Text) (common : ℕ) (e : a ≡ left) (f : b ≡ right) (g : d ≡ left) (is : common ≡ common_prefix_len nat_eq a b) where
  same_common : common ≡ common_prefix_len nat_eq left right
  same_common = is ∙ (λ i. common_prefix_len nat_eq (e i) (f i))

  pub common_size : common ≡ length (take common d)
  common_size =
      sym (length-take-le common d (omega (arith, same_common, ap length g, (common_prefix_len-le nat_eq left right).0)))

  pub of_texts : (at : ℕ) → IsLastSlash (take common d) at → IsLastSlash (take (common_prefix_len nat_eq left right) left) at
  of_texts at last = subst (λ t. IsLastSlash t at) (λ i. take (same_common i) (g i)) last

module _ (left right : Text) (at : ℕ) (last : IsLastSlash (take (common_prefix_len nat_eq left right) left) at) where
  within : at < common_prefix_len nat_eq left right
  within = omega (arith, last.within, length-take-le _ left (common_prefix_len-le nat_eq left right).0)

  pub at_left : (at < length left) × (get_or left at 0 ≡ slash)
  at_left = (
    omega (arith, within, (common_prefix_len-le nat_eq left right).0),
    sym (get_or-take _ left at 0 within) ∙ last.slash_there,
  )

  pub at_right : (at < length right) × (get_or right at 0 ≡ slash)
  at_right = (
    omega (arith, within, (common_prefix_len-le nat_eq left right).1),
    sym (get_or-take _ right at 0 within) ∙ ap (λ t. get_or t at 0) (sym (same_front left right _ (omega arith))) ∙ last.slash_there,
  )

  same_directory : take at left ≡ take at right
  same_directory = same_front left right at (omega (arith, within))

  pub same_directory-shared : ShareFront (pieces_at slash left) (pieces_at slash right) (pieces_at slash (drop (at + 1) left)) (pieces_at slash (drop (at + 1) right))
  same_directory-shared = record {
    front = pieces_at slash (take at left);
    first = around_pieces left at at_left.0 at_left.1;
    second = around_pieces right at at_right.0 at_right.1 ∙ ap (λ t. pieces_at slash t ++ pieces_at slash (drop (at + 1) right)) (sym same_directory);
  }

pub ruleset directory_of_texts = (IsCharBoundary-after_ascii, at_left, at_right, no_front, of_texts, same_directory-shared)

pub ruleset one_less = (all_but_last-snoc)
