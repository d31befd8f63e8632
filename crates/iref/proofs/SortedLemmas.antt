-- Keys that stand in one buffer, each behind the one before it.
use Rattle.std.proofs.Common.{◌≡◌, ℕ, ◌+◌, ◌-◌, ◌≤◌, List, [], ◌∷◌, ◌++◌, length, take, drop, map, refl, sym, ◌∙◌, ap, subst, arith, append-nil, length-append}
use Rattle.std.proofs.{lemmas.List.{map-append}, lemmas.Grind.{flat_map-append}, lemmas.List.Elements.{All-push}}
use Rattle.std.proofs.Math.Seq.{take-append_seam, drop-append_seam}
use Rattle.std.specs.List.{All, flat_map}
use Rattle.iref_grammar.specs.Rules.{Text}
use Rattle.iref.specs.Lists.{AreKeysOf}

module _ {R M : Type 0} (key : R → Text) (reference : M → R) where
  -- ---- the keys are read: those of the references that are left stand in the rest of the buffer
  abbrev pub AreLeft : List M → Text → Type 0
  AreLeft left rest = rest ≡ flat_map key (map reference left)

  module _ (left after : List M) (x : M) (rest : Text) (n : ℕ) (read : left ≡ x ∷ after) (are : AreLeft left rest) (measured : n ≡ length (key (reference x))) where
    whole : rest ≡ key (reference x) ++ flat_map key (map reference after)
    whole = are ∙ ap (λ l. flat_map key (map reference l)) read

    pub first_fits : n ≤ length rest
    first_fits =
        let longer : length rest ≡ length (key (reference x)) + length (flat_map key (map reference after)) = ap length whole ∙ length-append (key (reference x)) (flat_map key (map reference after)) in
        omega (arith, longer, measured)

    pub first_is : take n rest ≡ key (reference x)
    first_is = ap (λ m. take m rest) measured ∙ ap (take (length (key (reference x)))) whole ∙ take-append_seam (key (reference x)) (flat_map key (map reference after))

    pub rest_is : AreLeft after (drop n rest)
    rest_is = ap (λ m. drop m rest) measured ∙ ap (drop (length (key (reference x)))) whole ∙ drop-append_seam (key (reference x)) (flat_map key (map reference after))

module _ {R M : Type 0} (key : R → Text) (reference : M → R) (len : M → ℕ) where
  -- ---- the keys are made
  module _ (references : List R) (i : ℕ) (x : R) (keys more : Text) (ms after : List M) (m : M) (read : take (i + 1) references ≡ take i references ++ x ∷ []) where
    -- one more key stands behind the others
    pub one_made : AreKeysOf key reference len (take i references) keys ms → more ≡ keys ++ key x → reference m ≡ x → len m ≡ length more - length keys → after ≡ ms ++ m ∷ []
        → AreKeysOf key reference len (take (i + 1) references) more after
    one_made made written is measured pushed =
        let longer : length more ≡ length keys + length (key x) = ap length written ∙ length-append keys (key x) in
        let counted : len m ≡ length (key x) = omega (arith, longer, measured) in
        record {
          keys =
              written ∙ ap (λ t. t ++ key x) made.keys ∙ ap (λ t. flat_map key (take i references) ++ t) (sym (append-nil (key x)))
              ∙ sym (flat_map-append key (take i references) (x ∷ [])) ∙ ap (flat_map key) (sym read);
          same =
              ap (map reference) pushed ∙ map-append reference ms (m ∷ []) ∙ ap (λ l. l ++ reference m ∷ []) made.same
              ∙ ap (λ r. take i references ++ r ∷ []) is ∙ sym read;
          lengths = subst (All (λ n. len n ≡ length (key (reference n)))) (sym pushed)
              (All-push (λ n. len n ≡ length (key (reference n))) ms m made.lengths (counted ∙ ap (λ r. length (key r)) (sym is)));
        }

-- ---- the keys are sorted
module _ {R M : Type 0} (text : R → Text) (reference : M → R) where
  texts_of : (ms : List M) → map (λ m. text (reference m)) ms ≡ map text (map reference ms)
  texts_of [] = refl
  texts_of (m ∷ ms) = ap (λ l. text (reference m) ∷ l) (texts_of ms)

  module _ (references : List R) (ms : List M) (start : List Text) (same : map reference ms ≡ references) (started : start ≡ map (λ m. text (reference m)) ms) where
    -- they begin as the texts of the references
    pub begun : start ≡ map text references
    begun = started ∙ texts_of ms ∙ ap (map text) same

    -- what holds of the texts before and after holds of those of the references
    pub of_references : (out : List R) (done : List Text) → map text out ≡ done → (P : List Text → List Text → Type 0) → P start done → P (map text references) (map text out)
    of_references out done ended P h = subst (λ l. P l (map text out)) begun (subst (P start) (sym ended) h)
