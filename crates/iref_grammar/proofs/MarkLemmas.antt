-- The scheme and the authority that bytes begin with, by their first delimiter.
use Rattle.std.proofs.Common.{arith, ◌≡◌, ℕ, Bool, true, false, [], ◌∷◌, refl, sym, ◌∙◌, ap, inl, inr, subst, ◌==◌, ◌||◌, codes}
use Rattle.std.proofs.lemmas.Bool.Decides.{eqb_tells}
use Rattle.std.specs.Char.{char_set_contains}
use Rattle.iref_grammar.specs.{Rules.{Text}, Grammar.{colon}, Texts.{before, from_first, begins_with}}
use Rattle.iref_grammar.specs.{declared.context.PathContext.{PathContext}, Contexts.{begins_with_scheme, context_from}}
use Rattle.iref_grammar.proofs.CutLemmas.{before-no, from_first-no}

other_way : (c d : ℕ) → (c == d) ≡ false → (d == c) ≡ false
other_way c d h = grind arith

-- of the bytes, whether the first is a colon
first_is_colon : Text → Bool
first_is_colon [] = false
first_is_colon (c ∷ cs) = c == colon

begins_with_colon : (text : Text) → begins_with (codes ":") text ≡ first_is_colon text
unfolding first_is_colon
begins_with_colon [] = refl
begins_with_colon (c ∷ cs) = grind arith

record IsMarked (bytes rest : Text) : Type 0 where
  scheme : begins_with_scheme bytes ≡ first_is_colon rest
  from_colon : first_is_colon rest ≡ true → from_first (colon ∷ []) bytes ≡ rest

marked : (bytes : Text) → IsMarked bytes (from_first (codes ":/?#") bytes)
unfolding first_is_colon
marked [] = record { scheme = refl; from_colon = λ h. refl }
marked (c ∷ cs) = elim (eqb_tells c colon) [
  | inl e ↦ subst (λ d. IsMarked (d ∷ cs) (from_first (codes ":/?#") (d ∷ cs))) (sym e.1) at_colon
  | inr e ↦ at_other (marked cs) (other_way c colon e.0) e.0 (char_set_contains (codes "/?#") c) refl
]
  where
    at_colon : IsMarked (colon ∷ cs) (from_first (codes ":/?#") (colon ∷ cs))
    at_colon = grind arith

    at_other : IsMarked cs (from_first (codes ":/?#") cs) → (colon == c) ≡ false → (c == colon) ≡ false → (b : Bool) → char_set_contains (codes "/?#") c ≡ b → IsMarked (c ∷ cs) (from_first (codes ":/?#") (c ∷ cs))
    at_other rest h k true e = grind arith
    at_other rest h k false e =
        subst (IsMarked (c ∷ cs)) (sym (from_first-no (codes ":/?#") c cs (ap (λ b. b || char_set_contains (codes "/?#") c) h ∙ e))) (record {
          scheme = ap (λ front. char_set_contains front colon) (before-no (codes "/?#") c cs e) ∙ ap (λ b. b || char_set_contains (before (codes "/?#") cs) colon) k ∙ rest.scheme;
          from_colon = λ f. from_first-no (colon ∷ []) c cs (ap (λ b. b || false) h) ∙ rest.from_colon f;
        })

pub scheme_marked : (bytes : Text) → begins_with_scheme bytes ≡ begins_with (codes ":") (from_first (codes ":/?#") bytes)
scheme_marked bytes = (marked bytes).scheme ∙ sym (begins_with_colon (from_first (codes ":/?#") bytes))

pub colon_marked : (bytes : Text) → begins_with (codes ":") (from_first (codes ":/?#") bytes) ≡ true → from_first (colon ∷ []) bytes ≡ from_first (codes ":/?#") bytes
colon_marked bytes h = (marked bytes).from_colon (sym (begins_with_colon (from_first (codes ":/?#") bytes)) ∙ h)

-- what the bytes say of a path after them
pub context_at_colon : (bytes rest : Text) (slashes : Bool) → rest ≡ from_first (codes ":/?#") bytes → begins_with (codes ":") rest ≡ true → slashes ≡ begins_with (codes "://") rest → let context : PathContext = record { has_scheme = true; has_authority = slashes } in context ≡ context_from bytes
unfolding context_from
context_at_colon bytes rest slashes e h k = grind (arith, scheme_marked, colon_marked)

pub context_without_colon : (bytes rest : Text) (slashes : Bool) → rest ≡ from_first (codes ":/?#") bytes → begins_with (codes ":") rest ≡ false → slashes ≡ begins_with (codes "//") bytes → let context : PathContext = record { has_scheme = false; has_authority = slashes } in context ≡ context_from bytes
unfolding context_from
context_without_colon bytes rest slashes e h k = grind (arith, scheme_marked)
