-- What is read from a text meets the conditions on a path where it stands.
use Rattle.std.proofs.Common.{arith, ◌≡◌, ℕ, Bool, true, false, not, cond, ◌&&◌, ◌||◌, [], ◌∷◌, drop, refl, sym, ◌∙◌, ap, subst, ◌⊎◌, inl, inr, ◌==◌, Option, Some, None, option_map, is_some, codes, true≢false}
use Rattle.std.proofs.{lemmas.Bool.Decides.{eqb_tells}, lemmas.Bool.{and_from}, lemmas.List.{append-nil}}
use Rattle.iref_grammar.specs.{Rules.{Text}, Grammar.{slash, colon}}
use Rattle.iref_grammar.specs.Texts.{before, from_first, begins_with, is_empty, pieces_at, lacks}
use Rattle.iref_grammar.specs.PathValue.{PathValue, begins_empty, shows_its_list, segments_of, read_path}
use Rattle.iref_grammar.specs.Contexts.{begins_with_colon_segment, follows_authority, is_no_authority, is_no_scheme, reads_as_path}
use Rattle.iref_grammar.specs.Authority.{read_authority}
use Rattle.iref_grammar.specs.Reference.{context_of, split_scheme, split_authority, hierarchy, read_reference}
use Rattle.iref_grammar.proofs.{TextLemmas.{pieces_at-one, pieces_at-front}, PathLemmas.{read_path-reads}}
use Rattle.iref_grammar.proofs.SplitLemmas.{ends_scheme, cut_in_two, lacks-before, begins_with_mark, scheme-found}

-- a text that is empty or begins with `/`
rooted : (text : Text) → ((c : ℕ) (rest : Text) → text ≡ c ∷ rest → c ≡ slash) → let p = read_path text in (p.absolute || is_empty p.segments) ≡ true
unfolding read_path
rooted [] h = refl
rooted (c ∷ cs) h = subst (λ d. let p = read_path (d ∷ cs) in (p.absolute || is_empty p.segments) ≡ true) (sym (h c cs refl)) refl

without_slashes : (text : Text) → begins_with (codes "//") text ≡ false → let p = read_path text in (not p.absolute || not (begins_empty p.segments)) ≡ true
unfolding read_path
without_slashes [] h = refl
without_slashes (c ∷ []) h = grind arith
without_slashes (c ∷ d ∷ rest) h = grind arith

-- a text without a scheme
first_without_colon : (text : Text) → (split_scheme text).0 ≡ None → not (begins_with_colon_segment (pieces_at slash text)) ≡ true
first_without_colon text none = by (from_first ends_scheme text) refl
  where
    front : Text
    front = before ends_scheme text

    no_colon : lacks colon front ≡ true
    no_colon = lacks-before ends_scheme colon text refl

    no_slash : lacks slash front ≡ true
    no_slash = lacks-before ends_scheme slash text refl

    by : (back : Text) → from_first ends_scheme text ≡ back → not (begins_with_colon_segment (pieces_at slash text)) ≡ true
    by [] e = ap (λ t. not (begins_with_colon_segment (pieces_at slash t))) (cut_in_two ends_scheme text [] e ∙ append-nil front) ∙ ap (λ ps. not (begins_with_colon_segment ps)) (pieces_at-one slash front no_slash) ∙ no_colon
    by (c ∷ rest) e = elim (eqb_tells colon c) [
      | inl f ↦ let found = scheme-found text rest (e ∙ ap (λ d. d ∷ rest) (sym f.1)) in let some : Some front ≡ None = sym (ap (λ s. s.0) found) ∙ none in cc
      | inr f ↦ elim (eqb_tells slash c) [
        | inl g ↦
            ap (λ t. not (begins_with_colon_segment (pieces_at slash t))) (cut_in_two ends_scheme text (slash ∷ rest) (e ∙ ap (λ d. d ∷ rest) (sym g.1)))
            ∙ ap (λ ps. not (begins_with_colon_segment ps)) (pieces_at-front slash front rest no_slash) ∙ no_colon
        | inr g ↦ absurd (true≢false (sym (begins_with_mark ends_scheme text c rest e) ∙ (λ i. f.0 i || (g.0 i || false))))
      ]
    ]

without_scheme : (text : Text) → (split_scheme text).0 ≡ None → let p = read_path text in (p.absolute || not (begins_with_colon_segment p.segments)) ≡ true
unfolding read_path
without_scheme [] none = refl
without_scheme (c ∷ cs) none = by (c == slash) (first_without_colon (c ∷ cs) none)
  where
    by : (b : Bool) → not (begins_with_colon_segment (pieces_at slash (c ∷ cs))) ≡ true
        → let p : PathValue = cond b (record { absolute = true; segments = segments_of cs }) (record { absolute = false; segments = pieces_at slash (c ∷ cs) }) in (p.absolute || not (begins_with_colon_segment p.segments)) ≡ true
    by true h = refl
    by false h = h

-- ---- of what is read

-- the same of the authority, and what its absence or presence says of the text
authority_or_all : (text : Text) → (split_authority text ≡ (Some (before (slash ∷ []) (drop 2 text)), from_first (slash ∷ []) (drop 2 text))) ⊎ ((split_authority text ≡ (None, text)) × (begins_with (codes "//") text ≡ false))
authority_or_all text = grind arith

-- a path after these parts meets the conditions on where it stands
record IsPlaced (scheme : Option Text) (middle : Option Text × Text) : Type 0 where
  follows : follows_authority (record { has_scheme = is_some scheme; has_authority = is_some (option_map read_authority middle.0) }) (read_path middle.1) ≡ true
  no_authority : is_no_authority (record { has_scheme = is_some scheme; has_authority = is_some (option_map read_authority middle.0) }) (read_path middle.1) ≡ true
  no_scheme : is_no_scheme (record { has_scheme = is_some scheme; has_authority = is_some (option_map read_authority middle.0) }) (read_path middle.1) ≡ true

after_authority : (scheme : Option Text) (authority rest : Text) → IsPlaced scheme (Some authority, from_first (slash ∷ []) rest)
after_authority scheme authority rest = grind (arith, rooted, begins_with_mark)

no_scheme_alone : (text : Text) → let s = split_scheme text in let p = read_path s.1 in (((is_some s.0 || false) || p.absolute) || not (begins_with_colon_segment p.segments)) ≡ true
no_scheme_alone text = grind (arith, without_scheme)

placed : (text : Text) → let s = split_scheme text in IsPlaced s.0 (split_authority s.1)
placed text =
    let s = split_scheme text in
    elim (authority_or_all s.1) [
      | inl e ↦ subst (IsPlaced s.0) (sym e) (after_authority s.0 (before (slash ∷ []) (drop 2 s.1)) (drop 2 s.1))
      | inr e ↦ subst (IsPlaced s.0) (sym e.0) (record { follows = refl; no_authority = without_slashes s.1 e.1; no_scheme = no_scheme_alone text })
    ]

-- the path that is read may stand where it does, so the rules of the components are all that is to be tested
pub read_follows : (text : Text) → follows_authority (context_of (read_reference text)) (read_reference text).path ≡ true
unfolding read_reference
read_follows text = (placed (hierarchy text)).follows

pub read_reads_as_path : (text : Text) → reads_as_path (context_of (read_reference text)) (read_reference text).path ≡ true
unfolding read_reference
read_reads_as_path text =
    let r = read_reference text in
    and_from (shows_its_list r.path && is_no_authority (context_of r) r.path) (is_no_scheme (context_of r) r.path)
    (and_from (shows_its_list r.path) (is_no_authority (context_of r) r.path) (read_path-reads (split_authority (split_scheme (hierarchy text)).1).1).shown (placed (hierarchy text)).no_authority)
    (placed (hierarchy text)).no_scheme
