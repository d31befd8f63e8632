-- Components are equal, each by its own key, exactly where the keys of their references are the same.
use Rattle.std.proofs.Common.{arith, ◌≡◌, ◌↔◌, Bool, true, ◌&&◌, sym, ap, ◌∙◌, is_eq, Option, option_map}
use Rattle.std.proofs.lemmas.Bool.Decides.{same_from_decides}
use Rattle.std.specs.{Cmp.Lexicographic.{options_total}, Option.{option_cmp, option_eq}, Str.{str_to_ascii_lowercase}}
use Rattle.percent_encoding.specs.Percent.{percent_decode}
use Rattle.iref_grammar.specs.{Rules.{Text}, Authority.{read_authority}, PathValue.{read_path}}
use Rattle.iref_grammar.specs.{ComponentTexts.{read_components}, Keys.{text_order}}
use Rattle.iref_grammar.specs.{AuthorityKey.{authority_key, authority_key_cmp}, PathKey.{path_key, path_key_cmp}}
use Rattle.iref_grammar.specs.Key.{key}
use Rattle.iref_grammar.proofs.KeyOrderLemmas.{authority_keys_separate, authority_keys_total, options_separate, texts_separate, texts_total, tied_exactly}
use Rattle.iref_grammar.proofs.TieLemmas.{texts_tie, authorities_tie, paths_tie, both_tie_by, option_map_twice, options_tie_through}

-- values that have a text and may be absent, by their texts in lower case, and as they are decoded
module _ {A : Type 0} (text : A → Text) (a b : Option A) where
  pub lower_case_tie : (option_eq (λ x y. is_eq (text_order (str_to_ascii_lowercase (text x)) (str_to_ascii_lowercase (text y)))) a b ≡ true)
      ↔ (option_map str_to_ascii_lowercase (option_map text a) ≡ option_map str_to_ascii_lowercase (option_map text b))
  lower_case_tie = grind (arith, texts_tie)

  pub decoded_tie : (option_eq (λ x y. is_eq (text_order (percent_decode (text x)) (percent_decode (text y)))) a b ≡ true)
      ↔ (option_map percent_decode (option_map text a) ≡ option_map percent_decode (option_map text b))
  decoded_tie = options_tie_through _ text percent_decode (λ x y. texts_tie (percent_decode (text x)) (percent_decode (text y))) a b

  pub authority_parts_tie : (option_eq (λ x y. is_eq (authority_key_cmp (authority_key (read_authority (text x))) (authority_key (read_authority (text y))))) a b ≡ true)
      ↔ (option_map authority_key (option_map read_authority (option_map text a)) ≡ option_map authority_key (option_map read_authority (option_map text b)))
  authority_parts_tie =
      let value = λ (x : A). read_authority (text x) in
      let tie = options_tie_through _ value authority_key (λ x y. authorities_tie (authority_key (value x)) (authority_key (value y))) a b in
      let left = ap (option_map authority_key) (option_map_twice text read_authority a) in
      let right = ap (option_map authority_key) (option_map_twice text read_authority b) in
      (λ e. left ∙ tie.0 e ∙ sym right, λ e. tie.1 (sym left ∙ e ∙ right))

-- and as equality tests them
module _ {A : Type 0} (text : A → Text) (a b : Option A) where
  pub schemes_tested : option_eq (λ x y. is_eq (text_order (str_to_ascii_lowercase (text x)) (str_to_ascii_lowercase (text y)))) a b
      ≡ is_eq (option_cmp text_order (option_map str_to_ascii_lowercase (option_map text a)) (option_map str_to_ascii_lowercase (option_map text b)))
  schemes_tested = same_from_decides _ _ (lower_case_tie text a b) (tied_exactly (options_total texts_total) (options_separate text_order texts_separate) _ _)

  pub authorities_tested : option_eq (λ x y. is_eq (authority_key_cmp (authority_key (read_authority (text x))) (authority_key (read_authority (text y))))) a b
      ≡ is_eq (option_cmp authority_key_cmp (option_map authority_key (option_map read_authority (option_map text a))) (option_map authority_key (option_map read_authority (option_map text b))))
  authorities_tested = same_from_decides _ _ (authority_parts_tie text a b) (tied_exactly (options_total authority_keys_total) (options_separate authority_key_cmp authority_keys_separate) _ _)

pub ruleset parts_tested = (schemes_tested, authorities_tested)

-- the components, the scheme by any test that decides its key
pub parts_tie : {A Q F : Type 0} (authority : A → Text) (query : Q → Text) (fragment : F → Text) (same_scheme : Bool) (s t : Option Text)
    → (same_scheme ≡ true) ↔ (option_map str_to_ascii_lowercase s ≡ option_map str_to_ascii_lowercase t)
    → (a b : Option A) (p q : Text) (c d : Option Q) (e f : Option F)
    → ((same_scheme
    && (option_eq (λ x y. is_eq (authority_key_cmp (authority_key (read_authority (authority x))) (authority_key (read_authority (authority y))))) a b
    && (is_eq (path_key_cmp (path_key (read_path p)) (path_key (read_path q)))
    && (option_eq (λ x y. is_eq (text_order (percent_decode (query x)) (percent_decode (query y)))) c d
    && option_eq (λ x y. is_eq (text_order (percent_decode (fragment x)) (percent_decode (fragment y)))) e f)))) ≡ true)
    ↔ (key (read_components (record { scheme = s; authority = option_map authority a; path = p; query = option_map query c; fragment = option_map fragment e }))
    ≡ key (read_components (record { scheme = t; authority = option_map authority b; path = q; query = option_map query d; fragment = option_map fragment f })))
unfolding key
parts_tie authority query fragment same_scheme s t schemes a b p q c d e f =
    let each = both_tie_by _ _ schemes (both_tie_by _ _ (authority_parts_tie authority a b)
    (both_tie_by _ _ (paths_tie (path_key (read_path p)) (path_key (read_path q))) (both_tie_by _ _ (decoded_tie query c d) (decoded_tie fragment e f)))) in (
      λ h.
          let same = each.0 h in λ i. record {
            scheme = same.0 i;
            authority = same.1.0 i;
            path = same.1.1.0 i;
            query = same.1.1.1.0 i;
            fragment = same.1.1.1.1 i;
          },
      λ h. each.1 (ap (λ k. k.scheme) h, (ap (λ k. k.authority) h, (ap (λ k. k.path) h, (ap (λ k. k.query) h, ap (λ k. k.fragment) h)))),
    )
