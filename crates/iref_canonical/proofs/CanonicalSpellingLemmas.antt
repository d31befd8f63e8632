-- The canonical text of a reference, and the one that is hashed, from the texts of its components.
use Rattle.std.proofs.Common.{◌≡◌, Bool, ◌∷◌, ◌++◌, [], refl, sym, ◌∙◌, ap, arith, Option, Some, None, codes, is_some, option_map}
use Rattle.std.specs.Str.{str_to_ascii_lowercase}
use Rattle.percent_encoding.specs.Percent.{percent_decode}
use Rattle.iref_grammar.specs.{Characters.{uri_chars}, ComponentTexts.{ComponentTexts, read_components}}
use Rattle.iref_grammar.specs.Grammar.{colon, hash_sign, is_fragment_char, question_mark}
use Rattle.iref_grammar.specs.{Authority.{read_authority, spell_authority}, PathValue.{read_path, spell_path}}
use Rattle.iref_grammar.specs.{Reference.{context_of, spell}, Rules.{Text}, Texts.{part_then, then_part}}
use Rattle.iref_grammar.specs.{AuthorityKey.{authority_key}, Guard.{guarded}, Key.{key}, PathKey.{path_key}}
use Rattle.iref_grammar.proofs.MappedMarkLemmas.{is_some-map}
use Rattle.iref_canonical.specs.Canonical.{encoded, spelled, spelled_authority, spelled_parts, spelled_path, stands}
use Rattle.iref_canonical.specs.CanonicalParts.{encoded_authority, encoded_query}
use Rattle.iref_canonical.proofs.SetLemmas.{encoded-fragment, encoded-query}

same_fragment : (raw : Bool) (part : Option Text) → encoded_query raw part ≡ option_map (encoded (stands raw (is_fragment_char uri_chars))) (option_map percent_decode part)
same_fragment raw None = refl
same_fragment raw (Some text) = ap (λ t. Some t) (sym (encoded-query raw (percent_decode text)) ∙ encoded-fragment raw (percent_decode text))

same_authority : (raw : Bool) (part : Option Text)
    → encoded_authority raw part ≡ option_map spell_authority (option_map (spelled_authority raw) (option_map authority_key (option_map read_authority part)))
same_authority raw None = refl
same_authority raw (Some text) = refl

-- what stands before the path is what stood before it
same_context : (raw : Bool) (t : ComponentTexts) → context_of (spelled_parts raw (key (read_components t))) ≡ record { has_scheme = is_some t.scheme; has_authority = is_some t.authority }
unfolding key
same_context raw t = grind (arith, is_some-map)

pub components-spelled : (raw : Bool) (t : ComponentTexts) (path : Text)
    → path ≡ spell_path (guarded (record { has_scheme = is_some t.scheme; has_authority = is_some t.authority }) (spelled_path raw (path_key (read_path t.path))))
    → part_then (colon ∷ []) (option_map str_to_ascii_lowercase t.scheme) ++ then_part (codes "//") (encoded_authority raw t.authority) ++ path
    ++ then_part (question_mark ∷ []) (encoded_query raw t.query) ++ then_part (hash_sign ∷ []) (encoded_query raw t.fragment)
    ≡ spell (spelled raw (key (read_components t)))
unfolding spell spelled key
components-spelled raw t path e = λ i.
    part_then (colon ∷ []) (option_map str_to_ascii_lowercase t.scheme) ++ then_part (codes "//") (same_authority raw t.authority i)
    ++ (e ∙ ap (λ context. spell_path (guarded context (spelled_path raw (path_key (read_path t.path))))) (sym (same_context raw t))) i
    ++ then_part (question_mark ∷ []) (encoded_query raw t.query) ++ then_part (hash_sign ∷ []) (same_fragment raw t.fragment i)
