-- What the components of a reference are, and what they are compared by.
use Rattle.std.specs.{Prelude.{Option, Some, option_map}, Str.{str_to_ascii_lowercase}}
use Rattle.iref_grammar.specs.{Rules.{Text}, ComponentTexts.{ComponentTexts, read_components}}
use Rattle.iref_grammar.specs.Reference.{ReferenceValue}
use Rattle.iref_component.specs.{Components.{text_of}, declared.rule_text.RuleText.{RuleText}}
use Rattle.iref_grammar.specs.Key.{key}
use Rattle.iref_reference.specs.declared.parts.Parts.{Parts}

-- the texts of the parts, given that of the scheme, if it is there
abbrev pub part_texts : {S : Type 0} {C : _} {c : _} → (S → Option Text) → Parts S C c → ComponentTexts
part_texts scheme p = record {
  scheme = scheme p.scheme;
  authority = option_map text_of p.authority;
  path = text_of p.path;
  query = option_map text_of p.query;
  fragment = option_map text_of p.fragment;
}

abbrev pub uri_ref_part_texts : {T R U K t r k u C c : _} → Parts (Option (RuleText T R U K t r k u)) C c → ComponentTexts
uri_ref_part_texts = part_texts (option_map text_of)

abbrev pub uri_part_texts : {T R U K t r k u C c : _} → Parts (RuleText T R U K t r k u) C c → ComponentTexts
uri_part_texts = part_texts (λ scheme. Some (text_of scheme))

-- the reference that the parts are those of
abbrev pub parts_value : {S : Type 0} {C : _} {c : _} → (S → Option Text) → Parts S C c → ReferenceValue
parts_value scheme p = read_components (part_texts scheme p)

abbrev pub uri_ref_parts_value : {T R U K t r k u C c : _} → Parts (Option (RuleText T R U K t r k u)) C c → ReferenceValue
uri_ref_parts_value = parts_value (option_map text_of)

abbrev pub uri_parts_value : {T R U K t r k u C c : _} → Parts (RuleText T R U K t r k u) C c → ReferenceValue
uri_parts_value = parts_value (λ scheme. Some (text_of scheme))

-- what the parts are compared by
abbrev pub key_of_parts : {S : Type 0} {C : _} {c : _} → (S → Option Text) → Parts S C c → ReferenceValue
key_of_parts scheme p = key (parts_value scheme p)

abbrev pub uri_ref_parts_key : {T R U K t r k u C c : _} → Parts (Option (RuleText T R U K t r k u)) C c → ReferenceValue
uri_ref_parts_key p = key (uri_ref_parts_value p)

abbrev pub uri_parts_key : {T R U K t r k u C c : _} → Parts (RuleText T R U K t r k u) C c → ReferenceValue
uri_parts_key p = key (uri_parts_value p)

-- and a scheme that may be absent
abbrev pub scheme_key : Option Text → Option Text
scheme_key = option_map str_to_ascii_lowercase
