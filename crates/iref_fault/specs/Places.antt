-- Where a single text is outside its rule: the count of the characters before that place.
use Rattle.std.specs.Prelude.{◌≡◌, ℕ, suc, Bool, true, false, not, ◌||◌, ◌==◌, [], ◌∷◌, ◌++◌, ◌⊎◌, length, take, Option, Some, None, option_map, if◌then◌else◌, encode_utf8_all}
use Rattle.std.specs.{List.{position}, Char.{is_ascii_alphabetic, is_ascii_digit}}
use Rattle.iref_grammar.specs.{Characters.{CharTests}, Rules.{Text, Rule}}
use Rattle.iref_grammar.specs.Grammar.{slash, colon, left_bracket, is_scheme_char, is_user_info_char, is_reg_name_char, is_path_char, is_query_char, is_fragment_char}
use Rattle.iref_grammar.specs.Grammar.{IsScheme, IsUserInfo, IsHost, IsPort, IsPath, IsSegment, IsQuery, IsFragment}
use Rattle.iref_grammar.specs.{Texts.{before, begins_with, lacks}, Tests.{owed_after, is_ip_literal}}
use Rattle.iref_fault.specs.declared.component.Component.{Component}
use Rattle.iref_fault.specs.declared.component.Component.TheVariants as component
pub use Rattle.iref_fault.specs.declared.part.PartRule.{PartRule}
pub use Rattle.iref_fault.specs.declared.part.PartRule.TheVariants.{Scheme, UserInfo, Host, Port, Path, BarePath, Segment, Query, Fragment}

abbrev pub is_bare : PartRule → Bool
is_bare BarePath = true
is_bare rule = false

-- the component that a fault of the rule names
abbrev pub component_of : PartRule → Component
component_of Scheme = component.Scheme
component_of UserInfo = component.UserInfo
component_of Host = component.Host
component_of Port = component.Port
component_of Path = component.Path
component_of BarePath = component.Path
component_of Segment = component.Path
component_of Query = component.Query
component_of Fragment = component.Fragment

-- a path that is not read as a scheme and what follows it: its first segment holds no `:` (section 4.2)
abbrev pub IsBarePath : CharTests → Rule
IsBarePath set text = IsPath set text × (lacks colon (before (slash ∷ []) text) ≡ true)

-- which texts are in the rule
abbrev pub rule_of : CharTests → PartRule → Rule
rule_of set Scheme = IsScheme
rule_of set UserInfo = IsUserInfo set
rule_of set Host = IsHost set
rule_of set Port = IsPort
rule_of set Path = IsPath set
rule_of set BarePath = IsBarePath set
rule_of set Segment = IsSegment set
rule_of set Query = IsQuery set
rule_of set Fragment = IsFragment set

-- ---- the place, by the rule

-- some text of the rule begins with front
abbrev pub Begins : Rule → Text → Type 0
Begins A front = (rest : Text) × A (front ++ rest)

-- The text is outside the rule. What stands before the place begins some text of the rule, and what stands up to and with the
-- character at the place begins none, unless the text ends there.
pub record IsFaultPlace (A : Rule) (text : Text) (place : ℕ) : Type 0 where
  pub outside : A text → ⊥
  pub begins : Begins A (take place text)
  pub ends : (place ≡ length text) ⊎ (Begins A (take (suc place) text) → ⊥)

-- a host that begins with `[`
abbrev pub is_bracketed : PartRule → Text → Bool
is_bracketed Host text = begins_with (left_bracket ∷ []) text
is_bracketed rule text = false

-- of a text outside its rule: such a host is wrong at its `[`, and all else at the fault's place
pub record IsPlaceIn (set : CharTests) (rule : PartRule) (text : Text) (place : ℕ) : Type 0 where
  pub outside : rule_of set rule text → ⊥
  pub stands : ((is_bracketed rule text ≡ true) × (place ≡ 0)) ⊎ ((is_bracketed rule text ≡ false) × IsFaultPlace (rule_of set rule) text place)

-- ---- the place, computed

-- of a text with escapes, while digits are owed: the first character that may not stand there, or the end if digits are owed there
abbrev pub encoded_place_after : (ℕ → Bool) → ℕ → Text → Option ℕ
encoded_place_after test owed [] = if owed == 0 then None else Some 0
encoded_place_after test owed (c ∷ cs) = elim (owed_after test owed c) [
  | None ↦ Some 0
  | Some left ↦ option_map suc (encoded_place_after test left cs)
]

abbrev pub encoded_place : (ℕ → Bool) → Text → Option ℕ
encoded_place test text = encoded_place_after test 0 text

-- the first character that does not pass
abbrev pub ones_place : (ℕ → Bool) → Text → Option ℕ
ones_place test text = position (λ c. not (test c)) text

abbrev pub scheme_place : Text → Option ℕ
scheme_place [] = Some 0
scheme_place (c ∷ cs) = if is_ascii_alphabetic c then option_map suc (ones_place is_scheme_char cs) else Some 0

-- a host that begins with `[` is wrong there
abbrev pub host_place : CharTests → Text → Option ℕ
host_place set text =
    if begins_with (left_bracket ∷ []) text
    then (if is_ip_literal text then None else Some 0)
    else encoded_place (is_reg_name_char set) text

abbrev pub path_place : CharTests → Text → Option ℕ
path_place set text = encoded_place (λ c. is_path_char set c || c == slash) text

-- of a path whose first segment holds no `:` after its first character
abbrev pub bare_path_place : CharTests → Text → Option ℕ
bare_path_place set text = if begins_with (colon ∷ []) text then Some 0 else path_place set text

-- where the characters are outside the rule, if they are
unfoldable pub place_in : CharTests → PartRule → Text → Option ℕ
place_in set Scheme text = scheme_place text
place_in set UserInfo text = encoded_place (is_user_info_char set) text
place_in set Host text = host_place set text
place_in set Port text = ones_place is_ascii_digit text
place_in set Path text = path_place set text
place_in set BarePath text = bare_path_place set text
place_in set Segment text = encoded_place (is_path_char set) text
place_in set Query text = encoded_place (is_query_char set) text
place_in set Fragment text = encoded_place (is_fragment_char set) text

-- how many bytes these characters before the place take
abbrev pub bytes_before : ℕ → Text → ℕ
bytes_before place text = length (encode_utf8_all (take place text))
