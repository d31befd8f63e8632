-- Texts of references that are functions of the key alone: the canonical one (RFC 3986 section 2.1), and the one that is hashed.
use Rattle.std.specs.Prelude.{ℕ, Bool, true, false, not, ◌&&◌, ◌||◌, ◌==◌, List, [], ◌∷◌, map, codes, option_map, if◌then◌else◌}
use Rattle.std.specs.{Char.{is_ascii}, List.{flat_map}}
use Rattle.percent_encoding.specs.Percent.{percent_encode_byte}
use Rattle.iref_grammar.specs.{Authority.{AuthorityValue}, Characters.{uri_chars}}
use Rattle.iref_grammar.specs.Grammar.{is_fragment_char, is_path_char, is_query_char, is_reg_name_char, is_user_info_char}
use Rattle.iref_grammar.specs.{PathValue.{PathValue}, Reference.{ReferenceValue, spell}, Rules.{Text}}
use Rattle.iref_grammar.specs.{Tests.{is_ip_literal}, Texts.{is_empty}}
use Rattle.iref_grammar.specs.{ComponentSteps.{guarded_reference}, NormalList.{is_dot, is_dot_dot}}

-- a byte that passes the test stands; any other becomes `%` and two upper-case hexadecimal digits
abbrev pub encoded_byte : (ℕ → Bool) → ℕ → Text
encoded_byte allowed b = if allowed b then b ∷ [] else percent_encode_byte b

-- the bytes of a text, one by one
unfoldable pub encoded : (ℕ → Bool) → Text → Text
encoded allowed bytes = flat_map (encoded_byte allowed) bytes

-- a byte beyond ASCII, but for 255, which ends what is hashed
abbrev pub is_raw : ℕ → Bool
is_raw b = not (is_ascii b) && not (b == 255)

-- the bytes that pass the test, and of a text that is hashed those beyond ASCII too
abbrev pub stands : Bool → (ℕ → Bool) → ℕ → Bool
stands raw allowed b = (raw && is_raw b) || allowed b

-- ---- with the bytes beyond ASCII raw, or escaped

module _ (raw : Bool) where
  -- an IP literal stands, since its brackets are no characters of a registered name
  abbrev pub spelled_host : Text → Text
  spelled_host host = if is_ip_literal host then host else encoded (stands raw (is_reg_name_char uri_chars)) host

  abbrev pub spelled_authority : AuthorityValue → AuthorityValue
  spelled_authority a = record {
    user_info = option_map (encoded (stands raw (is_user_info_char uri_chars))) a.user_info;
    host = spelled_host a.host;
    port = a.port;
  }

  -- an item that is no dot segment, though it may be the bytes of one
  abbrev pub spelled_name : Text → Text
  spelled_name item =
      if is_dot item then codes "%2E"
      else (if is_dot_dot item then codes "%2E%2E" else encoded (stands raw (is_path_char uri_chars)) item)

  -- of a relative list the first items `..` stand, but for one that is the last item
  unfoldable pub spelled_relative : List Text → List Text
  spelled_relative [] = []
  spelled_relative (item ∷ rest) =
      if is_dot_dot item && not (is_empty rest) then item ∷ spelled_relative rest else map spelled_name (item ∷ rest)

  abbrev pub spelled_list : PathValue → List Text
  spelled_list p = if p.absolute then map spelled_name p.segments else spelled_relative p.segments

  abbrev pub spelled_path : PathValue → PathValue
  spelled_path p = record p { segments = spelled_list p }

  -- each component of a key encoded
  abbrev pub spelled_parts : ReferenceValue → ReferenceValue
  spelled_parts k = record {
    scheme = k.scheme;
    authority = option_map spelled_authority k.authority;
    path = spelled_path k.path;
    query = option_map (encoded (stands raw (is_query_char uri_chars))) k.query;
    fragment = option_map (encoded (stands raw (is_fragment_char uri_chars))) k.fragment;
  }

  -- the reference of a key, the path guarded where it stands
  unfoldable pub spelled : ReferenceValue → ReferenceValue
  spelled k = guarded_reference (spelled_parts k)

-- ---- the canonical text

abbrev pub canonical_host : Text → Text
canonical_host = spelled_host false

abbrev pub canonical_authority : AuthorityValue → AuthorityValue
canonical_authority = spelled_authority false

abbrev pub canonical_name : Text → Text
canonical_name = spelled_name false

abbrev pub canonical_relative : List Text → List Text
canonical_relative = spelled_relative false

abbrev pub canonical_items : PathValue → List Text
canonical_items = spelled_list false

abbrev pub canonical_path : PathValue → PathValue
canonical_path = spelled_path false

abbrev pub canonical_parts : ReferenceValue → ReferenceValue
canonical_parts = spelled_parts false

-- the canonical reference of a key
abbrev pub canonical : ReferenceValue → ReferenceValue
canonical = spelled false

-- the canonical text of a key
abbrev pub canonical_text : ReferenceValue → Text
canonical_text k = spell (canonical k)

-- ---- the text that is hashed

-- the canonical text with the bytes beyond ASCII raw, but for 255
abbrev pub hashed_text : ReferenceValue → Text
hashed_text k = spell (spelled true k)
