-- Texts of plain bytes, escapes and the characters that a set has beyond ASCII.
use Rattle.std.specs.Prelude.{◌≡◌, true, ℕ, ◌<◌, ◌≤◌, Bool, not, ◌&&◌, ◌||◌, List, [], ◌∷◌, ◌++◌, length, encode_utf8}
use Rattle.std.specs.{Char.{char_set_contains}, Str.{IsUtf8}}
use Rattle.iref_grammar.specs.{Characters.{CharTests, is_common}, ComponentTexts.{ComponentTexts}}
use Rattle.iref_grammar.specs.{Grammar.{hash_sign, question_mark, slash}, Rules.{Text}}
use Rattle.iref_grammar.specs.Tests.{in_utf8, is_encoded, is_path, is_query, none_or}
use Rattle.iref_parse.specs.Plain.{is_plain_byte}

-- a plain byte, or one of the set beyond ASCII
abbrev pub is_plain_char : CharTests → ℕ → Bool
is_plain_char set c = is_plain_byte c || set.extra c

-- but none of the delimiters
abbrev pub but : List ℕ → (ℕ → Bool) → ℕ → Bool
but marks test c = test c && not (char_set_contains marks c)

-- what stands in an authority
abbrev pub is_authority_char : CharTests → ℕ → Bool
is_authority_char set = but (slash ∷ []) (but (question_mark ∷ []) (but (hash_sign ∷ []) (is_plain_char set)))

-- the bytes are the UTF-8 of characters that pass and of escapes
abbrev pub are_encoded : (ℕ → Bool) → Text → Bool
are_encoded test bytes = in_utf8 (is_encoded test) bytes

-- a step over such a text: it is one if the rest is, which begins where a character of UTF-8 ends
pub record StepsTo (test : ℕ → Bool) (text rest : Text) : Type 0 where
  pub encoded : are_encoded test rest ≡ true → are_encoded test text ≡ true
  pub utf8 : IsUtf8 text → IsUtf8 rest
  pub shorter : length rest < length text

-- the bytes are those of a character beyond ASCII
abbrev pub IsWide : Text → ℕ → Type 0
IsWide bytes code = (128 ≤ code) × (encode_utf8 code ≡ bytes)

-- the text begins with a character beyond ASCII, that the rest follows
pub record BeginsWide (code : ℕ) (text rest : Text) : Type 0 where
  pub wide : 128 ≤ code
  pub spelled : text ≡ encode_utf8 code ++ rest

-- the text begins with a character from U+00C0 to U+D7FF, that the rest follows
pub record BeginsCommon (text rest : Text) : Type 0 where
  pub code : ℕ
  pub common : is_common code ≡ true
  pub spelled : text ≡ encode_utf8 code ++ rest

-- the components of such a text, of which two may still be refused
pub record AreEncoded (set : CharTests) (t : ComponentTexts) : Type 0 where
  pub authority : none_or (are_encoded (is_authority_char set)) t.authority ≡ true
  pub path : is_path set t.path ≡ true
  pub query : none_or (is_query set) t.query ≡ true
  pub fragment : none_or (are_encoded (is_plain_char set)) t.fragment ≡ true
