-- The sets of what is escaped in each component, checked character by character.
use Rattle.std.proofs.Common.{◌≡◌, ℕ, zero, suc, ◌<◌, Bool, true, false, not, cond, ◌&&◌, ◌||◌, [], ◌∷◌, ◌++◌, refl, sym, ◌∙◌, ap}
use Rattle.std.proofs.{lemmas.Bool.{ltb-true}, lemmas.Bool.Decides.{Decides-below_and}}
use Rattle.std.specs.{Char.{is_ascii}, Cmp.{booleans_Decides}}
use mathlib.Core.Bool.{beq, true≢false}
use Rattle.percent_encoding.specs.{declared.ascii_set.AsciiSet.{AsciiSet}, AsciiSet.{contains, should_percent_encode}}
use Rattle.percent_encoding.specs.Percent.{percent_encode_byte}
use Rattle.iref_grammar.specs.Characters.{uri_chars}
use Rattle.iref_grammar.specs.Grammar.{is_reg_name_char, is_user_info_char, is_path_char, is_fragment_char, is_query_char}
use Rattle.iref_grammar.specs.Rules.{Text}
use Rattle.iref_canonical.specs.Canonical.{encoded, encoded_byte, is_raw, stands}
use Rattle.iref_canonical.specs.Decoded.{is_escaped, recoded, recoded_byte}
use Rattle.iref_canonical.specs.declared.encoded.TheConstants.{REG_NAME, USER_INFO, SEGMENT, QUERY}
use Rattle.iref_canonical.proofs.EncodedTextLemmas.{IsPlain}
use Rattle.iref_canonical.proofs.PlainCharacterLemmas.{plain_name, plain_user_info, plain_path, plain_fragment, plain_query}

-- the set has what the test refuses, of the characters below a number
abbrev are_apart : AsciiSet → (ℕ → Bool) → ℕ → Bool
are_apart set test zero = true
are_apart set test (suc b) = beq (contains set b) (not (test b)) && are_apart set test b

entry : (set : AsciiSet) (test : ℕ → Bool) → are_apart set test 128 ≡ true → (b : ℕ) → b < 128 → contains set b ≡ not (test b)
entry set test h =
    (Decides-below_and (λ b. beq (contains set b) (not (test b))) (λ b. contains set b ≡ not (test b)) (are_apart set test) (λ b. booleans_Decides _ _) refl (λ _. refl) 128).0 h

-- the set has what the test refuses, of ASCII
pub in_set : (set : AsciiSet) (test : ℕ → Bool) → are_apart set test 128 ≡ true → (b : ℕ) → is_ascii b ≡ true → contains set b ≡ not (test b)
in_set set test h b ascii = entry set test h b (ltb-true b 128 ascii)

module _ (set : AsciiSet) (test : ℕ → Bool) (plain : IsPlain test) (apart : are_apart set test 128 ≡ true) where
  tested : (b : ℕ) → should_percent_encode set b ≡ not (test b)
  unfolding should_percent_encode
  tested b = by (is_ascii b) refl (test b) refl
    where
      by : (ascii : Bool) → is_ascii b ≡ ascii → (kept : Bool) → test b ≡ kept → (not ascii || contains set b) ≡ not (test b)
      by true e kept f = in_set set test apart b e
      by false e true f = absurd (true≢false (sym (plain.ascii b f) ∙ e))
      by false e false f = sym (ap not f)

  flipped : (raw : Bool) (b : ℕ) → is_escaped raw set b ≡ not (stands raw test b)
  unfolding is_escaped
  flipped raw b = by (raw && is_raw b) (should_percent_encode set b) (tested b)
    where
      by : (beyond escaped : Bool) → escaped ≡ not (test b) → (escaped && not beyond) ≡ not (beyond || test b)
      by true true e = refl
      by true false e = refl
      by false true e = e
      by false false e = e

  one_byte : (raw : Bool) (b : ℕ) → recoded_byte raw set b ≡ encoded_byte (stands raw test) b
  unfolding recoded_byte
  one_byte raw b = ap (λ c. cond c (percent_encode_byte b) (b ∷ [])) (flipped raw b) ∙ by (stands raw test b)
    where
      by : (kept : Bool) → cond (not kept) (percent_encode_byte b) (b ∷ []) ≡ cond kept (b ∷ []) (percent_encode_byte b)
      by true = refl
      by false = refl

  all_bytes : (raw : Bool) (bytes : Text) → recoded raw set bytes ≡ encoded (stands raw test) bytes
  unfolding recoded encoded
  all_bytes raw [] = refl
  all_bytes raw (b ∷ bytes) = λ i. one_byte raw b i ++ all_bytes raw bytes i

pub encoded-name : (raw : Bool) (bytes : Text) → recoded raw REG_NAME bytes ≡ encoded (stands raw (is_reg_name_char uri_chars)) bytes
unfolding is_reg_name_char
encoded-name = all_bytes REG_NAME (is_reg_name_char uri_chars) plain_name refl

pub encoded-user_info : (raw : Bool) (bytes : Text) → recoded raw USER_INFO bytes ≡ encoded (stands raw (is_user_info_char uri_chars)) bytes
unfolding is_user_info_char is_reg_name_char
encoded-user_info = all_bytes USER_INFO (is_user_info_char uri_chars) plain_user_info refl

pub encoded-segment : (raw : Bool) (bytes : Text) → recoded raw SEGMENT bytes ≡ encoded (stands raw (is_path_char uri_chars)) bytes
unfolding is_path_char is_user_info_char is_reg_name_char
encoded-segment = all_bytes SEGMENT (is_path_char uri_chars) plain_path refl

pub encoded-fragment : (raw : Bool) (bytes : Text) → recoded raw QUERY bytes ≡ encoded (stands raw (is_fragment_char uri_chars)) bytes
unfolding is_fragment_char is_path_char is_user_info_char is_reg_name_char
encoded-fragment = all_bytes QUERY (is_fragment_char uri_chars) plain_fragment refl

pub encoded-query : (raw : Bool) (bytes : Text) → recoded raw QUERY bytes ≡ encoded (stands raw (is_query_char uri_chars)) bytes
unfolding is_query_char is_fragment_char is_path_char is_user_info_char is_reg_name_char
encoded-query = all_bytes QUERY (is_query_char uri_chars) plain_query refl

pub ruleset sets = (encoded-query, encoded-segment)

pub ruleset users = (encoded-user_info)
