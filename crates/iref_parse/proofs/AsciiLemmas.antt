-- The table of ASCII characters, checked entry by entry.
use Rattle.std.proofs.Common.{◌≡◌, ℕ, zero, suc, ◌<◌, ◌≤◌, Bool, true, arith, ◌&&◌, ◌||◌, refl, ◌∙◌, ◌==◌, nat_le, codes}
use Rattle.std.proofs.{lemmas.Bool.{ltb-true}, lemmas.Bool.Decides.{Decides-below_and, nat_tests}}
use Rattle.std.specs.List.{slice_index}
use Rattle.std.specs.{Char.{is_ascii, is_ascii_alphanumeric, char_set_contains}, Cmp.{booleans_Decides}}
use mathlib.Core.Bool.{beq}
use Rattle.iref_parse.specs.declared.ascii.TheConstants.{FIRST_RULES}
use Rattle.iref_parse.specs.CharRules.{allowed_by}
use Rattle.iref_grammar.specs.Characters.{CharTests, AreAboveAscii, uri_chars}
use Rattle.iref_grammar.specs.Grammar.{colon, at_sign, slash, question_mark, is_not_percent, is_sub_delim, is_reg_name_char, is_user_info_char, is_path_char, is_fragment_char, is_query_char}

-- whether the rule of this number has the byte, by the table
abbrev pub listed : ℕ → ℕ → Bool
listed n b = nat_le (slice_index FIRST_RULES b) n

-- whether it has it, by the grammar
abbrev pub allowed : (ℕ → Bool) → ℕ → Bool
allowed test b = is_ascii b && (is_not_percent b && test b)

abbrev entries_match : (ℕ → Bool) → ℕ → ℕ → Bool
entries_match test n zero = true
entries_match test n (suc b) = beq (listed n b) (allowed test b) && entries_match test n b

entry : (test : ℕ → Bool) (n : ℕ) → entries_match test n 256 ≡ true → (b : ℕ) → b < 256 → listed n b ≡ allowed test b
entry test n h =
    (Decides-below_and (λ b. beq (listed n b) (allowed test b)) (λ b. listed n b ≡ allowed test b) (entries_match test n) (λ b. booleans_Decides _ _) refl (λ _. refl) 256).0 h

-- a test that agrees with that of a URI on ASCII
by_uri_chars : (uri test : ℕ → Bool) (n : ℕ) → entries_match uri n 256 ≡ true → ((c : ℕ) → c < 128 → test c ≡ uri c) → (b : ℕ) → b < 256 → listed n b ≡ allowed test b
by_uri_chars uri test n h same b low =
    let agree : is_ascii b ≡ true → test b ≡ uri b = λ e. same b (ltb-true b 128 e) in
    let both : allowed uri b ≡ allowed test b = grind (arith, nat_tests) in
    entry uri n h b low ∙ both

pct_str_byte : (b : ℕ) → b < 256 → listed 6 b ≡ allowed is_not_percent b
pct_str_byte = entry is_not_percent 6 refl

module _ (set : CharTests) (above : AreAboveAscii set) where
  -- of ASCII, each set has the same characters
  reg_name_same : (c : ℕ) → c < 128 → is_reg_name_char set c ≡ is_reg_name_char uri_chars c
  unfolding is_reg_name_char
  reg_name_same c h = λ i. (is_ascii_alphanumeric c || char_set_contains (codes "-._~") c || above.extra c h i) || is_sub_delim c

  user_info_same : (c : ℕ) → c < 128 → is_user_info_char set c ≡ is_user_info_char uri_chars c
  unfolding is_user_info_char
  user_info_same c h = λ i. reg_name_same c h i || c == colon

  path_same : (c : ℕ) → c < 128 → is_path_char set c ≡ is_path_char uri_chars c
  unfolding is_path_char
  path_same c h = λ i. user_info_same c h i || c == at_sign

  fragment_same : (c : ℕ) → c < 128 → is_fragment_char set c ≡ is_fragment_char uri_chars c
  unfolding is_fragment_char
  fragment_same c h = λ i. path_same c h i || c == slash || c == question_mark

  query_same : (c : ℕ) → c < 128 → is_query_char set c ≡ is_query_char uri_chars c
  unfolding is_query_char
  query_same c h = λ i. fragment_same c h i || above.private c h i

  pub reg_name_byte : (b : ℕ) → b < 256 → listed 0 b ≡ allowed (is_reg_name_char set) b
  unfolding is_reg_name_char
  reg_name_byte = by_uri_chars (is_reg_name_char uri_chars) (is_reg_name_char set) 0 refl reg_name_same

  user_info_byte : (b : ℕ) → b < 256 → listed 1 b ≡ allowed (is_user_info_char set) b
  unfolding is_user_info_char is_reg_name_char
  user_info_byte = by_uri_chars (is_user_info_char uri_chars) (is_user_info_char set) 1 refl user_info_same

  segment_byte : (b : ℕ) → b < 256 → listed 2 b ≡ allowed (is_path_char set) b
  unfolding is_path_char is_user_info_char is_reg_name_char
  segment_byte = by_uri_chars (is_path_char uri_chars) (is_path_char set) 2 refl path_same

  pub path_byte : (b : ℕ) → b < 256 → listed 3 b ≡ allowed (λ c. is_path_char set c || c == slash) b
  unfolding is_path_char is_user_info_char is_reg_name_char
  path_byte = by_uri_chars (λ c. is_path_char uri_chars c || c == slash) (λ c. is_path_char set c || c == slash) 3 refl (λ c h i. path_same c h i || c == slash)

  pub fragment_byte : (b : ℕ) → b < 256 → listed 4 b ≡ allowed (is_fragment_char set) b
  unfolding is_fragment_char is_path_char is_user_info_char is_reg_name_char
  fragment_byte = by_uri_chars (is_fragment_char uri_chars) (is_fragment_char set) 4 refl fragment_same

  query_byte : (b : ℕ) → b < 256 → listed 5 b ≡ allowed (is_query_char set) b
  unfolding is_query_char is_fragment_char is_path_char is_user_info_char is_reg_name_char
  query_byte = by_uri_chars (is_query_char uri_chars) (is_query_char set) 5 refl query_same

  -- the rule of each number
  pub rule_byte : (rule b : ℕ) → rule ≤ 6 → b < 256 → listed rule b ≡ allowed (allowed_by set rule) b
  unfolding allowed_by
  rule_byte zero b l = reg_name_byte b
  rule_byte (suc zero) b l = user_info_byte b
  rule_byte (suc (suc zero)) b l = segment_byte b
  rule_byte (suc (suc (suc zero))) b l = path_byte b
  rule_byte (suc (suc (suc (suc zero)))) b l = fragment_byte b
  rule_byte (suc (suc (suc (suc (suc zero))))) b l = query_byte b
  rule_byte (suc (suc (suc (suc (suc (suc zero)))))) b l = pct_str_byte b
  rule_byte (suc (suc (suc (suc (suc (suc (suc n))))))) b l = absurd (omega (arith, l))
