-- Bytes that are decoded and encoded anew.
use Rattle.std.proofs.Common.{◌≡◌, ℕ, ◌<◌, Bool, true, not, cond, ◌&&◌, ◌||◌, [], ◌∷◌, ◌++◌, refl, sym, ◌∙◌, ap}
use Rattle.std.proofs.lemmas.Bool.{agree_below_at, and_from, and_parts, ltb-true, not-true}
use Rattle.std.proofs.{lemmas.Grind.{flat_map-append}, lemmas.List.{append-nil}}
use Rattle.std.specs.{Char.{is_ascii}, List.{list_all}}
use Rattle.percent_encoding.specs.{declared.ascii_set.AsciiSet.{AsciiSet}, AsciiSet.{should_percent_encode}}
use Rattle.percent_encoding.specs.Percent.{percent_decode, percent_encode_byte, percent_sign}
use Rattle.percent_encoding.proofs.PercentLemmas.{percent_decode-nil}
use Rattle.iref_grammar.specs.{Grammar.{is_not_percent}, Rules.{Text}}
use Rattle.iref_grammar.proofs.LackLemmas.{all_lacks}
use Rattle.iref_parse.specs.Plain.{is_name_byte}
use Rattle.iref_canonical.specs.Canonical.{is_raw}
use Rattle.iref_canonical.specs.Decoded.{SparesNames, SplitsLast, is_escaped, is_passed, is_unchanged, recoded, recoded_byte}
use Rattle.iref_canonical.specs.declared.authority.TheConstants.{NOTHING}
use Rattle.iref_canonical.specs.declared.encoded.TheConstants.{QUERY, REG_NAME, SEGMENT, USER_INFO}
use Rattle.iref_canonical.proofs.CanonicalPartLemmas.{decoded-lacks}

-- ---- names

-- what holds of each number below 128 holds of a character of a name
module _ (test : ℕ → Bool) (all : (b : ℕ) → b < 128 → (not (is_name_byte b) || test b) ≡ true) where
  each_name : (b : ℕ) → is_name_byte b ≡ true → test b ≡ true
  each_name b h = (λ i. not (sym h i) || test b) ∙ all b (ltb-true b 128 (and_parts (is_ascii b) _ h).0)

name_other : (b : ℕ) → is_name_byte b ≡ true → is_not_percent b ≡ true
name_other = each_name is_not_percent (λ b l. agree_below_at (λ c. not (is_name_byte c) || is_not_percent c) (λ c. true) 128 b refl l)

names_other : (text : Text) → list_all is_name_byte text ≡ true → list_all is_not_percent text ≡ true
names_other [] h = refl
names_other (b ∷ bytes) h =
    let both = and_parts (is_name_byte b) (list_all is_name_byte bytes) h in
    and_from (is_not_percent b) (list_all is_not_percent bytes) (name_other b both.0) (names_other bytes both.1)

spares : (set : AsciiSet) → ((b : ℕ) → b < 128 → (not (is_name_byte b) || not (should_percent_encode set b)) ≡ true) → SparesNames set
spares set all b h = not-true (should_percent_encode set b) (each_name (λ c. not (should_percent_encode set c)) all b h)

pub spared-nothing : SparesNames NOTHING
unfolding should_percent_encode
spared-nothing = spares NOTHING (λ b l. agree_below_at (λ c. not (is_name_byte c) || not (should_percent_encode NOTHING c)) (λ c. true) 128 b refl l)

pub spared-name : SparesNames REG_NAME
unfolding should_percent_encode
spared-name = spares REG_NAME (λ b l. agree_below_at (λ c. not (is_name_byte c) || not (should_percent_encode REG_NAME c)) (λ c. true) 128 b refl l)

pub spared-user_info : SparesNames USER_INFO
unfolding should_percent_encode
spared-user_info = spares USER_INFO (λ b l. agree_below_at (λ c. not (is_name_byte c) || not (should_percent_encode USER_INFO c)) (λ c. true) 128 b refl l)

pub spared-segment : SparesNames SEGMENT
unfolding should_percent_encode
spared-segment = spares SEGMENT (λ b l. agree_below_at (λ c. not (is_name_byte c) || not (should_percent_encode SEGMENT c)) (λ c. true) 128 b refl l)

pub spared-query : SparesNames QUERY
unfolding should_percent_encode
spared-query = spares QUERY (λ b l. agree_below_at (λ c. not (is_name_byte c) || not (should_percent_encode QUERY c)) (λ c. true) 128 b refl l)

pub ruleset spared = (spared-nothing, spared-name, spared-user_info, spared-segment, spared-query)

-- ---- bytes that are encoded anew

module _ (raw : Bool) (set : AsciiSet) where
  -- the last byte is encoded last
  recoded-last : (front : Text) (byte : ℕ) → recoded raw set (front ++ byte ∷ []) ≡ recoded raw set front ++ recoded_byte raw set byte
  unfolding recoded
  recoded-last front byte = flat_map-append (recoded_byte raw set) front (byte ∷ []) ∙ ap (λ t. recoded raw set front ++ t) (append-nil (recoded_byte raw set byte))

  pub encoded-last : (text front : Text) (byte : ℕ) → SplitsLast percent_decode text front byte
      → recoded raw set (percent_decode text) ≡ recoded raw set (percent_decode front) ++ recoded_byte raw set byte
  encoded-last text front byte h = ap (recoded raw set) h.split ∙ recoded-last (percent_decode front) byte

  pub encoded-nothing : (text : Text) → text ≡ [] → recoded raw set (percent_decode text) ≡ []
  unfolding recoded
  encoded-nothing text e = ap (λ t. recoded raw set (percent_decode t)) e ∙ ap (recoded raw set) percent_decode-nil

  passed-encoded : (text : Text) → list_all (is_unchanged raw set) text ≡ true → recoded raw set text ≡ text
  unfolding recoded recoded_byte
  passed-encoded [] h = refl
  passed-encoded (b ∷ bytes) h =
      let both = and_parts (is_unchanged raw set b) (list_all (is_unchanged raw set) bytes) h in
      let kept = not-true _ both.0 in
      λ i. cond (kept i) (percent_encode_byte b) (b ∷ []) ++ passed-encoded bytes both.1 i

  names_unchanged : SparesNames set → (text : Text) → list_all is_name_byte text ≡ true → list_all (is_unchanged raw set) text ≡ true
  unfolding is_escaped
  names_unchanged spares [] h = refl
  names_unchanged spares (b ∷ bytes) h =
      let both = and_parts (is_name_byte b) (list_all is_name_byte bytes) h in
      let stays = ap (λ e. not (e && not (raw && is_raw b))) (spares b both.0) in
      and_from (is_unchanged raw set b) (list_all (is_unchanged raw set) bytes) stays (names_unchanged spares bytes both.1)

  names-passed : SparesNames set → (text : Text) → list_all is_name_byte text ≡ true → is_passed raw set text ≡ true
  unfolding is_passed
  names-passed spares text h = and_from (list_all is_not_percent text) (list_all (is_unchanged raw set) text) (names_other text h) (names_unchanged spares text h)

  -- a text of such bytes stands
  pub encoded-already : (text : Text) → is_passed raw set text ≡ true → recoded raw set (percent_decode text) ≡ text
  unfolding is_passed
  encoded-already text h =
      let both = and_parts (list_all is_not_percent text) (list_all (is_unchanged raw set) text) h in
      ap (recoded raw set) (decoded-lacks text (all_lacks is_not_percent percent_sign refl text both.0)) ∙ passed-encoded text both.1

  pub encoded-names : SparesNames set → (text : Text) → list_all is_name_byte text ≡ true → recoded raw set (percent_decode text) ≡ text
  encoded-names spares text h = encoded-already text (names-passed spares text h)

pub ruleset lasts = (encoded-last, encoded-nothing, encoded-already, encoded-names)
