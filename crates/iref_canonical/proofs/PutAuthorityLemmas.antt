-- An authority as it is put: its parts in their order, the host encoded for one of two sets.
use Rattle.std.proofs.Common.{◌≡◌, ℕ, Bool, true, false, not, cond, ◌&&◌, ◌||◌, [], ◌∷◌, ◌++◌, None, refl, sym, ◌∙◌, ap, inl, option_map}
use Rattle.std.proofs.{lemmas.Bool.{and_parts, cond-false}, lemmas.List.{append-nil}}
use Rattle.std.specs.{Option.{option_copied}, Char.{is_ascii}, List.{list_all}}
use Rattle.percent_encoding.specs.AsciiSet.{should_percent_encode}
use Rattle.percent_encoding.specs.Percent.{percent_decode, percent_encode_byte, percent_sign}
use Rattle.iref_grammar.specs.{Authority.{AuthorityValue, read_authority, spell_authority}, Characters.{uri_chars}}
use Rattle.iref_grammar.specs.Grammar.{at_sign, colon, left_bracket, is_reg_name_char, is_user_info_char}
use Rattle.iref_grammar.specs.{Rules.{Text}, Tests.{is_ip_literal}, Texts.{begins_with, lacks, part_then, then_part}}
use Rattle.iref_grammar.proofs.AuthorityLemmas.{read_authority-back}
use Rattle.iref_grammar.proofs.{HostRuleLemmas.{Decides-is_ip_literal, literal_ascii}, CutLemmas.{first_lacks}}
use Rattle.iref_grammar.proofs.LackLemmas.{all_lacks}
use Rattle.iref_grammar.specs.AuthorityKey.{authority_key}
use Rattle.iref_parse.specs.{AuthoritySlices.{authority_of}, Plain.{is_name_byte}}
use Rattle.iref_parse.specs.declared.authority.AuthoritySlices.{AuthoritySlices}
use Rattle.iref_canonical.specs.Canonical.{encoded, is_raw, spelled_authority, spelled_host, stands}
use Rattle.iref_canonical.specs.{Decoded.{is_escaped, recoded, recoded_byte}, declared.authority.TheConstants.{NOTHING}}
use Rattle.iref_canonical.specs.declared.encoded.TheConstants.{REG_NAME}
use Rattle.iref_canonical.proofs.{CanonicalPartLemmas.{decoded-lacks}, EncodedLemmas.{encoded-names, spared-name}}
use Rattle.iref_canonical.proofs.SetLemmas.{encoded-name, in_set}

-- what is ASCII stands where nothing is escaped
ascii-stands : (raw : Bool) (bytes : Text) → list_all is_ascii bytes ≡ true → recoded raw NOTHING bytes ≡ bytes
unfolding recoded recoded_byte is_escaped should_percent_encode
ascii-stands raw [] h = refl
ascii-stands raw (b ∷ bytes) h =
    let parts = and_parts (is_ascii b) (list_all is_ascii bytes) h in
    let none = in_set NOTHING (λ c. true) refl b parts.0 in
    let kept : should_percent_encode NOTHING b ≡ false = (λ i. not (parts.0 i) || none i) in
    let stays : is_escaped raw NOTHING b ≡ false = ap (λ e. e && not (raw && is_raw b)) kept in
    λ i. cond-false (is_escaped raw NOTHING b) (percent_encode_byte b) (b ∷ []) stays i ++ ascii-stands raw bytes parts.1 i

pub encoded-literal : (raw : Bool) (host : Text) → is_ip_literal host ≡ true → recoded raw NOTHING host ≡ spelled_host raw host
encoded-literal raw host h =
    ascii-stands raw host (literal_ascii host ((Decides-is_ip_literal host).0 h)) ∙ ap (λ b. cond b host (encoded (stands raw (is_reg_name_char uri_chars)) host)) (sym h)

pub encoded-other : (raw : Bool) (host : Text) → is_ip_literal host ≡ false → recoded raw REG_NAME host ≡ spelled_host raw host
encoded-other raw host h = encoded-name raw host ∙ ap (λ b. cond b host (encoded (stands raw (is_reg_name_char uri_chars)) host)) (sym h)

-- the parts of an authority as they are put
module _ (raw : Bool) (parts : AuthoritySlices) where
  abbrev pub user_info_part : Text
  user_info_part = part_then (at_sign ∷ []) (option_map (encoded (stands raw (is_user_info_char uri_chars))) (option_map percent_decode (option_copied parts.user_info)))

  abbrev pub host_part : Text
  host_part = spelled_host raw (percent_decode parts.host.now)

  abbrev pub port_part : Text
  port_part = then_part (colon ∷ []) (option_copied parts.port)

  pub authority-spelled : (value : AuthorityValue) → authority_of parts ≡ value
      → spell_authority (spelled_authority raw (authority_key value)) ≡ (user_info_part ++ host_part) ++ port_part
  unfolding spell_authority
  authority-spelled value e = ap (λ a. spell_authority (spelled_authority raw (authority_key a))) (sym e)

-- ---- an authority of name bytes

name_not_mark : (mark : ℕ) → is_name_byte mark ≡ false → (text : Text) → list_all is_name_byte text ≡ true → lacks mark text ≡ true
name_not_mark mark h = all_lacks is_name_byte mark h

begins_lacking : (mark : ℕ) (text : Text) → lacks mark text ≡ true → begins_with (mark ∷ []) text ≡ false
begins_lacking mark [] h = refl
begins_lacking mark (c ∷ cs) h = λ i. first_lacks mark c cs h i && true

-- it is a host
named-read : (text : Text) → list_all is_name_byte text ≡ true → read_authority text ≡ record { user_info = None; host = text; port = None }
unfolding spell_authority
named-read text h =
    let host : AuthorityValue = record { user_info = None; host = text; port = None } in
    let whole = append-nil text in
    ap read_authority (sym whole)
    ∙ read_authority-back host (record {
      user_info = tt;
      without_user_info = λ e. ap (lacks at_sign) whole ∙ name_not_mark at_sign refl text h;
      host = inl (name_not_mark colon refl text h, begins_lacking left_bracket text (name_not_mark left_bracket refl text h));
    })

named-host : (raw : Bool) (text : Text) → list_all is_name_byte text ≡ true → spelled_host raw (percent_decode text) ≡ text
named-host raw text h = by (is_ip_literal (percent_decode text))
  where
    by : (literal : Bool) → cond literal (percent_decode text) (encoded (stands raw (is_reg_name_char uri_chars)) (percent_decode text)) ≡ text
    by true = decoded-lacks text (name_not_mark percent_sign refl text h)
    by false = sym (encoded-name raw (percent_decode text)) ∙ encoded-names raw REG_NAME spared-name text h

-- and it stands
pub named-authority : (raw : Bool) (text : Text) → list_all is_name_byte text ≡ true → spell_authority (spelled_authority raw (authority_key (read_authority text))) ≡ text
unfolding spell_authority
named-authority raw text h = ap (λ a. spell_authority (spelled_authority raw (authority_key a))) (named-read text h) ∙ append-nil (spelled_host raw (percent_decode text)) ∙ named-host raw text h

pub ruleset named = (named-authority)

pub ruleset hosts = (encoded-literal, encoded-other)
