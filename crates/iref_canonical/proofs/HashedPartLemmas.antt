-- What is hashed of a component, of an authority's parts and of components determines its key.
use Rattle.std.proofs.Common.{◌≡◌, ℕ, Bool, true, false, not, ◌||◌, ◌==◌, cond, List, [], ◌∷◌, ◌++◌, refl, sym, ◌∙◌, ap, arith, append_assoc, Some, None}
use Rattle.std.proofs.{lemmas.Bool.{and_from, and_parts}, lemmas.Bool.Decides.{nat_tests}}
use Rattle.std.proofs.{lemmas.Grind.{flat_map-append}, lemmas.List.{append-nil}}
use Rattle.std.proofs.lemmas.List.Folds.{concat-append, list_all-append}
use Rattle.std.specs.{Str.{str_to_ascii_lowercase}, Hash.{HashWrites, le_bytes, option}, List.{concat, list_all}}
use Rattle.percent_encoding.specs.Percent.{percent_decode, percent_encode_byte, percent_sign}
use Rattle.percent_encoding.proofs.PercentLemmas.{percent_decode-nil, percent_decode_not_percent, percent_decode-percent_encode_byte}
use Rattle.iref_grammar.specs.{Authority.{AuthorityValue}, Reference.{ReferenceValue}, Rules.{Text}}
use Rattle.iref_grammar.proofs.MappedLemmas.{escape_ascii}
use Rattle.iref_parse.specs.Plain.{is_unescaped_byte}
use Rattle.iref_splice.specs.Fed.{is_unended, IsSelfDelimiting}
use Rattle.iref_splice.proofs.DelimitLemmas.{text-delimits}
use Rattle.iref_canonical.specs.{Decoded.{SplitsLast}, Lower.{is_lower}, Hashed.{fed_lone_path, IsPathKey}}
use Rattle.iref_canonical.specs.HashedParts.{fed_authority, fed_components, fed_part, HasPathKey, hashed_byte, hashed_bytes, IsAny}
use Rattle.iref_canonical.proofs.{PlainReferenceLemmas.{lower_same}, PlainTextLemmas.{standing-decoded}}
use Rattle.iref_canonical.proofs.{HashedLemmas.{path-delimits}, HashedTextLemmas.{ascii-unended}}

-- ---- of a text

abbrev is_hashed_escaped : ℕ → Bool
is_hashed_escaped b = b == percent_sign || b == 255

decoded-hashed : (bytes : Text) → percent_decode (hashed_bytes bytes) ≡ bytes
decoded-hashed [] = percent_decode-nil
decoded-hashed (b ∷ bs) = by (is_hashed_escaped b) refl (decoded-hashed bs)
  where
    by : (escaped : Bool) → is_hashed_escaped b ≡ escaped → percent_decode (hashed_bytes bs) ≡ bs → percent_decode (cond escaped (percent_encode_byte b) (b ∷ []) ++ hashed_bytes bs) ≡ b ∷ bs
    by true e rest = percent_decode-percent_encode_byte b (hashed_bytes bs) (grind (arith, nat_tests)) ∙ ap (λ x. b ∷ x) rest
    by false e rest = percent_decode_not_percent b (hashed_bytes bs) (λ same. let bad : ⊥ = grind (arith, nat_tests) in bad) ∙ ap (λ x. b ∷ x) rest

unended-hashed : (bytes : Text) → is_unended (hashed_bytes bytes) ≡ true
unended-hashed [] = refl
unended-hashed (b ∷ bs) = by (is_hashed_escaped b) refl (unended-hashed bs)
  where
    by : (escaped : Bool) → is_hashed_escaped b ≡ escaped → is_unended (hashed_bytes bs) ≡ true → is_unended (cond escaped (percent_encode_byte b) (b ∷ []) ++ hashed_bytes bs) ≡ true
    by true e rest = list_all-append _ (percent_encode_byte b) (hashed_bytes bs) ∙ and_from _ _ (ascii-unended (percent_encode_byte b) (escape_ascii b)) rest
    by false e rest = and_from (not (b == 255)) (is_unended (hashed_bytes bs)) (grind (arith, nat_tests)) rest

-- a text of ASCII without `%` stands
pub hashed-unescaped : (text : Text) → list_all is_unescaped_byte text ≡ true → hashed_bytes text ≡ text
hashed-unescaped [] h = refl
hashed-unescaped (b ∷ bs) h =
    let both = and_parts (is_unescaped_byte b) (list_all is_unescaped_byte bs) h in
    let one : hashed_byte b ≡ b ∷ [] = grind (arith, nat_tests) in
    λ i. one i ++ hashed-unescaped bs both.1 i

pub part-delimits : IsSelfDelimiting IsAny fed_part
unfolding fed_part
part-delimits a b h k r s e =
    let both = text-delimits (hashed_bytes a) (hashed_bytes b) (unended-hashed a) (unended-hashed b) r s e in
    (sym (decoded-hashed a) ∙ ap percent_decode both.0 ∙ decoded-hashed b, both.1)

-- ---- one after the other

abbrev head_of : List ℕ → ℕ
head_of [] = 0
head_of (x ∷ xs) = x

abbrev tail_of : List ℕ → List ℕ
tail_of [] = []
tail_of (x ∷ xs) = xs

-- the bytes of one list of writes after another, with anything behind
behind : (us vs : HashWrites) (r : List ℕ) → concat (us ++ vs) ++ r ≡ concat us ++ (concat vs ++ r)
behind us vs r = ap (λ l. l ++ r) (concat-append us vs) ∙ append_assoc (concat us) (concat vs) r

module _ {T : Type 0} (known : T → Type 0) (F : T → HashWrites) (law : IsSelfDelimiting known F) where
  -- what is hashed first is determined, and what follows it is the same
  first_fed : (a b : T) → known a → known b → (us vs : HashWrites) (r s : List ℕ)
      → concat (F a ++ us) ++ r ≡ concat (F b ++ vs) ++ s → (a ≡ b) × (concat us ++ r ≡ concat vs ++ s)
  first_fed a b h k us vs r s e = law a b h k (concat us ++ r) (concat vs ++ s) (sym (behind (F a) us r) ∙ e ∙ behind (F b) vs s)

module _ {T : Type 0} (F : T → HashWrites) (law : IsSelfDelimiting IsAny F) where
  abbrev tail8 : List ℕ → List ℕ
  tail8 l = tail_of (tail_of (tail_of (tail_of (tail_of (tail_of (tail_of (tail_of l)))))))

  -- std's mark of an option, and what it holds
  option_feed_delimits : IsSelfDelimiting IsAny (option F)
  unfolding le_bytes
  option_feed_delimits None None h k r s e = (refl, ap tail8 e)
  option_feed_delimits None (Some y) h k r s e = let first : 0 ≡ 1 = ap head_of e in absurd (omega (arith, first))
  option_feed_delimits (Some x) None h k r s e = let first : 1 ≡ 0 = ap head_of e in absurd (omega (arith, first))
  option_feed_delimits (Some x) (Some y) h k r s e = let rest = law x y record {} record {} r s (ap tail8 e) in (ap Some rest.0, rest.1)

optional : IsSelfDelimiting IsAny (option fed_part)
optional = option_feed_delimits fed_part part-delimits

pub authority-delimits : IsSelfDelimiting IsAny fed_authority
authority-delimits a b h k r s e =
    let port_of : AuthorityValue → HashWrites = λ v. option fed_part v.port in
    let host_of : AuthorityValue → HashWrites = λ v. fed_part v.host ++ port_of v in
    let spread : (v : AuthorityValue) → fed_authority v ≡ option fed_part v.user_info ++ host_of v =
    λ v. append_assoc (option fed_part v.user_info) (fed_part v.host) (option fed_part v.port) in
    let user_info = first_fed IsAny (option fed_part) optional a.user_info b.user_info record {} record {} (host_of a) (host_of b) r s
    (ap (λ us. concat us ++ r) (sym (spread a)) ∙ e ∙ ap (λ us. concat us ++ s) (spread b)) in
    let host = first_fed IsAny fed_part part-delimits a.host b.host record {} record {} (port_of a) (port_of b) r s user_info.1 in
    let port = optional a.port b.port record {} record {} r s host.1 in
    ((λ i. record { user_info = user_info.0 i; host = host.0 i; port = port.0 i }), port.1)

pub components-delimit : IsSelfDelimiting HasPathKey fed_components
unfolding fed_components
components-delimit a b h k r s e =
    let fragment_of : ReferenceValue → HashWrites = λ v. option fed_part v.fragment in
    let query_of : ReferenceValue → HashWrites = λ v. option fed_part v.query ++ fragment_of v in
    let path_of : ReferenceValue → HashWrites = λ v. fed_lone_path v.path ++ query_of v in
    let authority_of : ReferenceValue → HashWrites = λ v. option fed_authority v.authority ++ path_of v in
    let spread : (v : ReferenceValue) → fed_components v ≡ option fed_part v.scheme ++ authority_of v =
    λ v. let scheme = option fed_part v.scheme in
    let authority = option fed_authority v.authority in
    append_assoc (scheme ++ authority ++ fed_lone_path v.path) (option fed_part v.query) (fragment_of v)
    ∙ append_assoc (scheme ++ authority) (fed_lone_path v.path) (query_of v) ∙ append_assoc scheme authority (path_of v) in
    let scheme = first_fed IsAny (option fed_part) optional a.scheme b.scheme record {} record {} (authority_of a) (authority_of b) r s
    (ap (λ us. concat us ++ r) (sym (spread a)) ∙ e ∙ ap (λ us. concat us ++ s) (spread b)) in
    let authority = first_fed IsAny (option fed_authority) (option_feed_delimits fed_authority authority-delimits) a.authority b.authority record {} record {} (path_of a) (path_of b) r s scheme.1 in
    let path = first_fed IsPathKey fed_lone_path path-delimits a.path b.path h k (query_of a) (query_of b) r s authority.1 in
    let query = first_fed IsAny (option fed_part) optional a.query b.query record {} record {} (fragment_of a) (fragment_of b) r s path.1 in
    let fragment = optional a.fragment b.fragment record {} record {} r s query.1 in
    ((λ i. record { scheme = scheme.0 i; authority = authority.0 i; path = path.0 i; query = query.0 i; fragment = fragment.0 i }), fragment.1)

-- ---- from the last byte

last-hashed : (front : Text) (byte : ℕ) → hashed_bytes (front ++ byte ∷ []) ≡ hashed_bytes front ++ hashed_byte byte
last-hashed front byte = flat_map-append hashed_byte front (byte ∷ []) ∙ ap (λ t. hashed_bytes front ++ t) (append-nil (hashed_byte byte))

pub last-split : (bytes : Text → Text) (text front : Text) (byte : ℕ) → SplitsLast bytes text front byte → hashed_bytes (bytes text) ≡ hashed_bytes (bytes front) ++ hashed_byte byte
last-split bytes text front byte h = ap hashed_bytes h.split ∙ last-hashed (bytes front) byte

pub ruleset last = (last-split)

-- ---- of a text that stands

pub decoded-stands : (text : Text) → list_all is_unescaped_byte text ≡ true → hashed_bytes (percent_decode text) ≡ text
decoded-stands text h = ap hashed_bytes (standing-decoded false text h) ∙ hashed-unescaped text h

pub lower-stands : (text : Text) → list_all is_unescaped_byte text ≡ true → is_lower text ≡ true → hashed_bytes (str_to_ascii_lowercase text) ≡ text
lower-stands text h low = ap hashed_bytes (lower_same text low) ∙ hashed-unescaped text h

pub ruleset stands = (decoded-stands, lower-stands, hashed-unescaped)
