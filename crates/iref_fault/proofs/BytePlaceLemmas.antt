-- Places in bytes: steps of the scans.
use Rattle.std.proofs.Common.{◌≡◌, ◌≢◌, ℕ, suc, ◌+◌, ◌-◌, ◌≤◌, Bool, false, [], ◌∷◌, length, take, refl, sym, ap, ◌∙◌, arith, chars, IsUtf8, length-append, Option, Some, None, option_map, encode_utf8, encode_utf8_all, ◌==◌, if◌then◌else◌}
use Rattle.std.proofs.{lemmas.Str.{encodes-chars, chars-nil}, lemmas.Bool.Decides.{nat_tests}}
use Rattle.std.proofs.lemmas.List.{nil_from_length}
use Rattle.iref_grammar.specs.{Rules.{Text}, Tests.{owed_after}}
use Rattle.iref_fault.specs.{Places.{bytes_before, encoded_place_after}, BytePlaces.{located}}

-- after a character each place is one character on, and so many bytes
pub located-suc : (start c : ℕ) (cs : Text) (place : Option ℕ) → located start (c ∷ cs) (option_map suc place) ≡ located (start + length (encode_utf8 c)) cs place
located-suc start c cs None = refl
located-suc start c cs (Some n) =
    let same : start + bytes_before (suc n) (c ∷ cs) ≡ start + length (encode_utf8 c) + bytes_before n cs = omega (arith, length-append (encode_utf8 c) (encode_utf8_all (take n cs))) in
    ap (λ m. Some m) same

-- a text is as long as its characters
pub length-chars : (text rest : Text) (c : ℕ) → IsUtf8 text → IsUtf8 rest → chars text ≡ c ∷ chars rest → length text ≡ length (encode_utf8 c) + length rest
length-chars text rest c u v e =
    ap length (sym (encodes-chars text u) ∙ ap encode_utf8_all e) ∙ length-append (encode_utf8 c) (encode_utf8_all (chars rest)) ∙ ap (λ t. length (encode_utf8 c) + length t) (encodes-chars rest v)

-- one more character of a scan, which stands where the rest begins
pub scan_more : (test : ℕ → Bool) (owed left c : ℕ) (text rest after : Text) → IsUtf8 rest → IsUtf8 after → length rest ≤ length text → chars rest ≡ c ∷ chars after → owed_after test owed c ≡ Some left
    → located (length text - length rest) (chars rest) (encoded_place_after test owed (chars rest)) ≡ located (length text - length after) (chars after) (encoded_place_after test left (chars after))
scan_more test owed left c text rest after u v l e h =
    let step : encoded_place_after test owed (c ∷ chars after) ≡ option_map suc (encoded_place_after test left (chars after)) =
    ap (λ o. elim o as (λ _. Option ℕ) [ None ↦ Some 0 | Some m ↦ option_map suc (encoded_place_after test m (chars after)) ]) h in
    let at : length text - length rest + length (encode_utf8 c) ≡ length text - length after = omega (arith, length-chars rest after c u v e) in
    ap (λ cs. located (length text - length rest) cs (encoded_place_after test owed cs)) e
    ∙ ap (located (length text - length rest) (c ∷ chars after)) step
    ∙ located-suc (length text - length rest) c (chars after) (encoded_place_after test left (chars after))
    ∙ ap (λ n. located n (chars after) (encoded_place_after test left (chars after))) at

-- nothing is left of the text, and nothing is owed, or some digits are
pub scan_ends : (test : ℕ → Bool) (owed : ℕ) (text rest : Text) → length rest ≡ 0 → owed ≡ 0 → located (length text - length rest) (chars rest) (encoded_place_after test owed (chars rest)) ≡ None
scan_ends test owed text rest e h =
    ap (λ cs. located (length text - length rest) cs (encoded_place_after test owed cs)) (ap chars (nil_from_length rest e) ∙ chars-nil)
    ∙ ap (λ n. located (length text - length rest) [] (encoded_place_after test n [])) h

pub scan_owes : (test : ℕ → Bool) (owed : ℕ) (text rest : Text) → length rest ≡ 0 → owed ≢ 0 → located (length text - length rest) (chars rest) (encoded_place_after test owed (chars rest)) ≡ Some (length text)
scan_owes test owed text rest e h =
    let some : (owed == 0) ≡ false = grind (arith, nat_tests) in
    let at : length text - length rest + 0 ≡ length text = omega arith in
    ap (λ cs. located (length text - length rest) cs (encoded_place_after test owed cs)) (ap chars (nil_from_length rest e) ∙ chars-nil)
    ∙ ap (λ b. located (length text - length rest) [] (if b then None else Some 0)) some
    ∙ ap (λ n. Some n) at

pub ruleset scan = (scan_more, scan_ends, scan_owes)
