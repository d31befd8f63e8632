-- What a test takes lacks each delimiter that the test refuses.
use Rattle.std.proofs.Common.{◌≡◌, ℕ, ◌<◌, zero, suc, Bool, true, false, not, ◌||◌, [], ◌∷◌, ◌++◌, refl, ◌∙◌, subst, arith, ◌==◌, chars, encode_utf8_all, bytes_eq, Some}
use Rattle.std.proofs.lemmas.Grind.{common_steps}
use Rattle.std.specs.{Char.{char_set_contains, encode_utf8, is_ascii_hexdigit}, Str.{is_utf8, all_scalars}}
use Rattle.std.specs.{List.{list_all}, Cmp.Lexicographic.{bytes_decides}}
use Rattle.iref_grammar.specs.{Rules.{Text}, Grammar.{percent_sign}, Tests.{is_encoded_after, is_encoded, in_utf8}}
use Rattle.iref_grammar.proofs.TextLemmas.{lacks, first_of_both, second_of_both}
use Rattle.iref_grammar.proofs.EncodedLemmas.{by_percent, by_char, by_digit}

pub lacks_more : (mark c : ℕ) (cs : Text) → (c == mark) ≡ false → lacks mark cs ≡ true → lacks mark (c ∷ cs) ≡ true
lacks_more mark c cs h k = (λ i. not (h i || char_set_contains cs mark)) ∙ k

-- the first character is no delimiter, and what follows from the others
split_lacks : (mark c : ℕ) (cs : Text) → lacks mark (c ∷ cs) ≡ true → (ds : Text) → (lacks mark cs ≡ true → lacks mark ds ≡ true) → lacks mark (c ∷ ds) ≡ true
split_lacks mark c cs h ds f = grind arith

pub lacks-append : (mark : ℕ) (xs ys : Text) → lacks mark xs ≡ true → lacks mark ys ≡ true → lacks mark (xs ++ ys) ≡ true
lacks-append mark [] ys h k = k
lacks-append mark (c ∷ cs) ys h k = split_lacks mark c cs h (cs ++ ys) (λ l. lacks-append mark cs ys l k)

lacks_encoded_char : (mark c : ℕ) → mark < 128 → (c == mark) ≡ false → lacks mark (encode_utf8 c) ≡ true
unfolding encode_utf8
lacks_encoded_char mark c h k = grind arith

pub lacks-encoded : (mark : ℕ) (cs : Text) → mark < 128 → lacks mark cs ≡ true → lacks mark (encode_utf8_all cs) ≡ true
lacks-encoded mark [] h k = refl
lacks-encoded mark (c ∷ cs) h k = grind (arith, lacks-append, lacks_encoded_char, lacks-encoded mark cs h)

-- a delimiter is refused: by the test, and as `%` and a digit
pub record IsRefused (test : ℕ → Bool) (mark : ℕ) : Type 0 where
  pub ascii : mark < 128
  pub alone : test mark ≡ false
  pub percent : (mark == percent_sign) ≡ false
  pub digit : is_ascii_hexdigit mark ≡ false

pub encoded_lacks : (test : ℕ → Bool) (mark : ℕ) → IsRefused test mark → (owed : ℕ) (cs : Text) → is_encoded_after test (Some owed) cs ≡ true → lacks mark cs ≡ true
encoded_lacks test mark r owed [] h = refl
encoded_lacks test mark r (suc owed) (c ∷ cs) h = grind (arith, common_steps, by_digit, encoded_lacks test mark r owed cs)
encoded_lacks test mark r zero (c ∷ cs) h = grind (arith, common_steps, by_percent, by_char, encoded_lacks test mark r 2 cs, encoded_lacks test mark r 0 cs)

pub in_utf8_lacks : (test : ℕ → Bool) (mark : ℕ) → IsRefused test mark → (bytes : Text) → in_utf8 (is_encoded test) bytes ≡ true → lacks mark bytes ≡ true
unfolding is_utf8
in_utf8_lacks test mark r bytes h =
    let utf8 = first_of_both (is_utf8 bytes) (is_encoded test (chars bytes)) h in
    let same : encode_utf8_all (chars bytes) ≡ bytes = (bytes_decides (encode_utf8_all (chars bytes)) bytes).0 (second_of_both (all_scalars (chars bytes)) (bytes_eq (encode_utf8_all (chars bytes)) bytes) utf8) in
    subst (λ t. lacks mark t ≡ true) same (lacks-encoded mark (chars bytes) r.ascii (encoded_lacks test mark r 0 (chars bytes) (second_of_both (is_utf8 bytes) (is_encoded test (chars bytes)) h)))

-- a text of characters that pass
pub all_lacks : (test : ℕ → Bool) (mark : ℕ) → test mark ≡ false → (text : Text) → list_all test text ≡ true → lacks mark text ≡ true
all_lacks test mark r [] h = refl
all_lacks test mark r (c ∷ cs) h = grind (arith, all_lacks test mark r cs)
