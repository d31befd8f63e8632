-- Parts that may be left out, lists of parts, and the parts that are ASCII.
use Rattle.std.proofs.Common.{◌≡◌, ℕ, Bool, true, false, List, [], ◌∷◌, refl, arith, ◌≤◌, Option, Some, None, IfSome}
use Rattle.std.proofs.lemmas.Bool.Decides.{nat_tests, Decides-like, Decides-and}
use Rattle.std.specs.Char.{is_ascii_alphabetic, is_ascii_digit, is_ascii}
use Rattle.std.specs.{List.{list_all, AllByRecursion}, Bool.{Decides}}
use Rattle.iref_grammar.specs.{Rules.{Text, InUtf8}, Grammar.{is_scheme_char, IsScheme, IsPort}}
use Rattle.iref_grammar.specs.Tests.{none_or, is_port, is_scheme}
use Rattle.iref_grammar.proofs.{LackLemmas.{all_lacks}, LeafLemmas.{Decides-is_scheme, Decides-is_port}}
use Rattle.iref_grammar.proofs.{ComponentLackLemmas.{scheme_lacks}, Utf8RuleLemmas.{in_utf8-ascii, ascii_from_lacks}}

-- ---- options and lists

pub Decides-none_or : {A : Type 0} (test : A → Bool) (P : A → Type 0) → ((x : A) → Decides (test x) (P x)) → (o : Option A) → Decides (none_or test o) (IfSome o P)
Decides-none_or test P d None = (λ h. tt, λ h. refl)
Decides-none_or test P d (Some x) = d x

pub Decides-all : {A : Type 0} (test : A → Bool) (P : A → Type 0) → ((x : A) → Decides (test x) (P x)) → (xs : List A) → Decides (list_all test xs) (AllByRecursion P xs)
Decides-all test P d [] = (λ h. tt, λ h. refl)
Decides-all test P d (x ∷ xs) = Decides-and (test x) (list_all test xs) (d x) (Decides-all test P d xs)

-- ---- schemes and ports, of bytes

pub letter_low : (mark : ℕ) → 128 ≤ mark → is_ascii_alphabetic mark ≡ false
letter_low mark h = grind (arith, nat_tests)

pub scheme_low : (mark : ℕ) → 128 ≤ mark → is_scheme_char mark ≡ false
scheme_low mark h = grind (arith, nat_tests)

pub digit_low : (mark : ℕ) → 128 ≤ mark → is_ascii_digit mark ≡ false
digit_low mark h = grind (arith, nat_tests)

scheme_ascii : (text : Text) → IsScheme text → list_all is_ascii text ≡ true
scheme_ascii text z = ascii_from_lacks text (λ m h. scheme_lacks m (letter_low m h) (scheme_low m h) text ((Decides-is_scheme text).1 z))

port_ascii : (text : Text) → IsPort text → list_all is_ascii text ≡ true
unfolding is_port
port_ascii text z = ascii_from_lacks text (λ m h. all_lacks is_ascii_digit m (digit_low m h) text ((Decides-is_port text).1 z))

pub Decides-is_scheme_bytes : (bytes : Text) → Decides (is_scheme bytes) (InUtf8 IsScheme bytes)
Decides-is_scheme_bytes bytes = Decides-like (is_scheme bytes) (in_utf8-ascii IsScheme scheme_ascii bytes).1 (in_utf8-ascii IsScheme scheme_ascii bytes).0 (Decides-is_scheme bytes)

pub Decides-is_port_bytes : (bytes : Text) → Decides (is_port bytes) (InUtf8 IsPort bytes)
Decides-is_port_bytes bytes = Decides-like (is_port bytes) (in_utf8-ascii IsPort port_ascii bytes).1 (in_utf8-ascii IsPort port_ascii bytes).0 (Decides-is_port bytes)
