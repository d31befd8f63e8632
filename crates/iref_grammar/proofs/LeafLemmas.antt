-- The rules of single components: each test decides its rule.
use Rattle.std.proofs.Common.{arith, ◌≡◌, Bool, true, false, ◌||◌, [], ◌∷◌, ◌++◌, refl, sym, ◌∙◌, ap, subst, lit<, chars, encode_utf8_all, bytes_eq, true≢false}
use Rattle.std.proofs.{lemmas.Grind.{common_steps}, lemmas.Str.{is_utf8-from_IsUtf8, chars-encodes}}
use Rattle.std.proofs.lemmas.Bool.{and_from}
use Rattle.std.specs.{Bool.{Decides}, Str.{is_utf8, all_scalars}}
use Rattle.std.specs.{List.{list_all}, Cmp.Lexicographic.{bytes_decides}, Char.{is_ascii_alphabetic, is_ascii_digit}}
use Rattle.iref_grammar.specs.{Characters.{CharTests, AreAboveAscii}, Rules.{Text, Rule, InUtf8, OneOf, ZeroOrMore}}
use Rattle.iref_grammar.specs.Grammar.{percent_sign, is_reg_name_char, is_user_info_char, is_path_char, is_fragment_char, is_query_char, is_scheme_char, IsUserInfo, IsRegName, IsSegment, IsQuery, IsFragment, IsScheme, IsPort}
use Rattle.iref_grammar.specs.Tests.{in_utf8, is_user_info, is_reg_name, is_segment, is_query, is_fragment, is_scheme, is_port}
use Rattle.iref_grammar.proofs.{TextLemmas.{first_of_both, second_of_both}, RuleLemmas.{Decides-ones}}
use Rattle.iref_grammar.proofs.EncodedLemmas.{Decides-is_encoded}

-- of bytes, where it is so of texts
pub Decides-in_utf8 : (test : Text → Bool) (A : Rule) → ((text : Text) → Decides (test text) (A text)) → (bytes : Text) → Decides (in_utf8 test bytes) (InUtf8 A bytes)
unfolding is_utf8
Decides-in_utf8 test A d bytes = (there, back)
  where
    there : in_utf8 test bytes ≡ true → InUtf8 A bytes
    there h =
        let utf8 = first_of_both (is_utf8 bytes) (test (chars bytes)) h in (
          chars bytes,
          first_of_both (all_scalars (chars bytes)) (bytes_eq (encode_utf8_all (chars bytes)) bytes) utf8,
          (bytes_decides (encode_utf8_all (chars bytes)) bytes).0 (second_of_both (all_scalars (chars bytes)) (bytes_eq (encode_utf8_all (chars bytes)) bytes) utf8),
          (d (chars bytes)).0 (second_of_both (is_utf8 bytes) (test (chars bytes)) h),
        )

    back : InUtf8 A bytes → in_utf8 test bytes ≡ true
    back z = grind (arith, common_steps, chars-encodes, is_utf8-from_IsUtf8)

-- no class has `%`
pub percent_refused : (set : CharTests) → AreAboveAscii set → is_reg_name_char set percent_sign ≡ false
unfolding is_reg_name_char
percent_refused set above = λ i. above.extra percent_sign (lit< tt) i || false

pub user_info_refuses : (set : CharTests) → AreAboveAscii set → is_user_info_char set percent_sign ≡ false
unfolding is_user_info_char
user_info_refuses set above = λ i. percent_refused set above i || false

pub path_refuses : (set : CharTests) → AreAboveAscii set → is_path_char set percent_sign ≡ false
unfolding is_path_char
path_refuses set above = λ i. user_info_refuses set above i || false

pub fragment_refuses : (set : CharTests) → AreAboveAscii set → is_fragment_char set percent_sign ≡ false
unfolding is_fragment_char
fragment_refuses set above = λ i. (path_refuses set above i || false) || false

pub query_refuses : (set : CharTests) → AreAboveAscii set → is_query_char set percent_sign ≡ false
unfolding is_query_char
query_refuses set above = λ i. fragment_refuses set above i || above.private percent_sign (lit< tt) i

pub Decides-is_user_info : (set : CharTests) → AreAboveAscii set → (bytes : Text) → Decides (is_user_info set bytes) (InUtf8 (IsUserInfo set) bytes)
unfolding is_user_info is_utf8
Decides-is_user_info set above = Decides-in_utf8 _ _ (Decides-is_encoded (is_user_info_char set) (user_info_refuses set above))

pub Decides-is_reg_name : (set : CharTests) → AreAboveAscii set → (bytes : Text) → Decides (is_reg_name set bytes) (InUtf8 (IsRegName set) bytes)
unfolding is_reg_name is_utf8
Decides-is_reg_name set above = Decides-in_utf8 _ _ (Decides-is_encoded (is_reg_name_char set) (percent_refused set above))

pub Decides-is_segment : (set : CharTests) → AreAboveAscii set → (bytes : Text) → Decides (is_segment set bytes) (InUtf8 (IsSegment set) bytes)
unfolding is_segment is_utf8
Decides-is_segment set above = Decides-in_utf8 _ _ (Decides-is_encoded (is_path_char set) (path_refuses set above))

pub Decides-is_query : (set : CharTests) → AreAboveAscii set → (bytes : Text) → Decides (is_query set bytes) (InUtf8 (IsQuery set) bytes)
unfolding is_query is_utf8
Decides-is_query set above = Decides-in_utf8 _ _ (Decides-is_encoded (is_query_char set) (query_refuses set above))

pub Decides-is_fragment : (set : CharTests) → AreAboveAscii set → (bytes : Text) → Decides (is_fragment set bytes) (InUtf8 (IsFragment set) bytes)
unfolding is_fragment is_utf8
Decides-is_fragment set above = Decides-in_utf8 _ _ (Decides-is_encoded (is_fragment_char set) (fragment_refuses set above))

-- of a text; a scheme and a port are ASCII
pub Decides-is_scheme : (text : Text) → Decides (is_scheme text) (IsScheme text)
unfolding is_scheme
Decides-is_scheme text = (there text, λ z. subst (λ t. is_scheme t ≡ true) z.4 (back z.0 z.1 z.2 z.3))
  where
    there : (t : Text) → is_scheme t ≡ true → IsScheme t
    there [] h = absurd (true≢false (sym h))
    there (c ∷ cs) h = (
      c ∷ [],
      cs,
      (c, first_of_both (is_ascii_alphabetic c) (list_all is_scheme_char cs) h, refl),
      (Decides-ones is_scheme_char cs).0 (second_of_both (is_ascii_alphabetic c) (list_all is_scheme_char cs) h),
      refl,
    )

    back : (front rest : Text) → OneOf is_ascii_alphabetic front → ZeroOrMore (OneOf is_scheme_char) rest → is_scheme (front ++ rest) ≡ true
    back front rest one more =
        ap (λ f. is_scheme (f ++ rest)) one.2 ∙ and_from (is_ascii_alphabetic one.0) (list_all is_scheme_char rest) one.1 ((Decides-ones is_scheme_char rest).1 more)

pub Decides-is_port : (text : Text) → Decides (is_port text) (IsPort text)
unfolding is_port
Decides-is_port text = Decides-ones is_ascii_digit text
