-- Texts in the rules as they are written, each with its division.
use Rattle.std.proofs.Common.{◌≡◌, ℕ, Bool, true, false, [], ◌++◌, refl, inl, inr, codes}
use Rattle.iref_grammar.specs.{Characters.{uri_chars}, Rules.{Text, Rule, Mark, ◌⨾◌}}
use Rattle.iref_grammar.specs.Grammar.{is_reg_name_char, is_user_info_char, is_path_char, is_fragment_char, is_query_char, percent_sign, IsEncoded, IsAuthority, IsSegment, IsAbEmptyPath, IsUri, IsUriReference}
use Rattle.iref_grammar.specs.Tests.{is_encoded, owed_after}
use Rattle.iref_grammar.proofs.{RuleLemmas.{none_of, one_more}, LeafLemmas.{Decides-is_scheme, Decides-is_port}}
use Rattle.iref_grammar.proofs.EncodedLemmas.{Decides-is_encoded}

joined : {A B : Rule} (a b : Text) → A a → B b → (A ⨾ B) (a ++ b)
joined a b x y = (a, b, x, y, refl)

-- text of characters and escapes
encoded : (test : ℕ → Bool) (text : Text) → test percent_sign ≡ false → is_encoded test text ≡ true → IsEncoded test text
encoded test text safe h = (Decides-is_encoded test safe text).0 h

segment : (s : Text) → is_encoded (is_path_char uri_chars) s ≡ true → IsSegment uri_chars s
unfolding is_reg_name_char is_user_info_char is_path_char
segment s h = encoded (is_path_char uri_chars) s refl h

-- `/a`
slash_a : IsAbEmptyPath uri_chars (codes "/a")
unfolding is_reg_name_char is_user_info_char is_path_char owed_after
slash_a = one_more (Mark 47 ⨾ IsSegment uri_chars) (codes "/a") [] (joined {B = IsSegment uri_chars} (codes "/") (codes "a") refl (segment (codes "a") refl)) (none_of (Mark 47 ⨾ IsSegment uri_chars))

authority : IsAuthority uri_chars (codes "u@h:8")
unfolding is_reg_name_char is_user_info_char is_path_char owed_after Rattle.iref_grammar.specs.Tests.is_port
authority =
    joined (codes "u@") (codes "h:8") (inr (joined (codes "u") (codes "@") (encoded (is_user_info_char uri_chars) (codes "u") refl refl) refl))
    (joined (codes "h") (codes ":8") (inr (inr (encoded (is_reg_name_char uri_chars) (codes "h") refl refl))) (inr (joined (codes ":") (codes "8") refl ((Decides-is_port (codes "8")).0 refl))))

whole : IsUri uri_chars (codes "s://u@h:8/a?q#f")
unfolding is_reg_name_char is_user_info_char is_path_char is_fragment_char is_query_char owed_after Rattle.iref_grammar.specs.Tests.is_scheme
whole =
    joined (codes "s") (codes "://u@h:8/a?q#f") ((Decides-is_scheme (codes "s")).0 refl)
    (joined (codes ":") (codes "//u@h:8/a?q#f") refl
    (joined (codes "//u@h:8/a") (codes "?q#f")
    (inl (joined (codes "/") (codes "/u@h:8/a") refl (joined (codes "/") (codes "u@h:8/a") refl (joined (codes "u@h:8") (codes "/a") authority slash_a))))
    (joined (codes "?q") (codes "#f") (inr (joined (codes "?") (codes "q") refl (encoded (is_query_char uri_chars) (codes "q") refl refl)))
    (inr (joined (codes "#") (codes "f") refl (encoded (is_fragment_char uri_chars) (codes "f") refl refl))))))

-- the empty text is a reference
nothing : IsUriReference uri_chars []
nothing = inr ([], [], inr (inr (inr refl)), ([], [], inl refl, inl refl, refl), refl)
