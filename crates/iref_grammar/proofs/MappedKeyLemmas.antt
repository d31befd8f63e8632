-- The mapping of a readable reference has its key.
use Rattle.std.proofs.{Common.{arith, ◌≡◌, true, All, List, [], ◌∷◌, map, refl, ap, subst, Option, Some, None, option_map, IfSome}, lemmas.Grind.{common_steps}}
use Rattle.std.specs.{Str.{str_to_ascii_lowercase}, List.{list_all}}
use Rattle.percent_encoding.specs.Percent.{percent_decode}
use Rattle.percent_encoding.proofs.PercentLemmas.{IsByte}
use Rattle.iref_grammar.specs.{Characters.{CharTests, AreAboveAscii}, Rules.{Text, Rule, InUtf8}}
use Rattle.iref_grammar.specs.{Grammar.{IsScheme, IsUserInfo, IsHost, IsPort, IsQuery, IsFragment}, Tests.{is_segment}}
use Rattle.iref_grammar.specs.{Authority.{AuthorityValue, HasAuthorityParts}, PathValue.{PathValue}}
use Rattle.iref_grammar.specs.Reference.{ReferenceValue, IsReadable}
use Rattle.iref_grammar.proofs.{TextLemmas.{first_of_both, second_of_both}, LeafLemmas.{Decides-is_segment}}
use Rattle.iref_grammar.proofs.{ReadablePartsLemmas.{readable_parts}, ReferenceRuleLemmas.{Decides-is_readable}}
use Rattle.iref_grammar.specs.{AuthorityKey.{authority_key}, PathKey.{path_key}, Key.{key}}
use Rattle.iref_grammar.specs.Mapping.{mapped, mapped_authority, mapped_path, mapped_reference}
use Rattle.iref_grammar.proofs.{NormalGrammarLemmas.{takes_dots}, StepSegmentLemmas.{normal-in}}
use Rattle.iref_grammar.proofs.MappedCharLemmas.{utf8_bytes}
use Rattle.iref_grammar.proofs.MappedRuleLemmas.{mapped-scheme, mapped-port, stays_option}
use Rattle.iref_grammar.proofs.{MappedNormalLemmas.{normal_segments-map}, MappedDecodedLemmas.{decoded-mapped}}

-- bytes in a rule are bytes, so their mapping is the same when decoded
pub decoded_in_rule : (A : Rule) (bytes : Text) → InUtf8 A bytes → percent_decode (mapped bytes) ≡ percent_decode bytes
decoded_in_rule A bytes z = decoded-mapped bytes (subst (All IsByte) z.2 (utf8_bytes z.0 z.1))

-- what is the same after a function is so of a part that may be absent
same_option : {A B : Type 0} (P : A → Type 0) (g : A → A) (f : A → B) → ((x : A) → P x → f (g x) ≡ f x)
    → (o : Option A) → IfSome o P → option_map f (option_map g o) ≡ option_map f o
same_option P g f same None h = refl
same_option P g f same (Some x) h = ap (λ y. Some y) (same x h)

decoded_option : (A : Rule) (o : Option Text) → IfSome o (InUtf8 A)
    → option_map percent_decode (option_map mapped o) ≡ option_map percent_decode o
decoded_option A = same_option (InUtf8 A) mapped percent_decode (decoded_in_rule A)

module _ (set : CharTests) (above : AreAboveAscii set) where
  authority_key-mapped : (a : AuthorityValue) → HasAuthorityParts set a → authority_key (mapped_authority a) ≡ authority_key a
  authority_key-mapped a p = λ i. record {
    user_info = decoded_option (IsUserInfo set) a.user_info p.user_info i;
    host = decoded_in_rule (IsHost set) a.host p.host i;
    port = stays_option (InUtf8 IsPort) mapped mapped-port a.port p.port i;
  }

  segments-mapped : (ss : List Text) → list_all (is_segment set) ss ≡ true → map percent_decode (map mapped ss) ≡ map percent_decode ss
  segments-mapped [] h = refl
  segments-mapped (s ∷ ss) h =
      let one = decoded_in_rule _ s ((Decides-is_segment set above s).0 (first_of_both (is_segment set s) (list_all (is_segment set) ss) h)) in
      let rest = segments-mapped ss (second_of_both (is_segment set s) (list_all (is_segment set) ss) h) in
      λ i. one i ∷ rest i

  pub path_key-mapped : (p : PathValue) → list_all (is_segment set) p.segments ≡ true → path_key (mapped_path p) ≡ path_key p
  unfolding path_key
  path_key-mapped p h = grind (arith, common_steps, normal_segments-map, segments-mapped, normal-in, takes_dots)

  pub key-mapped : (r : ReferenceValue) → IsReadable set r → key (mapped_reference r) ≡ key r
  unfolding key
  key-mapped r v =
      let segments = (readable_parts set r ((Decides-is_readable set above r).1 v)).segments in
      λ i. record {
        scheme = option_map str_to_ascii_lowercase (stays_option (InUtf8 IsScheme) mapped mapped-scheme r.scheme v.scheme i);
        authority = same_option (HasAuthorityParts set) mapped_authority authority_key authority_key-mapped _ v.authority i;
        path = path_key-mapped r.path segments i;
        query = decoded_option (IsQuery set) r.query v.query i;
        fragment = decoded_option (IsFragment set) r.fragment v.fragment i;
      }
