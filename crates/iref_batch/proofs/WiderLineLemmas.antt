-- A text that is valid as one of URIs is valid in each set.
use Rattle.std.proofs.Common.{arith, ◌≡◌, Bool, true, ◌&&◌, List, [], ◌∷◌, refl, sym, ◌∙◌, Option, Some, None, is_some}
use Rattle.std.proofs.{lemmas.Grind.{common_steps}, lemmas.Bool.{and_from, and_parts}}
use Rattle.std.specs.{List.{list_all}, Str.{is_utf8}}
use Rattle.iref.specs.{Characters.{CharTests, AreAboveAscii, uri_chars, uri_above_ascii}, Rules.{Text}}
use Rattle.iref.specs.Grammar.{is_user_info_char, is_path_char, is_query_char, is_fragment_char}
use Rattle.iref.specs.Tests.{is_user_info, is_host, is_segment, is_path, is_query, is_fragment, none_or}
use Rattle.iref.specs.{Authority.{is_authority, read_authority}, PathValue.{read_path}}
use Rattle.iref.specs.{Reference.{is_reference, is_uri}, PrefixTable.{PrefixEntry, ascii_table, inserted_all}}
use Rattle.iref.specs.Edits.{EditStep, SetScheme, SetAuthority, ReplaceAuthority, SetUserInfo, SetHost, SetPort, SetPortU32, SetPath, SetAndNormalizePath, SetQuery, SetFragment, LazyPush, Push, JoinPath, Pop, Clear, Normalize}
use Rattle.iref_grammar.proofs.LeafLemmas.{Decides-is_user_info, Decides-is_segment, Decides-is_query, Decides-is_fragment}
use Rattle.iref_grammar.proofs.{HostRuleLemmas.{Decides-is_host}, AuthorityRuleLemmas.{Decides-has_authority_parts}}
use Rattle.iref_grammar.proofs.PathTestLemmas.{is_path-segments}
use Rattle.iref_grammar.proofs.WiderLemmas.{wider_than_uri, encoded_wider, user_info_wider, path_wider, query_wider, fragment_wider, host_wider, authority_wider, uri_reference}
use Rattle.iref_batch.specs.Lines.{Request, Parts, Resolve, Relative, Normal, Equal, Edit, ToUri, Compact, Expand, is_valid_edit, is_valid}

-- what the one test takes, the other takes
takes_option : {A : Type 0} (test wide : A → Bool) → ((x : A) → test x ≡ true → wide x ≡ true) → (o : Option A) → none_or test o ≡ true → none_or wide o ≡ true
takes_option test wide f None h = h
takes_option test wide f (Some x) h = f x h

takes_all : {A : Type 0} (test wide : A → Bool) → ((x : A) → test x ≡ true → wide x ≡ true) → (xs : List A) → list_all test xs ≡ true → list_all wide xs ≡ true
takes_all test wide f [] h = refl
takes_all test wide f (x ∷ xs) h = grind (arith, common_steps, takes_all test wide f xs)

takes_both : (a b c d : Bool) → (a ≡ true → c ≡ true) → (b ≡ true → d ≡ true) → (a && b) ≡ true → (c && d) ≡ true
takes_both a b c d f g h = let p = and_parts a b h in and_from c d (f p.0) (g p.1)

module _ (set : CharTests) (above : AreAboveAscii set) where
  reference : (x : Text) → is_reference uri_chars x ≡ true → is_reference set x ≡ true
  reference = uri_reference set above

  full : (x : Text) → is_uri uri_chars x ≡ true → is_uri set x ≡ true
  unfolding is_uri
  full x = grind (arith, common_steps, takes_both, reference)

  user_info : (x : Text) → is_user_info uri_chars x ≡ true → is_user_info set x ≡ true
  user_info x h = (Decides-is_user_info set above x).1 (encoded_wider (is_user_info_char uri_chars) (is_user_info_char set) (user_info_wider uri_chars set (wider_than_uri set)) x ((Decides-is_user_info uri_chars uri_above_ascii x).0 h))

  segment : (x : Text) → is_segment uri_chars x ≡ true → is_segment set x ≡ true
  segment x h = (Decides-is_segment set above x).1 (encoded_wider (is_path_char uri_chars) (is_path_char set) (path_wider uri_chars set (wider_than_uri set)) x ((Decides-is_segment uri_chars uri_above_ascii x).0 h))

  query : (x : Text) → is_query uri_chars x ≡ true → is_query set x ≡ true
  query x h = (Decides-is_query set above x).1 (encoded_wider (is_query_char uri_chars) (is_query_char set) (query_wider uri_chars set (wider_than_uri set)) x ((Decides-is_query uri_chars uri_above_ascii x).0 h))

  fragment : (x : Text) → is_fragment uri_chars x ≡ true → is_fragment set x ≡ true
  fragment x h = (Decides-is_fragment set above x).1 (encoded_wider (is_fragment_char uri_chars) (is_fragment_char set) (fragment_wider uri_chars set (wider_than_uri set)) x ((Decides-is_fragment uri_chars uri_above_ascii x).0 h))

  host : (x : Text) → is_host uri_chars x ≡ true → is_host set x ≡ true
  host x h = (Decides-is_host set above x).1 (host_wider uri_chars set (wider_than_uri set) x ((Decides-is_host uri_chars uri_above_ascii x).0 h))

  authority : (x : Text) → is_authority uri_chars x ≡ true → is_authority set x ≡ true
  unfolding is_authority
  authority x h =
      (Decides-has_authority_parts set above (read_authority x)).1 (authority_wider uri_chars set (wider_than_uri set) (read_authority x) ((Decides-has_authority_parts uri_chars uri_above_ascii (read_authority x)).0 h))

  path : (x : Text) → is_path uri_chars x ≡ true → is_path set x ≡ true
  path x h = is_path-segments set above x ∙ takes_all (is_segment uri_chars) (is_segment set) segment (read_path x).segments (sym (is_path-segments uri_chars uri_above_ascii x) ∙ h)

  edit : (e : EditStep) → is_valid_edit uri_chars e ≡ true → is_valid_edit set e ≡ true
  edit (SetScheme scheme) h = h
  edit (SetAuthority o) h = takes_option (is_authority uri_chars) (is_authority set) authority o h
  edit (ReplaceAuthority a) h = authority a h
  edit (SetUserInfo o) h = takes_option (is_user_info uri_chars) (is_user_info set) user_info o h
  edit (SetHost x) h = host x h
  edit (SetPort port) h = h
  edit (SetPortU32 number) h = h
  edit (SetPath p) h = path p h
  edit (SetAndNormalizePath p) h = path p h
  edit (SetQuery o) h = takes_option (is_query uri_chars) (is_query set) query o h
  edit (SetFragment o) h = takes_option (is_fragment uri_chars) (is_fragment set) fragment o h
  edit (LazyPush s) h = segment s h
  edit (Push s) h = segment s h
  edit (JoinPath p) h = path p h
  edit Pop h = h
  edit Clear h = h
  edit Normalize h = h

  entries : (es : List PrefixEntry) → (list_all (λ (e : PrefixEntry). is_uri uri_chars e.iri) es && is_some (inserted_all es (ascii_table []))) ≡ true
      → (list_all (λ (e : PrefixEntry). is_uri set e.iri) es && is_some (inserted_all es (ascii_table []))) ≡ true
  entries es = grind (arith, common_steps, takes_both, takes_all, full)

  pub valid : (request : Request) → is_valid uri_chars request ≡ true → is_valid set request ≡ true
  unfolding is_valid
  valid (Parts r) h = reference r h
  valid (Resolve r base) h = grind (arith, common_steps, takes_both, reference, full)
  valid (Relative target base) h = grind (arith, common_steps, takes_both, reference)
  valid (Normal p) h = path p h
  valid (Equal r s) h = grind (arith, common_steps, takes_both, reference)
  valid (Edit r edits) h = grind (arith, common_steps, takes_both, reference, takes_all, edit)
  valid (ToUri r) h = reference r h
  valid (Compact iri es) h = takes_both (is_uri uri_chars iri) _ (is_uri set iri) _ (full iri) (entries es) h
  valid (Expand text es) h = takes_both (is_utf8 text) _ (is_utf8 text) _ (λ k. k) (entries es) h
