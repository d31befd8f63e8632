-- A readable reference is delimited, so it is the one that is read from its text.
use Rattle.std.proofs.Common.{arith, ◌≡◌, ℕ, Bool, true, false, ◌&&◌, List, [], ◌∷◌, ◌++◌, refl, ◌==◌, Option, Some, None, option_map, codes, IfSome}
use Rattle.std.proofs.lemmas.Bool.{and_parts}
use Rattle.std.specs.{Char.{is_ascii_alphabetic}, List.{list_all, join_with_byte}}
use Rattle.iref_grammar.specs.{Rules.{Text}, Grammar.{hash_sign, slash, colon, question_mark, at_sign, is_scheme_char}}
use Rattle.iref_grammar.specs.Texts.{part_then, then_part}
use Rattle.iref_grammar.specs.Authority.{AuthorityValue, spell_authority, has_authority_parts}
use Rattle.iref_grammar.specs.Reference.{spell, read_reference, ReferenceValue, context_of, is_readable}
use Rattle.iref_grammar.specs.{PathValue.{spell_path, shows_its_list}, Contexts.{is_no_authority, is_no_scheme}}
use Rattle.iref_grammar.specs.{Characters.{CharTests, AreAboveAscii}, Tests.{none_or, is_scheme, is_segment, is_query}}
use Rattle.iref_grammar.proofs.{TextLemmas.{lacks}, ReadablePartsLemmas.{readable_parts}}
use Rattle.iref_grammar.proofs.{LackLemmas.{lacks_more, lacks-append}, HostLemmas.{join_lacks}}
use Rattle.iref_grammar.proofs.OnlyLemmas.{IsDelimited, front_of, read_reference-back}
use Rattle.iref_grammar.proofs.AuthorityLemmas.{IsDelimitedAuthority, delimited_authority, whole_authority_lacks}
use Rattle.iref_grammar.proofs.ComponentLackLemmas.{scheme_lacks, IsCut, slash_cuts, question_cuts, hash_cuts, segments_lack, query_lacks, part_then_lacks, then_part_lacks, option_lacks}

path_lacks : (mark : ℕ) → (slash == mark) ≡ false → (absolute : Bool) (segments : List Text) → list_all (lacks mark) segments ≡ true → lacks mark (spell_path (record { absolute = absolute; segments = segments })) ≡ true
unfolding spell_path
path_lacks mark h true segments k = lacks_more mark slash (join_with_byte slash segments) h (join_lacks mark slash h segments k)
path_lacks mark h false segments k = join_lacks mark slash h segments k

module _ (set : CharTests) (above : AreAboveAscii set) where
  authority_part_lacks : (mark : ℕ) → IsCut mark → (at_sign == mark) ≡ false → (slash == mark) ≡ false → (o : Option AuthorityValue) → none_or (has_authority_parts set) o ≡ true → lacks mark (then_part (codes "//") (option_map spell_authority o)) ≡ true
  authority_part_lacks mark m n s None h = refl
  authority_part_lacks mark m n s (Some a) h = grind (arith, whole_authority_lacks)

  front_lacks : (mark : ℕ) → IsCut mark → (mark == at_sign) ≡ false → (at_sign == mark) ≡ false → (slash == mark) ≡ false → is_ascii_alphabetic mark ≡ false → is_scheme_char mark ≡ false
      → (r : ReferenceValue) → none_or is_scheme r.scheme ≡ true → none_or (has_authority_parts set) r.authority ≡ true → list_all (is_segment set) r.path.segments ≡ true → lacks mark (front_of r) ≡ true
  front_lacks mark m n n' s al sc r hs ha hp =
      lacks-append mark (part_then (colon ∷ []) r.scheme) (then_part (codes "//") (option_map spell_authority r.authority) ++ spell_path r.path)
      (part_then_lacks mark colon m.colon_not r.scheme (option_lacks mark is_scheme (scheme_lacks mark al sc) r.scheme hs))
      (lacks-append mark (then_part (codes "//") (option_map spell_authority r.authority)) (spell_path r.path) (authority_part_lacks mark m n' s r.authority ha)
      (path_lacks mark s r.path.absolute r.path.segments (segments_lack set above mark m n r.path.segments hp)))

  scheme_delimited : (o : Option Text) → none_or is_scheme o ≡ true → IfSome o (λ s. (lacks colon s ≡ true) × (lacks slash s ≡ true))
  scheme_delimited None h = tt
  scheme_delimited (Some s) h = (scheme_lacks colon refl refl s h, scheme_lacks slash refl refl s h)

  authority_delimited : (o : Option AuthorityValue) → none_or (has_authority_parts set) o ≡ true → IfSome o (λ a. IsDelimitedAuthority a × (lacks slash (spell_authority a) ≡ true))
  authority_delimited None h = tt
  authority_delimited (Some a) h = (delimited_authority set above a h, whole_authority_lacks set above slash slash_cuts refl a h)

  -- a readable reference is delimited
  pub readable_delimited : (r : ReferenceValue) → is_readable set r ≡ true → IsDelimited r
  readable_delimited r h =
      let parts = readable_parts set r h in
      let shown = and_parts (shows_its_list r.path && is_no_authority (context_of r) r.path) (is_no_scheme (context_of r) r.path) parts.reads in
      let list = and_parts (shows_its_list r.path) (is_no_authority (context_of r) r.path) shown.0 in
      record {
        scheme = scheme_delimited r.scheme parts.scheme;
        authority = authority_delimited r.authority parts.authority;
        segments = segments_lack set above slash slash_cuts refl r.path.segments parts.segments;
        before_query = front_lacks question_mark question_cuts refl refl refl refl refl r parts.scheme parts.authority parts.segments;
        before_fragment = lacks-append hash_sign (front_of r) (then_part (question_mark ∷ []) r.query) (front_lacks hash_sign hash_cuts refl refl refl refl refl r parts.scheme parts.authority parts.segments)
            (then_part_lacks hash_sign question_mark refl r.query (option_lacks hash_sign (is_query set) (query_lacks set above) r.query parts.query));
        shown = list.0;
        follows_authority = parts.follows;
        is_no_authority = list.1;
        is_no_scheme = shown.1;
      }

  -- so the text of a readable reference is in the grammar, and is read as that reference
  pub readable_read : (r : ReferenceValue) → is_readable set r ≡ true → read_reference (spell r) ≡ r
  readable_read r h = read_reference-back r (readable_delimited r h)
