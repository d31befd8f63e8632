-- References in components (RFC 3986 sections 4.1 and 5.3).
use Rattle.std.specs.Prelude.{◌≡◌, Bool, ◌&&◌, [], ◌∷◌, ◌++◌, drop, codes, Option, Some, None, IfSome, is_some, option_map, if◌then◌else◌, true}
use Rattle.std.specs.{List.{AllByRecursion, list_all}, Char.{char_set_contains}}
use Rattle.iref_grammar.specs.{declared.context.PathContext.{PathContext}, Characters.{CharTests}, Rules.{Text, InUtf8}}
use Rattle.iref_grammar.specs.Grammar.{hash_sign, slash, colon, question_mark, IsScheme, IsSegment, IsQuery, IsFragment}
use Rattle.iref_grammar.specs.Texts.{before, after, from_first, begins_with, part_then, then_part}
use Rattle.iref_grammar.specs.Tests.{is_scheme, is_segment, is_query, is_fragment, none_or}
use Rattle.iref_grammar.specs.Authority.{AuthorityValue, spell_authority, HasAuthorityParts, has_authority_parts, read_authority}
use Rattle.iref_grammar.specs.PathValue.{PathValue, spell_path, read_path}
use Rattle.iref_grammar.specs.Contexts.{follows_authority, reads_as_path}

pub record ReferenceValue : Type 0 where
  pub scheme : Option Text
  pub authority : Option AuthorityValue
  pub path : PathValue
  pub query : Option Text
  pub fragment : Option Text

-- what stands before the path
abbrev pub context_of : ReferenceValue → PathContext
context_of r = record { has_scheme = is_some r.scheme; has_authority = is_some r.authority }

-- section 5.3
unfoldable pub spell : ReferenceValue → Text
spell r =
    part_then (colon ∷ []) r.scheme ++ then_part (codes "//") (option_map spell_authority r.authority) ++ spell_path r.path
    ++ then_part (question_mark ∷ []) r.query ++ then_part (hash_sign ∷ []) r.fragment

-- each component is in its rule, and its spelling shows which component it is
pub record IsReadable (set : CharTests) (r : ReferenceValue) : Type 0 where
  pub scheme : IfSome r.scheme (InUtf8 IsScheme)
  pub authority : IfSome r.authority (HasAuthorityParts set)
  pub segments : AllByRecursion (InUtf8 (IsSegment set)) r.path.segments
  pub query : IfSome r.query (InUtf8 (IsQuery set))
  pub fragment : IfSome r.fragment (InUtf8 (IsFragment set))
  pub follows_authority : follows_authority (context_of r) r.path ≡ true
  pub reads_as_path : reads_as_path (context_of r) r.path ≡ true

-- the text is read as this reference
pub record IsReadAsReference (set : CharTests) (text : Text) (r : ReferenceValue) : Type 0 where
  pub readable : IsReadable set r
  pub spelled : spell r ≡ text

-- ---- the same, computed

unfoldable pub is_readable : CharTests → ReferenceValue → Bool
is_readable set r =
    none_or is_scheme r.scheme && none_or (has_authority_parts set) r.authority && list_all (is_segment set) r.path.segments
    && none_or (is_query set) r.query && none_or (is_fragment set) r.fragment
    && follows_authority (context_of r) r.path && reads_as_path (context_of r) r.path

-- the scheme, if the first `:` stands before any `/`, and what follows it
abbrev pub scheme_of : Text → Option Text → Text → Option Text × Text
scheme_of front None text = (None, text)
scheme_of front (Some rest) text = if char_set_contains front slash then (None, text) else (Some front, rest)

abbrev pub split_scheme : Text → Option Text × Text
split_scheme text = scheme_of (before (colon ∷ []) text) (after colon text) text

-- the text of the authority, if `//` stands first, and what follows it
abbrev pub split_authority : Text → Option Text × Text
split_authority text =
    if begins_with (codes "//") text
    then (Some (before (slash ∷ []) (drop 2 text)), from_first (slash ∷ []) (drop 2 text))
    else (None, text)

-- what stands before the query and the fragment
abbrev pub hierarchy : Text → Text
hierarchy text = before (question_mark ∷ []) (before (hash_sign ∷ []) text)

unfoldable pub read_reference : Text → ReferenceValue
read_reference text =
    let front = split_scheme (hierarchy text) in
    let middle = split_authority front.1 in
    record {
      scheme = front.0;
      authority = option_map read_authority middle.0;
      path = read_path middle.1;
      query = after question_mark (before (hash_sign ∷ []) text);
      fragment = after hash_sign text;
    }

unfoldable pub is_reference : CharTests → Text → Bool
is_reference set text = is_readable set (read_reference text)

-- a reference with a scheme
unfoldable pub is_uri : CharTests → Text → Bool
is_uri set text = is_some (split_scheme (hierarchy text)).0 && is_reference set text
