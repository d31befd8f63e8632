-- What references are compared by, with no rules of schemes. It is wider than RFC 3986 section 6.2.2.2, since each escape is
-- decoded, and narrower than section 6.2.2.1, since hosts keep their case. Dot segments are removed before escapes are decoded,
-- so `/%2E%2E/x` and `/../x` differ, which sections 6.2.2.2 and 6.2.2.3 make equal, while `%2E%2E/x` and `../x` are equal.
use Rattle.std.specs.{Prelude.{◌≡◌, Bool, option_map}, Option.{option_cmp}, Str.{str_to_ascii_lowercase}}
use Rattle.std.specs.{declared.cmp.Ordering.{Ordering}, Ordering.{ordering_then, is_eq}}
use Rattle.percent_encoding.specs.Percent.{percent_decode}
use Rattle.iref_grammar.specs.{Keys.{text_order}, Reference.{ReferenceValue}}
use Rattle.iref_grammar.specs.{AuthorityKey.{authority_key, authority_key_cmp}, PathKey.{path_key, path_key_cmp}}

-- scheme in lower case (section 6.2.2.1), the normal path (6.2.2.3); user info, host, segments, query and fragment as decoded bytes
unfoldable pub key : ReferenceValue → ReferenceValue
key r =
    record {
      scheme = option_map str_to_ascii_lowercase r.scheme;
      authority = option_map authority_key r.authority;
      path = path_key r.path;
      query = option_map percent_decode r.query;
      fragment = option_map percent_decode r.fragment;
    }

-- the order of keys, component by component, one that is absent first
unfoldable pub key_cmp : ReferenceValue → ReferenceValue → Ordering
key_cmp r s =
    ordering_then (option_cmp text_order r.scheme s.scheme)
    (ordering_then (option_cmp authority_key_cmp r.authority s.authority)
    (ordering_then (path_key_cmp r.path s.path)
    (ordering_then (option_cmp text_order r.query s.query) (option_cmp text_order r.fragment s.fragment))))

-- `==`, as a fact and as a test
abbrev pub AreAlike : ReferenceValue → ReferenceValue → Type 0
AreAlike r s = key r ≡ key s

abbrev pub are_alike : ReferenceValue → ReferenceValue → Bool
are_alike r s = is_eq (key_cmp (key r) (key s))
