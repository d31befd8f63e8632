-- Where the components of a text stand, and the parts of its authority, as C sees them.
use Rattle.std.specs.{Prelude.{ℕ, ◌+◌, [], ◌∷◌, length, Option, None, Some, option_map}, declared.ops.Range.{Range}}
use Rattle.iref.specs.{Grammar.{at_sign}, Texts.{part_then}, Authority.{AuthorityValue}}
use Rattle.iref.specs.{ComponentOffsets.{authority_mark, range_from, offsets_in}, Reference.{ReferenceValue}}
use Rattle.iref_c.specs.{declared.ranges.ByteRange.{ByteRange}, declared.ranges.Ranges.{Ranges}}
use Rattle.iref_c.specs.declared.ranges.AuthorityRanges.{AuthorityRanges}

-- the range of what is there, or zeros
abbrev pub range_for_c : Option (Range ℕ) → ByteRange
range_for_c None = record { is_there = 0; start = 0; end = 0 }
range_for_c (Some range) = record { is_there = 1; start = range.start; end = range.end }

-- where the host begins in an authority that begins at start
abbrev pub host_start : ℕ → AuthorityValue → ℕ
host_start start a = start + length (part_then (at_sign ∷ []) a.user_info)

-- the parts of an authority that is spelled from start on (RFC 3986 section 3.2)
abbrev pub ranges_from : ℕ → AuthorityValue → AuthorityRanges
ranges_from start a = record {
  user_info = range_for_c (option_map (range_from start) a.user_info);
  host = range_for_c (Some (range_from (host_start start a) a.host));
  port = range_for_c (option_map (range_from (host_start start a + length a.host + 1)) a.port);
}

-- the same of an authority that may be absent
abbrev pub authority_ranges : ℕ → Option AuthorityValue → AuthorityRanges
authority_ranges start None = record { user_info = range_for_c None; host = range_for_c None; port = range_for_c None }
authority_ranges start (Some a) = ranges_from start a

-- all ranges that C gets: those of the components and of the subcomponents of the authority
unfoldable pub all_ranges : ReferenceValue → Ranges
all_ranges r =
    let parts = authority_ranges (authority_mark r + 2) r.authority in
    record {
      scheme = range_for_c (offsets_in r).scheme;
      authority = range_for_c (offsets_in r).authority;
      user_info = parts.user_info;
      host = parts.host;
      port = parts.port;
      path = range_for_c (Some (offsets_in r).path);
      query = range_for_c (offsets_in r).query;
      fragment = range_for_c (offsets_in r).fragment;
    }
