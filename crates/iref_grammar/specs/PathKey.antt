-- What paths are compared by (RFC 3986 section 6.2.2.3).
use Rattle.std.specs.{Prelude.{map}, declared.cmp.Ordering.{Ordering}, Ordering.{bool_cmp, ordering_then}}
use Rattle.std.specs.Cmp.{IsTotalOrder, on_total, then_total, bool_cmp_total}
use Rattle.std.specs.Cmp.Lexicographic.{slice_cmp, nat_list_cmp_total, lists_total}
use Rattle.percent_encoding.specs.Percent.{percent_decode}
use Rattle.iref_grammar.specs.{Keys.{text_order}, PathValue.{PathValue}}
use Rattle.iref_grammar.specs.NormalList.{normal_segments}

-- the flag, and the normal segments as decoded bytes
unfoldable pub path_key : PathValue → PathValue
path_key p = record { absolute = p.absolute; segments = map percent_decode (normal_segments p) }

-- relative before absolute, then segment by segment, the shorter list first
abbrev pub path_key_cmp : PathValue → PathValue → Ordering
path_key_cmp p q = ordering_then (bool_cmp p.absolute q.absolute) (slice_cmp text_order p.segments q.segments)

-- that is a total order
pub path_keys_total : IsTotalOrder path_key_cmp
path_keys_total =
    then_total (on_total (λ (p : PathValue). p.absolute) bool_cmp_total) (on_total (λ (p : PathValue). p.segments) (lists_total nat_list_cmp_total))
