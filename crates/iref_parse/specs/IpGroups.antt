-- The groups of an IPv6 address as they are read: how many so far, and the number that they write.
use Rattle.std.specs.Prelude.{ℕ, ◌+◌, ◌-◌, ◌*◌, ◌^◌, nat_le, List, length, fold, Option, Some, None, option_and_then, if◌then◌else◌}

-- with those of the list after them, if they are eight at most
abbrev pub counted_after : ℕ → ℕ → List ℕ → Option (ℕ × ℕ)
counted_after count value groups = if nat_le (count + length groups) 8 then Some (count + length groups, fold (λ n group. 65536 * n + group) value groups) else None

abbrev pub counted : Option (List ℕ) → Option (ℕ × ℕ)
counted groups = option_and_then (counted_after 0 0) groups

-- the number of eight groups that begin and end so and are zeros between, one at least
abbrev pub filled_number : ℕ → ℕ → ℕ → ℕ → Option ℕ
filled_number start_count start end_count end = if nat_le (start_count + end_count) 7 then Some (start * 65536 ^ (8 - start_count) + end) else None
