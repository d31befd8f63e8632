-- The text of a path in its context, from its list (RFC 3986 sections 3.3 and 4.2).
use Rattle.std.specs.Prelude.{ℕ, Bool, false, not, ◌&&◌, ◌||◌, ◌==◌, List, [], ◌∷◌, ◌++◌, codes, flat_map, if◌then◌else◌}
use Rattle.std.specs.Char.{char_set_contains}
use Rattle.iref_grammar.specs.{declared.context.PathContext.{PathContext}, Rules.{Text}, Grammar.{slash, colon}}
use Rattle.iref_grammar.specs.{Texts.{is_empty}, PathValue.{PathValue}}
use Rattle.iref_grammar.specs.PathSteps.{normalized}
use Rattle.iref_path.specs.NormalItems.{flagged_path}

-- the segments, with a `/` after each
abbrev pub each_closed : List Text → Text
each_closed segments = flat_map (λ s. s ++ slash ∷ []) segments

-- the first segment of a normal list would be read as a scheme or as an authority, or would not show
abbrev pub first_needs_guard : PathContext → Bool → Text → Bool
first_needs_guard context rooted s = is_empty s || not (rooted || context.has_scheme) && char_set_contains s colon

-- a normal list that begins with this segment needs a guard, as none does behind an authority
abbrev pub needs_guard : PathContext → Bool → Text → Bool
needs_guard context absolute first = not context.has_authority && first_needs_guard context absolute first

-- a root, and the segment `.`
abbrev pub guard : Bool → Bool → Text
guard rooted dotted = (if rooted then codes "/" else []) ++ (if dotted then codes "./" else [])

-- what comes before a list that has this number of bytes and begins with this segment
abbrev pub guard_in : PathContext → Bool → ℕ → Text → Text
guard_in context absolute size first =
    if size == 0
    then guard absolute false
    else guard (absolute || context.has_authority) (needs_guard context absolute first)

-- the normalized path, in its context, of a text that is read with a flag of its own
abbrev pub normal_in : PathContext → Bool → Text → PathValue
normal_in context absolute text = normalized context (flagged_path absolute text)
