-- Lines of the examples: their verbs, and what such a line leaves as it was.
use Rattle.std.specs.Prelude.{◌≡◌, ◌==◌, Bool, false, ◌&&◌, ◌||◌, List, [], ◌∷◌, Option, None, Some, bytes_eq, codes, not}
use Rattle.std.specs.List.{list_any}
use Rattle.iref.specs.{Rules.{Text}, Texts.{after, before}}
use Rattle.iref_batch.specs.Lines.{tab}
use Rattle.iref_tool.specs.declared.examples.Tables.{Tables}

-- the verbs of the examples, but `expand`
abbrev pub example_verbs : List Text
example_verbs =
    codes "put" ∷ codes "get" ∷ codes "relink" ∷ codes "relativized" ∷ codes "prefix" ∷ codes "shorten" ∷ codes "check"
    ∷ codes "canonical" ∷ codes "key" ∷ codes "fault" ∷ []

-- the fields behind a verb are one
abbrev pub is_one_field : Option Text → Bool
is_one_field None = false
is_one_field (Some fields) = not (list_any (λ b. b == tab) fields)

-- the line has a verb of the examples: `expand` with one field, or another
unfoldable pub is_of_examples : Text → Bool
is_of_examples line =
    list_any (λ verb. bytes_eq verb (before (tab ∷ []) line)) example_verbs
    || (bytes_eq (before (tab ∷ []) line) (codes "expand") && is_one_field (after tab line))

-- the cache and the context are the same
abbrev pub HaveSame : Tables → Tables → Type 0
HaveSame old new = (new.cache ≡ old.cache) × (new.context ≡ old.context)
