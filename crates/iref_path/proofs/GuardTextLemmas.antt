-- A path with its guard is spelled by what stands before it and its own text.
use Rattle.std.proofs.Common.{arith, ◌≡◌, Bool, true, false, cond, List, [], ◌∷◌, ◌++◌, codes, if◌then◌else◌}
use Rattle.iref_grammar.specs.{declared.context.PathContext.{PathContext}, Rules.{Text}}
use Rattle.iref_grammar.specs.{PathValue.{PathValue, spell_path, read_path}, Contexts.{fits}}
use Rattle.iref_grammar.proofs.PathLemmas.{read_path-reads}
use Rattle.iref_grammar.specs.Guard.{guarded}
use Rattle.iref_path.specs.Spelling.{guard, needs_guard}

abbrev context_with : Bool → Bool → PathContext
context_with has_scheme has_authority = record { has_scheme = has_scheme; has_authority = has_authority }

abbrev path_with : Bool → List Text → PathValue
path_with absolute segments = record { absolute = absolute; segments = segments }

-- before a list that begins with this segment
abbrev pub guard_text : PathContext → Bool → Text → Text
guard_text context absolute first =
    let dotted = needs_guard context absolute first in
    if absolute then (if dotted then codes "/." else []) else guard context.has_authority dotted

-- the text of a path that is read from a text
pub no_guard : (context : PathContext) (text : Text) (absolute : Bool) → read_path text ≡ path_with absolute [] → text ≡ spell_path (guarded context (read_path text))
unfolding guarded
no_guard context text absolute e = grind (arith, read_path-reads text)

pub guard_spelled : (context : PathContext) (text : Text) (absolute : Bool) (first : Text) (rest : List Text) → read_path text ≡ path_with absolute (first ∷ rest)
    → guard_text context absolute first ++ text ≡ spell_path (guarded context (read_path text))
unfolding guarded spell_path
guard_spelled context text absolute first rest e = grind (arith, read_path-reads text)

-- ---- where a path needs no guard

pub guarded-same : (context : PathContext) (p : PathValue) → fits context p ≡ true → guarded context p ≡ p
unfolding guarded
guarded-same context p h = grind arith

-- ---- where an authority comes to stand

pub rooted : (has_scheme : Bool) (p : PathValue) → fits (context_with has_scheme false) p ≡ true → guarded (context_with has_scheme true) (record p { absolute = true }) ≡ record p { absolute = true }
unfolding guarded
rooted has_scheme p h = grind arith

-- what makes a path absolute
abbrev root_text : Bool → Text
root_text absolute = cond absolute [] (codes "/")

pub root_before : (text : Text) (absolute : Bool) → (read_path text).absolute ≡ absolute → root_text absolute ++ text ≡ spell_path (record (read_path text) { absolute = true })
unfolding spell_path
root_before text absolute e = grind (arith, read_path-reads text)
