-- What callers see of an editor of a path, and what an edit does.
use Rattle.std.specs.{Borrow.{GName}, Prelude.{ℕ, ◌≡◌, ◌+◌, length, slice_range, Result, MatchResult}, List.{splice}}
use Rattle.iref_grammar.specs.{declared.context.PathContext.{PathContext}, Contexts.{alone}, Rules.{Text}}
use Rattle.iref_grammar.specs.PathValue.{PathValue, read_path, spell_path}
use Rattle.iref_component.specs.{declared.path_mut.PathMut.{PathMut}, declared.rule_text.RuleText.{RuleText}}
use Rattle.iref_component.specs.{Components.{text_of}, Paths.{path_value}}

-- the name of the reference that it holds
abbrev pub borrowed_name : {C : _} {T : _} {c : _} {t : _} → PathMut C T c t → GName
borrowed_name p = p.target.ghost_name

-- it holds the reference of this name
abbrev pub Borrows : {C : _} {T : _} {c : _} {t : _} → PathMut C T c t → GName → Type 0
Borrows p name = borrowed_name p ≡ name

-- the bytes that hold the path
abbrev pub edited_bytes : {C : _} {T : _} {c : _} {t : _} → PathMut C T c t → Text
edited_bytes {C} {T} {c} {t} p = t.text p.target.now

-- what stands before the path
abbrev pub path_mut_context : {C : _} {T : _} {c : _} {t : _} → PathMut C T c t → PathContext
path_mut_context p = p.context

-- where the path stands
abbrev pub path_mut_start : {C : _} {T : _} {c : _} {t : _} → PathMut C T c t → ℕ
path_mut_start p = p.range.start

abbrev pub path_mut_end : {C : _} {T : _} {c : _} {t : _} → PathMut C T c t → ℕ
path_mut_end p = p.range.end

-- the text of the path
abbrev pub path_mut_text : {C : _} {T : _} {c : _} {t : _} → PathMut C T c t → Text
path_mut_text p = slice_range (edited_bytes p) p.range.start p.range.end

-- the flag and the list that it is read as
abbrev pub path_mut_value : {C : _} {T : _} {c : _} {t : _} → PathMut C T c t → PathValue
path_mut_value p = read_path (path_mut_text p)

-- it edits what stands there
pub record IsEditorOf {C : _} {T : _} {c : _} {t : _} (p : PathMut C T c t) (bytes : Text) (context : PathContext) (start end : ℕ) : Type 0 where
  pub bytes_are : edited_bytes p ≡ bytes
  pub context_is : p.context ≡ context
  pub from : p.range.start ≡ start
  pub to : p.range.end ≡ end

-- it borrows the same target still
abbrev pub IsSameEditor : {C : _} {T : _} {c : _} {t : _} → PathMut C T c t → PathMut C T c t → Type 0
IsSameEditor old new = borrowed_name new ≡ borrowed_name old

-- the path becomes this one, its range is exact, and no other byte changes
pub record BecomesPath {C : _} {T : _} {c : _} {t : _} (old new : PathMut C T c t) (value : PathValue) : Type 0 where
  pub bytes : edited_bytes new ≡ splice (edited_bytes old) old.range.start old.range.end (spell_path value)
  pub context : new.context ≡ old.context
  pub from : new.range.start ≡ old.range.start
  pub to : new.range.end ≡ old.range.start + length (spell_path value)
  pub read : path_mut_value new ≡ value

-- nothing changes
pub record IsUnchanged {C : _} {T : _} {c : _} {t : _} (old new : PathMut C T c t) : Type 0 where
  pub bytes : edited_bytes new ≡ edited_bytes old
  pub context : new.context ≡ old.context
  pub from : new.range.start ≡ old.range.start
  pub to : new.range.end ≡ old.range.end

-- an edit: it borrows the same target still, at Ok the path becomes this one, and at an Err nothing changes
pub record EditsTo {C : _} {T : _} {c : _} {t : _} {V E : Type 0} (value : PathValue) (old new : PathMut C T c t) (result : Result V E) : Type 0 where
  pub same : IsSameEditor old new
  pub outcome : MatchResult result (λ _. BecomesPath old new value) (λ _. IsUnchanged old new)

-- what an edit makes of a path, in the context of what stands before it
abbrev pub PathStep : Type 0
PathStep = PathContext → PathValue → PathValue

-- the path becomes what this step makes of it
abbrev pub Becomes : {C : _} {T : _} {c : _} {t : _} → PathMut C T c t → PathMut C T c t → PathStep → Type 0
Becomes old new step = BecomesPath old new (step (path_mut_context old) (path_mut_value old))

-- an edit whose path is what this step makes of the old one
abbrev pub Edits : {C : _} {T : _} {c : _} {t : _} {V E : Type 0} → PathStep → PathMut C T c t → PathMut C T c t → Result V E → Type 0
Edits step old new result = EditsTo (step (path_mut_context old) (path_mut_value old)) old new result

-- the same by a step that takes something besides the path, as a segment
abbrev pub EditsBy : {C : _} {T : _} {c : _} {t : _} {X V E : Type 0} → (PathContext → X → PathValue → PathValue) → X → PathMut C T c t → PathMut C T c t → Result V E → Type 0
EditsBy step by = Edits (λ context. step context by)

-- the owned text spells this path, and is read as it
pub record SpellsPath {S R C K s r k c : _} (p : RuleText S R C K s r k c) (value : PathValue) : Type 0 where
  pub text : text_of p ≡ spell_path value
  pub read : path_value p ≡ value

-- the owned path, which stands alone, becomes what this step makes of it
abbrev pub OwnerBecomes : {S R C K s r k c : _} → RuleText S R C K s r k c → RuleText S R C K s r k c → PathStep → Type 0
OwnerBecomes old new step = SpellsPath new (step alone (path_value old))

-- an edit of an owned path: at Ok its path becomes what the step makes of it, and at an Err its text is as it was
abbrev pub EditsOwner : {S R C K s r k c : _} {V E : Type 0} → (PathValue → PathValue) → RuleText S R C K s r k c → RuleText S R C K s r k c → Result V E → Type 0
EditsOwner step old new result = MatchResult result (λ _. SpellsPath new (step (path_value old))) (λ _. text_of new ≡ text_of old)
