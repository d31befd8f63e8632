-- What callers see of an editor of an authority, and what an edit does.
use Rattle.std.specs.Prelude.{ℕ, ◌≡◌, ◌+◌, ◌≤◌, Option, Some, length, slice_range, Result, MatchResult}
use Rattle.std.specs.{Borrow.{GName}, List.{splice}, declared.ops.Range.{Range}}
use Rattle.iref_grammar.specs.{Rules.{Text}, Authority.{AuthorityValue, spell_authority, read_authority}}
use Rattle.iref_component.specs.declared.authority_mut.AuthorityMut.{AuthorityMut}

-- the name of the reference that it holds
abbrev pub borrowed_name : {C T c H : _} → AuthorityMut C T c H → GName
borrowed_name editor = editor.target.ghost_name

-- it holds the reference of this name
abbrev pub Borrows : {C T c H : _} → AuthorityMut C T c H → GName → Type 0
Borrows editor name = borrowed_name editor ≡ name

-- the bytes that hold the authority
abbrev pub edited_bytes : {C T c H : _} → AuthorityMut C T c H → Text
edited_bytes {H = H} editor = H.text editor.target.now

-- where the authority stands
abbrev pub authority_mut_start : {C T c H : _} → AuthorityMut C T c H → ℕ
authority_mut_start editor = editor.range.start

abbrev pub authority_mut_end : {C T c H : _} → AuthorityMut C T c H → ℕ
authority_mut_end editor = editor.range.end

-- the text of the authority
abbrev pub authority_mut_text : {C T c H : _} → AuthorityMut C T c H → Text
authority_mut_text editor = slice_range (edited_bytes editor) editor.range.start editor.range.end

-- the parts that it is read as
abbrev pub authority_mut_value : {C T c H : _} → AuthorityMut C T c H → AuthorityValue
authority_mut_value editor = read_authority (authority_mut_text editor)

-- it edits what stands in this range of the bytes, where one is given
pub record IsEditorAt {C T c H : _} (editor : AuthorityMut C T c H) (bytes : Text) (range : Option (Range ℕ)) : Type 0 where
  pub bytes_are : edited_bytes editor ≡ bytes
  pub range_is : range ≡ Some (record { start = editor.range.start; end = editor.range.end })

-- the range lies in the bytes
pub record LiesInBytes {C T c H : _} (editor : AuthorityMut C T c H) : Type 0 where
  pub start_le_end : editor.range.start ≤ editor.range.end
  pub in_bounds : editor.range.end ≤ length (edited_bytes editor)

-- it borrows the same target still
abbrev pub IsSameEditor : {C T c H : _} → AuthorityMut C T c H → AuthorityMut C T c H → Type 0
IsSameEditor old new = borrowed_name new ≡ borrowed_name old

-- the authority becomes this one, its range is exact, and no other byte changes
pub record BecomesAuthority {C T c H : _} (old new : AuthorityMut C T c H) (value : AuthorityValue) : Type 0 where
  pub bytes : edited_bytes new ≡ splice (edited_bytes old) old.range.start old.range.end (spell_authority value)
  pub from : new.range.start ≡ old.range.start
  pub to : new.range.end ≡ old.range.start + length (spell_authority value)
  pub reads : authority_mut_value new ≡ value

-- nothing changes
pub record IsUnchanged {C T c H : _} (old new : AuthorityMut C T c H) : Type 0 where
  pub bytes : edited_bytes new ≡ edited_bytes old
  pub from : new.range.start ≡ old.range.start
  pub to : new.range.end ≡ old.range.end

-- an edit: it borrows the same target still, at Ok the authority becomes this one, and at an Err nothing changes
pub record EditsTo {C T c H : _} {V E : Type 0} (value : AuthorityValue) (old new : AuthorityMut C T c H) (result : Result V E) : Type 0 where
  pub same : IsSameEditor old new
  pub outcome : MatchResult result (λ _. BecomesAuthority old new value) (λ _. IsUnchanged old new)

-- an edit whose authority is what this step makes of the old one
abbrev pub Edits : {C T c H : _} {V E : Type 0} → (AuthorityValue → AuthorityValue) → AuthorityMut C T c H → AuthorityMut C T c H → Result V E → Type 0
Edits step old new result = EditsTo (step (authority_mut_value old)) old new result
