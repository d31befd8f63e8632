-- What is hashed of the keys of references and of paths (RFC 3986 section 6.2.2): their texts with the bytes beyond ASCII raw.
use Rattle.std.specs.{Prelude.{◌≡◌, true, None}, Hash.{HashWrites}, List.{list_all}}
use Rattle.iref_grammar.specs.{Characters.{CharTests, AreAboveAscii}, PathValue.{PathValue}}
use Rattle.iref_grammar.specs.{Reference.{ReferenceValue, IsReadable}, Tests.{is_segment}}
use Rattle.iref_grammar.specs.{Key.{key}, PathKey.{path_key}}
use Rattle.iref_splice.specs.Fed.{fed_text}
use Rattle.iref_canonical.specs.Canonical.{hashed_text}

-- of a key its text
unfoldable pub fed_reference : ReferenceValue → HashWrites
fed_reference k = fed_text (hashed_text k)

-- the key of a readable reference
pub record IsReadableKey (k : ReferenceValue) : Type 0 where
  pub tests : CharTests
  pub above : AreAboveAscii tests
  pub value : ReferenceValue
  pub readable : IsReadable tests value
  pub same : key value ≡ k

-- the reference that is this path alone
abbrev pub path_alone : PathValue → ReferenceValue
path_alone p = record { scheme = None; authority = None; path = p; query = None; fragment = None }

-- of a path's key what is hashed of the reference that it is alone
abbrev pub fed_lone_path : PathValue → HashWrites
fed_lone_path k = fed_reference (path_alone k)

-- the key of a path
pub record IsPathKey (k : PathValue) : Type 0 where
  pub tests : CharTests
  pub above : AreAboveAscii tests
  pub path : PathValue
  pub segments : list_all (is_segment tests) path.segments ≡ true
  pub same : path_key path ≡ k
