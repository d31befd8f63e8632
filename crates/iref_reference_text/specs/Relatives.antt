-- What the tests of a relative reference decide.
use Rattle.std.specs.Prelude.{Bool, not, ◌&&◌, ◌||◌, None, is_some}
use Rattle.iref_grammar.specs.{Rules.{Text}, Texts.{is_empty}, ComponentTexts.{ComponentTexts}}
use Rattle.iref_grammar.specs.Reference.{ReferenceValue}
use Rattle.iref_grammar.specs.{NormalList.{normal_segments}, Relative.{have_same_authority, schemes_agree}}

-- a reference to the target may leave out scheme and authority
abbrev pub agree : ReferenceValue → ReferenceValue → Bool
agree target base = schemes_agree target base && have_same_authority target base

-- a query or a fragment follows the path, or the empty path may stand for it with neither
abbrev pub may_end_here : ReferenceValue → Bool
may_end_here target = is_some target.query || is_some target.fragment || is_empty (normal_segments target.path) || not target.path.absolute

-- a path, and the query and the fragment of these components
abbrev pub after_path : Text → ComponentTexts → ComponentTexts
after_path path t = record t { scheme = None; authority = None; path = path }
