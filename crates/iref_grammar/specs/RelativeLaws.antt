-- What the laws of relative references speak of.
use Rattle.std.specs.Prelude.{◌≡◌, ◌≤◌, false, List, None, is_some, true}
use Rattle.iref_grammar.specs.{Characters.{CharTests}, Rules.{Text}, Texts.{is_empty}}
use Rattle.iref_grammar.specs.Reference.{ReferenceValue, is_readable}
use Rattle.iref_grammar.specs.{NormalList.{count_parents}, Resolution.{resolved}, Key.{AreAlike}}
use Rattle.iref_grammar.specs.Relative.{schemes_agree, have_same_authority, with_only_path}

-- a readable target, and a readable base with a scheme
pub record AreTargetAndBase (set : CharTests) (target base : ReferenceValue) : Type 0 where
  pub readable_target : is_readable set target ≡ true
  pub readable_base : is_readable set base ≡ true
  pub full_base : is_some base.scheme ≡ true

-- scheme and authority agree, and the target's path begins at the root
pub record DoAgree (target base : ReferenceValue) : Type 0 where
  pub scheme : schemes_agree target base ≡ true
  pub authority : have_same_authority target base ≡ true
  pub root : target.path.absolute ≡ true

-- neither scheme nor authority
pub record IsOnlyPath (r : ReferenceValue) : Type 0 where
  pub scheme : r.scheme ≡ None
  pub authority : r.authority ≡ None

-- from the base, the reference leads where the target leads
abbrev pub Leads : ReferenceValue → ReferenceValue → ReferenceValue → Type 0
Leads base r target = AreAlike (resolved base r) (resolved base target)

-- a relative path with the target's query and fragment
abbrev pub relative_path_to : ReferenceValue → List Text → ReferenceValue
relative_path_to target segments = with_only_path (record { absolute = false; segments = segments }) target

-- no relative path that leads to the target has fewer `..`
abbrev pub ClimbsLeast : ReferenceValue → ReferenceValue → ReferenceValue → Type 0
ClimbsLeast target base answer =
    (segments : List Text) → is_empty segments ≡ false → Leads base (relative_path_to target segments) target
    → count_parents answer.path.segments ≤ count_parents segments
