-- A text after a change between characters is text.
use Rattle.std.proofs.Common.{◌≡◌, Bool, true, false, cond, ◌++◌, take, drop, IsUtf8, OnOk, OnErr, sym, subst, Result, Ok, Err}
use Rattle.std.proofs.lemmas.Str.{IsUtf8-append, IsUtf8-drop, IsUtf8-take}
use Rattle.iref_grammar.specs.Rules.{Text}
use Rattle.iref_splice.specs.{declared.change.Change.{Change}, Changes.{IsWithin, changed, pieces}}

pub changed_is_text : (text : Text) (change : Change) → IsWithin text change.within → IsUtf8 text → IsUtf8 change.first.now → IsUtf8 change.middle.now → IsUtf8 change.close.now
    → IsUtf8 (changed text change)
changed_is_text text change within u first middle close =
    let put = IsUtf8-append (change.first.now ++ change.middle.now) change.close.now (IsUtf8-append change.first.now change.middle.now first middle) close in
    IsUtf8-append (take change.within.start text) (pieces change ++ drop change.within.end text) (IsUtf8-take text change.within.start u within.start)
    (IsUtf8-append (pieces change) (drop change.within.end text) put (IsUtf8-drop text change.within.end u within.end))

-- and so is what is left by a step that may be refused
pub left_is_text : {V E : Type 0} (result : Result V E) (old new made : Text) → OnOk result (new ≡ made) → OnErr result (new ≡ old) → IsUtf8 old → IsUtf8 made → IsUtf8 new
left_is_text (Ok v) old new made ok err before after = subst IsUtf8 (sym ok) after
left_is_text (Err e) old new made ok err before after = subst IsUtf8 (sym err) before

-- one of two texts is text
pub one_is_text : (first : Bool) (s t : Text) → IsUtf8 s → IsUtf8 t → IsUtf8 (cond first s t)
one_is_text true s t u v = u
one_is_text false s t u v = v
