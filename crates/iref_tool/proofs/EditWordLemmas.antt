-- Edits that words name.
use Rattle.std.proofs.Common.{◌≡◌, [], ◌∷◌, ◌++◌, Option, refl, arith}
use Rattle.std.proofs.lemmas.Slice.Eq.{bytes_eq-Decides}
use Rattle.std.specs.List.{AllByRecursion}
use Rattle.iref.specs.{Rules.{Text}, Texts.{after, before}}
use Rattle.iref_batch.specs.{EditFields.{EditNames}, Lines.{edit_names, equals_sign}}
use Rattle.iref_tool.specs.EditWords.{edit_of, named_edit}

-- other names are passed over
pub passed : (names others : EditNames) (word name : Text) (value : Option Text) → AllByRecursion (λ e. ¬ (name ≡ e.0)) names → named_edit (names ++ others) word name value ≡ named_edit others word name value
passed [] others word name value all = refl
passed (e ∷ names) others word name value all = grind (arith, bytes_eq-Decides, all.0, passed names others word name value all.1)

pub named_of : (word field name : Text) (value : Option Text) → field ≡ word → name ≡ before (equals_sign ∷ []) word → value ≡ after equals_sign word → named_edit edit_names field name value ≡ edit_of word
named_of word field name value e f g = λ i. named_edit edit_names (e i) (f i) (g i)
