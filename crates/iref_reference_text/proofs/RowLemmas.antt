-- What the row of a reference says of it.
use Rattle.std.proofs.Common.{◌≡◌, false, true, ◌||◌, [], arith, ◌≢◌, is_some}
use Rattle.iref_grammar.proofs.ComponentLemmas.{is_some-copied}
use Rattle.iref_grammar.specs.{ComponentTexts.{ComponentTexts}, PathValue.{read_path}}
use Rattle.iref_path.proofs.PathTextLemmas.{nothing, something}
use Rattle.iref_reference_text.specs.{Rows.{has_path, row_of}, declared.row.Row.{Row}}
use Rattle.iref_reference_text.specs.declared.row.Row.TheVariants.{Merged, Own, Rooted}

pub own_row : (t : ComponentTexts) → Own ≡ row_of t → (is_some t.scheme || is_some t.authority) ≡ true
own_row t e = grind arith

-- it has a path alone
pub record IsPathAlone (t : ComponentTexts) (row : Row) : Type 0 where
  pub none : (is_some t.scheme || is_some t.authority) ≡ false
  pub some : t.path ≢ []
  pub rooted : row ≡ Rooted → (read_path t.path).absolute ≡ true
  pub merged : row ≡ Merged → (read_path t.path).absolute ≡ false

pub path_alone : (t : ComponentTexts) (row : Row) → row ≡ row_of t → has_path row ≡ true → IsPathAlone t row
path_alone t row e h = grind arith

pub ruleset rows = (is_some-copied, nothing, something)
