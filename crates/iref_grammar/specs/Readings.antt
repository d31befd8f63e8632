-- What it is that each text has one reading.
use Rattle.std.specs.Prelude.{◌≡◌}
use Rattle.iref_grammar.specs.Rules.{Text}

-- what is read from a text spells it, a readable value is read back from its text, and no other readable value has that text
pub record HasOneReading {V : Type 0} (spell : V → Text) (read : Text → V) (readable : V → Type 0) : Type 0 where
  pub spelled_back : (text : Text) → spell (read text) ≡ text
  pub read_back : (v : V) → readable v → read (spell v) ≡ v
  pub one : (v w : V) → readable v → readable w → spell v ≡ spell w → v ≡ w
