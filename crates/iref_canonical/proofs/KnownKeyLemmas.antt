-- The keys of paths and of references that were read are known.
use Rattle.std.proofs.Common.{◌≡◌, true, refl}
use Rattle.iref_grammar.specs.{Characters.{CharTests, AreAboveAscii}, Key.{key}, PathKey.{path_key}, PathValue.{read_path}}
use Rattle.iref_grammar.specs.{Reference.{is_reference, read_reference}, Rules.{Text}, Tests.{is_path}}
use Rattle.iref_grammar.proofs.{PathGrammarLemmas.{segments_of_path}, ReferenceRuleLemmas.{Decides-is_readable}}
use Rattle.iref_canonical.specs.Hashed.{IsPathKey, IsReadableKey}

pub path_known : (set : CharTests) → AreAboveAscii set → (text : Text) → is_path set text ≡ true → IsPathKey (path_key (read_path text))
path_known set above text h =
    record { tests = set; above = above; path = read_path text; segments = segments_of_path set above text (read_path text) refl h; same = refl }

pub reference_known : (set : CharTests) → AreAboveAscii set → (text : Text) → is_reference set text ≡ true → IsReadableKey (key (read_reference text))
unfolding is_reference
reference_known set above text h =
    record { tests = set; above = above; value = read_reference text; readable = (Decides-is_readable set above (read_reference text)).0 h; same = refl }
