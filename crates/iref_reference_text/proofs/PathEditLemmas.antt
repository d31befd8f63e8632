-- The path replaced in the text.
use Rattle.std.proofs.Common.{◌≡◌, true, arith}
use Rattle.iref_grammar.specs.{Characters.{CharTests}, Rules.{Text}, Contexts.{is_path_in}, PathValue.{read_path}}
use Rattle.iref_grammar.specs.Reference.{ReferenceValue, context_of, spell, read_reference, is_readable}
use Rattle.iref_grammar.proofs.{PathLemmas.{read_path-reads}, ReadablePartsLemmas.{readable_parts}}
use Rattle.iref_reference_text.specs.PathTexts.{with_path_text, with_path_read}
use Rattle.iref_reference_text.proofs.EditLemmas.{path_replaced}

pub read_path-readable : (set : CharTests) (r : ReferenceValue) (path : Text) → is_readable set r ≡ true → is_path_in set (context_of r) path ≡ true → is_readable set (with_path_read path r) ≡ true
unfolding is_readable
read_path-readable set r path h k = grind (arith, readable_parts set r h)

pub path_text_replaced : (text path : Text) → with_path_text path text ≡ spell (with_path_read path (read_reference text))
path_text_replaced text path = rw (read_path-reads path).spelled at (path_replaced text (read_path path))
