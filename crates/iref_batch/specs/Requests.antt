-- What the program has read of a line.
use Rattle.std.specs.{Prelude.{◌∷◌, List, Option, Some}, Option.{option_copied}}
use Rattle.iref.specs.{Rules.{Text}, PrefixTable.{PrefixEntry}}
use Rattle.iref_batch.specs.Lines as spec
use Rattle.iref_batch.specs.{Fields.{fields_of}, declared.request.Request.{Request}}
use Rattle.iref_batch.specs.declared.request.Request.TheVariants.{Parts, Resolve, Relative, Normal, Equal, Edit, ToUri, ByTable}
use Rattle.iref_batch.specs.declared.request.TableVerb.{TableVerb}
use Rattle.iref_batch.specs.declared.request.TableVerb.TheVariants.{Compact, Expand}

-- what a verb asks of a table of entries
abbrev pub asked_of : TableVerb → Text → List PrefixEntry → spec.Request
asked_of Compact = spec.Compact
asked_of Expand = spec.Expand

-- what a value of the program asks for, if it asks for something
abbrev pub request_of : Request → Option spec.Request
request_of (Parts text) = Some (spec.Parts text.now)
request_of (Resolve reference base) = Some (spec.Resolve reference.now base.now)
request_of (Relative target base) = Some (spec.Relative target.now base.now)
request_of (Normal text) = Some (spec.Normal text.now)
request_of (Equal left right) = Some (spec.Equal left.now right.now)
request_of (Edit text fields) = spec.text_and_edits (text.now ∷ fields_of (option_copied fields))
request_of (ToUri text) = Some (spec.ToUri text.now)
request_of (ByTable verb text fields) = spec.text_and_entries (asked_of verb) (text.now ∷ fields_of (option_copied fields))
