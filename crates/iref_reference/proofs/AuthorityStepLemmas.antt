-- A reference after a step of its authority, by an editor of that authority.
use Rattle.std.proofs.{lemmas.Grind.{common_steps}, Common.{◌≡◌, true, arith}}
use Rattle.iref_grammar.specs.{Characters.{CharTests, AreAboveAscii}, Rules.{Text}, Authority.{AuthorityValue}}
use Rattle.iref_grammar.specs.{ComponentOffsets.{offsets_of}, Reference.{is_readable, is_reference, read_reference}}
use Rattle.iref_grammar.proofs.ReadableLemmas.{readable_read}
use Rattle.iref_grammar.specs.ComponentSteps.{with_authority_step}
use Rattle.iref_component.specs.declared.authority_mut.AuthorityMut.{AuthorityMut}
use Rattle.iref_component.specs.AuthorityEdits.{edited_bytes, authority_mut_value, IsEditorAt, BecomesAuthority}
use Rattle.iref_reference_text.proofs.AuthorityRangeLemmas.{authority_read_there, range_is, some_if_placed}
use Rattle.iref_reference_text.proofs.EditLemmas.{authority_part_replaced}
use Rattle.iref_reference_text.specs.Steps.{IsStep}

pub authority_step : {C T c H : _} {old new : AuthorityMut C T c H} {text : Text} (set : CharTests) → AreAboveAscii set → (step : AuthorityValue → AuthorityValue)
    → is_reference set text ≡ true → is_readable set (with_authority_step step (read_reference text)) ≡ true → IsEditorAt old text (offsets_of text).authority
    → BecomesAuthority old new (step (authority_mut_value old)) → IsStep (with_authority_step step) text (edited_bytes new)
authority_step {text = text} set above step h readable of e =
    let there = range_is text _ of.range_is in
    let has = some_if_placed text _ of.range_is in
    let read = authority_read_there set above text h has in
    grind (arith, common_steps, there, read, authority_part_replaced text, has, readable_read set above)
