use Rattle.std.proofs.Common.{refl, rules, option_map}
use Rattle.iref_component.specs.Components.{text_of}
use Rattle.iref_grammar.specs.Authority.{read_authority}
use Rattle.iref_grammar.specs.{AuthoritySteps.{with_user_info, with_host, with_port}, PortNumbers.{port_text}}
use Rattle.iref_grammar.specs.Edits.{edited}
use Rattle.iref_grammar.proofs.ReferenceStepLemmas.{with_user_info-readable, with_host-readable, with_port-readable, with_whole_authority-readable}
use Rattle.iref.specs.EditSteps.{edit_step}
use Rattle.iref.proofs.AuthorityEditLemmas.{authority_edit_done, authority_in_rule, view_in_rule}
use Rattle.iref.proofs.PortTextLemmas.{numbers_are_ports}
use Rattle.iref.proofs.edits.parts.edit_authority.Goals as goal

pub returns-in-ReplaceAuthority : goal.returns-in-ReplaceAuthority
unfolding edited
returns-in-ReplaceAuthority g c =
    authority_edit_done c.authority_editor-authority.result c.replace.new.self g.C.CharSet.tests g.met.C.CharSet.above_ascii (edit_step c.args.edit)
    (λ a. read_authority (text_of c.in-ReplaceAuthority.other)) (rw c.in-ReplaceAuthority.is refl) c.requires.there c.authority_editor-authority.ensures.reference
    (with_whole_authority-readable g.C.CharSet.tests _ _ (authority_in_rule g.C.CharSet.tests (text_of c.in-ReplaceAuthority.other) c.in-ReplaceAuthority.other.in_rule)) c.authority_editor-authority.ensures.editor (search rules) c.replace.result c.replace.ensures (search rules)

pub returns-in-SetUserInfo : goal.returns-in-SetUserInfo
unfolding edited
returns-in-SetUserInfo g c =
    authority_edit_done c.authority_editor-authority.result c.set_user_info.new.self g.C.CharSet.tests g.met.C.CharSet.above_ascii (edit_step c.args.edit)
    (with_user_info (option_map text_of c.in-SetUserInfo.user_info)) (rw c.in-SetUserInfo.is refl) c.requires.there c.authority_editor-authority.ensures.reference
    (with_user_info-readable g.C.CharSet.tests _ _ (view_in_rule c.in-SetUserInfo.user_info)) c.authority_editor-authority.ensures.editor (search rules) c.set_user_info.result c.set_user_info.ensures.edit (search rules)

pub returns-in-SetHost : goal.returns-in-SetHost
unfolding edited
returns-in-SetHost g c =
    authority_edit_done c.authority_editor-authority.result c.set_host.new.self g.C.CharSet.tests g.met.C.CharSet.above_ascii (edit_step c.args.edit)
    (with_host (text_of c.in-SetHost.host)) (rw c.in-SetHost.is refl) c.requires.there c.authority_editor-authority.ensures.reference
    (with_host-readable g.C.CharSet.tests _ _ c.in-SetHost.host.in_rule) c.authority_editor-authority.ensures.editor (search rules) c.set_host.result c.set_host.ensures (search rules)

pub returns-in-SetPort : goal.returns-in-SetPort
unfolding edited
returns-in-SetPort g c =
    authority_edit_done c.authority_editor-authority.result c.set_port.new.self g.C.CharSet.tests g.met.C.CharSet.above_ascii (edit_step c.args.edit)
    (with_port (option_map text_of c.in-SetPort.port)) (rw c.in-SetPort.is refl) c.requires.there c.authority_editor-authority.ensures.reference
    (with_port-readable g.C.CharSet.tests _ _ (view_in_rule c.in-SetPort.port)) c.authority_editor-authority.ensures.editor (search rules) c.set_port.result c.set_port.ensures.edit (search rules)

pub returns-in-SetPortU32 : goal.returns-in-SetPortU32
unfolding edited
returns-in-SetPortU32 g c =
    authority_edit_done c.authority_editor-authority.result c.set_port_u32.new.self g.C.CharSet.tests g.met.C.CharSet.above_ascii (edit_step c.args.edit)
    (with_port (option_map port_text c.in-SetPortU32.number)) (rw c.in-SetPortU32.is refl) c.requires.there c.authority_editor-authority.ensures.reference
    (with_port-readable g.C.CharSet.tests _ _ (numbers_are_ports c.in-SetPortU32.number)) c.authority_editor-authority.ensures.editor (search rules) c.set_port_u32.result c.set_port_u32.ensures.edit (search rules)
