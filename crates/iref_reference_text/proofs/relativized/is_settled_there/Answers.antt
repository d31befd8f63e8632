use Rattle.std.proofs.Common.{◌∙◌, ap, bytes_eq}
use Rattle.iref_grammar.specs.PathValue.{read_path, spell_path}
use Rattle.iref_grammar.specs.PathSteps.{normalized}
use Rattle.iref_parse.specs.ReferenceSlices.{texts_of}
use Rattle.iref_reference_text.proofs.ShortestTextLemmas.{settled-text}
use Rattle.iref_reference_text.proofs.relativized.is_settled_there.Goals as goal

pub returns : goal.returns
returns c =
    let path = c.args.target.path.now in
    c.is_settled.ensures ∙ ap (λ context. bytes_eq (spell_path (normalized context (read_path path))) path) c.context_after.ensures ∙ settled-text (texts_of c.args.target)
