use Rattle.std.proofs.Common.{ap, ◌∙◌}
use Rattle.iref.specs.{Reference.{read_reference}, References.{reference_buf_value, reference_value}}
use Rattle.iref_examples.proofs.LinkLemmas.{is_relinked}
use Rattle.iref_examples.proofs.mirror.from_page.Goals as goal

pub returns : goal.returns
returns c =
    is_relinked c.relative_to.result (λ it. reference_buf_value it) (reference_value c.as_uri_ref-2.result) (reference_value c.as_uri_ref.result) (reference_value c.args.page) (reference_value c.args.link)
    (ap read_reference c.as_uri_ref-2.ensures.text) (ap read_reference c.as_uri_ref.ensures.text ∙ c.in_ok-target.ensures.1)
    c.as_uri_ref-2.ensures.scheme c.as_uri_ref.ensures.scheme c.relative_to.ensures.target c.relative_to.ensures.alone c.relative_to.ensures.least
