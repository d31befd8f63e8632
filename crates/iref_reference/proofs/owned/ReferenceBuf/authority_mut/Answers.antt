use Rattle.std.proofs.Common.{◌≡◌, false, refl, sym, ap, ◌∙◌, Option, Some, None, is_some, option_map}
use mathlib.Core.Option.{some}
use Rattle.iref_grammar.specs.{declared.offsets.Offsets.{Offsets}, Authority.{AuthorityValue, spell_authority}}
use Rattle.iref_grammar.specs.{ComponentOffsets.{offsets_of, text_at}, Reference.{read_reference}}
use Rattle.iref_grammar.proofs.RangeLemmas.{authority_range}
use Rattle.iref_reference_text.proofs.AuthorityRangeLemmas.{some_if_placed}
use Rattle.iref_reference.specs.References.{reference_buf_text}
use Rattle.iref_reference.proofs.owned.ReferenceBuf.authority_mut.Goals as goal

no_authority : (o : Option AuthorityValue) → None ≡ option_map spell_authority o → false ≡ is_some o
no_authority None e = refl
no_authority (Some authority) e = cc

pub returns-in_default : goal.returns-in_default
returns-in_default g c =
    let text = reference_buf_text c.args.self.now in
    let none : (offsets_of text).authority ≡ None = sym (ap (λ (p : Offsets). p.authority) c.offsets.ensures.offsets) ∙ c.in_default.is in (
      (refl, (λ w. tt), refl),
      record {
        unchanged_if_none = tt;
        some = no_authority (read_reference text).authority (sym (ap (option_map (text_at text)) none) ∙ authority_range text);
        same_reference = tt;
        editor = tt;
        reference = g.met.R.HeldRule.references g.C.CharSet.tests text c.offsets.ensures.in_rule;
      },
    )

pub returns : goal.returns
returns g c =
    let text = reference_buf_text c.args.self.now in
    let placed : (offsets_of text).authority ≡ Some c.in-Some.range = sym (ap (λ (p : Offsets). p.authority) c.offsets.ensures.offsets) ∙ c.in-Some.is in
    let of = c.of_target.ensures in (
      (ap (λ name. some name) (sym of.same_reference), (λ w. refl), tt),
      record {
        unchanged_if_none = tt;
        some = sym (some_if_placed text c.in-Some.range placed);
        same_reference = of.same_reference;
        editor = record { bytes_are = of.bytes; range_is = placed ∙ (λ i. Some (record { start = sym of.start i; end = sym of.end i })) };
        reference = g.met.R.HeldRule.references g.C.CharSet.tests text c.offsets.ensures.in_rule;
      },
    )
