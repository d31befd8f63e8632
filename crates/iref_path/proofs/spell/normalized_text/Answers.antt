use Rattle.std.proofs.{Common.{arith, ap, sym, subst, ◌∙◌, IsUtf8}, lemmas.Bool.{and_parts}}
use Rattle.iref_grammar.specs.Contexts.{is_path_in}
use Rattle.iref_path.specs.PathParts.{is_path_after}
use Rattle.iref_path.proofs.SpellLemmas.{normalized-in_context, normalized-read, path-utf8}
use Rattle.iref_path.proofs.spell.normalized_text.Goals as goal

pub from_utf8_unchecked-text-requires : goal.from_utf8_unchecked-text-requires
from_utf8_unchecked-text-requires g c =
    subst IsUtf8 (sym c.in_ok-bytes.ensures) (path-utf8 g.C.CharSet.tests _
    (and_parts _ _ (normalized-in_context c.args.context c.args.absolute c.args.path.now g.C.CharSet.tests g.met.C.CharSet.above_ascii c.requires).1).0)

pub returns-clause-value : goal.returns-clause-value
returns-clause-value g c = grind (arith, normalized-read)

pub returns-clause-reads : goal.returns-clause-reads
returns-clause-reads g c =
    ap (is_path_in g.C.CharSet.tests c.args.context) (ap (λ v. v.items) c.from_utf8_unchecked-text.ensures.value ∙ c.in_ok-bytes.ensures)
    ∙ (normalized-in_context c.args.context c.args.absolute c.args.path.now g.C.CharSet.tests g.met.C.CharSet.above_ascii c.requires).0

pub returns-clause-after : goal.returns-clause-after
returns-clause-after g c =
    ap (is_path_after g.C.CharSet.tests c.args.context) (ap (λ v. v.items) c.from_utf8_unchecked-text.ensures.value ∙ c.in_ok-bytes.ensures)
    ∙ (normalized-in_context c.args.context c.args.absolute c.args.path.now g.C.CharSet.tests g.met.C.CharSet.above_ascii c.requires).1
