use Rattle.std.proofs.Common.{◌≡◌, ◌≢◌, ◌∙◌, false, ap, arith, subst, sym, IfSome, nat_le, List, Bool}
use Rattle.iref_grammar.specs.{Rules.{Text}, Texts.{all_but_last}, Contexts.{alone}}
use Rattle.iref_grammar.specs.PathValue.{PathValue, read_path, spell_path}
use Rattle.iref_grammar.specs.{Guard.{guarded}, NormalList.{count_parents, kept_segments, normal_segments}}
use Rattle.iref_grammar.specs.Relativized.{path_from, shortened}
use Rattle.iref_path.specs.MeasuredPaths.{measured_text}
use Rattle.iref_path.proofs.TextStepLemmas.{directory-read, dotless_reached, dotless_steps, other_flag, same_flag}
use Rattle.iref_path.proofs.measured.MeasuredPath.relativized.Goals as goal

pub returns-then-absolute-rooted-clause-some : goal.returns-then-absolute-rooted-clause-some
returns-then-absolute-rooted-clause-some c =
    let flag = c.is_rooted-absolute.ensures in
    let differ : c.is_rooted-absolute.result ≢ c.behind_root-rooted.result.0 = grind arith in
    sym (other_flag c.args.has_authority _ _ c.behind_root-absolute.result.1.now c.behind_root-rooted.result.1.now _ _ c.behind_root-absolute.ensures.path c.behind_root-rooted.ensures.path (λ e. differ (flag ∙ e)))

pub returns-then-has_dots-clause-some : goal.returns-then-has_dots-clause-some
returns-then-has_dots-clause-some c =
    let base = read_path c.args.base.now in
    let path = read_path c.args.path.now in
    let flag = c.is_rooted-absolute.ensures in
    let one : c.is_rooted-absolute.result ≡ c.behind_root-rooted.result.0 = grind arith in
    c.by_items.ensures.some
    ∙ ap (λ (a : Bool). nat_le (count_parents (kept_segments (record { absolute = a; segments = all_but_last base.segments }))) (count_parents (normal_segments path))) flag
    ∙ sym (same_flag c.args.has_authority _ _ c.behind_root-absolute.result.1.now c.behind_root-rooted.result.1.now base path c.behind_root-absolute.ensures.path c.behind_root-rooted.ensures.path (sym flag ∙ one))

pub returns-then-has_dots-clause-text : goal.returns-then-has_dots-clause-text
returns-then-has_dots-clause-text c =
    let base = read_path c.args.base.now in
    let path = read_path c.args.path.now in
    let directory =
    directory-read c.args.has_authority _ _ c.behind_root-absolute.result.1.now c.behind_root-rooted.result.1.now base path c.behind_root-absolute.ensures.path c.behind_root-rooted.ensures.path in
    subst (λ (d : PathValue). IfSome c.by_items.result (λ steps. measured_text steps ≡ spell_path (path_from d path)))
    (ap (λ (a : Bool). record { absolute = a; segments = all_but_last base.segments }) c.is_rooted-absolute.ensures ∙ sym directory) c.by_items.ensures.text

pub returns-clause-some : goal.returns-clause-some
returns-clause-some c =
    let one : c.is_rooted-absolute.result ≡ c.behind_root-rooted.result.0 = grind arith in
    sym (dotless_reached c.args.has_authority _ _ c.behind_root-absolute.result.1.now c.behind_root-rooted.result.1.now _ _ c.behind_root-absolute.ensures.path c.behind_root-rooted.ensures.path
    (grind arith) (grind arith) (sym c.is_rooted-absolute.ensures ∙ one))

pub returns-clause-text : goal.returns-clause-text
returns-clause-text c =
    let steps = dotless_steps c.args.has_authority _ _ c.behind_root-absolute.result.1.now c.behind_root-rooted.result.1.now _ _ c.behind_root-absolute.ensures.path c.behind_root-rooted.ensures.path (grind arith) (grind arith) in
    c.of_text_steps.ensures.text ∙ ap (λ (l : List Text). spell_path (guarded alone (record { absolute = false; segments = shortened l }))) (sym c.steps_apart-up.ensures.steps ∙ sym steps)
