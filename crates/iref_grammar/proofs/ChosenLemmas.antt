-- The answer is chosen by tests: which of the candidates is shorter mostly follows from what they leave out.
use Rattle.std.proofs.Common.{◌≡◌, suc, ◌+◌, ◌<◌, ◌≤◌, nat_lt, Bool, true, false, not, cond, ◌&&◌, ◌||◌, List, [], ◌∷◌, ◌++◌, length, append_assoc, refl, sym, ◌∙◌, ap, arith, Option, Some, None, is_some, true≢false}
use Rattle.std.proofs.{lemmas.Bool.{and_parts}, lemmas.Bool.Decides.{nat_tests}, lemmas.Slice.Eq.{bytes_eq-Decides}}
use Rattle.std.proofs.Math.Bool.{and-false, and-true}
use Rattle.iref_grammar.specs.{declared.context.PathContext.{PathContext}, Characters.{CharTests}, Rules.{Text}}
use Rattle.iref_grammar.specs.{Texts.{all_but_last, is_empty}, Authority.{AuthorityValue}}
use Rattle.iref_grammar.specs.{PathValue.{PathValue, spell_path}, Contexts.{alone, follows_authority}}
use Rattle.iref_grammar.specs.Reference.{ReferenceValue, context_of, spell}
use Rattle.iref_grammar.proofs.ReadablePartsLemmas.{readable_parts}
use Rattle.iref_grammar.specs.{Guard.{guarded}, NormalList.{excess, normal, normal_segments, staying_names}}
use Rattle.iref_grammar.specs.Relative.{with_only_path}
use Rattle.iref_grammar.specs.Relativized.{same_scheme_text, same_authority_text, same_path_text, same_query_text, empty_path, relative_path, is_climb, only_if, fragment_alone, climb_shortened, shorter, relativized}
use Rattle.iref_grammar.specs.{RelativizedLaws.{AreReadable}, RelativizedTests.{is_settled, is_reachable, shortest}}
use Rattle.iref_grammar.specs.RelativizedChoice.{chosen, shorter_of, with_a_path}
use Rattle.iref_grammar.proofs.{JoinedLemmas.{climbs}, RelativeLemmas.{parts}, TestedLemmas.{relativized-tested}}
use Rattle.iref_grammar.proofs.CandidateLemmas.{length-spell}
use Rattle.iref_grammar.proofs.WalkLemmas.{climb-is}
use Rattle.iref_grammar.proofs.WeightLemmas.{path, weight, weight-append, weight-climbs, length-path}

-- ---- paths

-- a guard only adds
guard_adds : (context : PathContext) (absolute : Bool) (list : List Text) → length (spell_path (path absolute list)) ≤ length (spell_path (guarded context (path absolute list)))
unfolding guarded
guard_adds context absolute list = grind (arith, length-path)

-- two bytes at most, where the path begins at the root
guard_adds_two : (list : List Text) → length (spell_path (guarded alone (path true list))) ≤ length (spell_path (path true list)) + 2
unfolding guarded
guard_adds_two list = grind (arith, length-path)

-- and none more than after a scheme
guard_alone : (has_scheme : Bool) (list : List Text) → guarded alone (path true list) ≡ guarded (record { has_scheme = has_scheme; has_authority = false }) (path true list)
unfolding guarded
guard_alone has_scheme list = grind arith

-- without the `/` after some `..` the path is shorter
climb_shorter : (list : List Text) → is_climb list ≡ true → length (spell_path (path false (all_but_last list))) < length (spell_path (path false list))
climb_shorter list h =
    let is = climb-is list h in
    let front = ap weight is.2 in
    let all = ap weight is.1 in
    let joined = weight-append (climbs (suc is.0)) ([] ∷ []) in
    let size = weight-climbs (suc is.0) in
    let a = length-path false (all_but_last list) in
    let b = length-path false list in
    omega arith

no_path : length (spell_path empty_path) ≡ 0
unfolding spell_path
no_path = refl

-- ---- the choice

-- of two as long the first
first_kept : (r other : ReferenceValue) → length (spell r) ≤ length (spell other) → shorter r (Some other) ≡ Some r
first_kept r other h = grind (arith, nat_tests)

second_kept : (r other : ReferenceValue) → length (spell other) < length (spell r) → shorter r (Some other) ≡ Some other
second_kept r other h = grind (arith, nat_tests)

both_compared : (r other : ReferenceValue) → shorter r (Some other) ≡ Some (shorter_of r other)
both_compared r other = grind arith

-- what holds of both holds of either
of_either : (Holds : ReferenceValue → Type 0) (condition : Bool) (r other : ReferenceValue) → Holds r → Holds other → Holds (cond condition r other)
of_either Holds true r other h k = h
of_either Holds false r other h k = k

-- ---- the candidates that give a path

module _ (relative rooted after_scheme whole climb : ReferenceValue) (same reachable c4 c5 c7 : Bool) where
  abbrev full : ReferenceValue
  full = cond c7 climb whole

  abbrev own_path : ReferenceValue
  own_path = cond c4 rooted (cond c5 after_scheme full)

  abbrev candidates_if : Bool → List ReferenceValue
  candidates_if settled =
      only_if (same && (settled && reachable)) relative ++ only_if (c4 && settled) rooted ++ only_if (c5 && settled) after_scheme ++ only_if settled whole ++ only_if (c7 && settled) climb

  abbrev shortest_path : ReferenceValue
  shortest_path = cond (same && reachable) (shorter_of relative own_path) own_path

  -- a reference that is not longer than any of them comes first
  module _ (first : ReferenceValue)
      (least : (length (spell first) ≤ length (spell relative)) × (length (spell first) ≤ length (spell rooted)) × (length (spell first) ≤ length (spell after_scheme))
      × (length (spell first) ≤ length (spell whole)) × (length (spell first) ≤ length (spell climb))) where
    abbrev IsAfter : ReferenceValue → Type 0
    IsAfter r = length (spell first) ≤ length (spell r)

    least_of_paths : IsAfter shortest_path
    least_of_paths =
        let own = of_either IsAfter c4 rooted (cond c5 after_scheme full) least.1 (of_either IsAfter c5 after_scheme full least.2 (of_either IsAfter c7 climb whole least.4 least.3)) in
        of_either IsAfter (same && reachable) (shorter_of relative own_path) own_path (of_either IsAfter (nat_lt (length (spell own_path)) (length (spell relative))) own_path relative own least.0) own

    kept_first : (settled : Bool) → shorter first (cond settled (Some shortest_path) None) ≡ Some first
    kept_first true = first_kept first shortest_path least_of_paths
    kept_first false = refl

  none_settled : shortest (candidates_if false) ≡ None
  none_settled =
      λ i. shortest (only_if (and-false same i) relative ++ only_if (and-false c4 i) rooted ++ only_if (and-false c5 i) after_scheme ++ only_if false whole ++ only_if (and-false c7 i) climb)

  module _ (short_climb : c7 ≡ true → length (spell climb) < length (spell whole)) (short_scheme : c5 ≡ true → length (spell after_scheme) ≤ length (spell full))
      (short_root : c4 ≡ true → length (spell rooted) ≤ length (spell (cond c5 after_scheme full))) where
    from_whole : shortest (whole ∷ only_if c7 climb) ≡ Some full
    from_whole = grind (arith, second_kept)

    from_scheme : shortest (only_if c5 after_scheme ++ whole ∷ only_if c7 climb) ≡ Some (cond c5 after_scheme full)
    from_scheme = grind (arith, from_whole, first_kept)

    from_root : shortest (only_if c4 rooted ++ only_if c5 after_scheme ++ whole ∷ only_if c7 climb) ≡ Some own_path
    from_root = grind (arith, from_scheme, first_kept)

    from_relative : shortest (only_if (same && reachable) relative ++ only_if c4 rooted ++ only_if c5 after_scheme ++ whole ∷ only_if c7 climb) ≡ Some shortest_path
    from_relative = grind (arith, from_root, both_compared)

    some_settled : shortest (candidates_if true) ≡ Some shortest_path
    some_settled =
        (λ i. shortest (only_if (same && reachable) relative ++ only_if (and-true c4 i) rooted ++ only_if (and-true c5 i) after_scheme ++ only_if true whole ++ only_if (and-true c7 i) climb))
        ∙ ap shortest (append_assoc (only_if (same && reachable) relative ++ only_if c4 rooted ++ only_if c5 after_scheme) (whole ∷ []) (only_if c7 climb)) ∙ from_relative

-- ---- the lengths of the candidates

-- in a path that is made normal
settled_path : (target : ReferenceValue) → is_settled target ≡ true → spell_path target.path ≡ spell_path (guarded (context_of target) (normal target.path))
settled_path target h = sym ((bytes_eq-Decides (spell_path (guarded (context_of target) (normal target.path))) (spell_path target.path)).0 h)

flag_is : (p : PathValue) (absolute : Bool) → p.absolute ≡ absolute → normal p ≡ path absolute (normal_segments p)
flag_is p absolute e = λ i. path (e i) (normal_segments p)

short_climb_path : (target : ReferenceValue) → is_settled target ≡ true → (not target.path.absolute && is_climb (normal_segments target.path)) ≡ true
    → length (spell_path (path false (all_but_last (normal_segments target.path)))) < length (spell_path target.path)
short_climb_path target settled h =
    let list = normal_segments target.path in
    let both = and_parts (not target.path.absolute) (is_climb list) h in
    let flag : target.path.absolute ≡ false = grind (arith, both.0) in
    let shorter_list = climb_shorter list both.1 in
    let adds = guard_adds (context_of target) false list in
    let same = ap length (settled_path target settled ∙ ap (λ p. spell_path (guarded (context_of target) p)) (flag_is target.path false flag)) in
    omega arith

-- what stands alone has two bytes more at most, and none where no authority stands before it
short_root_path : (target : ReferenceValue) → is_settled target ≡ true → target.path.absolute ≡ true
    → length (spell_path (guarded alone (normal target.path))) ≤ length (spell_path target.path) + 2
short_root_path target settled flag =
    let list = normal_segments target.path in
    let alone_is = ap (λ p. length (spell_path (guarded alone p))) (flag_is target.path true flag) in
    let same = ap length (settled_path target settled ∙ ap (λ p. spell_path (guarded (context_of target) p)) (flag_is target.path true flag)) in
    let adds = guard_adds (context_of target) true list in
    let two = guard_adds_two list in
    omega arith

rootless_authority : (target : ReferenceValue) → is_some target.authority ≡ false → target.path.absolute ≡ true → is_settled target ≡ true
    → length (spell_path (guarded alone (normal target.path))) ≤ length (spell_path target.path)
rootless_authority target none flag settled =
    let list = normal_segments target.path in
    let alone_is = ap (λ p. length (spell_path (guarded alone p))) (flag_is target.path true flag) in
    let same = ap length (settled_path target settled ∙ ap (λ p. spell_path (guarded (context_of target) p)) (flag_is target.path true flag)) in
    let one = ap (λ p. length (spell_path p)) (guard_alone (is_some target.scheme) list ∙ (λ i. guarded (record { has_scheme = is_some target.scheme; has_authority = sym none i }) (path true list))) in
    omega arith

-- ---- all candidates

module _ (target base : ReferenceValue) (follows : follows_authority (context_of target) target.path ≡ true) where
  abbrev relative : ReferenceValue
  relative = with_only_path (relative_path target base) target

  abbrev rooted : ReferenceValue
  rooted = with_only_path (guarded alone (normal target.path)) target

  abbrev after_scheme : ReferenceValue
  after_scheme = record target { scheme = None }

  abbrev climbs_up : Bool
  climbs_up = not target.path.absolute && is_climb (normal_segments target.path)

  -- what comes after an authority is no climb
  no_climb : is_some target.authority ≡ true → climbs_up ≡ false
  unfolding normal_segments excess staying_names
  no_climb some = by target.path.absolute target.path.segments ((λ i. not (sym some i) || target.path.absolute || is_empty target.path.segments) ∙ follows)
    where
      by : (absolute : Bool) (list : List Text) → (not true || absolute || is_empty list) ≡ true → (not absolute && is_climb (normal_segments (path absolute list))) ≡ false
      by true list h = refl
      by false [] h = refl
      by false (s ∷ list) h = absurd (true≢false (sym h))

  module _ (settled : is_settled target ≡ true) where
    climb_light : climbs_up ≡ true → length (spell (climb_shortened target)) < length (spell target)
    climb_light h = let short = short_climb_path target settled h in omega (arith, length-spell)

    -- nor is a scheme left out before one
    scheme_light : (same_scheme_text target base && is_some target.authority) ≡ true → length (spell after_scheme) ≤ length (spell (cond climbs_up (climb_shortened target) target))
    scheme_light h =
        let none = no_climb (and_parts (same_scheme_text target base) (is_some target.authority) h).1 in
        let same = ap (λ c. length (spell (cond c (climb_shortened target) target))) none in
        omega (arith, length-spell, same)

    root_light-scheme : (authority : Option AuthorityValue) → target.authority ≡ authority → target.path.absolute ≡ true
        → length (spell rooted) ≤ length (spell (parts target.scheme authority target.path target.query target.fragment))
    root_light-scheme None e flag =
        let short = rootless_authority target (ap is_some e) flag settled in omega (arith, length-spell)
    root_light-scheme (Some a) e flag = let short = short_root_path target settled flag in omega (arith, length-spell)

    root_light-authority : (authority : Option AuthorityValue) → is_some authority ≡ true → target.path.absolute ≡ true → length (spell rooted) ≤ length (spell (parts None authority target.path target.query target.fragment))
    root_light-authority None some flag = absurd (true≢false (sym some))
    root_light-authority (Some a) some flag = let short = short_root_path target settled flag in omega (arith, length-spell)

    root_light : (same_authority_text target base && target.path.absolute) ≡ true
        → length (spell rooted) ≤ length (spell (cond (same_scheme_text target base && is_some target.authority) after_scheme (cond climbs_up (climb_shortened target) target)))
    root_light h = by (same_scheme_text target base && is_some target.authority) refl
      where
        flag : target.path.absolute ≡ true
        flag = (and_parts (same_authority_text target base) target.path.absolute h).1

        by : (c : Bool) → (same_scheme_text target base && is_some target.authority) ≡ c → length (spell rooted) ≤ length (spell (cond c after_scheme (cond climbs_up (climb_shortened target) target)))
        by true e = root_light-authority target.authority (and_parts (same_scheme_text target base) (is_some target.authority) e).1 flag
        by false e =
            let light = root_light-scheme target.authority refl flag in
            let same = ap (λ b. length (spell (cond (not b && is_climb (normal_segments target.path)) (climb_shortened target) target))) flag in
            omega (arith, same)

  -- the candidates that give a path
  abbrev with_paths : Bool → List ReferenceValue
  with_paths settled =
      candidates_if relative rooted after_scheme target (climb_shortened target) (same_authority_text target base) (is_reachable target base)
      (same_authority_text target base && target.path.absolute) (same_scheme_text target base && is_some target.authority) climbs_up settled

  the_path : (settled : Bool) → is_settled target ≡ settled → shortest (with_paths settled) ≡ cond settled (Some (with_a_path target base)) None
  the_path true e =
      some_settled relative rooted after_scheme target (climb_shortened target) (same_authority_text target base) (is_reachable target base)
      (same_authority_text target base && target.path.absolute) (same_scheme_text target base && is_some target.authority) climbs_up (climb_light e) (scheme_light e) (root_light e)
  the_path false e =
      none_settled relative rooted after_scheme target (climb_shortened target) (same_authority_text target base) (is_reachable target base)
      (same_authority_text target base && target.path.absolute) (same_scheme_text target base && is_some target.authority) climbs_up

  module _ (first : ReferenceValue) (least : (scheme : Option Text) (authority : Option AuthorityValue) (p : PathValue) → length (spell first) ≤ length (spell (parts scheme authority p target.query target.fragment))) where
    before_paths : (settled : Bool) → shorter first (cond settled (Some (with_a_path target base)) None) ≡ Some first
    before_paths =
        kept_first relative rooted after_scheme target (climb_shortened target) (same_authority_text target base) (is_reachable target base)
        (same_authority_text target base && target.path.absolute) (same_scheme_text target base && is_some target.authority) climbs_up first
        (least None None relative.path, least None None rooted.path, least None target.authority target.path, least target.scheme target.authority target.path, least target.scheme target.authority (climb_shortened target).path)

  -- where the base's path has the same text, nothing but what follows it is given
  abbrev tail_or_path : Bool → Bool → Option ReferenceValue
  tail_or_path tail settled = cond tail (Some (with_only_path empty_path target)) (cond settled (Some (with_a_path target base)) None)

  abbrev with_tail : Bool → Bool → List ReferenceValue
  with_tail tail settled =
      only_if tail (with_only_path empty_path target) ++ only_if (same_authority_text target base && (settled && is_reachable target base)) relative
      ++ only_if (same_authority_text target base && target.path.absolute && settled) rooted ++ only_if (same_scheme_text target base && is_some target.authority && settled) after_scheme
      ++ only_if settled target ++ only_if (climbs_up && settled) (climb_shortened target)

  the_tail : (tail settled : Bool) → is_settled target ≡ settled → shortest (with_tail tail settled) ≡ tail_or_path tail settled
  the_tail true settled e =
      ap (shorter (with_only_path empty_path target)) (the_path settled e)
      ∙ before_paths (with_only_path empty_path target) (λ scheme authority p. omega (arith, length-spell, no_path)) settled
  the_tail false settled e = the_path settled e

  before_tail : (tail settled : Bool) → shorter (fragment_alone target) (tail_or_path tail settled) ≡ Some (fragment_alone target)
  before_tail true settled = first_kept (fragment_alone target) (with_only_path empty_path target) (omega (arith, length-spell, no_path))
  before_tail false settled = before_paths (fragment_alone target) (λ scheme authority p. omega (arith, length-spell, no_path)) settled

  the_fragment : (alone_serves tail settled : Bool) → is_settled target ≡ settled →
      shortest (only_if alone_serves (fragment_alone target) ++ only_if tail (with_only_path empty_path target)
      ++ only_if (same_authority_text target base && (settled && is_reachable target base)) relative
      ++ only_if (same_authority_text target base && target.path.absolute && settled) rooted ++ only_if (same_scheme_text target base && is_some target.authority && settled) after_scheme
      ++ only_if settled target ++ only_if (climbs_up && settled) (climb_shortened target))
      ≡ cond alone_serves (Some (fragment_alone target)) (tail_or_path tail settled)
  the_fragment true tail settled e = ap (shorter (fragment_alone target)) (the_tail tail settled e) ∙ before_tail tail settled
  the_fragment false tail settled e = the_tail tail settled e

-- the choice by tests is the shortest of the candidates that lead to the text
pub relativized-chosen : (set : CharTests) (target base : ReferenceValue) → AreReadable set target base → is_some target.scheme ≡ true → relativized target base ≡ chosen target base
relativized-chosen set target base are full =
    relativized-tested set target base are full
    ∙ the_fragment target base (readable_parts set target are.readable_target).follows (same_path_text target base && same_query_text target base) (same_path_text target base && is_some target.query) (is_settled target) refl
