-- A relative reference leads back to its target, and none climbs less.
use Rattle.std.proofs.Common.{arith, ◌≡◌, ◌≤◌, Bool, true, false, cond, ◌&&◌, ◌||◌, List, [], ◌∷◌, ◌++◌, refl, sym, ◌∙◌, ap, Option, Some, None, option_map, is_some, is_none, codes, true≢false}
use Rattle.std.proofs.{lemmas.Grind.{common_steps}, lemmas.Bool.{and_parts}}
use Rattle.std.specs.{Option.{option_or}}
use Rattle.percent_encoding.specs.Percent.{percent_decode}
use Rattle.iref_grammar.specs.{declared.context.PathContext.{PathContext}, Rules.{Text}, Texts.{is_empty, all_but_last}}
use Rattle.iref_grammar.specs.{Authority.{AuthorityValue}, PathValue.{PathValue}}
use Rattle.iref_grammar.specs.Contexts.{alone, follows_authority, reads_as_path}
use Rattle.iref_grammar.specs.Reference.{ReferenceValue, context_of}
use Rattle.iref_grammar.specs.Guard.{guarded, with_dot}
use Rattle.iref_grammar.specs.{NormalList.{count_parents, normal, normal_segments, staying_names}, Resolution.{resolved}}
use Rattle.iref_grammar.specs.{AuthorityKey.{authority_key}, Key.{key}, PathKey.{path_key}}
use Rattle.iref_grammar.specs.Relative.{have_same_authority, schemes_agree, is_same_place, steps_between, directory_names, leading_path, with_only_path, relative_to}
use Rattle.iref_grammar.specs.RelativeLaws.{IsOnlyPath}
use Rattle.iref_grammar.proofs.JoinedLemmas.{are_names}
use Rattle.iref_grammar.proofs.NormalPathLemmas.{normal-with_dot, normal-guarded, path_key-normalized}
use Rattle.iref_grammar.proofs.SettledLemmas.{normal_again, names-normal, lone-normal}
use Rattle.iref_grammar.proofs.LeadingLemmas.{decoded, climb_between, steps_lead, dotted_steps_lead, parents-steps, parents-dotted, steps_least}
use Rattle.iref_grammar.proofs.{KeyLemmas.{same_scheme, same_authority, same_path}, FitsLemmas.{is_empty-snoc}}

abbrev pub parts : Option Text → Option AuthorityValue → PathValue → Option Text → Option Text → ReferenceValue
parts scheme authority path query fragment = record { scheme = scheme; authority = authority; path = path; query = query; fragment = fragment }

-- the path stands where it may, after an authority
abbrev pub stands : ReferenceValue → Type 0
stands r = follows_authority (context_of r) r.path ≡ true

-- ---- paths

abbrev pub at_root : List Text → PathValue
at_root segments = record { absolute = true; segments = segments }

abbrev pub at_no_root : List Text → PathValue
at_no_root segments = record { absolute = false; segments = segments }

abbrev decoded_path : PathValue → PathValue
decoded_path p = record { absolute = p.absolute; segments = decoded p.segments }

path_key-guarded : (context : PathContext) (p : PathValue) → follows_authority context p ≡ true → path_key (guarded context p) ≡ path_key p
unfolding path_key
path_key-guarded context p h = ap decoded_path (normal-guarded context p h)

path_key-normal : (p : PathValue) → path_key (normal p) ≡ path_key p
unfolding path_key
path_key-normal p = ap decoded_path (normal_again p)

under_root : (has_scheme has_authority : Bool) (segments : List Text) → let context : PathContext = record { has_scheme = has_scheme; has_authority = has_authority } in follows_authority context (at_root segments) ≡ true
under_root has_scheme has_authority segments = grind arith

path_key-rooted : (context : PathContext) (segments : List Text) → path_key (guarded context (normal (at_root segments))) ≡ path_key (at_root segments)
path_key-rooted context segments = path_key-normalized context (at_root segments) (under_root context.has_scheme context.has_authority segments)

-- ---- what a reference resolves to

-- a key by its path, query and fragment
abbrev pub key_of : Option Text → Option AuthorityValue → PathValue → Option Text → Option Text → ReferenceValue
key_of scheme authority path query fragment = parts scheme authority path (option_map percent_decode query) (option_map percent_decode fragment)

-- the key that a reference has where it takes scheme and authority of the base
abbrev pub key_under : ReferenceValue → PathValue → Option Text → Option Text → ReferenceValue
key_under base path query fragment = key_of (key base).scheme (key base).authority path query fragment

-- a reference with a scheme, to itself
pub resolved-full : (base r : ReferenceValue) → is_some r.scheme ≡ true → stands r → key (resolved base r) ≡ key r
unfolding key resolved
resolved-full base r full stand = grind (arith, path_key-normalized)

-- a path from the root, to that path
pub resolved-rooted : (base : ReferenceValue) (segments : List Text) (query fragment : Option Text) → key (resolved base (parts None None (at_root segments) query fragment)) ≡ key_under base (path_key (at_root segments)) query fragment
unfolding key resolved guarded
resolved-rooted base segments query fragment = ap (λ p. key_under base p query fragment) (path_key-rooted (context_of base) segments)

-- a reference with an authority, to itself under the base's scheme
resolved-authority : (base : ReferenceValue) (authority : AuthorityValue) (path : PathValue) (query fragment : Option Text) → let r = parts None (Some authority) path query fragment in
    stands r → key (resolved base r) ≡ key_of (key base).scheme (Some (authority_key authority)) (path_key path) query fragment
unfolding key resolved guarded
resolved-authority base authority path query fragment stand =
    ap (λ p. key_of (key base).scheme (Some (authority_key authority)) p query fragment)
    (path_key-normalized (record { has_scheme = is_some base.scheme; has_authority = true }) path stand)

-- the empty path, to the base's path
pub resolved-empty : (base : ReferenceValue) (query fragment : Option Text) → stands base → key (resolved base (parts None None (at_no_root []) query fragment)) ≡ key_under base (path_key base.path) (option_or query base.query) fragment
unfolding key resolved guarded
resolved-empty base query fragment stand = ap (λ p. key_under base p (option_or query base.query) fragment) (path_key-guarded (context_of base) base.path stand)

-- another relative path, to that path after the base's directory
pub resolved-relative : (base : ReferenceValue) (segments : List Text) (query fragment : Option Text) → base.path.absolute ≡ true → is_empty segments ≡ false
    → key (resolved base (parts None None (at_no_root segments) query fragment)) ≡ key_under base (path_key (at_root (all_but_last base.path.segments ++ segments))) query fragment
unfolding key resolved
resolved-relative base [] query fragment root some = absurd (true≢false some)
resolved-relative base (s ∷ rest) query fragment root some = grind (arith, path_key-rooted)

-- ---- where scheme and authority agree

-- a target that takes its scheme from the base has an authority or begins at the root
pub takes_scheme : (target base : ReferenceValue) → is_some base.scheme ≡ true → schemes_agree target base ≡ true → (is_some target.scheme || is_some target.authority || target.path.absolute) ≡ true
unfolding key
takes_scheme target base full agree = grind arith

scheme_of_uri_parts : (target base : ReferenceValue) → is_some target.scheme ≡ true → schemes_agree target base ≡ true → (key target).scheme ≡ (key base).scheme
scheme_of_uri_parts target base full agree = grind (arith, same_scheme)

-- a target that agrees with the base resolves to its own path, query and fragment under the base
pub resolved-agreeing : (target base : ReferenceValue) → is_some base.scheme ≡ true → schemes_agree target base ≡ true → have_same_authority target base ≡ true → stands target
    → key (resolved base target) ≡ key_under base (path_key target.path) target.query target.fragment
unfolding key
resolved-agreeing target base full agree same stand = by target.scheme target.authority target.path target.query target.fragment agree same stand
  where
    rooted : (absolute : Bool) (segments : List Text) (query fragment : Option Text) → (false || false || absolute) ≡ true → let path : PathValue = record { absolute = absolute; segments = segments } in
        key (resolved base (parts None None path query fragment)) ≡ key_under base (path_key path) query fragment
    rooted true segments query fragment h = resolved-rooted base segments query fragment
    rooted false segments query fragment h = absurd (true≢false (sym h))

    by : (scheme : Option Text) (authority : Option AuthorityValue) (path : PathValue) (query fragment : Option Text) → let target = parts scheme authority path query fragment in
        schemes_agree target base ≡ true → have_same_authority target base ≡ true → stands target → key (resolved base target) ≡ key_under base (path_key path) query fragment
    by (Some s) authority path query fragment agree same stand = grind (arith, common_steps, resolved-full, scheme_of_uri_parts, same_authority)
    by None (Some a) path query fragment agree same stand = grind (arith, common_steps, same_authority, resolved-authority)
    by None None path query fragment agree same stand = rooted path.absolute path.segments query fragment (takes_scheme (parts None None path query fragment) base full agree)

-- ---- each case of the answer

-- the empty path leads to the base's own path
pub same_place-leads : (target base : ReferenceValue) → stands base → is_same_place target base ≡ true
    → key (resolved base (with_only_path (at_no_root []) target)) ≡ key_under base (path_key target.path) target.query target.fragment
same_place-leads target base stand h = grind (arith, common_steps, and_parts, is_some, is_none, same_path, resolved-empty)

abbrev pub path_down : PathValue → List Text → List Text
path_down base list = steps_between (directory_names base) list

-- the steps lead down from the base's directory, behind a guard or not
pub steps-lead : (base : ReferenceValue) (segments : List Text) (query fragment : Option Text) → base.path.absolute ≡ true
    → key (resolved base (parts None None (guarded alone (at_no_root (path_down base.path (normal_segments (at_root segments))))) query fragment)) ≡ key_under base (path_key (at_root segments)) query fragment
unfolding path_key guarded staying_names
steps-lead base segments query fragment root = by (reads_as_path alone (at_no_root steps))
  where
    list : List Text
    list = normal_segments (at_root segments)

    steps : List Text
    steps = path_down base.path list

    by : (b : Bool) → key (resolved base (parts None None (cond b (at_no_root steps) (with_dot (at_no_root steps))) query fragment)) ≡ key_under base (path_key (at_root segments)) query fragment
    by true = grind (arith, common_steps, resolved-relative, is_empty-snoc, steps_lead, names-normal, lone-normal)
    by false = grind (arith, common_steps, resolved-relative, dotted_steps_lead, names-normal, lone-normal)

-- the whole path leads there from a base with no root
pub path-leads : (base : ReferenceValue) (segments : List Text) (query fragment : Option Text)
    → key (resolved base (parts None None (guarded alone (normal (at_root segments))) query fragment)) ≡ key_under base (path_key (at_root segments)) query fragment
unfolding path_key guarded normal_segments
path-leads base segments query fragment = by (reads_as_path alone (normal (at_root segments)))
  where
    by : (b : Bool) → key (resolved base (parts None None (cond b (normal (at_root segments)) (with_dot (normal (at_root segments)))) query fragment)) ≡ key_under base (path_key (at_root segments)) query fragment
    by true = resolved-rooted base (normal_segments (at_root segments)) query fragment ∙ (λ i. key_under base (path_key-normal (at_root segments) i) query fragment)
    by false =
        resolved-rooted base (codes "." ∷ normal_segments (at_root segments)) query fragment
        ∙ (λ i. key_under base (ap decoded_path (normal-with_dot (normal (at_root segments))) i) query fragment)
        ∙ (λ i. key_under base (path_key-normal (at_root segments) i) query fragment)

pub leading_path-leads : (target base : ReferenceValue) → target.path.absolute ≡ true
    → key (resolved base (with_only_path (leading_path target base) target)) ≡ key_under base (path_key target.path) target.query target.fragment
leading_path-leads target base root = by target.path.absolute target.path.segments base.path.absolute refl root
  where
    by : (absolute : Bool) (segments : List Text) (from_root : Bool) → base.path.absolute ≡ from_root → absolute ≡ true → let path : PathValue = record { absolute = absolute; segments = segments } in
        key (resolved base (parts None None (guarded alone (cond from_root (at_no_root (path_down base.path (normal_segments path))) (normal path))) target.query target.fragment)) ≡ key_under base (path_key path) target.query target.fragment
    by false segments from_root e root = absurd (true≢false (sym root))
    by true segments true e root = steps-lead base segments target.query target.fragment e
    by true segments false e root = path-leads base segments target.query target.fragment

-- ---- the whole

-- the relative reference leads where the target does
pub relative_to-leads : (target base : ReferenceValue) → is_some base.scheme ≡ true → stands target → stands base → key (resolved base (relative_to target base)) ≡ key (resolved base target)
unfolding relative_to key
relative_to-leads target base full stand own =
    by (schemes_agree target base) (have_same_authority target base) (is_same_place target base) target.path.absolute refl refl refl refl
  where
    by : (agree same range root : Bool) → schemes_agree target base ≡ agree → have_same_authority target base ≡ same → is_same_place target base ≡ range → target.path.absolute ≡ root
        → key (resolved base (cond (agree && same) (cond range (with_only_path (at_no_root []) target) (cond root (with_only_path (leading_path target base) target) target)) target)) ≡ key (resolved base target)
    by false same range root e f g h = refl
    by true false range root e f g h = refl
    by true true true root e f g h = same_place-leads target base own g ∙ sym (resolved-agreeing target base full e f stand)
    by true true false true e f g h = leading_path-leads target base h ∙ sym (resolved-agreeing target base full e f stand)
    by true true false false e f g h = refl

-- where the target has a scheme, the key is its own
pub relative_to-leads_full : (target base : ReferenceValue) → is_some target.scheme ≡ true → is_some base.scheme ≡ true → stands target → stands base → key (resolved base (relative_to target base)) ≡ key target
relative_to-leads_full target base own full stand base_stand = relative_to-leads target base full stand base_stand ∙ resolved-full base target own stand

relative_guarded : (segments : List Text) → (guarded alone (at_no_root segments)).absolute ≡ false
unfolding guarded
relative_guarded segments = grind arith

-- where scheme and authority agree and the target begins at the root, neither is written
pub relative_to-only_path : (target base : ReferenceValue) → schemes_agree target base ≡ true → have_same_authority target base ≡ true → target.path.absolute ≡ true → IsOnlyPath (relative_to target base)
unfolding relative_to key
relative_to-only_path target base agree same root = grind arith

-- where the base begins there too, the answer does not
pub relative_to-no_root : (target base : ReferenceValue) → schemes_agree target base ≡ true → have_same_authority target base ≡ true → target.path.absolute ≡ true → base.path.absolute ≡ true → (relative_to target base).path.absolute ≡ false
unfolding relative_to key
relative_to-no_root target base agree same root base_root = grind (arith, relative_guarded)

-- how many `..` the answer has, at most
parents_guarded : (directory list : List Text) → are_names list ≡ true → count_parents (guarded alone (at_no_root (steps_between directory list))).segments ≡ climb_between directory list
unfolding guarded
parents_guarded directory list h = grind (arith, parents-steps, parents-dotted)

answer_parents : (target base : ReferenceValue) → schemes_agree target base ≡ true → have_same_authority target base ≡ true → target.path.absolute ≡ true → base.path.absolute ≡ true
    → count_parents (relative_to target base).path.segments ≤ climb_between (directory_names base.path) (normal_segments target.path)
unfolding relative_to key
answer_parents target base agree same root base_root = grind (arith, parents_guarded, names-normal)

-- no relative path that leads to the target climbs less
pub relative_to-least : (target base : ReferenceValue) → is_some base.scheme ≡ true → stands target → schemes_agree target base ≡ true → have_same_authority target base ≡ true → target.path.absolute ≡ true → base.path.absolute ≡ true
    → (segments : List Text) → is_empty segments ≡ false → key (resolved base (with_only_path (at_no_root segments) target)) ≡ key (resolved base target)
    → count_parents (relative_to target base).path.segments ≤ count_parents segments
unfolding normal_segments path_key
relative_to-least target base full stand agree same root base_root [] some leads = absurd (true≢false some)
relative_to-least target base full stand agree same root base_root (s ∷ rest) some leads = grind (arith, common_steps, resolved-relative, resolved-agreeing, steps_least, answer_parents)
