-- A reference with a scheme or an authority has a candidate that is not longer.
use Rattle.std.proofs.Common.{◌≡◌, ◌≤◌, Bool, true, false, not, ◌&&◌, List, [], ◌∷◌, length, sym, ◌∙◌, ap, inl, inr, Option, Some, None, is_some, true≢false}
use Rattle.std.proofs.lemmas.Bool.{and_parts}
use Rattle.std.specs.List.{list_any}
use Rattle.iref_grammar.specs.{declared.context.PathContext.{PathContext}, Rules.{Text}, Grammar.{colon}}
use Rattle.iref_grammar.specs.{Texts.{all_but_last, part_then}, Authority.{AuthorityValue}, PathValue.{PathValue}}
use Rattle.iref_grammar.specs.{Contexts.{follows_authority, fits}, Reference.{ReferenceValue, spell}}
use Rattle.iref_grammar.specs.{Guard.{guarded}, NormalList.{normal, normal_segments}, Resolution.{resolved}}
use Rattle.iref_grammar.specs.Relativized.{is_climb, climb_shortened, candidates}
use Rattle.iref_grammar.proofs.{RelativeLemmas.{parts}, SettledLemmas.{normal_again}}
use Rattle.iref_grammar.proofs.{NormalPathLemmas.{normal-normalized}, WalkLemmas.{climb-is, climb_alike, same_normal}}
use Rattle.iref_grammar.proofs.{WeightLemmas.{path, weight, lighter-path}, StepsLemmas.{same_text}}
use Rattle.iref_grammar.proofs.AddedLemmas.{guarded_in}
use Rattle.iref_grammar.proofs.NormalWeightLemmas.{IsLight, normal_light, normal_light-root, normal_light-none, not_longer}
use Rattle.iref_grammar.proofs.ChoiceLemmas.{serves, serves-from}
use Rattle.iref_grammar.proofs.CandidateLemmas.{spell-lighter, any-authority, any-whole, any-climb}

-- some candidate serves, where the target is what the reference resolves to
abbrev pub IsServed : ReferenceValue → ReferenceValue → Type 0
IsServed base s = list_any (serves (resolved base s) base (length (spell s))) (candidates (resolved base s) base) ≡ true

-- to be normalized twice changes nothing
pub normalized_twice : (context : PathContext) (p : PathValue) → follows_authority context p ≡ true → guarded context (normal (guarded context (normal p))) ≡ guarded context (normal p)
normalized_twice context p h = ap (guarded context) (normal-normalized context p h)

-- and the guard of a normal path keeps its flag
pub flag_kept : (context : PathContext) (p : PathValue) → follows_authority context p ≡ true → (guarded context (normal p)).absolute ≡ p.absolute
flag_kept context p h = ap (λ (q : PathValue). q.absolute) (normal-normalized context p h)

-- some `..` lead where some `..` and an empty segment do
pub climb-normal : (list : List Text) → is_climb list ≡ true → normal_segments (path false (all_but_last list)) ≡ normal_segments (path false list)
climb-normal list h = let is = climb-is list h in same_normal false [] (all_but_last list) list (climb_alike list (all_but_last list) is.0 is.1 is.2)

-- ---- a scheme

module _ (base : ReferenceValue) (scheme : Text) (authority : Option AuthorityValue) (query fragment : Option Text) where
  abbrev whole : PathValue → ReferenceValue
  whole p = parts (Some scheme) authority p query fragment

  abbrev context : PathContext
  context = record { has_scheme = true; has_authority = is_some authority }

  -- the target itself
  itself_serves : (absolute : Bool) (segments : List Text) → follows_authority context (path absolute segments) ≡ true → guarded_in context absolute (normal_segments (path absolute segments)) ≤ weight segments → IsServed base (whole (path absolute segments))
  unfolding resolved
  itself_serves absolute segments follows light =
      let p = path absolute segments in
      let target = whole (guarded context (normal p)) in
      any-whole (serves target base (length (spell (whole p)))) target base
      (serves-from target base (length (spell (whole p))) target (ap whole (normalized_twice context p follows))
      (spell-lighter (Some scheme) authority (guarded context (normal p)) p query fragment (not_longer context absolute (normal_segments p) segments (flag_kept context p follows) light)))

  -- the target without its last `/`
  climb_serves : (segments : List Text) → follows_authority context (path false segments) ≡ true → is_climb (normal_segments (path false segments)) ≡ true → weight (all_but_last (normal_segments (path false segments))) ≤ weight segments → IsServed base (whole (path false segments))
  unfolding resolved
  climb_serves segments follows climb light =
      let p = path false segments in
      let target = whole (guarded context (normal p)) in
      let list : normal_segments (guarded context (normal p)) ≡ normal_segments p = ap (λ (q : PathValue). q.segments) (normal-normalized context p follows) in
      let flag : (guarded context (normal p)).absolute ≡ false = flag_kept context p follows in
      let leads : normal_segments (path false (all_but_last (normal_segments (guarded context (normal p))))) ≡ normal_segments p =
      (λ i. normal_segments (path false (all_but_last (list i)))) ∙ climb-normal (normal_segments p) climb ∙ ap (λ (q : PathValue). q.segments) (normal_again p) in
      any-climb (serves target base (length (spell (whole p)))) target base (λ i. not (flag i) && (ap is_climb list ∙ climb) i)
      (serves-from target base (length (spell (whole p))) (climb_shortened target) (λ i. whole (guarded context (path false (leads i))))
      (spell-lighter (Some scheme) authority (path false (all_but_last (normal_segments (guarded context (normal p))))) p query fragment
      (lighter-path false (all_but_last (normal_segments (guarded context (normal p)))) segments ((rw list light)))))

  light_serves : (segments : List Text) → follows_authority context (path false segments) ≡ true → IsLight context false (normal_segments (path false segments)) segments → IsServed base (whole (path false segments))
  light_serves segments follows (inl light) = itself_serves false segments follows light
  light_serves segments follows (inr climb) = climb_serves segments follows climb.0 climb.1

  pub scheme_served : (absolute : Bool) (segments : List Text) → fits context (path absolute segments) ≡ true → IsServed base (whole (path absolute segments))
  scheme_served true segments fit = itself_serves true segments (and_parts _ _ fit).0 (normal_light-root context segments fit)
  scheme_served false segments fit = light_serves segments (and_parts _ _ fit).0 (normal_light context false segments fit)

-- ---- an authority and no scheme

-- after an authority a path is not longer for being normal
after_authority : (has_scheme absolute : Bool) (segments : List Text) → fits (record { has_scheme = false; has_authority = true }) (path absolute segments) ≡ true
    → guarded_in (record { has_scheme = has_scheme; has_authority = true }) absolute (normal_segments (path absolute segments)) ≤ weight segments
after_authority true true segments fit = normal_light-root (record { has_scheme = true; has_authority = true }) segments fit
after_authority false true segments fit = normal_light-root (record { has_scheme = false; has_authority = true }) segments fit
after_authority has_scheme false [] fit = normal_light-none (record { has_scheme = has_scheme; has_authority = true }) false
after_authority has_scheme false (s ∷ rest) fit = absurd (true≢false (sym fit))

module _ (base : ReferenceValue) (authority : AuthorityValue) (query fragment : Option Text) where
  abbrev after_scheme : PathValue → ReferenceValue
  after_scheme p = parts None (Some authority) p query fragment

  pub authority_served : (absolute : Bool) (segments : List Text) → fits (record { has_scheme = false; has_authority = true }) (path absolute segments) ≡ true → IsServed base (after_scheme (path absolute segments))
  unfolding resolved
  authority_served absolute segments fit =
      let p = path absolute segments in
      let context : PathContext = record { has_scheme = is_some base.scheme; has_authority = true } in
      let follows : follows_authority context p ≡ true = (and_parts _ _ fit).0 in
      let target = parts base.scheme (Some authority) (guarded context (normal p)) query fragment in
      any-authority (serves target base (length (spell (after_scheme p)))) target base (λ i. same_text (part_then (colon ∷ []) base.scheme) i && true)
      (serves-from target base (length (spell (after_scheme p))) (after_scheme (guarded context (normal p))) (ap (λ q. parts base.scheme (Some authority) q query fragment) (normalized_twice context p follows))
      (spell-lighter None (Some authority) (guarded context (normal p)) p query fragment (not_longer context absolute (normal_segments p) segments (flag_kept context p follows) (after_authority (is_some base.scheme) absolute segments fit))))
