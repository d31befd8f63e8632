-- Each step of a reference keeps it readable.
use Rattle.std.proofs.{Common.{arith, ◌≡◌, true, List, [], refl, Option, Some, None, is_some, is_none}, lemmas.Grind.{common_steps}}
use Rattle.std.proofs.lemmas.Bool.{and_from, and_parts}
use Rattle.std.specs.List.{list_all}
use Rattle.iref_grammar.specs.{declared.context.PathContext.{PathContext}, Characters.{CharTests}, Rules.{Text}}
use Rattle.iref_grammar.specs.Tests.{is_scheme, is_segment, is_query, is_fragment, is_user_info, is_host, is_port, none_or}
use Rattle.iref_grammar.specs.{Authority.{AuthorityValue, has_authority_parts}, PathValue.{PathValue, spell_path}}
use Rattle.iref_grammar.specs.{Contexts.{fits}, Reference.{ReferenceValue, context_of, is_readable}, Grammar.{slash}}
use Rattle.iref_grammar.specs.Texts.{lacks}
use Rattle.iref_grammar.specs.PathSteps.{lazy_pushed, popped, pushed, appended, lazy_appended, replaced, joined, normalized, cleared}
use Rattle.iref_grammar.specs.ComponentSteps.{guarded_reference, with_scheme, path_after_new_authority, with_authority, with_path, with_query, with_fragment, with_authority_step, with_path_step, with_normal_path, with_new_normal_path}
use Rattle.iref_grammar.specs.{AuthoritySteps.{with_user_info, with_host, with_port}, Key.{key}}
use Rattle.iref_grammar.specs.DotSegments.{RemovesDotSegments}
use Rattle.iref_grammar.proofs.ReadablePartsLemmas.{readable_parts, readable_from}
use Rattle.iref_grammar.proofs.{GuardLemmas.{guarded-fits}, RewritingLemmas.{path_removes_dot_segments}}
use Rattle.iref_grammar.proofs.NormalPathLemmas.{normalized-normalized, path_key-normalized}
use Rattle.iref_grammar.proofs.NormalGrammarLemmas.{takes_dots}
use Rattle.iref_grammar.proofs.FitsLemmas.{lazy_pushed-fits, popped-fits, pushed-fits, appended-fits, lazy_appended-fits, replaced-fits, joined-fits, normalized-fits, cleared-fits}
use Rattle.iref_grammar.proofs.StepSegmentLemmas.{all_in, in-cond, guarded-in, lazy_pushed-in, popped-in, pushed-in, appended-in, lazy_appended-in, joined-in, normalized-in}

-- ---- path steps

-- a step that keeps the path readable where it stands keeps the reference readable
pub with_path_step-readable : (set : CharTests) (step : PathContext → PathValue → PathValue) (r : ReferenceValue)
    → (fits (context_of r) r.path ≡ true → fits (context_of r) (step (context_of r) r.path) ≡ true)
    → (all_in (is_segment set) r.path ≡ true → all_in (is_segment set) (step (context_of r) r.path) ≡ true)
    → is_readable set r ≡ true → is_readable set (with_path_step step r) ≡ true
with_path_step-readable set step r keeps_fit keeps_in h = grind (arith, common_steps, readable_parts, readable_from)

pub lazy_pushed-readable : (set : CharTests) (s : Text) (r : ReferenceValue) → is_segment set s ≡ true → is_readable set r ≡ true → is_readable set (with_path_step (λ context. lazy_pushed context s) r) ≡ true
lazy_pushed-readable set s r k = with_path_step-readable set (λ context. lazy_pushed context s) r (lazy_pushed-fits (context_of r) s r.path) (lazy_pushed-in (is_segment set) (takes_dots set) (context_of r) s r.path k)

pub pushed-readable : (set : CharTests) (s : Text) (r : ReferenceValue) → is_segment set s ≡ true → is_readable set r ≡ true → is_readable set (with_path_step (λ context. pushed context s) r) ≡ true
pushed-readable set s r k = with_path_step-readable set (λ context. pushed context s) r (pushed-fits (context_of r) s r.path) (pushed-in (is_segment set) (takes_dots set) (context_of r) s r.path k)

pub popped-readable : (set : CharTests) (r : ReferenceValue) → is_readable set r ≡ true → is_readable set (with_path_step popped r) ≡ true
popped-readable set r = with_path_step-readable set popped r (popped-fits (context_of r) r.path) (popped-in (is_segment set) (takes_dots set) (context_of r) r.path)

pub appended-readable : (set : CharTests) (items : List Text) (r : ReferenceValue) → list_all (is_segment set) items ≡ true → is_readable set r ≡ true → is_readable set (with_path_step (λ context. appended context items) r) ≡ true
appended-readable set items r k = with_path_step-readable set (λ context. appended context items) r (appended-fits (context_of r) items r.path) (appended-in (is_segment set) (takes_dots set) (context_of r) items r.path k)

pub lazy_appended-readable : (set : CharTests) (items : List Text) (r : ReferenceValue) → list_all (is_segment set) items ≡ true → is_readable set r ≡ true → is_readable set (with_path_step (λ context. lazy_appended context items) r) ≡ true
lazy_appended-readable set items r k = with_path_step-readable set (λ context. lazy_appended context items) r (lazy_appended-fits (context_of r) items r.path) (lazy_appended-in (is_segment set) (takes_dots set) (context_of r) items r.path k)

pub joined-readable : (set : CharTests) (new : PathValue) (r : ReferenceValue) → all_in (is_segment set) new ≡ true → is_readable set r ≡ true → is_readable set (with_path_step (λ context. joined context new) r) ≡ true
joined-readable set new r k = with_path_step-readable set (λ context. joined context new) r (joined-fits (context_of r) new r.path) (joined-in (is_segment set) (takes_dots set) (context_of r) new r.path k)

pub replaced-readable : (set : CharTests) (new : PathValue) (r : ReferenceValue) → all_in (is_segment set) new ≡ true → is_readable set r ≡ true → is_readable set (with_path_step (λ context. replaced context new) r) ≡ true
replaced-readable set new r k = with_path_step-readable set (λ context. replaced context new) r (λ h. replaced-fits (context_of r) new r.path) (λ h. guarded-in (is_segment set) (takes_dots set) (context_of r) new k)

pub normalized-readable : (set : CharTests) (r : ReferenceValue) → is_readable set r ≡ true → is_readable set (with_path_step normalized r) ≡ true
normalized-readable set r = with_path_step-readable set normalized r (λ h. normalized-fits (context_of r) r.path) (normalized-in (is_segment set) (takes_dots set) (context_of r) r.path)

pub cleared-readable : (set : CharTests) (r : ReferenceValue) → is_readable set r ≡ true → is_readable set (with_path_step (λ context. cleared) r) ≡ true
cleared-readable set r = with_path_step-readable set (λ context. cleared) r (λ h. cleared-fits (context_of r) r.path) (λ h. refl)

-- ---- component steps

-- each component is in its rule
pub record HasComponents (set : CharTests) (r : ReferenceValue) : Type 0 where
  pub scheme : none_or is_scheme r.scheme ≡ true
  pub authority : none_or (has_authority_parts set) r.authority ≡ true
  pub segments : list_all (is_segment set) r.path.segments ≡ true
  pub query : none_or (is_query set) r.query ≡ true
  pub fragment : none_or (is_fragment set) r.fragment ≡ true

pub readable_components : (set : CharTests) (r : ReferenceValue) → is_readable set r ≡ true → HasComponents set r
readable_components set r h =
    let parts = readable_parts set r h in
    record { scheme = parts.scheme; authority = parts.authority; segments = parts.segments; query = parts.query; fragment = parts.fragment }

-- a guard makes them a readable reference
pub guarded_reference-readable : (set : CharTests) (r : ReferenceValue) → HasComponents set r → is_readable set (guarded_reference r) ≡ true
guarded_reference-readable set r own =
    let guarded_fits = and_parts _ _ (guarded-fits (context_of r) r.path) in
    readable_from set (guarded_reference r) (record {
      scheme = own.scheme;
      authority = own.authority;
      segments = guarded-in (is_segment set) (takes_dots set) (context_of r) r.path own.segments;
      query = own.query;
      fragment = own.fragment;
      follows = guarded_fits.0;
      reads = guarded_fits.1;
    })

pub with_scheme-readable : (set : CharTests) (scheme : Option Text) (r : ReferenceValue) → none_or is_scheme scheme ≡ true → is_readable set r ≡ true → is_readable set (with_scheme scheme r) ≡ true
unfolding with_scheme
with_scheme-readable set None r k h =
    let own = readable_components set r h in
    guarded_reference-readable set (record r { scheme = None }) (record { scheme = refl; authority = own.authority; segments = own.segments; query = own.query; fragment = own.fragment })
with_scheme-readable set (Some s) r k h = grind (arith, common_steps, readable_parts, readable_from)

pub with_authority-readable : (set : CharTests) (authority : Option AuthorityValue) (r : ReferenceValue) → none_or (has_authority_parts set) authority ≡ true → is_readable set r ≡ true → is_readable set (with_authority authority r) ≡ true
unfolding with_authority
with_authority-readable set authority r k h =
    let own = readable_components set r h in
    guarded_reference-readable set (record r { authority = authority; path = path_after_new_authority authority r }) (record {
      scheme = own.scheme;
      authority = k;
      segments = in-cond (is_segment set) (is_some authority) _ _ (in-cond (is_segment set) (is_none r.authority) _ _ own.segments own.segments) own.segments;
      query = own.query;
      fragment = own.fragment;
    })

pub with_path-readable : (set : CharTests) (p : PathValue) (r : ReferenceValue) → all_in (is_segment set) p ≡ true → is_readable set r ≡ true → is_readable set (with_path p r) ≡ true
unfolding with_path
with_path-readable set p r k h =
    let own = readable_components set r h in
    guarded_reference-readable set (record r { path = p }) (record { scheme = own.scheme; authority = own.authority; segments = k; query = own.query; fragment = own.fragment })

pub with_query-readable : (set : CharTests) (query : Option Text) (r : ReferenceValue) → none_or (is_query set) query ≡ true → is_readable set r ≡ true → is_readable set (with_query query r) ≡ true
with_query-readable set query r k h = grind (arith, readable_parts, readable_from)

pub with_fragment-readable : (set : CharTests) (fragment : Option Text) (r : ReferenceValue) → none_or (is_fragment set) fragment ≡ true → is_readable set r ≡ true → is_readable set (with_fragment fragment r) ≡ true
with_fragment-readable set fragment r k h = grind (arith, readable_parts, readable_from)

pub with_normal_path-readable : (set : CharTests) (r : ReferenceValue) → is_readable set r ≡ true → is_readable set (with_normal_path r) ≡ true
with_normal_path-readable set r h = normalized-readable set r h

pub with_new_normal_path-readable : (set : CharTests) (p : PathValue) (r : ReferenceValue) → all_in (is_segment set) p ≡ true → is_readable set r ≡ true → is_readable set (with_new_normal_path p r) ≡ true
with_new_normal_path-readable set p r k h = with_normal_path-readable set (with_path p r) (with_path-readable set p r k h)

-- ---- authority steps

-- a step that keeps the parts of an authority in their rules keeps the reference readable
with_authority_step-readable : (set : CharTests) (step : AuthorityValue → AuthorityValue) (r : ReferenceValue) → ((a : AuthorityValue) → has_authority_parts set a ≡ true → has_authority_parts set (step a) ≡ true)
    → is_readable set r ≡ true → is_readable set (with_authority_step step r) ≡ true
with_authority_step-readable set step r keeps h = grind (arith, readable_parts, readable_from)

-- the parts of an authority are in their rules
record HasParts (set : CharTests) (a : AuthorityValue) : Type 0 where
  user_info : none_or (is_user_info set) a.user_info ≡ true
  host : is_host set a.host ≡ true
  port : none_or is_port a.port ≡ true

authority_parts : (set : CharTests) (a : AuthorityValue) → has_authority_parts set a ≡ true → HasParts set a
unfolding has_authority_parts
authority_parts set a h = grind arith

authority_from : (set : CharTests) (a : AuthorityValue) → HasParts set a → has_authority_parts set a ≡ true
unfolding has_authority_parts
authority_from set a parts = and_from _ _ (and_from _ _ parts.user_info parts.host) parts.port

pub with_user_info-readable : (set : CharTests) (user_info : Option Text) (r : ReferenceValue) → none_or (is_user_info set) user_info ≡ true → is_readable set r ≡ true → is_readable set (with_authority_step (with_user_info user_info) r) ≡ true
with_user_info-readable set user_info r k = grind (arith, common_steps, with_authority_step-readable, authority_parts, authority_from)

pub with_host-readable : (set : CharTests) (host : Text) (r : ReferenceValue) → is_host set host ≡ true → is_readable set r ≡ true → is_readable set (with_authority_step (with_host host) r) ≡ true
with_host-readable set host r k = grind (arith, common_steps, with_authority_step-readable, authority_parts, authority_from)

pub with_port-readable : (set : CharTests) (port : Option Text) (r : ReferenceValue) → none_or is_port port ≡ true → is_readable set r ≡ true → is_readable set (with_authority_step (with_port port) r) ≡ true
with_port-readable set port r k = grind (arith, common_steps, with_authority_step-readable, authority_parts, authority_from)

pub with_whole_authority-readable : (set : CharTests) (new : AuthorityValue) (r : ReferenceValue) → has_authority_parts set new ≡ true → is_readable set r ≡ true → is_readable set (with_authority_step (λ a. new) r) ≡ true
with_whole_authority-readable set new r k = with_authority_step-readable set (λ a. new) r (λ a h. k)

-- ---- normalizing a reference

pub with_normal_path-again : (set : CharTests) (r : ReferenceValue) → is_readable set r ≡ true → with_normal_path (with_normal_path r) ≡ with_normal_path r
with_normal_path-again set r h =
    let follows = (readable_parts set r h).follows in
    λ i. record r { path = normalized-normalized (context_of r) r.path follows i }

pub key-with_normal_path : (set : CharTests) (r : ReferenceValue) → is_readable set r ≡ true → key (with_normal_path r) ≡ key r
unfolding key
key-with_normal_path set r h =
    let follows = (readable_parts set r h).follows in
    λ i. record (key r) { path = path_key-normalized (context_of r) r.path follows i }

-- normalizing an absolute path under an authority leaves what the rewriting leaves of its text
pub with_normal_path-removes : (r : ReferenceValue) → is_some r.authority ≡ true → r.path.absolute ≡ true → list_all (lacks slash) r.path.segments ≡ true → RemovesDotSegments (spell_path r.path) [] (spell_path (with_normal_path r).path)
with_normal_path-removes r = path_removes_dot_segments (context_of r) r.path

-- the laws of steps, by what they edit
pub ruleset lists = (lazy_pushed-readable, pushed-readable, appended-readable, lazy_appended-readable, joined-readable)

pub ruleset paths = (lists, popped-readable, replaced-readable, normalized-readable, cleared-readable, with_path-readable)

pub ruleset normal_paths = (with_normal_path-readable, with_normal_path-again, key-with_normal_path, with_normal_path-removes)

pub ruleset authorities = (with_user_info-readable, with_host-readable, with_port-readable, with_whole_authority-readable)

pub ruleset components = (with_scheme-readable, with_authority-readable, with_query-readable, with_fragment-readable)

pub ruleset laws = (paths, normal_paths, with_new_normal_path-readable, authorities, components)
