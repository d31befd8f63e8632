-- What a target and a base have in common, and the shortest reference by that.
use Rattle.std.proofs.Common.{◌≡◌, ℕ, Bool, true, false, ◌&&◌, [], ◌∷◌, ◌++◌, length, ap, refl, sym, ◌∙◌, Option, None, Some, bytes_eq, codes, if◌then◌else◌, is_some, nat_lt, option_map}
use Rattle.std.proofs.{lemmas.Bool.Decides.{same_from_decides}, lemmas.List.{append_cancel_left, append_cancel_right}}
use Rattle.std.proofs.lemmas.Slice.Eq.{bytes_eq-Decides}
use Rattle.std.specs.{Borrow.{Bor}, Option.{option_copied, option_eq}}
use Rattle.iref_grammar.specs.{Rules.{Text}, Grammar.{colon, question_mark}, Texts.{part_then, then_part}}
use Rattle.iref_grammar.specs.{Authority.{read_authority, spell_authority}, PathValue.{read_path, spell_path}}
use Rattle.iref_grammar.specs.ComponentTexts.{ComponentTexts, read_components, spell_components}
use Rattle.iref_grammar.specs.{Reference.{ReferenceValue, spell}, Contexts.{alone}}
use Rattle.iref_grammar.proofs.{ComponentLemmas.{authority_spelled}, PathLemmas.{read_path-reads}}
use Rattle.iref_grammar.proofs.MappedMarkLemmas.{is_some-map}
use Rattle.iref_grammar.specs.{Guard.{guarded}, NormalList.{normal}, PathSteps.{normalized}, Relative.{with_only_path}}
use Rattle.iref_grammar.specs.Relativized.{authority_text, empty_path, fragment_alone, relative_path, same_scheme_text, same_authority_text, same_path_text, same_query_text}
use Rattle.iref_grammar.specs.RelativizedChoice.{chosen, shorter_of, with_a_path, with_own_scheme, with_whole_path}
use Rattle.iref_grammar.specs.RelativizedTests.{is_reachable, is_settled}
use Rattle.iref_reference_text.proofs.MeasuredLemmas.{spelled_texts}
use Rattle.iref_reference_text.specs.ShortestTexts.{same_part, shared_of, shares_authority, shares_path, shares_query, shares_scheme, shorter_texts}
use Rattle.iref_reference_text.specs.declared.relativized.Shared.{Shared}
use Rattle.iref_reference_text.specs.declared.relativized.Shared.TheVariants.{Nothing, Scheme, Authority, Path, Query}

-- ---- what they have in common

-- texts that are the same exactly where others are
same_test : (a b c d : Text) → (a ≡ b → c ≡ d) → (c ≡ d → a ≡ b) → bytes_eq a b ≡ bytes_eq c d
same_test a b c d f g =
    same_from_decides (bytes_eq a b) (bytes_eq c d) (bytes_eq-Decides a b) (λ h. g ((bytes_eq-Decides c d).0 h), λ e. (bytes_eq-Decides c d).1 (f e))

pub same-copied : (s t : Option (Bor Text)) → option_eq (λ a b. bytes_eq a.now b.now) s t ≡ same_part (option_copied s) (option_copied t)
same-copied None None = refl
same-copied None (Some t) = refl
same-copied (Some s) None = refl
same-copied (Some s) (Some t) = refl

scheme_tie : (s t : Option Text) → bytes_eq (part_then (colon ∷ []) s) (part_then (colon ∷ []) t) ≡ same_part s t
scheme_tie None None = refl
scheme_tie None (Some []) = refl
scheme_tie None (Some (c ∷ cs)) = refl
scheme_tie (Some []) None = refl
scheme_tie (Some (c ∷ cs)) None = refl
scheme_tie (Some s) (Some t) = same_test (s ++ colon ∷ []) (t ++ colon ∷ []) s t (append_cancel_right s t (colon ∷ [])) (ap (λ x. x ++ colon ∷ []))

part_tie : (m : ℕ) (ms : Text) (s t : Option Text) → bytes_eq (then_part (m ∷ ms) s) (then_part (m ∷ ms) t) ≡ same_part s t
part_tie m ms None None = refl
part_tie m ms None (Some t) = refl
part_tie m ms (Some s) None = refl
part_tie m ms (Some s) (Some t) = same_test (m ∷ ms ++ s) (m ∷ ms ++ t) s t (append_cancel_left (m ∷ ms) s t) (ap (λ x. m ∷ ms ++ x))

authority_tie : (s t : Option Text) → bytes_eq (then_part (codes "//") (option_map spell_authority (option_map read_authority s))) (then_part (codes "//") (option_map spell_authority (option_map read_authority t))) ≡ same_part s t
authority_tie s t = (λ i. bytes_eq (then_part (codes "//") (sym (authority_spelled s) i)) (then_part (codes "//") (sym (authority_spelled t) i))) ∙ part_tie 47 (47 ∷ []) s t

path_tie : (p q : Text) → bytes_eq (spell_path (read_path p)) (spell_path (read_path q)) ≡ bytes_eq p q
path_tie p q = λ i. bytes_eq ((read_path-reads p).spelled i) ((read_path-reads q).spelled i)

abbrev by_parts : Bool → Bool → Bool → Bool → Shared
by_parts s a p q = if s then (if s && a then (if (s && a) && p then (if q then Query else Path) else Authority) else Scheme) else Nothing

-- by the texts of the components
pub shared_by_texts : (t b : ComponentTexts)
    → shared_of (read_components t) (read_components b)
    ≡ (if same_part t.scheme b.scheme
    then (if same_part t.authority b.authority
    then (if bytes_eq t.path b.path then (if same_part t.query b.query then Query else Path) else Authority)
    else Scheme)
    else Nothing)
shared_by_texts t b =
    (λ i. by_parts (scheme_tie t.scheme b.scheme i) (authority_tie t.authority b.authority i) (path_tie t.path b.path i) (part_tie question_mark [] t.query b.query i))
    ∙ by (same_part t.scheme b.scheme) (same_part t.authority b.authority) (bytes_eq t.path b.path) (same_part t.query b.query)
  where
    by : (s a p q : Bool) → by_parts s a p q ≡ (if s then (if a then (if p then (if q then Query else Path) else Authority) else Scheme) else Nothing)
    by false a p q = refl
    by true false p q = refl
    by true true false q = refl
    by true true true q = refl

-- ---- the shortest reference by what they have in common

module _ (t b : ReferenceValue) where
  pub same_scheme : shares_scheme (shared_of t b) ≡ same_scheme_text t b
  same_scheme = by (same_scheme_text t b) (bytes_eq (authority_text t) (authority_text b)) (bytes_eq (spell_path t.path) (spell_path b.path)) (same_query_text t b)
    where
      by : (s a p q : Bool) → shares_scheme (by_parts s a p q) ≡ s
      by false a p q = refl
      by true false p q = refl
      by true true false q = refl
      by true true true false = refl
      by true true true true = refl

  pub same_authority : shares_authority (shared_of t b) ≡ same_authority_text t b
  same_authority = by (same_scheme_text t b) (bytes_eq (authority_text t) (authority_text b)) (bytes_eq (spell_path t.path) (spell_path b.path)) (same_query_text t b)
    where
      by : (s a p q : Bool) → shares_authority (by_parts s a p q) ≡ (s && a)
      by false a p q = refl
      by true false p q = refl
      by true true false q = refl
      by true true true false = refl
      by true true true true = refl

  pub same_path : shares_path (shared_of t b) ≡ same_path_text t b
  same_path = by (same_scheme_text t b) (bytes_eq (authority_text t) (authority_text b)) (bytes_eq (spell_path t.path) (spell_path b.path)) (same_query_text t b)
    where
      by : (s a p q : Bool) → shares_path (by_parts s a p q) ≡ ((s && a) && p)
      by false a p q = refl
      by true false p q = refl
      by true true false q = refl
      by true true true false = refl
      by true true true true = refl

  pub same_query : shares_query (shared_of t b) ≡ (same_path_text t b && same_query_text t b)
  same_query = by (same_scheme_text t b) (bytes_eq (authority_text t) (authority_text b)) (bytes_eq (spell_path t.path) (spell_path b.path)) (same_query_text t b)
    where
      by : (s a p q : Bool) → shares_query (by_parts s a p q) ≡ (((s && a) && p) && q)
      by false a p q = refl
      by true false p q = refl
      by true true false q = refl
      by true true true false = refl
      by true true true true = refl

-- what spells a shorter reference is a shorter text
pub shorter-spelled : (r s : ReferenceValue) → shorter_texts (spell_components r) (spell_components s) ≡ spell_components (shorter_of r s)
shorter-spelled r s =
    (λ i. if nat_lt (length (spelled_texts (spell_components s) s refl i)) (length (spelled_texts (spell_components r) r refl i)) then spell_components s else spell_components r)
    ∙ by (nat_lt (length (spell s)) (length (spell r)))
  where
    by : (shorter : Bool) → (if shorter then spell_components s else spell_components r) ≡ spell_components (if shorter then s else r)
    by true = refl
    by false = refl

-- ---- the path

-- it is settled by its text
pub settled-text : (t : ComponentTexts)
    → bytes_eq (spell_path (normalized (record { has_scheme = is_some t.scheme; has_authority = is_some t.authority }) (read_path t.path))) t.path ≡ is_settled (read_components t)
settled-text t =
    λ i. bytes_eq (spell_path (normalized (record { has_scheme = is_some t.scheme; has_authority = sym (is_some-map read_authority t.authority) i }) (read_path t.path))) (sym (read_path-reads t.path).spelled i)

-- ---- the choice

-- a choice whose test is known
if-true : {A : Type 0} (x : Bool) (a b : A) → x ≡ true → (if x then a else b) ≡ a
if-true x a b h = λ i. if h i then a else b

if-false : {A : Type 0} (x : Bool) (a b : A) → x ≡ false → (if x then a else b) ≡ b
if-false x a b h = λ i. if h i then a else b

module _ (t b : ReferenceValue) where
  rooted_test : (shares_authority (shared_of t b) && t.path.absolute) ≡ (same_authority_text t b && t.path.absolute)
  rooted_test = ap (λ x. x && t.path.absolute) (same_authority t b)

  authority_test : (shares_scheme (shared_of t b) && is_some t.authority) ≡ (same_scheme_text t b && is_some t.authority)
  authority_test = ap (λ x. x && is_some t.authority) (same_scheme t b)

  -- the whole path
  pub whole-rooted : (shares_authority (shared_of t b) && t.path.absolute) ≡ true → with_whole_path t b ≡ with_only_path (guarded alone (normal t.path)) t
  whole-rooted h = if-true _ _ _ (sym rooted_test ∙ h)

  pub whole-authority : (shares_authority (shared_of t b) && t.path.absolute) ≡ false → (shares_scheme (shared_of t b) && is_some t.authority) ≡ true
      → with_whole_path t b ≡ record t { scheme = None }
  whole-authority h k = if-false _ _ _ (sym rooted_test ∙ h) ∙ if-true _ _ _ (sym authority_test ∙ k)

  pub whole-own : (shares_authority (shared_of t b) && t.path.absolute) ≡ false → (shares_scheme (shared_of t b) && is_some t.authority) ≡ false
      → with_whole_path t b ≡ with_own_scheme t
  whole-own h k = if-false _ _ _ (sym rooted_test ∙ h) ∙ if-false _ _ _ (sym authority_test ∙ k)

  reach_test : (shares_authority (shared_of t b) && is_reachable t b) ≡ (same_authority_text t b && is_reachable t b)
  reach_test = ap (λ x. x && is_reachable t b) (same_authority t b)

  -- a path
  pub path-steps : (shares_authority (shared_of t b) && is_reachable t b) ≡ true
      → with_a_path t b ≡ shorter_of (with_only_path (relative_path t b) t) (with_whole_path t b)
  path-steps h = if-true _ _ _ (sym reach_test ∙ h)

  pub path-whole : (shares_authority (shared_of t b) && is_reachable t b) ≡ false → with_a_path t b ≡ with_whole_path t b
  path-whole h = if-false _ _ _ (sym reach_test ∙ h)

  tail_test : (shares_path (shared_of t b) && is_some t.query) ≡ (same_path_text t b && is_some t.query)
  tail_test = ap (λ x. x && is_some t.query) (same_path t b)

  -- all
  pub chosen-fragment : shares_query (shared_of t b) ≡ true → chosen t b ≡ Some (fragment_alone t)
  chosen-fragment h = if-true _ _ _ (sym (same_query t b) ∙ h)

  pub chosen-tail : shares_query (shared_of t b) ≡ false → (shares_path (shared_of t b) && is_some t.query) ≡ true → chosen t b ≡ Some (with_only_path empty_path t)
  chosen-tail h k = if-false _ _ _ (sym (same_query t b) ∙ h) ∙ if-true _ _ _ (sym tail_test ∙ k)

  pub chosen-path : shares_query (shared_of t b) ≡ false → (shares_path (shared_of t b) && is_some t.query) ≡ false → is_settled t ≡ true
      → chosen t b ≡ Some (with_a_path t b)
  chosen-path h k s = if-false _ _ _ (sym (same_query t b) ∙ h) ∙ if-false _ _ _ (sym tail_test ∙ k) ∙ if-true _ _ _ s

  pub chosen-none : shares_query (shared_of t b) ≡ false → (shares_path (shared_of t b) && is_some t.query) ≡ false → is_settled t ≡ false → chosen t b ≡ None
  chosen-none h k s = if-false _ _ _ (sym (same_query t b) ∙ h) ∙ if-false _ _ _ (sym tail_test ∙ k) ∙ if-false _ _ _ s
