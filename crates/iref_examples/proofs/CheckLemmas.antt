-- A text with a component outside its rule is no reference.
use Rattle.std.proofs.Common.{◌≡◌, subst, sym, Option, Some, None, Result, Ok, Err, IfSome, IsSomeAnd, MatchResult}
use Rattle.std.specs.{Borrow.{Bor}, Option.{option_copied}}
use Rattle.iref.specs.{Characters.{iri_above_ascii, iri_chars}, ComponentRules.{AreInRules}}
use Rattle.iref.specs.ComponentTexts.{ComponentTexts, read_components, spell_components}
use Rattle.iref.specs.Grammar.{IsAuthority, IsFragment, IsPath, IsQuery, IsScheme, IsUriReference}
use Rattle.iref.specs.{Reference.{read_reference}, Rules.{InUtf8, Rule, Text}}
use Rattle.iref.proofs.ComponentRuleLemmas.{in_rules, reference_from_rules}
use Rattle.iref_examples.specs.Components.{IsFirstOutside, IsInside, IsOutside}
use Rattle.iref_examples.specs.declared.validator.Component.{Component}
use Rattle.iref_examples.specs.declared.validator.Component.TheVariants.{Scheme, Authority, Path, Query, Fragment}

-- what a conversion took is in its rule, and what it refused is not
pub taken : {V : Type 0} (rule : Rule) (more : Bor Text → V → Type 0) (o : Option (Bor Text)) → IfSome o (λ t. (value : V) × (InUtf8 rule t.now × more t value)) → IsInside rule (option_copied o)
taken rule more None h = h
taken rule more (Some t) h = h.1.0

pub refused : {E : Type 0} (rule : Rule) (more : Bor Text → E → Type 0) (o : Option (Bor Text)) → IsSomeAnd o (λ t. (error : E) × ((¬ (InUtf8 rule t.now)) × more t error)) → IsOutside rule (option_copied o)
refused rule more None h = h
refused rule more (Some t) h = h.1.0

apart : (rule : Rule) (o : Option Text) → IsOutside rule o → IsInside rule o → ⊥
apart rule None h k = h
apart rule (Some t) h k = h k

outside_rules : (component : Component) (s : ComponentTexts) → IsFirstOutside component s → AreInRules iri_chars s → ⊥
outside_rules Scheme s first rules = apart IsScheme s.scheme first rules.scheme
outside_rules Authority s first rules = apart (IsAuthority iri_chars) s.authority first.1 rules.authority
outside_rules Path s first rules = first.2 rules.path
outside_rules Query s first rules = apart (IsQuery iri_chars) s.query first.3 rules.query
outside_rules Fragment s first rules = apart (IsFragment iri_chars) s.fragment first.4 rules.fragment

pub no_reference : (text : Text) (s : ComponentTexts) (answer component : Component) → read_components s ≡ read_reference text → s ≡ spell_components (read_reference text) → answer ≡ component
    → IsFirstOutside component s → (¬ (InUtf8 (IsUriReference iri_chars) text)) × IsFirstOutside answer (spell_components (read_reference text))
no_reference text s answer component read spelled named first = (
  λ h. outside_rules component s first (in_rules iri_chars iri_above_ascii text s read h),
  subst (λ a. IsFirstOutside a (spell_components (read_reference text))) (sym named) (subst (λ t. IsFirstOutside component t) spelled first),
)

-- the last component decides, where those before it are in their rules
pub by_fragment : {V E U : Type 0} (more : Bor Text → V → Type 0) (less : Bor Text → E → Type 0) (text : Text) (s : ComponentTexts) (o : Option (Bor Text)) (result : Result U Component)
    → read_components s ≡ read_reference text → s ≡ spell_components (read_reference text) → s.fragment ≡ option_copied o
    → IsInside IsScheme s.scheme → IsInside (IsAuthority iri_chars) s.authority → InUtf8 (IsPath iri_chars) s.path → IsInside (IsQuery iri_chars) s.query
    → MatchResult result (λ _. IfSome o (λ t. (value : V) × (InUtf8 (IsFragment iri_chars) t.now × more t value)))
    (λ refused. (refused ≡ Fragment) × IsSomeAnd o (λ t. (error : E) × ((¬ (InUtf8 (IsFragment iri_chars) t.now)) × less t error)))
    → MatchResult result (λ _. InUtf8 (IsUriReference iri_chars) text)
    (λ answer. (¬ (InUtf8 (IsUriReference iri_chars) text)) × IsFirstOutside answer (spell_components (read_reference text)))
by_fragment more less text s o (Ok u) read spelled same scheme authority path query h =
    reference_from_rules iri_chars iri_above_ascii text s read
    (record { scheme = scheme; authority = authority; path = path; query = query; fragment = subst (IsInside (IsFragment iri_chars)) (sym same) (taken (IsFragment iri_chars) more o h) })
by_fragment more less text s o (Err answer) read spelled same scheme authority path query h =
    no_reference text s answer Fragment read spelled h.0
    (scheme, authority, path, query, subst (IsOutside (IsFragment iri_chars)) (sym same) (refused (IsFragment iri_chars) less o h.1))
