-- The components of what a reference resolves to, as texts.
use Rattle.std.proofs.Common.{arith, ◌≡◌, Bool, true, false, ◌||◌, [], ◌∷◌, refl, ◌∙◌, ap, ◌≢◌, Option, is_some}
use Rattle.iref_grammar.proofs.{MappedMarkLemmas.{is_some-map}, PieceLemmas.{some_piece}}
use Rattle.std.specs.{Borrow.{Bor}, Option.{option_copied, option_or}}
use Rattle.iref_grammar.specs.{Rules.{Text}, PathValue.{read_path, spell_path}, Contexts.{fits}}
use Rattle.iref_grammar.specs.Characters.{AreAboveAscii, CharTests}
use Rattle.iref_grammar.specs.Reference.{ReferenceValue, context_of, is_readable, is_reference, read_reference, spell}
use Rattle.iref_grammar.specs.ComponentTexts.{ComponentTexts, read_components, spell_components}
use Rattle.iref_grammar.proofs.{PathLemmas.{read_path-reads}, ComponentLemmas.{authority_spelled}}
use Rattle.iref_grammar.specs.{PathSteps.{normalized}, Resolution.{is_no_path, resolved}}
use Rattle.iref_path.specs.MergedPaths.{path_after}
use Rattle.iref_path.proofs.GuardTextLemmas.{guarded-same}
use Rattle.iref_reference_text.specs.ComponentLengths.{lengths_of_texts}
use Rattle.iref_reference_text.specs.MeasuredReferences.{IsComposed, IsReady, measured_components, spell_texts}
use Rattle.iref_reference_text.specs.{Steps.{Spells}, declared.measured.MeasuredReference.{MeasuredReference}}
use Rattle.iref_reference_text.proofs.EditLemmas.{is_step}

pub or-copied : (first second : Option (Bor Text)) → option_copied (option_or first second) ≡ option_or (option_copied first) (option_copied second)
or-copied first second = grind arith

-- ---- a reference with a scheme or an authority

pub own_resolved : (b t : ComponentTexts) → (is_some t.scheme || is_some t.authority) ≡ true → (path : Text)
    → path ≡ spell_path (normalized (record { has_scheme = is_some (option_or t.scheme b.scheme); has_authority = is_some t.authority }) (read_path t.path))
    → record t { scheme = option_or t.scheme b.scheme; path = path } ≡ spell_components (resolved (read_components b) (read_components t))
unfolding resolved
own_resolved b t h path e = grind (arith, h, authority_spelled, is_some-map)

-- ---- a reference with neither

no_path : (text : Text) → text ≡ [] → is_no_path (read_path text) ≡ true
unfolding read_path
no_path text e = rw e

some_path : (text : Text) → text ≢ [] → is_no_path (read_path text) ≡ false
unfolding read_path
some_path [] h = absurd (h refl)
some_path (c ∷ cs) h = grind (arith, some_piece)

module _ (b t : ComponentTexts) (none : (is_some t.scheme || is_some t.authority) ≡ false) where
  abbrev base : ReferenceValue
  base = read_components b

  abbrev reference : ReferenceValue
  reference = read_components t

  pub kept_resolved : t.path ≡ [] → fits (context_of base) base.path ≡ true
      → record { scheme = b.scheme; authority = b.authority; path = b.path; query = option_or t.query b.query; fragment = t.fragment } ≡ spell_components (resolved base reference)
  unfolding resolved
  kept_resolved e fit = grind (arith, none, is_some-map, no_path t.path e, guarded-same (context_of base) base.path fit, authority_spelled, read_path-reads b.path)

  pub after_resolved : t.path ≢ [] → (path : Text)
      → path ≡ spell_path (normalized (record { has_scheme = is_some b.scheme; has_authority = is_some b.authority }) (path_after (is_some b.authority) (read_path b.path) (read_path t.path)))
      → record { scheme = b.scheme; authority = b.authority; path = path; query = t.query; fragment = t.fragment } ≡ spell_components (resolved base reference)
  unfolding resolved
  after_resolved some path e = grind (arith, none, some_path t.path some, authority_spelled, is_some-map)

-- ---- the text of components

-- the text of the components of a reference is its spelling
pub spelled_texts : (t : ComponentTexts) (r : ReferenceValue) → t ≡ spell_components r → spell_texts t ≡ spell r
unfolding spell_texts spell
spelled_texts t r e = ap spell_texts e

-- ---- the text of the components of a readable reference that the rule allows

pub record Composes (test : Text → Bool) (m : MeasuredReference) (r : ReferenceValue) : Type 0 where
  pub composed : IsComposed test m
  pub spelled : Spells r (spell_texts (measured_components m))

pub composes : (set : CharTests) → AreAboveAscii set → (test : Text → Bool) (allows : Option Text → Bool)
    → ((text : Text) → is_reference set text ≡ true → allows (read_reference text).scheme ≡ true → test text ≡ true)
    → (m : MeasuredReference) (r : ReferenceValue) → IsReady m → measured_components m ≡ spell_components r → is_readable set r ≡ true → allows r.scheme ≡ true → Composes test m r
composes set above test allows allowed m r ready e h k =
    let t = measured_components m in
    let step = is_step set above test allows allowed (spell_texts t) r (spelled_texts t r e) h k in
    grind (arith, ready, step, spelled_texts t r e, ap lengths_of_texts e)

-- what is given this text is given what it spells
pub spells_same : (r : ReferenceValue) (text same : Text) → Spells r text → same ≡ text → Spells r same
spells_same r text same spelled e = (e ∙ spelled.0, ap read_reference e ∙ spelled.1)
