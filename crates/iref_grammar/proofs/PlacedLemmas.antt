-- What a path alone resolves to.
use Rattle.std.proofs.Common.{◌≡◌, Bool, true, false, cond, List, [], ◌∷◌, ◌++◌, refl, sym, ◌∙◌, ap, arith, Option, None, codes, true≢false}
use Rattle.std.proofs.lemmas.List.{append-nil}
use Rattle.iref_grammar.specs.{Rules.{Text}, Texts.{is_empty}}
use Rattle.iref_grammar.specs.{PathValue.{PathValue}, Contexts.{alone, follows_authority, reads_as_path}}
use Rattle.iref_grammar.specs.Reference.{ReferenceValue, context_of}
use Rattle.iref_grammar.specs.{Guard.{guarded}, NormalList.{normal, normal_segments}, Resolution.{resolved, merged}}
use Rattle.iref_grammar.specs.Relativized.{base_directory}
use Rattle.iref_grammar.proofs.{RelativeLemmas.{parts}, SettledLemmas.{normal_again}, NormalPathLemmas.{normal-guarded}}
use Rattle.iref_grammar.proofs.{WalkLemmas.{LeadAlike, alike-refl, alike-dot, same_normal}, WeightLemmas.{path}}

-- a path alone keeps its flag behind its guard
pub flag-alone : (absolute : Bool) (list : List Text) → (guarded alone (path absolute list)).absolute ≡ absolute
unfolding guarded
flag-alone absolute list = grind arith

pub guarded-as : (absolute : Bool) (list : List Text) → guarded alone (path absolute list) ≡ path absolute (guarded alone (path absolute list)).segments
guarded-as absolute list = λ i. path (flag-alone absolute list i) (guarded alone (path absolute list)).segments

-- ---- where it stands

-- a path alone, with a query and a fragment
abbrev pub only : Option Text → Option Text → PathValue → ReferenceValue
only query fragment p = parts None None p query fragment

-- a path under the base's scheme and authority
abbrev pub placed : ReferenceValue → Option Text → Option Text → PathValue → ReferenceValue
placed base query fragment p = parts base.scheme base.authority (guarded (context_of base) p) query fragment

pub root_resolved : (base : ReferenceValue) (query fragment : Option Text) (segments : List Text) →
    let p : PathValue = normal (path true segments) in resolved base (only query fragment (guarded alone p)) ≡ placed base query fragment p
unfolding resolved
root_resolved base query fragment segments =
    let p = normal (path true segments) in
    let leads : normal (path true (guarded alone p).segments) ≡ p = ap normal (sym (guarded-as true p.segments)) ∙ normal-guarded alone p refl ∙ normal_again (path true segments) in
    let exact : resolved base (only query fragment (path true (guarded alone p).segments)) ≡ placed base query fragment p = ap (placed base query fragment) leads in
    (λ i. resolved base (only query fragment (guarded-as true p.segments i))) ∙ exact

-- ---- a relative path

-- what a relative path is merged with
pub merged-is : (base : ReferenceValue) (list : List Text) → merged base (path false list) ≡ path (base_directory base).absolute ((base_directory base).segments ++ list)
merged-is base list = grind (arith, append-nil)

pub follows-merged : (base : ReferenceValue) (list : List Text) → follows_authority (context_of base) base.path ≡ true → follows_authority (context_of base) (merged base (path false list)) ≡ true
follows-merged base list h = grind arith

-- a list behind its guard leads where the list does
pub alike-guarded : (list : List Text) → is_empty list ≡ false → LeadAlike (guarded alone (path false list)).segments list
unfolding guarded
alike-guarded [] h = absurd (true≢false h)
alike-guarded (s ∷ rest) h = by (reads_as_path alone (path false (s ∷ rest)))
  where
    by : (reads : Bool) → LeadAlike (cond reads (path false (s ∷ rest)) (path false (codes "." ∷ s ∷ rest))).segments (s ∷ rest)
    by true = alike-refl (s ∷ rest) refl
    by false = alike-dot s rest

module _ (base : ReferenceValue) (query fragment : Option Text) where
  abbrev flag : Bool
  flag = (base_directory base).absolute

  abbrev directory : List Text
  directory = (base_directory base).segments

  resolved-list : (items : List Text) → is_empty items ≡ false → resolved base (only query fragment (path false items)) ≡ placed base query fragment (normal (merged base (path false items)))
  unfolding resolved
  resolved-list items h = grind arith

  pub normal-merged : (items : List Text) → normal (merged base (path false items)) ≡ path flag (normal_segments (path flag (directory ++ items)))
  normal-merged items = ap normal (merged-is base items)

  pub relative_resolved : (items : List Text) → is_empty items ≡ false → resolved base (only query fragment (guarded alone (path false items))) ≡ placed base query fragment (path flag (normal_segments (path flag (directory ++ items))))
  relative_resolved items some =
      let alike = alike-guarded items some in
      (λ i. resolved base (only query fragment (guarded-as false items i)))
      ∙ resolved-list (guarded alone (path false items)).segments alike.some
      ∙ ap (placed base query fragment) (normal-merged (guarded alone (path false items)).segments ∙ ap (path flag) (same_normal flag directory (guarded alone (path false items)).segments items alike))
