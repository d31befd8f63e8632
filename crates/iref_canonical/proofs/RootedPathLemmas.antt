-- An absolute path behind an authority, as it is put.
use Rattle.std.proofs.Common.{◌≡◌, ℕ, Bool, true, false, cond, List, [], ◌∷◌, ◌++◌, map, length, refl, sym, ◌∙◌, ap, codes, ◌==◌}
use Rattle.std.specs.List.{join_with_byte}
use Rattle.percent_encoding.specs.Percent.{percent_decode}
use Rattle.percent_encoding.proofs.PercentLemmas.{percent_decode-nil}
use Rattle.iref_grammar.specs.{declared.context.PathContext.{PathContext}, Grammar.{slash}}
use Rattle.iref_grammar.specs.{PathValue.{PathValue, read_path, spell_path}, Rules.{Text}}
use Rattle.iref_grammar.specs.{Guard.{guarded}, NormalList.{normal_segments, without_lone_empty}, PathKey.{path_key}}
use Rattle.iref_path.specs.{NormalItems.{first_or}, Spelling.{guard_in}}
use Rattle.iref_canonical.specs.{Canonical.{encoded, spelled_name, spelled_path}, KeptPaths.{rooted_text}}
use Rattle.iref_canonical.specs.SpelledItems.{spelled_items, standing_of}
use Rattle.iref_canonical.proofs.{ShapeLemmas.{like-same, path-spelled}, SpelledItemLemmas.{spelled-none}}

module _ (raw : Bool) where
  named-nothing : spelled_name raw (percent_decode []) ≡ []
  unfolding encoded
  named-nothing = ap (spelled_name raw) percent_decode-nil

  -- one empty item is written as no item is
  lone-joined : (list : List Text) → join_with_byte slash (map (spelled_name raw) (map percent_decode list)) ≡ join_with_byte slash (map (spelled_name raw) (map percent_decode (without_lone_empty list)))
  lone-joined [] = refl
  lone-joined ([] ∷ []) = named-nothing
  lone-joined ((c ∷ s) ∷ []) = refl
  lone-joined ([] ∷ t ∷ list) = refl
  lone-joined ((c ∷ s) ∷ t ∷ list) = refl

  -- the `/` of an absolute path, and its items
  pub rooted-items : (path : Text) (absolute : Bool) (segments list : List Text) → (read_path path).absolute ≡ true → read_path path ≡ record { absolute = absolute; segments = segments }
      → without_lone_empty list ≡ normal_segments (record { absolute = true; segments = segments })
      → (slash ∷ []) ++ join_with_byte slash (spelled_items raw 0 (map percent_decode list)) ≡ rooted_text raw path
  unfolding path_key
  rooted-items path absolute segments list root reads e =
      let whole : record { absolute = true; segments = segments } ≡ read_path path =
      sym (reads ∙ ap (λ b. record { absolute = b; segments = segments }) (sym (ap (λ p. p.absolute) reads) ∙ root)) in
      ap (λ l. slash ∷ join_with_byte slash l) (spelled-none raw (map percent_decode list))
      ∙ ap (λ t. slash ∷ t) (lone-joined list)
      ∙ ap (λ l. slash ∷ join_with_byte slash (map (spelled_name raw) (map percent_decode l))) (e ∙ ap normal_segments whole)

  -- no guard is needed behind an authority
  guard-rooted : (scheme : Bool) (count : ℕ) (first : Text) → guard_in (record { has_scheme = scheme; has_authority = true }) true count first ≡ codes "/"
  guard-rooted scheme count first = by (count == 0)
    where
      by : (none : Bool) → cond none (codes "/" ++ []) (codes "/" ++ []) ≡ codes "/"
      by true = refl
      by false = refl

  rooted-value : (context : PathContext) (p : PathValue) → context.has_authority ≡ true → p.absolute ≡ true
      → slash ∷ join_with_byte slash (map (spelled_name raw) (path_key p).segments) ≡ spell_path (guarded context (spelled_path raw (path_key p)))
  unfolding path_key
  rooted-value context p authority absolute =
      let list = map percent_decode (normal_segments p) in
      let first = first_or [] list in
      let spelled = path-spelled raw context p list (length list) 0 first refl refl (like-same first) (λ i. cond (sym absolute i) 0 (standing_of list)) in
      let guard : guard_in context p.absolute (length list) first ≡ codes "/" = (λ i. guard_in (record { has_scheme = context.has_scheme; has_authority = authority i }) (absolute i) (length list) first) ∙ guard-rooted context.has_scheme (length list) first in
      sym (ap (λ g. g ++ join_with_byte slash (spelled_items raw 0 list)) guard ∙ ap (λ l. slash ∷ join_with_byte slash l) (spelled-none raw list)) ∙ spelled

  pub rooted-spelled : (context : PathContext) (path : Text) → context.has_authority ≡ true → (read_path path).absolute ≡ true → rooted_text raw path ≡ spell_path (guarded context (spelled_path raw (path_key (read_path path))))
  rooted-spelled context path = rooted-value context (read_path path)

pub ruleset rooted = (rooted-spelled)
