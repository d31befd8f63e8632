-- On a text of the grammar the cut gives the components that are read from it.
use Rattle.std.proofs.Common.{◌≡◌, ℕ, ◌+◌, Bool, true, false, List, [], ◌∷◌, ◌++◌, refl, sym, ◌∙◌, ap, length, map, ◌||◌, Option, Some, None, is_some, option_map, if◌then◌else◌}
use Rattle.std.proofs.lemmas.List.{map-append}
use Rattle.iref_grammar.specs.{Characters.{CharTests, AreAboveAscii}, Rules.{Text}, Grammar.{colon, at_sign}}
use Rattle.iref_grammar.specs.{Texts.{before, after, begins_with}, Tests.{none_or}}
use Rattle.iref_grammar.specs.Authority.{AuthorityValue, read_host, after_bracketed, read_host_and_port, read_authority, has_authority_parts, is_authority}
use Rattle.iref_grammar.specs.Reference.{split_scheme, hierarchy, read_reference, is_reference}
use Rattle.iref_grammar.specs.ComponentTexts.{ComponentTexts, AreComponents, read_components}
use Rattle.iref_grammar.proofs.{PathLemmas.{read_path-reads}, AuthorityLemmas.{read_host-joins, delimited_authority}}
use Rattle.iref_grammar.proofs.AuthorityRuleLemmas.{Decides-has_authority_parts}
use Rattle.iref_fault.specs.declared.component.Component.{Component}
use Rattle.iref_fault.specs.Places.{PartRule, Scheme, UserInfo, Port, Path, BarePath, Query, Fragment, component_of}
use Rattle.iref_fault.specs.Cut.{Piece, piece, piece_if, cut_host, cut_port, host_pieces, authority_pieces, authority_pieces_if, pieces_of}
use Rattle.iref_fault.specs.Components.{component_text, component_if, authority_components, authority_components_if, components_of}
use Rattle.iref_fault.specs.declared.component.Component.TheVariants as component
use Rattle.iref_fault.proofs.AuthorityFaultLemmas.{host_back, port_lacks_bracket}
use Rattle.iref_fault.proofs.ReferenceFaultLemmas.{Starts, starts_of, listed, path_rule, parts_from, pieces_listed, decides_parts, colon_not_tested, one_cut}

if_named : (rule : PartRule) (start : ℕ) (o : Option Text) → map component_text (piece_if rule start o) ≡ component_if (component_of rule) o
if_named rule start None = refl
if_named rule start (Some t) = refl

both : (xs ys : List Piece) (cs ds : List (Component × Text)) → map component_text xs ≡ cs → map component_text ys ≡ ds → map component_text (xs ++ ys) ≡ cs ++ ds
both xs ys cs ds p q = map-append component_text xs ys ∙ (λ i. p i ++ q i)

-- a host and a port
host_named : (start : ℕ) (t : Text) → map component_text (host_pieces start t) ≡ (component.Host, cut_host t) ∷ component_if component.Port (cut_port t)
host_named start t = ap (λ l. (component.Host, cut_host t) ∷ l) (if_named Port (start + length (cut_host t) + 1) (cut_port t))

module _ (set : CharTests) (above : AreAboveAscii set) where
  -- the cut's host and port are those that are read
  host_read : (user : Option Text) (t : Text) → has_authority_parts set (read_host_and_port user t) ≡ true → (cut_host t ≡ read_host t) × (cut_port t ≡ after colon (after_bracketed t))
  host_read user t h =
      let a = read_host_and_port user t in
      let parts = (Decides-has_authority_parts set above a).0 h in
      let d = delimited_authority set above a h in
      let b = host_back a.host a.port d.host (port_lacks_bracket set above a.port parts.port) in
      (ap cut_host (sym (read_host-joins t)) ∙ b.0, ap cut_port (sym (read_host-joins t)) ∙ b.1)

  pub authority_cut : (start : ℕ) (t : Text) → is_authority set t ≡ true → map component_text (authority_pieces start t) ≡ authority_components (read_authority t)
  unfolding is_authority read_authority authority_pieces
  authority_cut start t = by (after at_sign t)
    where
      by : (o : Option Text)
          → has_authority_parts set (elim o as (λ p. AuthorityValue) [
            | None ↦ read_host_and_port None t
            | Some rest ↦ read_host_and_port (Some (before (at_sign ∷ []) t)) rest
          ]) ≡ true
          → map component_text (elim o as (λ p. List Piece) [
            | None ↦ host_pieces start t
            | Some rest ↦ piece UserInfo start (before (at_sign ∷ []) t) ++ host_pieces (start + length (before (at_sign ∷ []) t) + 1) rest
          ])
          ≡ authority_components (elim o as (λ p. AuthorityValue) [
            | None ↦ read_host_and_port None t
            | Some rest ↦ read_host_and_port (Some (before (at_sign ∷ []) t)) rest
          ])
      by None h =
          let r = host_read None t h in
          host_named start t ∙ (λ i. (component.Host, r.0 i) ∷ component_if component.Port (r.1 i))
      by (Some rest) h =
          let user = before (at_sign ∷ []) t in
          let r = host_read (Some user) rest h in
          ap (λ l. (component.UserInfo, user) ∷ l) (host_named (start + length user + 1) rest ∙ (λ i. (component.Host, r.0 i) ∷ component_if component.Port (r.1 i)))

  authority_if_cut : (start : ℕ) (o : Option Text) → none_or (is_authority set) o ≡ true → map component_text (authority_pieces_if start o) ≡ authority_components_if (option_map read_authority o)
  authority_if_cut start None h = refl
  authority_if_cut start (Some t) h = authority_cut start t h

  path_named : (b : Bool) → component_of (if b then Path else BarePath) ≡ component.Path
  path_named true = refl
  path_named false = refl

  listed_cut : (at : Starts) (s : ComponentTexts) → AreComponents set s → map component_text (listed at s) ≡ components_of (read_components s)
  listed_cut at s h =
      let a = piece_if Scheme 0 s.scheme in
      let b = authority_pieces_if at.authority s.authority in
      let c = piece (path_rule s) at.path s.path in
      let d = piece_if Query at.query s.query in
      let e = piece_if Fragment at.fragment s.fragment in
      let path = path_named (is_some s.scheme || is_some s.authority) in
      let text = sym (read_path-reads s.path).spelled in
      both (((a ++ b) ++ c) ++ d) e _ _
      (both ((a ++ b) ++ c) d _ _
      (both (a ++ b) c _ _ (both a b _ _ (if_named Scheme 0 s.scheme) (authority_if_cut at.authority s.authority h.authority)) (λ i. (path i, text i) ∷ []))
      (if_named Query at.query s.query))
      (if_named Fragment at.fragment s.fragment)

  pub reference_cut : (text : Text) → is_reference set text ≡ true → map component_text (pieces_of text) ≡ components_of (read_reference text)
  unfolding read_reference
  reference_cut text h = by (begins_with (colon ∷ []) (hierarchy text)) refl
    where
      parts : AreComponents set (parts_from (split_scheme (hierarchy text)) text)
      parts = (decides_parts set above text).0 h

      by : (b : Bool) → begins_with (colon ∷ []) (hierarchy text) ≡ b → map component_text (pieces_of text) ≡ components_of (read_reference text)
      by true k = absurd (colon_not_tested set above text k parts)
      by false k =
          let one = one_cut set above (hierarchy text) k in
          ap (map component_text) (pieces_listed text ∙ ap (λ (front : Option Text × Text). listed (starts_of text) (parts_from front text)) one)
          ∙ listed_cut (starts_of text) (parts_from (split_scheme (hierarchy text)) text) parts
