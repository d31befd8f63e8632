-- A text is a reference exactly if each component that it is cut into is in the rule of the grammar.
use Rattle.iref_grammar.specs.{Authority.{is_authority}, Characters.{AreAboveAscii, CharTests}}
use Rattle.iref_grammar.specs.ComponentTexts.{ComponentTexts, read_components, AreComponents}
use Rattle.iref_grammar.specs.Grammar.{IsAuthority, IsScheme, IsQuery, IsFragment, IsUriReference}
use Rattle.iref_grammar.specs.{Reference.{read_reference}, Rules.{InUtf8, Text}}
use Rattle.iref_grammar.specs.Tests.{is_fragment, is_query, is_scheme}
use Rattle.iref_grammar.proofs.{AuthorityRuleLemmas.{Decides-is_authority}, ComponentLemmas.{Decides-AreComponents}}
use Rattle.iref_grammar.proofs.LeafLemmas.{Decides-is_fragment, Decides-is_query}
use Rattle.iref_grammar.proofs.PartRuleLemmas.{Decides-is_scheme_bytes, Decides-none_or}
use Rattle.iref_grammar.proofs.{PathTextLemmas.{Decides-is_path}, ReferenceRuleLemmas.{Decides-is_uri_reference}}
use Rattle.iref.specs.ComponentRules.{AreInRules}
use Rattle.std.proofs.Common.{arith, ◌≡◌}

module _ (set : CharTests) (above : AreAboveAscii set) (text : Text) (s : ComponentTexts) (read : read_components s ≡ read_reference text) where
  same_rules : (AreComponents set s → AreInRules set s) × (AreInRules set s → AreComponents set s)
  same_rules = grind (
    arith,
    Decides-none_or is_scheme (InUtf8 IsScheme) Decides-is_scheme_bytes s.scheme,
    Decides-none_or (is_authority set) (InUtf8 (IsAuthority set)) (Decides-is_authority set above) s.authority,
    Decides-is_path set above s.path,
    Decides-none_or (is_query set) (InUtf8 (IsQuery set)) (Decides-is_query set above) s.query,
    Decides-none_or (is_fragment set) (InUtf8 (IsFragment set)) (Decides-is_fragment set above) s.fragment,
  )

  pub in_rules : InUtf8 (IsUriReference set) text → AreInRules set s
  in_rules h = same_rules.0 ((Decides-AreComponents set above text s read).0 ((Decides-is_uri_reference set above text).1 h))

  pub reference_from_rules : AreInRules set s → InUtf8 (IsUriReference set) text
  reference_from_rules rules = (Decides-is_uri_reference set above text).0 ((Decides-AreComponents set above text s read).1 (same_rules.1 rules))
