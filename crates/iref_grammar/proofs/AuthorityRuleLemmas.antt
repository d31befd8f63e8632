-- Authorities: the test, by its one reading, decides the rule.
use Rattle.std.proofs.Common.{◌≡◌, ◌&&◌, [], ◌∷◌, ◌++◌, refl, sym, ◌∙◌, ap, append_assoc}
use Rattle.std.proofs.{lemmas.Bool.Decides.{Decides-like, Decides-and}, Math.Logic.{◌↔◌}}
use Rattle.iref_grammar.specs.Rules.{Text, Rule, Mark, ◌⨾◌, Optional, InUtf8}
use Rattle.iref_grammar.specs.Grammar.{colon, at_sign, IsPort, IsUserInfo, IsHost, IsAuthority}
use Rattle.iref_grammar.specs.Texts.{part_then, then_part}
use Rattle.iref_grammar.specs.Authority.{AuthorityValue, spell_authority, read_authority, has_authority_parts, HasAuthorityParts, is_authority}
use Rattle.iref_grammar.specs.{Characters.{CharTests, AreAboveAscii}, Tests.{none_or, is_host, is_user_info, is_port}}
use Rattle.std.specs.Bool.{Decides}
use Rattle.iref_grammar.proofs.AuthorityLemmas.{read_authority-spelled, read_authority-back, delimited_authority}
use Rattle.iref_grammar.proofs.LeafLemmas.{Decides-is_user_info}
use Rattle.iref_grammar.proofs.Utf8RuleLemmas.{in_utf8-joined, in_utf8-then_part, in_utf8-part_then}
use Rattle.iref_grammar.proofs.HostRuleLemmas.{Decides-is_host}
use Rattle.iref_grammar.proofs.PartRuleLemmas.{Decides-none_or, Decides-is_port_bytes}

module _ (set : CharTests) (above : AreAboveAscii set) where
  -- ---- the parts

  pub Decides-has_authority_parts : (a : AuthorityValue) → Decides (has_authority_parts set a) (HasAuthorityParts set a)
  unfolding has_authority_parts
  Decides-has_authority_parts a =
      let user = none_or (is_user_info set) a.user_info in
      let host = is_host set a.host in
      let port = none_or is_port a.port in
      Decides-like (has_authority_parts set a) (λ z. record { user_info = z.0.0; host = z.0.1; port = z.1 }) (λ p. ((p.user_info, p.host), p.port))
      (Decides-and (user && host) port
      (Decides-and user host (Decides-none_or (is_user_info set) (InUtf8 (IsUserInfo set)) (Decides-is_user_info set above) a.user_info) (Decides-is_host set above a.host))
      (Decides-none_or is_port (InUtf8 IsPort) Decides-is_port_bytes a.port))

  -- ---- the rule is the spelling of parts

  -- bytes that some parts in their rules spell
  abbrev pub IsSpelledAuthority : Rule
  IsSpelledAuthority bytes = (a : AuthorityValue) × HasAuthorityParts set a × (spell_authority a ≡ bytes)

  pub in_utf8-authority : (bytes : Text) → InUtf8 (IsAuthority set) bytes ↔ IsSpelledAuthority bytes
  unfolding spell_authority
  in_utf8-authority bytes = (there, back)
    where
      there : InUtf8 (IsAuthority set) bytes → IsSpelledAuthority bytes
      there z =
          let j = (in_utf8-joined (Optional (IsUserInfo set ⨾ Mark at_sign)) (IsHost set ⨾ Optional (Mark colon ⨾ IsPort)) bytes).0 z in
          let k = (in_utf8-joined (IsHost set) (Optional (Mark colon ⨾ IsPort)) j.1).0 j.3 in
          let u = (in_utf8-part_then at_sign refl (IsUserInfo set) j.0).0 j.2 in
          let p = (in_utf8-then_part colon refl IsPort k.1).0 k.3 in (
            record { user_info = u.0; host = k.0; port = p.0 },
            record { user_info = u.1; host = k.2; port = p.1 },
            append_assoc (part_then (at_sign ∷ []) u.0) k.0 (then_part (colon ∷ []) p.0) ∙ (λ i. u.2 i ++ (k.0 ++ p.2 i)) ∙ ap (λ t. j.0 ++ t) k.4 ∙ j.4,
          )

      back : IsSpelledAuthority bytes → InUtf8 (IsAuthority set) bytes
      back z =
          let a = z.0 in
          let user = part_then (at_sign ∷ []) a.user_info in
          let port = then_part (colon ∷ []) a.port in
          let tail = (in_utf8-joined (IsHost set) (Optional (Mark colon ⨾ IsPort)) (a.host ++ port)).1 (a.host, port, z.1.host, (in_utf8-then_part colon refl IsPort port).1 (a.port, z.1.port, refl), refl) in
          (in_utf8-joined (Optional (IsUserInfo set ⨾ Mark at_sign)) (IsHost set ⨾ Optional (Mark colon ⨾ IsPort)) bytes).1
          (user, a.host ++ port, (in_utf8-part_then at_sign refl (IsUserInfo set) user).1 (a.user_info, z.1.user_info, refl), tail, sym (append_assoc user a.host port) ∙ z.2)

  -- the parts that spell a text are the ones that are read from it
  pub authority_read : (a : AuthorityValue) → HasAuthorityParts set a → read_authority (spell_authority a) ≡ a
  authority_read a p = read_authority-back a (delimited_authority set above a ((Decides-has_authority_parts a).1 p))

  -- so a text has one division
  pub one_authority : (a b : AuthorityValue) → HasAuthorityParts set a → HasAuthorityParts set b → spell_authority a ≡ spell_authority b → a ≡ b
  one_authority a b p q e = sym (authority_read a p) ∙ ap read_authority e ∙ authority_read b q

  pub Decides-is_authority : (bytes : Text) → Decides (is_authority set bytes) (InUtf8 (IsAuthority set) bytes)
  unfolding has_authority_parts is_authority
  Decides-is_authority bytes = (
    λ h. (in_utf8-authority bytes).1 (read_authority bytes, (Decides-has_authority_parts (read_authority bytes)).0 h, read_authority-spelled bytes),
    λ z. let s = (in_utf8-authority bytes).0 z in
        ap (λ t. has_authority_parts set (read_authority t)) (sym s.2) ∙ ap (has_authority_parts set) (authority_read s.0 s.1) ∙ (Decides-has_authority_parts s.0).1 s.1,
  )
