-- A text is an authority exactly if the pieces of it are in their rules.
use Rattle.std.proofs.Common.{arith, ◌≡◌, ℕ, ◌+◌, true, false, List, [], ◌∷◌, ◌++◌, ◌⊎◌, inl, inr, refl, sym, ◌∙◌, ap, subst, length, append_assoc, ◌==◌, ◌||◌, Option, Some, None, IfSome, is_some, if◌then◌else◌}
use Rattle.std.proofs.{Math.Logic.{◌↔◌}, lemmas.Grind.{common_steps}, Math.Bool.{or-true}}
use Rattle.std.specs.{Char.{char_set_contains, is_ascii_digit}, List.{AllByRecursion}}
use Rattle.iref_grammar.specs.{Characters.{CharTests, AreAboveAscii}, Rules.{Text, InUtf8}}
use Rattle.iref_grammar.specs.Grammar.{colon, at_sign, left_bracket, right_bracket, IsUserInfo, IsHost, IsPort, IsAuthority}
use Rattle.iref_grammar.specs.Tests.{is_port}
use Rattle.iref_grammar.specs.Texts.{before, after, after_first_char, begins_with, lacks, part_then, then_part}
use Rattle.iref_grammar.specs.Authority.{spell_authority}
use Rattle.iref_grammar.proofs.CutLemmas.{cut, before-part, after-part, from_first-lacking}
use Rattle.iref_grammar.proofs.AuthorityLemmas.{IsPlainHost, IsBracketedHost, delimited_authority}
use Rattle.iref_grammar.proofs.AuthorityRuleLemmas.{Decides-has_authority_parts, in_utf8-authority}
use Rattle.iref_grammar.proofs.{PartRuleLemmas.{Decides-is_port_bytes}, LackLemmas.{all_lacks}}
use Rattle.iref_fault.specs.Places.{PartRule, UserInfo, Port, rule_of}
use Rattle.iref_fault.specs.Cut.{Piece, piece, piece_if, bracket_host, bracket_port, cut_host, cut_port, host_pieces, authority_pieces}
use Rattle.iref_fault.specs.FirstFault.{AreInRules}
use Rattle.iref_fault.proofs.CutPieceLemmas.{host_joins}

-- ---- lists of pieces

pub all_first : {A : Type 0} (P : A → Type 0) (xs ys : List A) → AllByRecursion P (xs ++ ys) → AllByRecursion P xs
all_first P [] ys h = tt
all_first P (x ∷ xs) ys h = (h.0, all_first P xs ys h.1)

pub all_second : {A : Type 0} (P : A → Type 0) (xs ys : List A) → AllByRecursion P (xs ++ ys) → AllByRecursion P ys
all_second P [] ys h = h
all_second P (x ∷ xs) ys h = all_second P xs ys h.1

-- ---- the cut reads what is spelled

holds_mark : (mark : ℕ) (front rest : Text) → char_set_contains (front ++ mark ∷ rest) mark ≡ true
holds_mark mark [] rest = grind (arith, common_steps)
holds_mark mark (c ∷ cs) rest = ap (λ b. (c == mark) || b) (holds_mark mark cs rest) ∙ or-true (c == mark)

tail_lacks : (port : Option Text) → IfSome port (λ p. lacks right_bracket p ≡ true) → char_set_contains (then_part (colon ∷ []) port) right_bracket ≡ false
tail_lacks None h = refl
tail_lacks (Some p) h = grind (arith, common_steps)

bracket_host_back : (front : Text) (port : Option Text) → IfSome port (λ p. lacks right_bracket p ≡ true) → bracket_host (front ++ right_bracket ∷ then_part (colon ∷ []) port) ≡ front ++ right_bracket ∷ []
bracket_host_back [] port h =
    (λ i. right_bracket ∷ (if tail_lacks port h i then bracket_host (then_part (colon ∷ []) port) else before (colon ∷ []) (then_part (colon ∷ []) port)))
    ∙ ap (λ t. right_bracket ∷ t) (before-part colon [] port refl)
bracket_host_back (c ∷ cs) port h =
    let rest = cs ++ right_bracket ∷ then_part (colon ∷ []) port in
    (λ i. c ∷ (if holds_mark right_bracket cs (then_part (colon ∷ []) port) i then bracket_host rest else (if c == right_bracket then before (colon ∷ []) rest else rest)))
    ∙ ap (λ t. c ∷ t) (bracket_host_back cs port h)

bracket_port_back : (front : Text) (port : Option Text) → IfSome port (λ p. lacks right_bracket p ≡ true) → bracket_port (front ++ right_bracket ∷ then_part (colon ∷ []) port) ≡ port
bracket_port_back [] port h =
    (λ i. if tail_lacks port h i then bracket_port (then_part (colon ∷ []) port) else after colon (then_part (colon ∷ []) port))
    ∙ after-part colon [] port refl
bracket_port_back (c ∷ cs) port h =
    let rest = cs ++ right_bracket ∷ then_part (colon ∷ []) port in
    (λ i. if holds_mark right_bracket cs (then_part (colon ∷ []) port) i then bracket_port rest else (if c == right_bracket then after colon rest else None))
    ∙ bracket_port_back cs port h

-- a host and a port are those of the text that they spell
plain_start : (host : Text) (port : Option Text) → begins_with (left_bracket ∷ []) host ≡ false → begins_with (left_bracket ∷ []) (host ++ then_part (colon ∷ []) port) ≡ false
plain_start [] None h = refl
plain_start [] (Some p) h = refl
plain_start (c ∷ cs) port h = h

abbrev pub IsCutBack : Text → Option Text → Type 0
IsCutBack host port = (cut_host (host ++ then_part (colon ∷ []) port) ≡ host) × (cut_port (host ++ then_part (colon ∷ []) port) ≡ port)

pub host_back : (host : Text) (port : Option Text) → IsPlainHost host ⊎ IsBracketedHost host → IfSome port (λ p. lacks right_bracket p ≡ true) → IsCutBack host port
host_back host port (inl plain) l =
    let text = host ++ then_part (colon ∷ []) port in
    let k = plain_start host port plain.1 in
    ((λ i. if k i then bracket_host text else before (colon ∷ []) text) ∙ before-part colon host port plain.0, (λ i. if k i then bracket_port text else after colon text) ∙ after-part colon host port plain.0)
host_back host port (inr b) l =
    let front = left_bracket ∷ b.0 in
    subst (λ h. IsCutBack h port) b.2 (
      ap cut_host (append_assoc front (right_bracket ∷ []) (then_part (colon ∷ []) port)) ∙ bracket_host_back front port l,
      ap cut_port (append_assoc front (right_bracket ∷ []) (then_part (colon ∷ []) port)) ∙ bracket_port_back front port l,
    )

-- ---- the rules

module _ (set : CharTests) (above : AreAboveAscii set) where
  pub port_lacks_bracket : (o : Option Text) → IfSome o (InUtf8 IsPort) → IfSome o (λ p. lacks right_bracket p ≡ true)
  unfolding is_port
  port_lacks_bracket None h = tt
  port_lacks_bracket (Some p) h = all_lacks is_ascii_digit right_bracket refl p ((Decides-is_port_bytes p).1 h)

  abbrev HasHostParts : Text → Option Text → Type 0
  HasHostParts host port = InUtf8 (IsHost set) host × IfSome port (InUtf8 IsPort)

  pub if_pieces : (rule : PartRule) (start : ℕ) (o : Option Text) → AreInRules set (piece_if rule start o) → IfSome o (InUtf8 (rule_of set rule))
  if_pieces rule start None h = tt
  if_pieces rule start (Some t) h = h.0

  pub pieces_if : (rule : PartRule) (start : ℕ) (o : Option Text) → IfSome o (InUtf8 (rule_of set rule)) → AreInRules set (piece_if rule start o)
  pieces_if rule start None h = tt
  pieces_if rule start (Some t) h = (h, tt)

  host_parts : (start : ℕ) (t : Text) → AreInRules set (host_pieces start t) → HasHostParts (cut_host t) (cut_port t)
  host_parts start t h = (h.0, if_pieces Port (start + length (cut_host t) + 1) (cut_port t) h.1)

  parts_host : (start : ℕ) (host : Text) (port : Option Text) (t : Text) → IsPlainHost host ⊎ IsBracketedHost host → HasHostParts host port → host ++ then_part (colon ∷ []) port ≡ t → AreInRules set (host_pieces start t)
  parts_host start host port t d h e =
      let b = host_back host port d (port_lacks_bracket port h.1) in
      let first : cut_host t ≡ host = ap cut_host (sym e) ∙ b.0 in
      let second : cut_port t ≡ port = ap cut_port (sym e) ∙ b.1 in
      (subst (InUtf8 (IsHost set)) (sym first) h.0, pieces_if Port (start + length (cut_host t) + 1) (cut_port t) (subst (λ o. IfSome o (InUtf8 IsPort)) (sym second) h.1))

  -- pieces in their rules spell an authority
  authority_there : (start : ℕ) (t : Text) → AreInRules set (authority_pieces start t) → InUtf8 (IsAuthority set) t
  unfolding authority_pieces spell_authority
  authority_there start t = by (after at_sign t) (cut at_sign t)
    where
      by : (o : Option Text) → before (at_sign ∷ []) t ++ then_part (at_sign ∷ []) o ≡ t
          → AreInRules set (elim o as (λ p. List Piece) [
            | None ↦ host_pieces start t
            | Some rest ↦ piece UserInfo start (before (at_sign ∷ []) t) ++ host_pieces (start + length (before (at_sign ∷ []) t) + 1) rest
          ]) → InUtf8 (IsAuthority set) t
      by None e h =
          let p = host_parts start t h in
          (in_utf8-authority set above t).1 (record { user_info = None; host = cut_host t; port = cut_port t }, record { user_info = tt; host = p.0; port = p.1 }, host_joins t)
      by (Some rest) e h =
          let user = before (at_sign ∷ []) t in
          let p = host_parts (start + length user + 1) rest h.1 in
          (in_utf8-authority set above t).1 (
            record { user_info = Some user; host = cut_host rest; port = cut_port rest },
            record { user_info = h.0; host = p.0; port = p.1 },
            append_assoc (user ++ at_sign ∷ []) (cut_host rest) (then_part (colon ∷ []) (cut_port rest)) ∙ append_assoc user (at_sign ∷ []) (cut_host rest ++ then_part (colon ∷ []) (cut_port rest)) ∙ ap (λ r. user ++ at_sign ∷ r) (host_joins rest) ∙ e,
          )

  pieces_with_user : ℕ → Text → Option Text → List Piece
  pieces_with_user start t o = elim o as (λ p. List Piece) [
    | None ↦ host_pieces start t
    | Some rest ↦ piece UserInfo start (before (at_sign ∷ []) t) ++ host_pieces (start + length (before (at_sign ∷ []) t) + 1) rest
  ]

  -- and an authority's pieces are in their rules
  authority_back : (start : ℕ) (t : Text) → InUtf8 (IsAuthority set) t → AreInRules set (authority_pieces start t)
  unfolding authority_pieces spell_authority pieces_with_user
  authority_back start t z =
      let s = (in_utf8-authority set above t).0 z in
      let d = delimited_authority set above s.0 ((Decides-has_authority_parts set above s.0).1 s.1) in
      by s.0.user_info s.1.user_info d.user_info s.0.host s.0.port d.without_user_info d.host s.1.host s.1.port s.2
    where
      by : (o : Option Text) → IfSome o (InUtf8 (IsUserInfo set)) → IfSome o (λ u. lacks at_sign u ≡ true) → (host : Text) (port : Option Text) → (is_some o ≡ false → lacks at_sign (host ++ then_part (colon ∷ []) port) ≡ true)
          → IsPlainHost host ⊎ IsBracketedHost host → InUtf8 (IsHost set) host → IfSome port (InUtf8 IsPort) → part_then (at_sign ∷ []) o ++ host ++ then_part (colon ∷ []) port ≡ t → AreInRules set (authority_pieces start t)
      by None u l host port n d h p e =
          let none : after at_sign t ≡ None = ap (after at_sign) (sym e) ∙ ap after_first_char (from_first-lacking at_sign (host ++ then_part (colon ∷ []) port) (n refl)) in
          subst (λ o. AreInRules set (pieces_with_user start t o)) (sym none) (parts_host start host port t d (h, p) e)
      by (Some user) u l host port n d h p e =
          let rest = host ++ then_part (colon ∷ []) port in
          let spelled : user ++ then_part (at_sign ∷ []) (Some rest) ≡ t = sym (append_assoc user (at_sign ∷ []) rest) ∙ sym (append_assoc (user ++ at_sign ∷ []) host (then_part (colon ∷ []) port)) ∙ e in
          let some : after at_sign t ≡ Some rest = ap (after at_sign) (sym spelled) ∙ after-part at_sign user (Some rest) l in
          let front : before (at_sign ∷ []) t ≡ user = ap (before (at_sign ∷ [])) (sym spelled) ∙ before-part at_sign user (Some rest) l in
          subst (λ o. AreInRules set (pieces_with_user start t o)) (sym some)
          (subst (InUtf8 (IsUserInfo set)) (sym front) u, parts_host (start + length (before (at_sign ∷ []) t) + 1) host port rest d (h, p) refl)

  pub authority_pieces_are : (start : ℕ) (t : Text) → AreInRules set (authority_pieces start t) ↔ InUtf8 (IsAuthority set) t
  authority_pieces_are start t = (authority_there start t, authority_back start t)
