-- An authority's parts are read from their spelling.
use Rattle.std.proofs.Common.{arith, ◌≡◌, ℕ, ◌+◌, length, take, sym, length-append, true, false, ◌&&◌, [], ◌∷◌, ◌++◌, refl, ◌∙◌, ap, append_assoc, inl, inr, subst, ◌⊎◌, lit<, ◌==◌, Option, Some, None, is_some, IfSome}
use Rattle.std.proofs.{lemmas.Grind.{common_steps}, Math.Seq.{take-append_seam}}
use Rattle.std.specs.Str.{IsCharBoundary}
use Rattle.iref_grammar.specs.{Rules.{Text}, Grammar.{colon, at_sign, left_bracket, right_bracket}}
use Rattle.iref_grammar.specs.Texts.{before, after, after_first_char, begins_with, part_then, then_part}
use Rattle.iref_grammar.specs.Authority.{AuthorityValue, spell_authority, read_authority, read_host_and_port, read_host, bracketed, after_bracketed, has_authority_parts}
use Rattle.iref_grammar.specs.Characters.{CharTests, AreAboveAscii}
use Rattle.iref_grammar.specs.Tests.{is_ip_literal, none_or, is_host, is_reg_name, is_port}
use Rattle.iref_grammar.proofs.{SliceLemmas.{mark_boundary}, TextLemmas.{lacks, first_of_both, second_of_both}}
use Rattle.iref_grammar.proofs.CutLemmas.{cut, first_lacks, from_first-lacking, before-mark, from_first-mark, before-part, after-part}
use Rattle.iref_grammar.proofs.LackLemmas.{lacks-append}
use Rattle.iref_grammar.proofs.ComponentLackLemmas.{IsCut, reg_name_refuses, user_info_lacks, reg_name_lacks, literal_parts, port_lacks, host_lacks}

-- the host and what follows it
pub read_host-joins : (text : Text) → read_host text ++ then_part (colon ∷ []) (after colon (after_bracketed text)) ≡ text
read_host-joins text = grind (arith, common_steps, cut)

host_and_port-joins : (user : Option Text) (text : Text) → spell_authority (read_host_and_port user text) ≡ part_then (at_sign ∷ []) user ++ text
unfolding spell_authority
host_and_port-joins user text = grind (arith, common_steps, read_host-joins)

-- the authority's parts spell its text
pub read_authority-spelled : (text : Text) → spell_authority (read_authority text) ≡ text
unfolding read_authority
read_authority-spelled text = by (after at_sign text) (cut at_sign text)
  where
    by : (o : Option Text) → before (at_sign ∷ []) text ++ then_part (at_sign ∷ []) o ≡ text → spell_authority (elim o as (λ p. AuthorityValue) [ None ↦ read_host_and_port None text | Some rest ↦ read_host_and_port (Some (before (at_sign ∷ []) text)) rest ]) ≡ text
    by None e = host_and_port-joins None text
    by (Some rest) e = host_and_port-joins (Some (before (at_sign ∷ []) text)) rest ∙ append_assoc (before (at_sign ∷ []) text) (at_sign ∷ []) rest ∙ e

-- each part of an authority lacks the delimiters that end it
abbrev pub IsPlainHost : Text → Type 0
IsPlainHost host = (lacks colon host ≡ true) × (begins_with (left_bracket ∷ []) host ≡ false)

abbrev pub IsBracketedHost : Text → Type 0
IsBracketedHost host = (inside : Text) × (lacks right_bracket inside ≡ true) × (left_bracket ∷ inside ++ right_bracket ∷ [] ≡ host)

pub record IsDelimitedAuthority (a : AuthorityValue) : Type 0 where
  pub user_info : IfSome a.user_info (λ u. lacks at_sign u ≡ true)
  pub without_user_info : is_some a.user_info ≡ false → lacks at_sign (a.host ++ then_part (colon ∷ []) a.port) ≡ true
  pub host : IsPlainHost a.host ⊎ IsBracketedHost a.host

host-back : (user : Option Text) (host : Text) (port : Option Text) → IsPlainHost host ⊎ IsBracketedHost host → read_host_and_port user (host ++ then_part (colon ∷ []) port) ≡ record { user_info = user; host = host; port = port }
host-back user host port (inl plain) = grind (arith, common_steps, before-part)
host-back user host port (inr b) =
    let inside = left_bracket ∷ b.0 in
    let rest = then_part (colon ∷ []) port in
    let spelled : (inside ++ right_bracket ∷ []) ++ rest ≡ inside ++ right_bracket ∷ rest = append_assoc inside (right_bracket ∷ []) rest in
    subst (λ h. read_host_and_port user (h ++ rest) ≡ record { user_info = user; host = h; port = port }) b.2
    (ap (read_host_and_port user) spelled
    ∙ (λ i. record { user_info = user; host = before-mark right_bracket inside rest b.1 i ++ before (colon ∷ []) (from_first-mark right_bracket inside rest b.1 i); port = after colon (from_first-mark right_bracket inside rest b.1 i) })
    ∙ (λ i. record { user_info = user; host = inside ++ before-part colon (right_bracket ∷ []) port refl i; port = after-part colon (right_bracket ∷ []) port refl i }))

read_with_user : Option Text → Text → AuthorityValue
read_with_user o text = elim o as (λ p. AuthorityValue) [ None ↦ read_host_and_port None text | Some rest ↦ read_host_and_port (Some (before (at_sign ∷ []) text)) rest ]

pub read_authority-back : (a : AuthorityValue) → IsDelimitedAuthority a → read_authority (spell_authority a) ≡ a
unfolding read_with_user read_authority spell_authority
read_authority-back a d = by a.user_info d.user_info d.without_user_info
  where
    tail : Text
    tail = a.host ++ then_part (colon ∷ []) a.port

    by : (o : Option Text) → IfSome o (λ u. lacks at_sign u ≡ true) → (is_some o ≡ false → lacks at_sign (a.host ++ then_part (colon ∷ []) a.port) ≡ true) → read_authority (part_then (at_sign ∷ []) o ++ a.host ++ then_part (colon ∷ []) a.port) ≡ record { user_info = o; host = a.host; port = a.port }
    by None u n =
        ap (λ o. read_with_user o (a.host ++ then_part (colon ∷ []) a.port)) (ap after_first_char (from_first-lacking at_sign (a.host ++ then_part (colon ∷ []) a.port) (n refl))) ∙ host-back None a.host a.port d.host
    by (Some user) u n =
        let rest = a.host ++ then_part (colon ∷ []) a.port in
        ap read_authority (append_assoc (user ++ at_sign ∷ []) a.host (then_part (colon ∷ []) a.port) ∙ append_assoc user (at_sign ∷ []) rest)
        ∙ ap (λ o. read_with_user o (user ++ at_sign ∷ rest)) (after-part at_sign user (Some rest) u)
        ∙ ap (λ s. read_host_and_port (Some s) rest) (before-part at_sign user (Some rest) u) ∙ host-back (Some user) a.host a.port d.host

module _ (set : CharTests) (above : AreAboveAscii set) where
  reg_name_plain : (h : Text) → is_reg_name set h ≡ true → IsPlainHost h
  reg_name_plain h k = (
    reg_name_lacks set above colon (record { ascii = lit< tt; alone = reg_name_refuses set above colon (lit< tt) refl refl; percent = refl; digit = refl }) h k,
    start h (reg_name_lacks set above left_bracket (record { ascii = lit< tt; alone = reg_name_refuses set above left_bracket (lit< tt) refl refl; percent = refl; digit = refl }) h k),
  )
    where
      start : (t : Text) → lacks left_bracket t ≡ true → begins_with (left_bracket ∷ []) t ≡ false
      start [] l = refl
      start (c ∷ cs) l = λ i. first_lacks left_bracket c cs l i && true

module _ (set : CharTests) (above : AreAboveAscii set) where
  host_shape : (h : Text) → is_host set h ≡ true → IsPlainHost h ⊎ IsBracketedHost h
  unfolding is_ip_literal is_host
  host_shape h k = grind (arith, literal_parts, reg_name_plain)

  tail_lacks : (mark : ℕ) → IsCut mark → (h : Text) (port : Option Text) → is_host set h ≡ true → none_or is_port port ≡ true → lacks mark (h ++ then_part (colon ∷ []) port) ≡ true
  tail_lacks mark m h port k l = grind (arith, lacks-append, host_lacks, port_lacks)

  pub delimited_authority : (a : AuthorityValue) → has_authority_parts set a ≡ true → IsDelimitedAuthority a
  unfolding has_authority_parts
  delimited_authority a h = grind (arith, common_steps, first_of_both, user_info_lacks, tail_lacks, host_shape)

  pub whole_authority_lacks : (mark : ℕ) → IsCut mark → (at_sign == mark) ≡ false → (a : AuthorityValue) → has_authority_parts set a ≡ true → lacks mark (spell_authority a) ≡ true
  unfolding has_authority_parts spell_authority
  whole_authority_lacks mark m n a h = grind (arith, common_steps, first_of_both, second_of_both, lacks-append, user_info_lacks, host_lacks, port_lacks)

-- a text may be cut after its host, whose length is that of its two pieces
pub host_boundary : (text address name : Text) → address ≡ bracketed text → name ≡ before (colon ∷ []) (after_bracketed text) → IsCharBoundary text (length address + length name)
host_boundary text address name e f =
    let whole : length (read_host text) ≡ length address + length name = ap length (λ i. sym e i ++ sym f i) ∙ length-append address name in
    subst (IsCharBoundary text) whole (mark_boundary colon (read_host text) (after colon (after_bracketed text)) text (lit< tt) (read_host-joins text))

pub take-host : (text address name : Text) → address ≡ bracketed text → name ≡ before (colon ∷ []) (after_bracketed text) → take (length address + length name) text ≡ read_host text
take-host text address name e f =
    let whole : length address + length name ≡ length (read_host text) = sym (length-append address name) ∙ ap length (λ i. e i ++ f i) in
    (λ i. take (whole i) (sym (read_host-joins text) i)) ∙ take-append_seam (read_host text) (then_part (colon ∷ []) (after colon (after_bracketed text)))

pub ruleset hosts = (host_boundary, take-host)
