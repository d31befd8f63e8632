-- Authorities in parts (RFC 3986 section 3.2).
use Rattle.std.specs.Prelude.{Bool, ◌&&◌, [], ◌∷◌, ◌++◌, Option, Some, None, IfSome, if◌then◌else◌}
use Rattle.iref_grammar.specs.{Characters.{CharTests}, Rules.{Text, InUtf8}}
use Rattle.iref_grammar.specs.Grammar.{colon, at_sign, left_bracket, right_bracket, IsUserInfo, IsHost, IsPort}
use Rattle.iref_grammar.specs.Texts.{part_then, then_part, before, after, from_first, begins_with}
use Rattle.iref_grammar.specs.Tests.{is_user_info, is_host, is_port, none_or}

pub record AuthorityValue : Type 0 where
  pub user_info : Option Text
  pub host : Text
  pub port : Option Text

-- the user info and `@`, the host, `:` and the port
unfoldable pub spell_authority : AuthorityValue → Text
spell_authority a = part_then (at_sign ∷ []) a.user_info ++ a.host ++ then_part (colon ∷ []) a.port

-- each part is in its rule
pub record HasAuthorityParts (set : CharTests) (a : AuthorityValue) : Type 0 where
  pub user_info : IfSome a.user_info (InUtf8 (IsUserInfo set))
  pub host : InUtf8 (IsHost set) a.host
  pub port : IfSome a.port (InUtf8 IsPort)

-- ---- the same, computed

unfoldable pub has_authority_parts : CharTests → AuthorityValue → Bool
has_authority_parts set a = none_or (is_user_info set) a.user_info && is_host set a.host && none_or is_port a.port

-- of a host in brackets, and what follows it: what stands before the first `]`, where no `:` ends the host
abbrev pub bracketed : Text → Text
bracketed text = if begins_with (left_bracket ∷ []) text then before (right_bracket ∷ []) text else []

-- the rest, where the first `:` ends it
abbrev pub after_bracketed : Text → Text
after_bracketed text = if begins_with (left_bracket ∷ []) text then from_first (right_bracket ∷ []) text else text

abbrev pub read_host : Text → Text
read_host text = bracketed text ++ before (colon ∷ []) (after_bracketed text)

abbrev pub read_host_and_port : Option Text → Text → AuthorityValue
read_host_and_port user text = record { user_info = user; host = read_host text; port = after colon (after_bracketed text) }

-- the first `@` ends the user info
unfoldable pub read_authority : Text → AuthorityValue
read_authority text = elim (after at_sign text) [
  | None ↦ read_host_and_port None text
  | Some rest ↦ read_host_and_port (Some (before (at_sign ∷ []) text)) rest
]

unfoldable pub is_authority : CharTests → Text → Bool
is_authority set text = has_authority_parts set (read_authority text)
