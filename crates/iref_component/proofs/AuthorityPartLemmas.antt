-- The parts of an authority are in their rules.
use Rattle.std.proofs.Common.{◌≡◌, true, arith}
use Rattle.iref_grammar.specs.{Characters.{CharTests}, Rules.{Text}, Tests.{is_user_info, is_host, is_port, none_or}}
use Rattle.iref_grammar.specs.Authority.{AuthorityValue, is_authority, has_authority_parts, read_authority}

module _ (set : CharTests) (text : Text) (a : AuthorityValue) (e : a ≡ read_authority text) (h : is_authority set text ≡ true) where
  pub user_info_in_rule : none_or (is_user_info set) a.user_info ≡ true
  unfolding is_authority has_authority_parts
  user_info_in_rule = grind arith

  pub host_in_rule : is_host set a.host ≡ true
  unfolding is_authority has_authority_parts
  host_in_rule = grind arith

  pub port_in_rule : none_or is_port a.port ≡ true
  unfolding is_authority has_authority_parts
  port_in_rule = grind arith
