-- Texts whose bytes stand in sort keys as they are.
use Rattle.std.specs.{Prelude.{Bool, ◌&&◌}, List.{list_all}}
use Rattle.iref_grammar.specs.{Authority.{AuthorityValue}, Rules.{Text}, Tests.{none_or}}
pub use Rattle.iref_parse.specs.Plain.{is_kept_byte}

-- each byte stands in sort keys as it is, and none begins an escape
abbrev pub is_kept : Text → Bool
is_kept bytes = list_all is_kept_byte bytes

abbrev pub are_kept_parts : AuthorityValue → Bool
are_kept_parts a = none_or is_kept a.user_info && is_kept a.host && none_or is_kept a.port
