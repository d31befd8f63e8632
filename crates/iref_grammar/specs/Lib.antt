-- what clauses cite, for the crates above
pub use Rattle.iref_grammar.specs.Authority.{after_bracketed, AuthorityValue, bracketed, has_authority_parts, HasAuthorityParts, is_authority, read_authority, read_host_and_port, spell_authority}
pub use Rattle.iref_grammar.specs.Characters.{AreAboveAscii, CharTests, HasCommon, iri_above_ascii, iri_chars, uri_above_ascii, uri_chars}
pub use Rattle.iref_grammar.specs.ComponentTexts.{AreComponents, read_components, spell_components}
pub use Rattle.iref_grammar.specs.Contexts.{alone, fits, follows_authority, is_path_in, is_readable_path}
pub use Rattle.iref_grammar.specs.Grammar.{colon, hash_sign, is_not_percent, IsAbEmptyPath, IsAbsolutePath, IsAuthority, IsFragment, IsHost, IsIpLiteral, IsIpv4Address, IsIpv6Address, IsIpvFuture, IsNoSchemePath, IsPath, IsPctStr, IsPort, IsQuery, IsRegName, IsRootlessPath, IsScheme, IsSegment, IsUri, IsUriReference, IsUserInfo, question_mark, slash}
pub use Rattle.iref_grammar.specs.IpAddresses.{ipv4_value, ipv6_value, IsIpv4, IsIpv6}
pub use Rattle.iref_grammar.specs.Keys.{is_same_text, text_order}
pub use Rattle.iref_grammar.specs.PathValue.{IsReadAs, read_path, segments_of, shows_its_list, spell_path}
pub use Rattle.iref_grammar.specs.ComponentOffsets.{range_from, offsets_in, offsets_of, text_at}
pub use Rattle.iref_grammar.specs.Reference.{context_of, hierarchy, is_uri, is_readable, is_reference, IsReadable, IsReadAsReference, read_reference, ReferenceValue, spell}
pub use Rattle.iref_grammar.specs.Rules.{AcceptsExactly, Empty, InUtf8, Text}
pub use Rattle.iref_grammar.specs.Tests.{is_fragment, is_host, is_ip_literal, is_ipv4, is_ipv6, is_ipvfuture, is_path, is_pct_str, is_port, is_query, is_reg_name, is_scheme, is_segment, is_user_info, none_or, ScansTo}
pub use Rattle.iref_grammar.specs.Texts.{after, before, from_first, is_empty, lacks, part_then, pieces_at, then_part}
pub use Rattle.iref_grammar.specs.AuthorityKey.{authority_key, authority_key_cmp, authority_keys_total}
pub use Rattle.iref_grammar.specs.AuthoritySteps.{with_host, with_port, with_user_info}
pub use Rattle.iref_grammar.specs.ComponentSteps.{with_authority, with_authority_step, with_fragment, with_new_normal_path, with_normal_path, with_path, with_path_step, with_query, with_scheme}
pub use Rattle.iref_grammar.specs.CountedEquality.{IsCountedAnswer, items_compared, paths_compared, segments_read}
pub use Rattle.iref_grammar.specs.DotSegments.{dot_segments_removed, RemovesDotSegments}
pub use Rattle.iref_grammar.specs.Guard.{guarded, guarded_list}
pub use Rattle.iref_grammar.specs.HostNumbers.{groups_of, groups_text, ipv4_text, ipv6_host_text, ipv6_text, literal_value, longest_run, run_start}
pub use Rattle.iref_grammar.specs.Key.{are_alike, AreAlike, key, key_cmp}
pub use Rattle.iref_grammar.specs.NormalList.{counted, excess, is_dot_dot, is_name, normal, normal_segments, open_parents, stays_before}
pub use Rattle.iref_grammar.specs.NormalReading.{first_left, GivesFirst, GivesLast, items_left, last_left, NormalRest, open_before, staying_before, whole_rest}
pub use Rattle.iref_grammar.specs.PathFunctions.{directory, directory_text, segment_count}
pub use Rattle.iref_grammar.specs.PathKey.{path_key, path_key_cmp, path_keys_total}
pub use Rattle.iref_grammar.specs.PathSteps.{appended, cleared, joined, lazy_appended, lazy_pushed, normalized, popped, pushed, replaced}
pub use Rattle.iref_grammar.specs.PortNumbers.{port_text, port_value}
pub use Rattle.iref_grammar.specs.Readability.{KeepsPathsReadable, KeepsReadable}
pub use Rattle.iref_grammar.specs.ReferenceParts.{base_of, host_of, port_of, user_info_of}
pub use Rattle.iref_grammar.specs.Relative.{relative_to}
pub use Rattle.iref_grammar.specs.RelativeLaws.{AreTargetAndBase, ClimbsLeast, DoAgree, IsOnlyPath, Leads}
pub use Rattle.iref_grammar.specs.Resolution.{resolved}
pub mod Characters
pub mod Rules
pub mod IpAddresses
pub mod Grammar
pub mod Texts
pub mod Tests
pub mod Contexts
pub mod Authority
pub mod PathValue
pub mod ComponentOffsets
pub mod Reference
pub mod ComponentTexts
pub mod Keys
pub mod Readings
pub mod Guard
pub mod NormalList
pub mod NormalReading
pub mod PathFunctions
pub mod PathSteps
pub mod PathSuffix
pub mod DotSegments
pub mod CountedEquality
pub mod PathKey
pub mod AuthoritySteps
pub mod AuthorityKey
pub mod HostNumbers
pub mod PortNumbers
pub mod ComponentSteps
pub mod Resolution
pub mod Key
pub mod Relative
pub mod RelativeLaws
pub mod ReferenceSuffix
pub mod ReferenceParts
pub mod Readability
pub mod Edits
pub mod Mapping
pub mod Relativized
pub mod RelativizedLaws
pub mod RelativizedTests
pub mod RelativizedChoice
