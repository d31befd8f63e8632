-- what clauses cite, for the crates above
pub use Rattle.iref_grammar.specs.Authority.{AuthorityValue, is_authority, read_authority, spell_authority}
pub use Rattle.iref_grammar.specs.Characters.{AreAboveAscii, CharTests}
pub use Rattle.iref_grammar.specs.ComponentTexts.{AreComponents, spell_components}
pub use Rattle.iref_grammar.specs.Contexts.{alone, is_path_in}
pub use Rattle.iref_grammar.specs.Grammar.{colon, hash_sign, IsAuthority, IsFragment, IsHost, IsPath, IsPctStr, IsPort, IsQuery, IsScheme, IsSegment, IsUri, IsUriReference, IsUserInfo, question_mark}
pub use Rattle.iref_grammar.specs.IpAddresses.{ipv4_value}
pub use Rattle.iref_grammar.specs.Keys.{text_order}
pub use Rattle.iref_grammar.specs.PathValue.{PathValue, read_path, spell_path}
pub use Rattle.iref_grammar.specs.ComponentOffsets.{offsets_of}
pub use Rattle.iref_grammar.specs.Reference.{context_of, hierarchy, is_uri, is_readable, is_reference, read_reference, ReferenceValue, spell}
pub use Rattle.iref_grammar.specs.Rules.{AcceptsExactly, InUtf8, Text}
pub use Rattle.iref_grammar.specs.Tests.{is_fragment, is_host, is_ip_literal, is_ipv4, is_path, is_pct_str, is_port, is_query, is_scheme, is_segment, is_user_info, none_or}
pub use Rattle.iref_grammar.specs.Texts.{before, is_empty, part_then, then_part}
pub use Rattle.iref_grammar.specs.AuthorityKey.{authority_key, authority_key_cmp, authority_keys_total}
pub use Rattle.iref_grammar.specs.ComponentSteps.{with_authority, with_fragment, with_path, with_query, with_scheme}
pub use Rattle.iref_grammar.specs.CountedEquality.{IsCountedAnswer}
pub use Rattle.iref_grammar.specs.Guard.{guarded}
pub use Rattle.iref_grammar.specs.HostNumbers.{groups_of, groups_text, ipv4_text, ipv6_host_text, ipv6_text, literal_value, longest_run, run_start}
pub use Rattle.iref_grammar.specs.Key.{key, key_cmp}
pub use Rattle.iref_grammar.specs.NormalList.{normal_segments}
pub use Rattle.iref_grammar.specs.PathFunctions.{directory_text, segment_count}
pub use Rattle.iref_grammar.specs.PathKey.{path_key, path_key_cmp, path_keys_total}
pub use Rattle.iref_grammar.specs.PortNumbers.{port_text}
pub use Rattle.iref_grammar.specs.ReferenceParts.{base_of, host_of, port_of, user_info_of}
pub use Rattle.iref_grammar.specs.PathSuffix.{path_suffix}
pub use Rattle.iref_path.specs.Pieces.{pieces_if_some}
pub use Rattle.iref_path.specs.NormalItems.{IsSound, normal_left}
pub use Rattle.iref_canonical.specs.Hashed.{fed_lone_path, fed_reference}
pub use Rattle.iref_canonical.specs.HashedParts.{fed_authority, fed_components, fed_part}
pub use Rattle.iref_component.specs.AuthorityParts.{parts_key, parts_value}
pub use Rattle.iref_component.specs.Comparisons.{by_parts, by_segments, by_text, ComparesBy, Comparison}
pub use Rattle.iref_component.specs.Components.{text_of}
pub use Rattle.iref_component.specs.CountedPath.{HasRoomFor, steps_count, steps_taken}
pub use Rattle.iref_component.specs.Makers.{Parses, ParsesUtf8}
pub use Rattle.iref_component.specs.NormalPaths.{normal_segments_left}
pub use Rattle.iref_component.specs.Paths.{path_value, segments_left}
pub use Rattle.iref_component.specs.Ports.{port_number, signed_port_number}
pub use Rattle.iref_component.specs.Suffixes.{SpellsSuffix}
pub use Rattle.iref_component.specs.Tries.{Tests, TestsIfSome}
pub mod Appends
pub mod Authorities
pub mod AuthorityEdits
pub mod AuthorityParts
pub mod AuthorityTexts
pub mod BytePaths
pub mod Comparisons
pub mod Components
pub mod CountedPath
pub mod Makers
pub mod NormalLeft
pub mod NormalPaths
pub mod PathEdits
pub mod Paths
pub mod Ports
pub mod Rows
pub mod Suffixes
pub mod Tries
pub mod WholePaths
