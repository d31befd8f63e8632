-- Worked rows of what is hashed, computed: a list of writes, each a list of bytes.
use Prim.Native.String.{String}
use Rattle.std.specs.{Prelude.{◌≡◌, [], ◌∷◌, map, refl}, Char.{encode_utf8}, Hash.{HashWrites}}
use Rattle.percent_encoding.specs.Percent.{percent_encode_byte, percent_decode}
use Rattle.iref_grammar.specs.IpAddresses.{ipv4_value, ipv6_value}
use Rattle.iref_grammar.specs.Grammar.{is_reg_name_char, is_user_info_char, is_path_char, is_fragment_char, is_query_char}
use Rattle.iref_grammar.specs.{Tests.{is_ipvfuture, is_ip_literal}, Authority.{read_authority, spell_authority}}
use Rattle.iref_grammar.specs.{PathValue.{read_path, spell_path}, Reference.{read_reference, spell}}
use Rattle.iref_grammar.specs.{Guard.{guarded}, Key.{key}, NormalList.{normal_segments, excess, staying_names}}
use Rattle.iref_grammar.specs.PathKey.{path_key}
use Rattle.iref_grammar.proofs.Rows.{utf8}
use Rattle.iref_splice.specs.Fed.{fed_text, waiting_after, written_after}
use Rattle.iref_canonical.specs.{Canonical.{encoded, spelled, spelled_relative}, Hashed.{fed_lone_path, fed_reference}}
use Rattle.iref_canonical.specs.HashedParts.{fed_part}

-- a short text, and 255
abbrev ended : String → HashWrites
ended text = utf8 text ∷ (255 ∷ []) ∷ []

abbrev fed_as_reference : String → HashWrites
fed_as_reference text = fed_reference (key (read_reference (utf8 text)))

abbrev fed_as_path : String → HashWrites
fed_as_path text = fed_lone_path (path_key (read_path (utf8 text)))

-- decoded
abbrev fed_as_part : String → HashWrites
fed_as_part text = fed_part (percent_decode (utf8 text))

fed_references : map fed_as_reference ("http://a/~b/c" ∷ "HTTP://a/%7Eb/./c" ∷ "a/..//b" ∷ "?é" ∷ "" ∷ [])
    ≡ map ended ("http://a/~b/c" ∷ "http://a/~b/c" ∷ ".//b" ∷ "?é" ∷ "" ∷ [])
unfolding read_reference read_authority read_path key path_key normal_segments excess staying_names percent_decode encode_utf8
    spelled encoded spelled_relative percent_encode_byte is_reg_name_char is_user_info_char is_path_char is_fragment_char is_query_char
    is_ip_literal is_ipvfuture ipv4_value ipv6_value guarded spell spell_authority spell_path fed_reference fed_text waiting_after written_after
fed_references = refl

fed_paths : map fed_as_path ("/a/../b" ∷ "1%3A2" ∷ ".." ∷ "" ∷ []) ≡ map ended ("/b" ∷ "./1:2" ∷ "../" ∷ "" ∷ [])
unfolding read_path path_key normal_segments excess staying_names percent_decode encode_utf8 spelled encoded spelled_relative percent_encode_byte
    is_path_char is_user_info_char is_reg_name_char guarded spell spell_path fed_reference fed_text waiting_after written_after
fed_paths = refl

fed_parts : map fed_as_part ("ab" ∷ "a%62" ∷ "%25%FF" ∷ "" ∷ []) ≡ map ended ("ab" ∷ "ab" ∷ "%25%FF" ∷ "" ∷ [])
unfolding percent_decode percent_encode_byte encode_utf8 fed_part fed_text waiting_after written_after
fed_parts = refl
