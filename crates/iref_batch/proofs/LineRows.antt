-- Worked rows of the program's lines, computed.
use Prim.Native.String.{String}
use Rattle.std.specs.{Prelude.{◌≡◌, List, [], ◌∷◌, ◌++◌, map, codes, refl}, Char.{encode_utf8}, Str.{is_utf8, chars}}
use Rattle.std.specs.Fmt.{digits}
use Rattle.percent_encoding.specs.Percent.{percent_encode_byte, percent_decode}
use Rattle.iref.specs.Rules.{Text}
use Rattle.iref.specs.Grammar.{is_reg_name_char, is_user_info_char, is_path_char, is_query_char, is_fragment_char}
use Rattle.iref.specs.Tests.{is_scheme, is_user_info, is_host, is_ip_literal, is_ipvfuture, is_reg_name, is_port, is_path, is_segment, is_query, is_fragment, owed_after}
use Rattle.iref.specs.IpAddresses.{ipv4_value, ipv6_value}
use Rattle.iref.specs.Authority.{spell_authority, read_authority, is_authority, has_authority_parts}
use Rattle.iref.specs.PathValue.{spell_path, read_path}
use Rattle.iref.specs.Reference.{spell, read_reference, is_reference, is_uri, is_readable}
use Rattle.iref.specs.{Guard.{guarded, guarded_list}, NormalList.{normal_segments, excess, staying_names}}
use Rattle.iref.specs.{PathKey.{path_key}, PathSteps.{lazy_pushed, pushed, popped, joined, appended}}
use Rattle.iref.specs.{ComponentSteps.{with_scheme, with_authority, with_path}, Key.{key, key_cmp}}
use Rattle.iref.specs.{Relative.{relative_to}, Resolution.{resolved}, Edits.{edited, edited_from}}
use Rattle.iref.specs.{Characters.{uri_chars, iri_chars}, Mapping.{mapped}, PrefixLabels.{is_ascii_label}}
use Rattle.iref.specs.PrefixTable.{get, inserted, inserted_all, longest_fit, compacted, expanded}
use Rattle.iref_grammar.proofs.Rows.{utf8}
use Rattle.iref_batch.specs.Lines.{answer, answer_text, answer_to, is_valid, read_line, output, all_verbs}

-- the answer to a line, without the newline, of a program over URIs, and of one over IRIs
abbrev answer_line : String → Text
answer_line line = answer_text (answer uri_chars all_verbs (codes line))

abbrev iri_answer : Text → Text
iri_answer line = answer_text (answer iri_chars all_verbs line)

-- line, answer: what is asked of references and paths
abbrev questions : List (String × String)
questions =
    ("parts\t//user:1@host.org:80/a//b?#", "ok\t-\t=user:1@host.org:80\t=/a//b\t=\t=")
    ∷ ("parts\t", "ok\t-\t-\t=\t-\t-")
    ∷ ("parts\tscheme:////", "ok\t=scheme\t=\t=//\t-\t-")
    ∷ ("parts\ta/:", "ok\t-\t-\t=a/:\t-\t-")
    ∷ ("parts\thttp://[::1]/", "ok\t=http\t=[::1]\t=/\t-\t-")
    ∷ ("resolve\tg\thttp://a/b", "ok\thttp://a/g")
    ∷ ("relative\thttp://a/b\thttp://a/c", "ok\tb")
    ∷ ("normal\t//b", "ok\t/.//b")
    ∷ ("normal\t..", "ok\t../")
    ∷ ("equal\thttp://a\thttp://a/", "ok\tno")
    ∷ ("equal\thttp://exa%6dple.org\thttp://example.org", "ok\tyes")
    ∷ ("equal\t/%2F\t//", "ok\tno")
    ∷ []

-- edits in order, an optional value that is absent or empty, and what is refused
abbrev edits : List (String × String)
edits =
    ("edit\thttps://www.rust-lang.org\tport=40\tpath=/foo\tpush=bar\tquery=query\tfragment=fragment", "ok\thttps://www.rust-lang.org:40/foo/bar?query#fragment")
    ∷ ("edit\thttp://h//a\tpop\tnormalize", "ok\thttp://h/")
    ∷ ("edit\thttps://rust-lang.org/a/c\tpop\tpush=b\tpush=c\tpush=", "ok\thttps://rust-lang.org/a/b/c/")
    ∷ ("edit\ta\tquery=x=y", "ok\ta?x=y")
    ∷ ("edit\t//h/a\tauthority", "ok\t/a")
    ∷ ("edit\t//h/a\tauthority=", "ok\t///a")
    ∷ ("edit\t//h/a\thost=\tport=", "ok\t//:/a")
    ∷ ("edit\ta\tquery=", "ok\ta?")
    ∷ ("edit\ta", "ok\ta")
    ∷ ("edit\ta\tport", "error edit")
    ∷ ("edit\tx\thost=h", "error edit")
    ∷ ("edit\ta\tpath=b c", "error invalid")
    ∷ ("edit\ta\tscheme=", "error invalid")
    ∷ ("edit\ta\thost", "error command")
    ∷ ("edit\ta\tpop=", "error command")
    ∷ ("edit\ta\tpath=b c\tpop=1", "error command")
    ∷ []

-- no verb or a wrong number of fields; a text outside its grammar
abbrev refusals : List (String × String)
refusals =
    ("", "error command")
    ∷ ("\t", "error command")
    ∷ ("parts", "error command")
    ∷ ("parts\tx\t", "error command")
    ∷ ("Parts\tx", "error command")
    ∷ ("parts\r\tx", "error command")
    ∷ ("parts\t1:2", "error invalid")
    ∷ ("parts\thttp://[::1", "error invalid")
    ∷ ("parts\ta%4", "error invalid")
    ∷ ("parts\tx\r", "error invalid")
    ∷ ("resolve\tg\t/b", "error invalid")
    ∷ ("resolve\tg:h\t/b", "error invalid")
    ∷ []

abbrev lines : List (String × String)
lines = questions ++ edits ++ refusals

lines_hold : map (λ row. answer_line row.0) lines ≡ map (λ row. codes row.1) lines
unfolding answer read_line is_valid answer_to output edited edited_from is_reference is_uri is_authority is_readable has_authority_parts is_scheme is_user_info is_host is_ip_literal is_ipvfuture is_reg_name is_port is_path is_segment is_query is_fragment ipv4_value ipv6_value owed_after is_reg_name_char is_user_info_char is_path_char is_query_char is_fragment_char is_utf8 chars encode_utf8 digits percent_decode spell read_reference spell_authority read_authority spell_path read_path guarded guarded_list normal_segments excess staying_names lazy_pushed pushed popped joined appended with_scheme with_authority with_path path_key key key_cmp relative_to resolved
lines_hold = refl

-- ---- whole inputs

abbrev six_lines : String
six_lines = "equal\thttp://a\thttp://a/\n\nparts\t1:2\nedit\tx\thost=h\nresolve\tg\t/b\nnormal\t//b"

abbrev six_answers : String
six_answers = "ok\tno\nerror command\nerror invalid\nerror edit\nerror invalid\nok\t/.//b\n"

-- input, output: each line has its answer; the last one needs no newline, a newline at the end begins no line, and no input has no lines
abbrev inputs : List (String × String)
inputs =
    (six_lines, six_answers)
    ∷ ("parts\tx\n", "ok\t-\t-\t=x\t-\t-\n")
    ∷ ("\n\n", "error command\nerror command\n")
    ∷ ("", "")
    ∷ []

inputs_hold : map (λ row. output uri_chars all_verbs (codes row.0)) inputs ≡ map (λ row. codes row.1) inputs
unfolding answer read_line is_valid answer_to output edited edited_from is_reference is_uri is_authority is_readable has_authority_parts is_scheme is_user_info is_host is_ip_literal is_ipvfuture is_reg_name is_port is_path is_segment is_query is_fragment ipv4_value ipv6_value owed_after is_reg_name_char is_user_info_char is_path_char is_query_char is_fragment_char is_utf8 chars encode_utf8 digits percent_decode spell read_reference spell_authority read_authority spell_path read_path guarded guarded_list normal_segments excess staying_names lazy_pushed pushed popped joined appended with_scheme with_authority with_path path_key key key_cmp relative_to resolved
inputs_hold = refl

-- ---- a program over IRIs

-- all lines above have the same answers
same_lines_hold : map (λ row. iri_answer (codes row.0)) lines ≡ map (λ row. codes row.1) lines
unfolding answer read_line is_valid answer_to output edited edited_from is_reference is_uri is_authority is_readable has_authority_parts is_scheme is_user_info is_host is_ip_literal is_ipvfuture is_reg_name is_port is_path is_segment is_query is_fragment ipv4_value ipv6_value owed_after is_reg_name_char is_user_info_char is_path_char is_query_char is_fragment_char is_utf8 chars encode_utf8 digits percent_decode spell read_reference spell_authority read_authority spell_path read_path guarded guarded_list normal_segments excess staying_names lazy_pushed pushed popped joined appended with_scheme with_authority with_path path_key key key_cmp relative_to resolved
same_lines_hold = refl

-- characters beyond ASCII, and the mapping
abbrev iri_lines : List (Text × Text)
iri_lines =
    (utf8 "to-uri\thttp://a/é?" ++ encode_utf8 0xE000 ++ utf8 "#ü", utf8 "ok\thttp://a/%C3%A9?%EE%80%80#%C3%BC")
    ∷ (utf8 "to-uri\t//é@ö/" ++ encode_utf8 0x1_0000, utf8 "ok\t//%C3%A9@%C3%B6/%F0%90%80%80")
    ∷ (utf8 "to-uri\thttp://a/%c3%a9", utf8 "ok\thttp://a/%c3%a9")
    ∷ (utf8 "to-uri\t", utf8 "ok\t")
    ∷ (utf8 "to-uri\t" ++ encode_utf8 0xE000, utf8 "error invalid")
    ∷ (utf8 "to-uri", utf8 "error command")
    ∷ (utf8 "equal\thttp://a/é\thttp://a/%c3%a9", utf8 "ok\tyes")
    ∷ (utf8 "resolve\t../ü\thttp://a/b/c", utf8 "ok\thttp://a/ü")
    ∷ (utf8 "relative\thttp://a/é/ü\thttp://a/é/b", utf8 "ok\tü")
    ∷ (utf8 "normal\té/../ü", utf8 "ok\tü")
    ∷ (utf8 "parts\t//é/ü?" ++ encode_utf8 0xE000, utf8 "ok\t-\t=é\t=/ü\t=" ++ encode_utf8 0xE000 ++ utf8 "\t-")
    ∷ (utf8 "edit\ta\tpush=é\tquery=ü", utf8 "ok\ta/é?ü")
    ∷ (utf8 "edit\ta\tscheme=é", utf8 "error invalid")
    ∷ (codes "parts\t" ++ 0xC3 ∷ [], utf8 "error invalid")
    ∷ []

iri_lines_hold : map (λ row. iri_answer row.0) iri_lines ≡ map (λ row. row.1) iri_lines
unfolding mapped percent_encode_byte answer read_line is_valid answer_to output edited edited_from is_reference is_uri is_authority is_readable has_authority_parts is_scheme is_user_info is_host is_ip_literal is_ipvfuture is_reg_name is_port is_path is_segment is_query is_fragment ipv4_value ipv6_value owed_after is_reg_name_char is_user_info_char is_path_char is_query_char is_fragment_char is_utf8 chars encode_utf8 digits percent_decode spell read_reference spell_authority read_authority spell_path read_path guarded guarded_list normal_segments excess staying_names lazy_pushed pushed popped joined appended with_scheme with_authority with_path path_key key key_cmp relative_to resolved
iri_lines_hold = refl

-- prefix tables: line without its entries, answer
abbrev entries : Text
entries = codes "\tex=http://ex.org/\tv=http://ex.org/v#"

abbrev table_lines : List (Text × Text)
table_lines =
    (codes "compact\thttp://ex.org/v#name" ++ entries, codes "ok\t=v:name")
    ∷ (codes "compact\thttp://ex.org/v" ++ entries, codes "ok\t=ex:v")
    ∷ (codes "compact\thttp://ex.org/" ++ entries, codes "ok\t=ex:")
    ∷ (codes "compact\tHTTP://ex.org/x" ++ entries, codes "ok\t-")
    ∷ (codes "compact\thttp://ex.org/v#name" ++ entries ++ codes "\tw=http://ex.org/v#", codes "ok\t=v:name")
    ∷ (codes "compact\thttp://ex.org/v#name\tw=http://ex.org/v#" ++ entries, codes "ok\t=w:name")
    ∷ (codes "compact\thttp://ex.org/v#a:b" ++ entries, codes "ok\t=v:a:b")
    ∷ (codes "compact\thttp://ex.org/", codes "ok\t-")
    ∷ (codes "compact\tv" ++ entries, codes "error invalid")
    ∷ (codes "compact\thttp://ex.org/" ++ entries ++ codes "\tv=http://a", codes "error invalid")
    ∷ (codes "compact\thttp://ex.org/" ++ entries ++ codes "\t1=http://a", codes "error invalid")
    ∷ (codes "compact\thttp://ex.org/" ++ entries ++ codes "\t=http://a", codes "error invalid")
    ∷ (codes "compact\thttp://ex.org/" ++ entries ++ codes "\tw=a", codes "error invalid")
    ∷ (codes "compact\thttp://ex.org/" ++ entries ++ codes "\tw", codes "error command")
    ∷ (codes "compact\tv" ++ entries ++ codes "\tw", codes "error command")
    ∷ (codes "compact", codes "error command")
    ∷ (codes "expand\tex:a#b" ++ entries, codes "ok\thttp://ex.org/a#b")
    ∷ (codes "expand\tex:" ++ entries, codes "ok\thttp://ex.org/")
    ∷ (codes "expand\tv:a#b" ++ entries, codes "error invalid")
    ∷ (codes "expand\tq:x" ++ entries, codes "error invalid")
    ∷ (codes "expand\tex" ++ entries, codes "error invalid")
    ∷ (codes "expand\tex:a b" ++ entries, codes "error invalid")
    ∷ (codes "expand\tex:" ++ 0xC3 ∷ [] ++ entries, codes "error invalid")
    ∷ (codes "expand\tex:a:b=c" ++ entries, codes "ok\thttp://ex.org/a:b=c")
    ∷ (codes "expand\te-_1:x\te-_1=s:?a=b&c=", codes "ok\ts:?a=b&c=x")
    ∷ (codes "expand", codes "error command")
    ∷ []

table_lines_hold : map (λ row. iri_answer row.0) table_lines ≡ map (λ row. row.1) table_lines
unfolding is_ascii_label get inserted inserted_all longest_fit compacted expanded answer read_line is_valid answer_to output edited edited_from is_reference is_uri is_authority is_readable has_authority_parts is_scheme is_user_info is_host is_ip_literal is_ipvfuture is_reg_name is_port is_path is_segment is_query is_fragment ipv4_value ipv6_value owed_after is_reg_name_char is_user_info_char is_path_char is_query_char is_fragment_char is_utf8 chars encode_utf8 digits percent_decode spell read_reference spell_authority read_authority spell_path read_path guarded guarded_list normal_segments excess staying_names lazy_pushed pushed popped joined appended with_scheme with_authority with_path path_key key key_cmp relative_to resolved
table_lines_hold = refl
