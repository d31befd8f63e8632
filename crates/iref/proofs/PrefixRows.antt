-- Worked rows of prefix tables, computed.
use Prim.Native.String.{String}
use Rattle.std.specs.Prelude.{◌≡◌, Bool, true, false, List, [], ◌∷◌, ◌++◌, map, codes, Option, Some, None, Result, Ok, Err, option_map, unwrap_or, refl}
use Rattle.std.specs.{Str.{is_utf8, chars}, Char.{encode_utf8}}
use Rattle.iref_grammar.specs.{Rules.{Text}, IpAddresses.{ipv4_value, ipv6_value}}
use Rattle.iref_grammar.specs.Grammar.{is_reg_name_char, is_user_info_char, is_path_char, is_fragment_char, is_query_char}
use Rattle.iref_grammar.specs.Tests.{owed_after, is_scheme, is_port, is_user_info, is_reg_name, is_ipvfuture, is_ip_literal, is_host, is_segment, is_query, is_fragment}
use Rattle.iref_grammar.specs.{Authority.{read_authority, has_authority_parts}, PathValue.{read_path}}
use Rattle.iref_grammar.specs.Reference.{read_reference, is_readable, is_reference, is_uri}
use Rattle.iref.specs.PrefixLabels.{is_label, is_ascii_label, is_turtle_label, follow_pn_chars_base}
use Rattle.iref.specs.declared.compact.label.Labels.TheVariants.{Ascii, Turtle, Any}
use Rattle.iref.specs.PrefixTable.{PrefixEntry, PrefixesValue, ascii_table, get, InsertRefusal, BadLabel, Taken, inserted, inserted_all, longest_fit, compacted, compact_text, ExpandRefusal, NoColon, UnknownLabel, NotAnIri, expanded}
use Rattle.iref_grammar.proofs.Rows.{utf8}

abbrev entry : String → String → PrefixEntry
entry label iri = record { label = codes label; iri = codes iri }

-- the table of the worked lines, with a second label for the same IRI
abbrev entries : List PrefixEntry
entries = entry "ex" "http://ex.org/" ∷ entry "v" "http://ex.org/v#" ∷ entry "w" "http://ex.org/v#" ∷ []

abbrev table : PrefixesValue
table = unwrap_or (inserted_all entries (ascii_table [])) (ascii_table [])

-- inserts keep the order
entries_stand : inserted_all entries (ascii_table []) ≡ Some (ascii_table entries)
unfolding is_ascii_label inserted inserted_all
entries_stand = refl

-- ---- labels

-- text; whether it is a label
abbrev labels : List (String × Bool)
labels =
    ("a", true)
    ∷ ("Z", true)
    ∷ ("rdf", true)
    ∷ ("e-_1", true)
    ∷ ("", false)
    ∷ ("1", false)
    ∷ ("_a", false)
    ∷ ("-a", false)
    ∷ ("a.b", false)
    ∷ ("a:", false)
    ∷ ("a b", false)
    ∷ ("é", false)
    ∷ ("aé", false)
    ∷ []

labels_hold : map (λ row. is_label Ascii (utf8 row.0)) labels ≡ map (λ row. row.1) labels
unfolding is_ascii_label encode_utf8
labels_hold = refl

-- text; whether it is `PN_PREFIX` or empty; whether it is a text without a colon
abbrev wider_labels : List (String × Bool × Bool)
wider_labels =
    ("", true, true)
    ∷ ("größe", true, true)
    ∷ ("schema.org", true, true)
    ∷ ("a..b", true, true)
    ∷ ("a-1_", true, true)
    ∷ ("éa", true, true)
    ∷ ("a·", true, true)
    ∷ ("Ω", true, true)
    ∷ ("a.", false, true)
    ∷ (".a", false, true)
    ∷ ("1a", false, true)
    ∷ ("_a", false, true)
    ∷ ("-a", false, true)
    ∷ ("·a", false, true)
    ∷ ("×", false, true)
    ∷ ("a b", false, true)
    ∷ ("a/b", false, true)
    ∷ ("a:b", false, false)
    ∷ (":", false, false)
    ∷ []

turtle_labels_hold : map (λ row. is_label Turtle (utf8 row.0)) wider_labels ≡ map (λ row. row.1) wider_labels
unfolding is_turtle_label follow_pn_chars_base encode_utf8 is_utf8 chars
turtle_labels_hold = refl

any_labels_hold : map (λ row. is_label Any (utf8 row.0)) wider_labels ≡ map (λ row. row.2) wider_labels
unfolding encode_utf8
any_labels_hold = refl

-- ---- inserts

-- label; what an insert into the table answers: the label is looked at first
abbrev added : PrefixEntry → Result PrefixesValue InsertRefusal
added e = Ok (ascii_table (entries ++ e ∷ []))

abbrev inserts : List (String × Result PrefixesValue InsertRefusal)
inserts = ("x", added (entry "x" "s:")) ∷ ("EX", added (entry "EX" "s:")) ∷ ("ex", Err Taken) ∷ ("w", Err Taken) ∷ ("1", Err BadLabel) ∷ ("", Err BadLabel) ∷ []

inserts_hold : map (λ row. inserted (codes row.0) (codes "s:") table) inserts ≡ map (λ row. row.1) inserts
unfolding is_ascii_label inserted inserted_all
inserts_hold = refl

-- label; its IRI
abbrev found : List (String × Option Text)
found = ("ex", Some (codes "http://ex.org/")) ∷ ("w", Some (codes "http://ex.org/v#")) ∷ ("W", None) ∷ ("", None) ∷ []

found_hold : map (λ row. get (codes row.0) table.entries) found ≡ map (λ row. row.1) found
unfolding is_ascii_label get inserted inserted_all
found_hold = refl

-- ---- shortened and expanded

-- IRI; its short text: the longest entry, the first of two as long, by texts
abbrev shortened : List (String × Option Text)
shortened =
    ("http://ex.org/v#name", Some (codes "v:name"))
    ∷ ("http://ex.org/v#", Some (codes "v:"))
    ∷ ("http://ex.org/v", Some (codes "ex:v"))
    ∷ ("http://ex.org/", Some (codes "ex:"))
    ∷ ("http://ex.org/a:b", Some (codes "ex:a:b"))
    ∷ ("http://ex.org", None)
    ∷ ("HTTP://ex.org/x", None)
    ∷ ("http://e%78.org/x", None)
    ∷ []

shortened_hold : map (λ row. option_map compact_text (compacted (codes row.0) table.entries)) shortened ≡ map (λ row. row.1) shortened
unfolding is_ascii_label inserted inserted_all longest_fit compacted
shortened_hold = refl

-- text; the IRI that it stands for: first the `:`, then the label, then the whole
abbrev expansions : List (String × Result Text ExpandRefusal)
expansions =
    ("ex:a#b", Ok (utf8 "http://ex.org/a#b"))
    ∷ ("ex:", Ok (utf8 "http://ex.org/"))
    ∷ ("w:é", Ok (utf8 "http://ex.org/v#é"))
    ∷ ("ex:a:b", Ok (utf8 "http://ex.org/a:b"))
    ∷ ("v:a#b", Err NotAnIri)
    ∷ ("ex:a b", Err NotAnIri)
    ∷ ("q:x", Err UnknownLabel)
    ∷ ("q:a b", Err UnknownLabel)
    ∷ (":x", Err UnknownLabel)
    ∷ ("ex", Err NoColon)
    ∷ ("q", Err NoColon)
    ∷ ("", Err NoColon)
    ∷ []

expansions_hold : map (λ row. expanded (utf8 row.0) table.entries) expansions ≡ map (λ row. row.1) expansions
unfolding is_ascii_label get inserted inserted_all expanded is_uri is_reference is_readable read_reference read_authority read_path has_authority_parts encode_utf8 is_utf8 chars
    owed_after is_scheme is_host is_ip_literal is_ipvfuture ipv4_value ipv6_value is_reg_name is_user_info is_port is_segment is_query is_fragment
    is_reg_name_char is_user_info_char is_path_char is_fragment_char is_query_char
expansions_hold = refl
