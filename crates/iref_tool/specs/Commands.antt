-- What each command answers to its words.
use Rattle.std.specs.Prelude.{bytes_eq, List, [], ◌∷◌, ◌++◌, Option, None, Some, Ok, Err, codes, fold, option_map, if◌then◌else◌}
use Rattle.iref.specs.{Authority.{spell_authority}, Characters.{iri_chars}, PathValue.{spell_path}, Rules.{Text}, Texts.{is_empty}}
use Rattle.iref.specs.{Faults.{fault_of_part}, Reference.{ReferenceValue, read_reference, spell}, Relativized.{relativized}}
use Rattle.iref.specs.ReferenceParts.{host_of, port_of, user_info_of}
use Rattle.clap.specs.{declared.parser.matches.Found.{Found}, Words.{first_value}}
use Rattle.iref_batch.specs.Lines.{Answered, Equal, Normal, Relative, Resolve, ToUri, answer_to, newline}
use Rattle.iref_fault.specs.declared.part.PartRule.TheVariants as part
use Rattle.iref_tool.specs.{EditWords.{edited_by_words}, EntryWords.{compacted_by_words, expanded_by_words}}
use Rattle.iref_tool.specs.{Replies.{Refuses, Reply, if_iri, if_reference, unless_wrong}, Words.{word, words}}
use Rattle.iref_tool.specs.declared.refusal.Reason.TheVariants as reason

-- a line for a component is added, if it is there
abbrev pub with_part : Text → Text → Option Text → Text
with_part lines name None = lines
with_part lines name (Some part) = (if is_empty lines then [] else lines ++ newline ∷ []) ++ name ++ codes ": " ++ part

-- a line for each component that is there, and for each part of the authority
abbrev pub part_lines : ReferenceValue → Text
part_lines r =
    fold (λ lines (p : Text × Option Text). with_part lines p.0 p.1) []
    ((codes "scheme", r.scheme) ∷ (codes "authority", option_map spell_authority r.authority) ∷ (codes "user info", user_info_of r)
    ∷ (codes "host", host_of r) ∷ (codes "port", port_of r) ∷ (codes "path", Some (spell_path r.path)) ∷ (codes "query", r.query)
    ∷ (codes "fragment", r.fragment) ∷ [])

abbrev pub parts_reply : Text → Reply
parts_reply reference = if_reference (codes "URI") reference (Ok (Answered (part_lines (read_reference reference))))

abbrev pub normal_reply : Text → Reply
normal_reply path = unless_wrong (codes "PATH") (codes "path") path path (fault_of_part iri_chars part.Path path) (Ok (answer_to (Normal path)))

abbrev pub equal_reply : Text → Text → Reply
equal_reply first second =
    if_reference (codes "FIRST") first (if_reference (codes "SECOND") second (Ok (answer_to (Equal first second))))

abbrev pub relative_reply : Text → Text → Reply
relative_reply target base =
    if_reference (codes "TARGET") target (if_reference (codes "BASE") base (Ok (answer_to (Relative target base))))

-- the reference is read first, then the edits, and then these are done
abbrev pub edit_reply : Text → List Text → Reply
edit_reply reference edits = if_reference (codes "URI") reference (edited_by_words edits (read_reference reference))

abbrev pub to_uri_reply : Text → Reply
to_uri_reply iri = if_reference (codes "IRI") iri (Ok (answer_to (ToUri iri)))

abbrev pub compact_reply : Text → List Text → Reply
compact_reply iri entries = if_iri (codes "IRI") iri iri (compacted_by_words iri entries)

abbrev pub resolved_reply : Text → Text → Reply
resolved_reply reference base = if_reference (codes "REFERENCE") reference (if_iri (codes "BASE") base base (Ok (answer_to (Resolve reference base))))

abbrev pub or_no_reference : Text → Option ReferenceValue → Reply
or_no_reference target None = Err (Refuses (codes "TARGET") target reason.NoReference)
or_no_reference target (Some r) = Ok (Answered (spell r))

-- the base is read first
abbrev pub relativized_reply : Text → Text → Reply
relativized_reply target base =
    if_iri (codes "BASE") base base (if_iri (codes "TARGET") target target (or_no_reference target (relativized (read_reference target) (read_reference base))))

-- of two words, with no base given
abbrev pub reply_of_two : Text → Option Text → List Text → Option Reply
reply_of_two name (Some base) words = None
reply_of_two name None (word ∷ base ∷ []) =
    if bytes_eq name (codes "resolve") then Some (resolved_reply word base)
    else if bytes_eq name (codes "relativize") then Some (relativized_reply word base) else None
reply_of_two name None words = None

-- of a command and its words
abbrev pub reply_of : Text → Found → Option Reply
reply_of name found =
    if bytes_eq name (codes "parts") then Some (parts_reply (word found (codes "URI")))
    else if bytes_eq name (codes "normal") then Some (normal_reply (word found (codes "PATH")))
    else if bytes_eq name (codes "equal") then Some (equal_reply (word found (codes "FIRST")) (word found (codes "SECOND")))
    else if bytes_eq name (codes "relative") then Some (relative_reply (word found (codes "TARGET")) (word found (codes "BASE")))
    else if bytes_eq name (codes "edit") then Some (edit_reply (word found (codes "URI")) (words found (codes "EDIT")))
    else if bytes_eq name (codes "to-uri") then Some (to_uri_reply (word found (codes "IRI")))
    else if bytes_eq name (codes "compact") then Some (compact_reply (word found (codes "IRI")) (words found (codes "LABEL=IRI")))
    else if bytes_eq name (codes "expand") then Some (expanded_by_words (word found (codes "TEXT")) (words found (codes "LABEL=IRI")))
    else reply_of_two name (first_value found (codes "base")) (words found (codes "WORD"))
