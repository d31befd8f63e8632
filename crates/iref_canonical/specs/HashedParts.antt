-- What is hashed of the keys of components, and of components that are hashed one by one.
use Rattle.std.specs.{Prelude.{ℕ, ◌||◌, ◌==◌, [], ◌∷◌, ◌++◌, if◌then◌else◌}, Hash.{HashWrites, option}, List.{flat_map}}
use Rattle.percent_encoding.specs.Percent.{percent_encode_byte, percent_sign}
use Rattle.iref_grammar.specs.{Authority.{AuthorityValue}, Reference.{ReferenceValue}, Rules.{Text}}
use Rattle.iref_splice.specs.Fed.{fed_text}
use Rattle.iref_canonical.specs.Hashed.{fed_lone_path, IsPathKey}

-- `%` and 255 become escapes, so that 255 ends the text; any other byte stands
abbrev pub hashed_byte : ℕ → Text
hashed_byte b = if b == percent_sign || b == 255 then percent_encode_byte b else b ∷ []

abbrev pub hashed_bytes : Text → Text
hashed_bytes bytes = flat_map hashed_byte bytes

-- of a key that is a text
unfoldable pub fed_part : Text → HashWrites
fed_part bytes = fed_text (hashed_bytes bytes)

-- part by part, and of one that may be absent whether it is there
abbrev pub fed_authority : AuthorityValue → HashWrites
fed_authority a = option fed_part a.user_info ++ fed_part a.host ++ option fed_part a.port

-- component by component
unfoldable pub fed_components : ReferenceValue → HashWrites
fed_components k =
    option fed_part k.scheme ++ option fed_authority k.authority ++ fed_lone_path k.path ++ option fed_part k.query ++ option fed_part k.fragment

-- any key
abbrev pub IsAny : {K : Type 0} → K → Type 0
IsAny k = Unit {0}

-- the path is the key of a path
abbrev pub HasPathKey : ReferenceValue → Type 0
HasPathKey k = IsPathKey k.path
