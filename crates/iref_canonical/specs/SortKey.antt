-- Sort keys of references: bytes in whose order the keys stand in theirs.
use Rattle.std.specs.{Prelude.{ℕ, ◌==◌, List, [], ◌∷◌, ◌++◌, Option, None, Some, if◌then◌else◌}, List.{flat_map}}
use Rattle.iref_grammar.specs.{Authority.{AuthorityValue}, PathValue.{PathValue}, Reference.{ReferenceValue}}
use Rattle.iref_grammar.specs.Rules.{Text}

-- the items one after the other, and the byte 0, which ends them
abbrev pub sort_list : {A : Type 0} → (A → Text) → List A → Text
sort_list sort items = flat_map sort items ++ 0 ∷ []

-- the byte 0 where there is none, else the byte 1 before it
abbrev pub sort_option : {A : Type 0} → (A → Text) → Option A → Text
sort_option sort None = 0 ∷ []
sort_option sort (Some x) = 1 ∷ sort x

-- the byte 0 becomes 1 and 1, the byte 1 becomes 1 and 2, each other stands
abbrev pub sort_byte : ℕ → Text
sort_byte b = if b == 0 then 1 ∷ 1 ∷ [] else (if b == 1 then 1 ∷ 2 ∷ [] else b ∷ [])

-- a text, byte by byte
unfoldable pub sort_text : Text → Text
sort_text bytes = sort_list sort_byte bytes

-- an item, with the byte 1 before it
abbrev pub sort_item : Text → Text
sort_item item = 1 ∷ sort_text item

-- whether it is absolute, and the items
unfoldable pub sort_path : PathValue → Text
sort_path p = (if p.absolute then 1 else 0) ∷ sort_list sort_item p.segments

unfoldable pub sort_authority : AuthorityValue → Text
sort_authority a = sort_option sort_text a.user_info ++ sort_text a.host ++ sort_option sort_text a.port

-- the sort key of a key, component by component
unfoldable pub sort_key : ReferenceValue → Text
sort_key k =
    sort_option sort_text k.scheme ++ sort_option sort_authority k.authority ++ sort_path k.path
    ++ sort_option sort_text k.query ++ sort_option sort_text k.fragment
