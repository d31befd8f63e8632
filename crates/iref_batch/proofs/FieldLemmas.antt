-- The fields of a line.
use Rattle.std.proofs.Common.{◌≡◌, ◌==◌, ◌<◌, ℕ, true, false, List, [], ◌∷◌, Option, Some, None, length, refl, ap, ◌∙◌, arith, bytes_eq, codes}
use Rattle.std.proofs.lemmas.Slice.Eq.{bytes_eq-Decides}
use Rattle.std.proofs.lemmas.List.Splits.{slice_split_at, slice_split_none, length-slice_split}
use Rattle.std.proofs.{lemmas.List.{append-nil}, lemmas.List.Elements.{All-cons, All-nil}}
use Rattle.std.specs.List.{find}
use Rattle.iref.specs.{Rules.{Text}, Texts.{after, before, lacks, pieces_at, is_empty}}
use Rattle.iref.proofs.{CutLemmas.{cut, rest_lacks}, SplitLemmas.{lacks-before}}
use Rattle.iref_batch.specs.{Lines.{Request, tab, read_line, one_text, all_verbs}, Gathering.{Lacks}}
use Rattle.iref_batch.specs.Fields.{fields_of}

-- a text without the delimiter, character by character
lacking : (mark : ℕ) (text : Text) → lacks mark text ≡ true → Lacks mark text
lacking mark [] h = All-nil (λ c. (c == mark) ≡ false)
lacking mark (c ∷ cs) h = grind (arith, All-cons (λ d. (d == mark) ≡ false) c cs, rest_lacks, lacking mark cs)

-- the first field, and the fields of what follows its TAB
pub fields_cut : (text field : Text) (rest : Option Text) → field ≡ before (tab ∷ []) text → rest ≡ after tab text → pieces_at tab text ≡ field ∷ fields_of rest
fields_cut text field rest e f =
    let lacks_tab : Lacks tab field = lacking tab field (ap (lacks tab) e ∙ lacks-before (tab ∷ []) tab text refl) in
    grind (arith, append-nil, cut tab text, slice_split_none (λ c. c == tab) field lacks_tab, λ (r : Text). slice_split_at (λ c. c == tab) field tab r lacks_tab refl)

not_empty : {A : Type 0} (xs : List A) → 0 < length xs → is_empty xs ≡ false
not_empty xs h = grind arith

-- a field too many
pub more_fields : (request : Text → Request) (text field rest : Text) → pieces_at tab text ≡ field ∷ pieces_at tab rest → one_text request (pieces_at tab text) ≡ None
more_fields request text field rest e = grind (arith, not_empty, length-slice_split)

-- the request of a verb
pub verb_read : (line name verb : Text) (fields : Option Text) (read : List Text → Option Request) → pieces_at tab line ≡ verb ∷ fields_of fields → true ≡ bytes_eq name verb → find (λ v. bytes_eq v.0 name) all_verbs ≡ Some (name, read) → read_line all_verbs line ≡ read (fields_of fields)
unfolding read_line
verb_read line name verb fields read e h f = grind (arith, bytes_eq-Decides)

pub nothing_read : (line verb : Text) (fields : Option Text) → pieces_at tab line ≡ verb ∷ fields_of fields → false ≡ bytes_eq (codes "parts") verb → false ≡ bytes_eq (codes "resolve") verb → false ≡ bytes_eq (codes "relative") verb → false ≡ bytes_eq (codes "normal") verb → false ≡ bytes_eq (codes "equal") verb → false ≡ bytes_eq (codes "edit") verb → false ≡ bytes_eq (codes "to-uri") verb → false ≡ bytes_eq (codes "compact") verb → false ≡ bytes_eq (codes "expand") verb → read_line all_verbs line ≡ None
unfolding read_line
nothing_read line verb fields e parts resolve relative normal equal edit to_uri compact expand = grind arith
