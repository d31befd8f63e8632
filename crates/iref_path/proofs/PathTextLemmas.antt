-- What the first and the last delimiters of a path say of it.
use Rattle.std.proofs.Common.{◌≡◌, ℕ, ◌+◌, ◌<◌, true, false, not, ◌||◌, [], ◌∷◌, ◌++◌, length, get_or, take, drop-cons, refl, sym, ◌∙◌, arith, ◌==◌, ◌≢◌, Some, None, codes, true≢false}
use Rattle.std.proofs.{lemmas.Bool.Decides.{eqb_tells, nat_tests}, lemmas.Grind.{common_steps}}
use Rattle.std.proofs.{lemmas.List.{take-append-drop, take_more}, lemmas.List.Elements.{All-head}}
use Rattle.std.proofs.{lemmas.List.Sums.{suffix_len_is}, lemmas.Str.Pattern.{rfind_char}}
use Rattle.iref_grammar.specs.{Characters.{CharTests, AreAboveAscii}, Rules.{Text}, Grammar.{slash}, Texts.{is_empty}}
use Rattle.iref_grammar.specs.{PathValue.{PathValue, read_path}, Tests.{is_path}}
use Rattle.iref_grammar.proofs.PathLemmas.{read_path-reads}
use Rattle.iref_grammar.specs.{Guard.{guarded_list}, PathFunctions.{directory_text, parent}}
use Rattle.iref_grammar.proofs.PieceLemmas.{pieces-append, some_piece}
use Rattle.iref_grammar.proofs.PathGrammarLemmas.{path_parts, path_joined, is_path_empty, is_path-root, is_path-guard}
use Rattle.iref_grammar.proofs.{DirectoryLemmas.{all_but_last-snoc}, FitsLemmas.{is_empty-snoc}}
use Rattle.iref_path.proofs.SlashLemmas.{LacksSlash, pieces-whole, lacks_if_none, cut_last}

-- ---- the directory

-- the text up to and with its last slash
pub directory-cut : (text : Text) (k : ℕ) → k < length text → get_or text k 0 ≡ slash → ((i : ℕ) → k < i → i < length text → get_or text i 0 ≢ slash) → take (k + 1) text ≡ directory_text text
unfolding directory_text
directory-cut text k within here later = grind (arith, nat_tests, suffix_len_is (λ c. not (c == slash)) text (k + 1) 0 (omega (arith, within)))

pub directory-uncut : (text : Text) → ((i : ℕ) → i < length text → get_or text i 0 ≢ slash) → [] ≡ directory_text text
unfolding directory_text
directory-uncut text none = grind (arith, suffix_len_is (λ c. not (c == slash)) text 0 0)

-- it is a path
pub is_path-directory : (set : CharTests) → AreAboveAscii set → (text : Text) (k : ℕ) → k < length text → get_or text k 0 ≡ slash → is_path set text ≡ true → is_path set (take (k + 1) text) ≡ true
is_path-directory set above text k within here h =
    grind (arith, take_more text k 0, take-append-drop k text, drop-cons text k 0, path_parts set above, path_joined set above, is_path_empty)

-- ---- the parent

-- a list with one segment more
abbrev one_more : PathValue → Text → PathValue
one_more q last = record { absolute = q.absolute; segments = q.segments ++ last ∷ [] }

-- the text of a path with one segment more
grown : (front back : Text) → LacksSlash back → front ≢ [] → front ≢ slash ∷ [] → let q = read_path front in
    (read_path (front ++ slash ∷ back) ≡ one_more q back) × ((q.absolute || not (is_empty q.segments)) ≡ true)
unfolding read_path
grown [] back h some more = absurd (some refl)
grown (c ∷ []) back h some more = grind (arith, eqb_tells, some_piece slash (c ∷ []), pieces-append, pieces-whole)
grown (c ∷ d ∷ front) back h some more =
    grind (arith, some_piece slash (c ∷ d ∷ front), pieces-append slash (d ∷ front) back, pieces-append slash (c ∷ d ∷ front) back, pieces-whole)

pub parent-slice : (text front back : Text) → (text ≡ front ++ slash ∷ back) × LacksSlash back → front ≢ [] → front ≢ slash ∷ [] → parent (read_path text) ≡ Some (read_path front)
unfolding parent guarded_list
parent-slice text front back cut some more = grind (arith, grown, all_but_last-snoc, is_empty-snoc, read_path-reads front)

-- the text begins with its only slash, or with its only two
pub parent-guarded : (text front back : Text) → (text ≡ front ++ slash ∷ back) × LacksSlash back → front ≡ slash ∷ [] → parent (read_path text) ≡ Some (read_path (codes "/./"))
unfolding read_path parent guarded_list
parent-guarded text front back cut e = grind (arith, pieces-whole)

pub parent-root : (text front back : Text) → (text ≡ front ++ slash ∷ back) × LacksSlash back → front ≡ [] → back ≢ [] → parent (read_path text) ≡ Some (read_path (codes "/"))
unfolding read_path parent guarded_list
parent-root text front back cut e some = grind (arith, pieces-whole back, some_piece slash back)

pub parent-none : (text front back : Text) → (text ≡ front ++ slash ∷ back) × LacksSlash back → front ≡ [] → back ≡ [] → parent (read_path text) ≡ None
unfolding read_path parent
parent-none text front back cut e k = grind arith

pub parent-uncut : (text : Text) → LacksSlash text → parent (read_path text) ≡ None
unfolding read_path parent
parent-uncut [] h = refl
parent-uncut (c ∷ cs) h = grind (arith, pieces-whole (c ∷ cs) h, All-head (λ d. (d == slash) ≡ false) c cs h)

-- ---- emptiness

pub nothing : (text : Text) → true ≡ (length text == 0) → text ≡ []
nothing text h = grind (arith, common_steps)

pub something : (text : Text) → false ≡ (length text == 0) → text ≢ []
something text h e = true≢false (sym (h ∙ (λ i. length (e i) == 0)))

pub ruleset directories = (rfind_char, is_path_empty, is_path-directory)

pub ruleset parents = (lacks_if_none, is_path-root, parent-uncut, cut_last, path_parts, is_path-guard, parent-slice, parent-guarded, parent-root, parent-none, nothing, something)
