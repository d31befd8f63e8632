-- The pieces of a text that is cut at its first or its last slash.
use Rattle.std.proofs.Common.{◌≡◌, ◌+◌, ◌≤◌, ℕ, true, false, List, [], ◌∷◌, ◌++◌, Option, length, length-drop, get_or, get_or-drop, get_or-take, length-take-le, add-one, ◌-◌, pow-suc, pow_pos, zero, suc, take, drop, drop-cons, ◌^◌, refl, sym, ◌∙◌, ap, arith, Bool, count_by, ◌==◌, ◌≢◌, ◌<◌, Some, None, is_none, option_map, MatchOption}
use Rattle.std.proofs.{lemmas.Grind.{common_steps}, lemmas.Bool.Decides.{nat_tests}}
use Rattle.std.proofs.{lemmas.List.{take-append-drop, nil_from_length}, lemmas.List.Elements.{All-from_get_or}}
use Rattle.std.proofs.{lemmas.List.Splits.{slice_split_none, length-slice_split}, lemmas.List.Sums.{count_by-le-length}}
use Rattle.std.proofs.{lemmas.Str.Pattern.{NoCharPasses-char, drop_at_char}, lemmas.Str.{IsCharBoundary-after_ascii}}
use Rattle.std.specs.{Char.{char_set_contains}, Borrow.{Bor}, Option.{option_copied}, List.{All, last_or}}
use Rattle.std.specs.{Str.{NoCharPasses}, Str.Pattern.{RFindsChar, SplitsAroundMatch}}
use Rattle.iref_grammar.specs.{Rules.{Text}, Grammar.{slash}, Texts.{before, after, pieces_at, is_empty}}
use Rattle.iref_grammar.specs.PathValue.{segments_of, read_path}
use Rattle.iref_grammar.proofs.CutLemmas.{before-no, from_first-no, before-yes, from_first-yes}
use Rattle.iref_path.specs.{Pieces.{pieces_if_some}, Slashes.{IsLastSlash, LacksSlashFrom, slash_mask}}
use Rattle.iref_grammar.proofs.PieceLemmas.{some_piece, pieces-append}

-- no character of the text is a slash
abbrev pub LacksSlash : Text → Type 0
LacksSlash text = All (λ c. (c == slash) ≡ false) text

pub lacks_by_index : (text : Text) → ((i : ℕ) → i < length text → get_or text i 0 ≢ slash) → LacksSlash text
lacks_by_index text h = All-from_get_or (λ c. (c == slash) ≡ false) text 0 (λ i within. let differs = h i within in grind (arith, nat_tests))

pub lacks_if_none : (text : Text) → NoCharPasses (λ c. c == slash) text → LacksSlash text
lacks_if_none text h = lacks_by_index text (λ i within. NoCharPasses-char slash text i h (omega arith) within)

-- a text without a slash is one piece
pub pieces-whole : (text : Text) → LacksSlash text → pieces_at slash text ≡ text ∷ []
pieces-whole text h = slice_split_none (λ c. c == slash) text h

pub pieces-uncut : (text : Text) → ((i : ℕ) → i < length text → get_or text i 0 ≢ slash) → pieces_at slash text ≡ text ∷ []
pieces-uncut text h = pieces-whole text (lacks_by_index text h)

-- what `cut` gives at a slash
abbrev pieces_behind : Option Text → List Text
pieces_behind None = []
pieces_behind (Some text) = pieces_at slash text

module _ (c : ℕ) (cs : Text) (behind : pieces_at slash cs ≡ before (slash ∷ []) cs ∷ pieces_behind (after slash cs)) where
  first_step : (b : Bool) → (c == slash) ≡ b → pieces_at slash (c ∷ cs) ≡ before (slash ∷ []) (c ∷ cs) ∷ pieces_behind (after slash (c ∷ cs))
  first_step true h =
      let mark : char_set_contains (slash ∷ []) c ≡ true = grind (arith, nat_tests) in
      grind (arith, before-yes (slash ∷ []) c cs mark, from_first-yes (slash ∷ []) c cs mark)
  first_step false h =
      let none : char_set_contains (slash ∷ []) c ≡ false = grind (arith, nat_tests) in
      grind (arith, before-no (slash ∷ []) c cs none, from_first-no (slash ∷ []) c cs none)

first_piece : (text : Text) → pieces_at slash text ≡ before (slash ∷ []) text ∷ pieces_behind (after slash text)
first_piece [] = refl
first_piece (c ∷ cs) = first_step c cs (first_piece cs) (c == slash) refl

pub pieces-first : (text front : Text) (rest : Option (Bor Text)) → front ≡ before (slash ∷ []) text → option_copied rest ≡ after slash text → pieces_at slash text ≡ front ∷ pieces_if_some rest
pieces-first text front None e f = grind (arith, first_piece)
pieces-first text front (Some back) e f = grind (arith, first_piece)

-- what `rsplit_once` gives at a slash
pub cut_last : (text front back : Text) → SplitsAroundMatch (RFindsChar slash) text front back → (text ≡ front ++ slash ∷ back) × LacksSlash back
cut_last text front back h =
    let found = drop_at_char slash text h.0 h.1 h.2.1 (omega arith) in
    let lacks = lacks_if_none (drop h.1 text) h.2.0 in
    grind (arith, common_steps, found, lacks)

-- the pieces around the last slash
pub pieces-cut_last : (text : Text) (at : ℕ) → IsLastSlash text at → pieces_at slash text ≡ pieces_at slash (take at text) ++ drop (at + 1) text ∷ []
pieces-cut_last text at h =
    let lacks : LacksSlash (drop (at + 1) text) = lacks_by_index _ (λ i within. grind (arith, common_steps, h.behind (at + 1 + i))) in
    let whole : text ≡ take at text ++ slash ∷ drop (at + 1) text = grind (arith, take-append-drop, drop-cons text at 0, add-one) in
    cc (ap (pieces_at slash) whole, pieces-append slash (take at text) (drop (at + 1) text), pieces-whole _ lacks)

-- ---- the bits of a mask

-- a number below this power has no bit from there on
pub no_slash_above : (n : ℕ) (bytes : List ℕ) → slash_mask bytes < 2 ^ n → LacksSlashFrom bytes n
no_slash_above n [] h i from within = absurd (omega arith)
no_slash_above zero (c ∷ bytes) h zero from within = grind arith
no_slash_above zero (c ∷ bytes) h (suc i) from within = no_slash_above zero bytes (omega arith) i (omega arith) (omega arith)
no_slash_above (suc n) (c ∷ bytes) h zero from within = absurd (omega arith)
no_slash_above (suc n) (c ∷ bytes) h (suc i) from within = no_slash_above n bytes (omega (arith, pow-suc 2 n)) i (omega arith) (omega arith)

slash_at_power : (n : ℕ) (bytes : List ℕ) → 2 ^ n ≤ slash_mask bytes → slash_mask bytes < 2 ^ suc n → (n < length bytes) × (get_or bytes n 0 ≡ slash)
slash_at_power n [] least h = absurd (omega (arith, pow_pos n))
slash_at_power zero (c ∷ bytes) least h = grind arith
slash_at_power (suc n) (c ∷ bytes) least h = grind (arith, pow-suc 2 n, pow-suc 2 (suc n), slash_at_power n bytes)

-- the highest bit is the last slash
pub slash_at_highest : (n : ℕ) (bytes : List ℕ) → 2 ^ n ≤ slash_mask bytes → slash_mask bytes < 2 ^ (n + 1) → IsLastSlash bytes n
slash_at_highest n bytes least h =
    let found = slash_at_power n bytes least (rw add-one at h) in
    record { within = found.0; slash_there = found.1; behind = λ i after within. no_slash_above (n + 1) bytes h i (omega arith) within }

-- ---- 16 bytes of a text, behind which no slash stands

module _ (text : Text) (start : ℕ) (room : start + 16 ≤ length text) (behind : LacksSlashFrom text (start + 16)) where
  there : (i : ℕ) → i < 16 → get_or (take 16 (drop start text)) i 0 ≡ get_or text (start + i) 0
  there i within = get_or-take 16 (drop start text) i 0 within ∙ get_or-drop start text i 0

  long : length (take 16 (drop start text)) ≡ 16
  long = length-take-le 16 (drop start text) (omega (arith, length-drop start text))

  pub last_slash_there : (at : ℕ) → IsLastSlash (take 16 (drop start text)) at → IsLastSlash text (start + at)
  last_slash_there at h =
      let within : at < 16 = omega (arith, h.within, long) in
      record {
        within = omega arith;
        slash_there = grind (arith, there at, h.slash_there);
        behind = λ i after inside. grind (arith, there (i - start), long, h.behind (i - start), behind i);
      }

  pub no_slash_there : slash_mask (take 16 (drop start text)) ≡ 0 → LacksSlashFrom text start
  no_slash_there none i from inside =
      grind (arith, there (i - start), long, no_slash_above 0 (take 16 (drop start text)) (omega (arith, none)) (i - start), behind i)

-- ---- the slashes of a text, counted part by part

-- one part more
pub counted_more : (text rest part behind : Text) (count : ℕ) → count + count_by (λ c. c == slash) rest ≡ count_by (λ c. c == slash) text → rest ≡ part ++ behind
    → (count + count_by (λ c. c == slash) part) + count_by (λ c. c == slash) behind ≡ count_by (λ c. c == slash) text
counted_more text rest part behind count h e = grind (arith, common_steps)

-- no count is above the length
pub counted_within : (text rest part behind : Text) (count : ℕ) → count + count_by (λ c. c == slash) rest ≡ count_by (λ c. c == slash) text → rest ≡ part ++ behind
    → count + count_by (λ c. c == slash) part ≤ length text
counted_within text rest part behind count h e =
    let more = counted_more text rest part behind count h e in
    let all = count_by-le-length (λ c. c == slash) text in
    omega arith

-- ---- a path's text

pub ruleset counts = (length-slice_split, count_by-le-length)

pub read-absolute : (path rest : Text) (segments : List Text) → path ≡ slash ∷ rest → segments ≡ segments_of rest → read_path path ≡ record { absolute = true; segments = segments }
unfolding read_path
read-absolute path rest segments e h = ap read_path e ∙ (λ i. record { absolute = true; segments = sym h i })

pub read-relative : (path : Text) (segments : List Text) → ((rest : Text) → path ≢ slash ∷ rest) → segments ≡ segments_of path → read_path path ≡ record { absolute = false; segments = segments }
unfolding read_path
read-relative [] segments e h = λ i. record { absolute = false; segments = sym h i }
read-relative (c ∷ path) segments e h = grind (arith, nat_tests, e path)

pub is_empty-pieces : (text : Option (Bor Text)) → is_empty (pieces_if_some text) ≡ is_none text
is_empty-pieces None = refl
is_empty-pieces (Some text) = ap is_empty (some_piece slash text.now).2

pub ruleset some_pieces = (is_empty-pieces)

-- a path has at most one segment more than its text has bytes
segments_of-most : (text : Text) → length (segments_of text) ≤ length text + 1
segments_of-most [] = omega arith
segments_of-most (c ∷ cs) = omega (arith, length-slice_split (λ d. d == slash) (c ∷ cs), count_by-le-length (λ d. d == slash) (c ∷ cs))

pub segments-most : (text : Text) → length (read_path text).segments ≤ length text + 1
unfolding read_path
segments-most [] = omega arith
segments-most (c ∷ cs) = grind (arith, segments_of-most cs, segments_of-most (c ∷ cs))

pub ruleset segment_counts = (segments-most)

-- the last item of a list, as an iterator gives it
last_item : (front : List Text) (s : Text) (o : Option Text) → last_or o (front ++ s ∷ []) ≡ Some s
last_item [] s o = refl
last_item (t ∷ front) s o = last_item front s (Some t)

pub last_given : {A : Type 0} (view : A → Text) (list left : List Text) (given : Option A) → MatchOption given ((list ≡ []) × (left ≡ [])) (λ x. list ≡ left ++ view x ∷ []) → option_map view given ≡ last_or None list
last_given view list left given h = grind (arith, last_item)

pub ruleset last_cut = (IsCharBoundary-after_ascii, pieces-uncut, pieces-cut_last)

pub ruleset counted = (nil_from_length, counted_more, counted_within)
