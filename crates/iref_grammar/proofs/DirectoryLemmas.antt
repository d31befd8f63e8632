-- The directory of a path is its text up to and with the last `/`.
use Rattle.std.proofs.Common.{◌≡◌, ℕ, ◌+◌, ◌-◌, Bool, true, false, not, cond, List, [], ◌∷◌, ◌++◌, length, take, reverse, refl, sym, ◌∙◌, ap, arith, append_assoc, ◌⊎◌, inl, inr, ◌==◌}
use Rattle.std.proofs.{lemmas.Grind.{common_steps}, lemmas.List.{reverse-append, length-append, length-reverse}}
use Rattle.std.proofs.{lemmas.Bool.Decides.{eqb_tells}, Math.Seq.{take-append_seam}, lemmas.Bool.{and_from}}
use Rattle.std.specs.List.{list_all, prefix_len, suffix_len}
use Rattle.iref_grammar.specs.{Rules.{Text}, Grammar.{slash}, Texts.{pieces_at, lacks, all_but_last}}
use Rattle.iref_grammar.specs.PathValue.{PathValue, segments_of, spell_path, read_path}
use Rattle.iref_grammar.specs.{NormalList.{closed}, PathFunctions.{directory, directory_text}}
use Rattle.iref_grammar.proofs.{TextLemmas.{pieces_at-join}, LackLemmas.{lacks_more}, PathLemmas.{read_path-reads}}
use Rattle.iref_grammar.proofs.PieceLemmas.{pieces-append}

-- ---- the last `/`

-- a text has no `/`, or a last one
LastSlash : Text → Type 0
LastSlash text = (lacks slash text ≡ true) ⊎ ((front : Text) × (back : Text) × (lacks slash back ≡ true) × (text ≡ front ++ slash ∷ back))

last_slash : (text : Text) → LastSlash text
unfolding LastSlash
last_slash [] = inl refl
last_slash (c ∷ cs) = by (last_slash cs)
  where
    by : LastSlash cs → LastSlash (c ∷ cs)
    by (inr z) = inr (c ∷ z.0, z.1, z.2, ap (λ t. c ∷ t) z.3)
    by (inl none) = elim (eqb_tells c slash) [
      | inl e ↦ inr ([], cs, none, ap (λ d. d ∷ cs) e.1)
      | inr e ↦ inl (lacks_more slash c cs e.0 none)
    ]

-- ---- by text

abbrev is_other : ℕ → Bool
is_other c = not (c == slash)

stops_at_slash : (front back : Text) → list_all is_other front ≡ true → prefix_len is_other (front ++ slash ∷ back) ≡ length front
stops_at_slash [] back h = refl
stops_at_slash (c ∷ cs) back h = grind (arith, stops_at_slash cs back)

stops_at_end : (text : Text) → list_all is_other text ≡ true → prefix_len is_other text ≡ length text
stops_at_end [] h = refl
stops_at_end (c ∷ cs) h = grind (arith, stops_at_end cs)

reversed_lacks : (text : Text) → lacks slash text ≡ true → list_all is_other (reverse text) ≡ true
reversed_lacks [] h = refl
reversed_lacks (c ∷ cs) h = grind (arith, common_steps, reversed_lacks cs)

directory_text-cut : (front back : Text) → lacks slash back ≡ true → directory_text (front ++ slash ∷ back) ≡ front ++ slash ∷ []
unfolding directory_text
directory_text-cut front back h =
    let turned : reverse (front ++ slash ∷ back) ≡ reverse back ++ slash ∷ reverse front =
    reverse-append front (slash ∷ back) ∙ ap (λ t. t ++ reverse front) (reverse-append (slash ∷ []) back) ∙ append_assoc (reverse back) (slash ∷ []) (reverse front) in
    let behind : suffix_len is_other (front ++ slash ∷ back) ≡ length back =
    ap (prefix_len is_other) turned ∙ stops_at_slash (reverse back) (reverse front) (reversed_lacks back h) ∙ length-reverse back in
    let grouped : front ++ slash ∷ back ≡ (front ++ slash ∷ []) ++ back = sym (append_assoc front (slash ∷ []) back) in
    (λ i. take (length (grouped i) - behind i) (grouped i))
    ∙ ap (λ n. take n ((front ++ slash ∷ []) ++ back)) (ap (λ n. n - length back) (length-append (front ++ slash ∷ []) back) ∙ same (length (front ++ slash ∷ [])) (length back))
    ∙ take-append_seam (front ++ slash ∷ []) back
  where
    same : (n m : ℕ) → n + m - m ≡ n
    same n m = omega arith

directory_text-none : (text : Text) → lacks slash text ≡ true → directory_text text ≡ []
unfolding directory_text
directory_text-none text h = grind (arith, common_steps, stops_at_end, reversed_lacks)

-- ---- by segments

pub all_but_last-snoc : (list : List Text) (s : Text) → all_but_last (list ++ s ∷ []) ≡ list
all_but_last-snoc [] s = refl
all_but_last-snoc (t ∷ []) s = refl
all_but_last-snoc (t ∷ u ∷ list) s = ap (λ xs. t ∷ xs) (all_but_last-snoc (u ∷ list) s)

-- pieces are never none, so they are closed by an empty segment
some_pieces : (front : Text) → closed (pieces_at slash front) ≡ pieces_at slash front ++ [] ∷ []
some_pieces [] = refl
some_pieces (c ∷ cs) = grind arith

some_text : (front back : Text) → segments_of (front ++ slash ∷ back) ≡ pieces_at slash (front ++ slash ∷ back)
some_text [] back = refl
some_text (c ∷ cs) back = refl

whole_piece : (text : Text) → lacks slash text ≡ true → pieces_at slash text ≡ text ∷ []
whole_piece text h = pieces_at-join slash text [] (and_from _ true h refl)

segments_cut : (front back : Text) → lacks slash back ≡ true → closed (all_but_last (segments_of (front ++ slash ∷ back))) ≡ segments_of (front ++ slash ∷ [])
segments_cut front back h = grind (arith, common_steps, some_text, pieces-append, whole_piece, all_but_last-snoc, some_pieces)

directory-cut : (front back : Text) → lacks slash back ≡ true → directory (read_path (front ++ slash ∷ back)) ≡ read_path (front ++ slash ∷ [])
unfolding directory read_path
directory-cut [] [] h = refl
directory-cut [] (c ∷ cs) h = (λ i. record { absolute = true; segments = closed (all_but_last (whole_piece (c ∷ cs) h i)) })
directory-cut (c ∷ cs) back h = by (c == slash)
  where
    by : (b : Bool) → let at : Text → Text → PathValue = λ rest whole. cond b (record { absolute = true; segments = segments_of rest }) (record { absolute = false; segments = segments_of whole }) in
        directory (at (cs ++ slash ∷ back) (c ∷ cs ++ slash ∷ back)) ≡ at (cs ++ slash ∷ []) (c ∷ cs ++ slash ∷ [])
    by true = λ i. record { absolute = true; segments = segments_cut cs back h i }
    by false = λ i. record { absolute = false; segments = segments_cut (c ∷ cs) back h i }

directory-none : (text : Text) → lacks slash text ≡ true → directory (read_path text) ≡ read_path []
unfolding directory read_path
directory-none [] h = refl
directory-none (c ∷ cs) h = grind (arith, whole_piece)

-- ---- both

pub directory-read : (text : Text) → read_path (directory_text text) ≡ directory (read_path text)
unfolding LastSlash
directory-read text = grind (arith, common_steps, last_slash, LastSlash, directory_text-none, directory-none, directory_text-cut, directory-cut)

pub directory-spelled : (text : Text) → spell_path (directory (read_path text)) ≡ directory_text text
directory-spelled text = ap spell_path (sym (directory-read text)) ∙ (read_path-reads (directory_text text)).spelled
