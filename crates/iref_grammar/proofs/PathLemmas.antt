-- A path's text is read as one path.
use Rattle.std.proofs.Common.{arith, ◌≡◌, ℕ, Bool, true, false, not, cond, List, [], ◌∷◌, ◌++◌, refl, sym, ◌∙◌, ap, subst, inl, inr, ◌==◌, true≢false}
use Rattle.std.proofs.{Math.Logic.{◌↔◌}, lemmas.Bool.Decides.{eqb_tells}}
use Rattle.std.specs.List.{list_all, join_with_byte}
use Rattle.iref_grammar.specs.{Rules.{Text}, Grammar.{slash}, Texts.{pieces_at}}
use Rattle.iref_grammar.specs.PathValue.{PathValue, spell_path, shows_its_list, IsReadAs, segments_of, read_path, is_one_empty, begins_empty}
use Rattle.iref_grammar.proofs.TextLemmas.{lacks, join-pieces_at, lacks-pieces_at, pieces_at-join, first_of_both}

-- the segments of a text, joined
join-segments_of : (text : Text) → join_with_byte slash (segments_of text) ≡ text
join-segments_of [] = refl
join-segments_of (c ∷ cs) = join-pieces_at slash (c ∷ cs)

pub lacks-segments_of : (text : Text) → list_all (lacks slash) (segments_of text) ≡ true
lacks-segments_of [] = refl
lacks-segments_of (c ∷ cs) = lacks-pieces_at slash (c ∷ cs)

pieces_at-some : (mark c : ℕ) (cs : Text) → is_one_empty (pieces_at mark (c ∷ cs)) ≡ false
pieces_at-some mark c [] = grind arith
pieces_at-some mark c (d ∷ cs) = grind arith

-- a list under `/` shows
absolute_shown : (text : Text) → not (is_one_empty (segments_of text)) ≡ true
absolute_shown [] = refl
absolute_shown (c ∷ cs) = ap not (pieces_at-some slash c cs)

-- and so does one that begins otherwise
relative_shown : (c : ℕ) (cs : Text) → (c == slash) ≡ false → not (begins_empty (pieces_at slash (c ∷ cs))) ≡ true
relative_shown c cs h = grind arith

pub read_path-reads : (text : Text) → IsReadAs text (read_path text)
unfolding read_path spell_path
read_path-reads [] = record { segments = refl; shown = refl; spelled = refl }
read_path-reads (c ∷ cs) = elim (eqb_tells c slash) [
  | inl e ↦
      let reads : IsReadAs (c ∷ cs) (record { absolute = true; segments = segments_of cs }) =
      record { segments = lacks-segments_of cs; shown = absolute_shown cs; spelled = λ i. sym e.1 i ∷ join-segments_of cs i } in
      subst (λ b. IsReadAs (c ∷ cs) (cond b (record { absolute = true; segments = segments_of cs }) (record { absolute = false; segments = segments_of (c ∷ cs) }))) (sym e.0) reads
  | inr e ↦
      let reads : IsReadAs (c ∷ cs) (record { absolute = false; segments = segments_of (c ∷ cs) }) =
      record { segments = lacks-segments_of (c ∷ cs); shown = relative_shown c cs e.0; spelled = join-segments_of (c ∷ cs) } in
      subst (λ b. IsReadAs (c ∷ cs) (cond b (record { absolute = true; segments = segments_of cs }) (record { absolute = false; segments = segments_of (c ∷ cs) }))) (sym e.0) reads
]

-- a list that is not one empty piece, joined and cut again
segments_of-join : (s : Text) (ss : List Text) → list_all (lacks slash) (s ∷ ss) ≡ true → not (is_one_empty (s ∷ ss)) ≡ true → segments_of (join_with_byte slash (s ∷ ss)) ≡ s ∷ ss
segments_of-join [] [] h k = absurd (true≢false (sym k))
segments_of-join (c ∷ s) [] h k = pieces_at-join slash (c ∷ s) [] h
segments_of-join [] (t ∷ ss) h k = pieces_at-join slash [] (t ∷ ss) h
segments_of-join (c ∷ s) (t ∷ ss) h k = pieces_at-join slash (c ∷ s) (t ∷ ss) h

lacks_first : (c : ℕ) (s : Text) → lacks slash (c ∷ s) ≡ true → (c == slash) ≡ false
lacks_first c s h = grind arith

-- the text of a relative list begins with a character other than `/`
read_relative : (c : ℕ) (text : Text) (segments : List Text) → (c == slash) ≡ false → segments_of (c ∷ text) ≡ segments → read_path (c ∷ text) ≡ record { absolute = false; segments = segments }
unfolding read_path
read_relative c text segments h e = grind arith

read_absolute : (text : Text) (segments : List Text) → segments_of text ≡ segments → read_path (slash ∷ text) ≡ record { absolute = true; segments = segments }
unfolding read_path
read_absolute text segments e = λ i. record { absolute = true; segments = e i }

pub read-spelled : (absolute : Bool) (segments : List Text) → let p : PathValue = record { absolute = absolute; segments = segments } in list_all (lacks slash) segments ≡ true → shows_its_list p ≡ true → read_path (spell_path p) ≡ p
unfolding read_path spell_path
read-spelled true [] h k = refl
read-spelled true (s ∷ ss) h k = read_absolute (join_with_byte slash (s ∷ ss)) (s ∷ ss) (segments_of-join s ss h k)
read-spelled false [] h k = refl
read-spelled false ([] ∷ ss) h k = absurd (true≢false (sym k))
read-spelled false ((c ∷ s) ∷ []) h k = read_relative c s ((c ∷ s) ∷ []) (lacks_first c s (first_of_both (lacks slash (c ∷ s)) true h)) (pieces_at-join slash (c ∷ s) [] h)
read-spelled false ((c ∷ s) ∷ t ∷ ss) h k =
    read_relative c (s ++ slash ∷ join_with_byte slash (t ∷ ss)) ((c ∷ s) ∷ t ∷ ss)
    (lacks_first c s (first_of_both (lacks slash (c ∷ s)) (list_all (lacks slash) (t ∷ ss)) h)) (pieces_at-join slash (c ∷ s) (t ∷ ss) h)

-- no other path is read from the text
pub read_path-only : (text : Text) (p : PathValue) → IsReadAs text p → read_path text ≡ p
read_path-only text p reads = ap read_path (sym reads.spelled) ∙ read-spelled p.absolute p.segments reads.segments reads.shown

-- what a text is read as
pub path_reading : (text : Text) (p : PathValue) → IsReadAs text p ↔ (read_path text ≡ p)
path_reading text p = (read_path-only text p, λ e. subst (IsReadAs text) e (read_path-reads text))
