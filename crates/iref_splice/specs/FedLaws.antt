-- The pieces of a text that a hasher reads: one text before another is one text, and 256 bytes are a piece.
use Rattle.std.proofs.{Common.{◌≡◌, [], ◌∷◌, ◌++◌, fold, refl, sym, ◌∙◌, ap, append_assoc}, lemmas.List.{append-nil}}
use Rattle.std.proofs.lemmas.List.Sums.{fold-append}
use Rattle.iref_grammar.specs.Rules.{Text}
use Rattle.iref_splice.specs.Fed.{full_piece, next_piece, waiting_after, written_after}

pub waiting-nothing : (waiting : Text) → waiting_after waiting [] ≡ waiting
unfolding waiting_after
waiting-nothing waiting = refl

pub waiting-both : (waiting front back : Text) → waiting_after (waiting_after waiting back) front ≡ waiting_after waiting (front ++ back)
unfolding waiting_after
waiting-both waiting [] back = refl
waiting-both waiting (b ∷ front) back = ap (next_piece b) (waiting-both waiting front back)

pub written-both : (waiting front back : Text) → written_after waiting back ++ written_after (waiting_after waiting back) front ≡ written_after waiting (front ++ back)
unfolding written_after
written-both waiting [] back = append-nil (written_after waiting back)
written-both waiting (b ∷ front) back =
    sym (append_assoc (written_after waiting back) (written_after (waiting_after waiting back) front) (full_piece (waiting_after (waiting_after waiting back) front)))
    ∙ (λ i. written-both waiting front back i ++ full_piece (waiting-both waiting front back i))

module _ {S : Type 0} (write : S → Text → S) where
  pub fed-nothing : (s : S) (waiting : Text) → fold write s (written_after waiting []) ≡ s
  unfolding written_after
  fed-nothing s waiting = refl

  pub fed-both : (s : S) (waiting front back : Text)
      → fold write (fold write s (written_after waiting back)) (written_after (waiting_after waiting back) front) ≡ fold write s (written_after waiting (front ++ back))
  fed-both s waiting front back =
      sym (fold-append write s (written_after waiting back) (written_after (waiting_after waiting back) front)) ∙ ap (fold write s) (written-both waiting front back)
