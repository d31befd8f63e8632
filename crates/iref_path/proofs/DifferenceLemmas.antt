-- The order of segments by the first bytes in which their texts differ.
use Rattle.std.proofs.Common.{◌≡◌, ◌≢◌, ℕ, zero, suc, ◌<◌, ◌≤◌, Bool, true, false, refl, Ordering, List, [], ◌∷◌, drop, get_or, length, sym, ap, ◌∙◌, arith, ◌==◌, ◌+◌, Some}
use Rattle.std.proofs.{lemmas.Bool.Decides.{nat_tests}, lemmas.List.Splits.{slice_split-cons_no, slice_split-cons_yes}}
use Rattle.std.specs.{Cmp.Lexicographic.{slice_cmp}, Ordering.{nat_cmp}}
use Rattle.percent_encoding.specs.Percent.{percent_decode}
use Rattle.percent_encoding.proofs.PercentLemmas.{percent_decode-nil, percent_decode_not_percent}
use Rattle.iref_grammar.specs.{Grammar.{slash}, Keys.{text_order}, Rules.{Text}, Texts.{pieces_at}}
use Rattle.iref_grammar.proofs.PieceLemmas.{some_piece}
use Rattle.iref_parse.specs.Kept.{IsKeptFront}
use Rattle.iref_path.specs.Named.{rank}
use Rattle.iref_path.proofs.OrderLemmas.{decoded}

abbrev order_of : Text → Text → Ordering
order_of xs ys = slice_cmp text_order (decoded (pieces_at slash xs)) (decoded (pieces_at slash ys))

at_slash : (c : ℕ) (cs : Text) → (c == slash) ≡ true → decoded (pieces_at slash (c ∷ cs)) ≡ [] ∷ decoded (pieces_at slash cs)
at_slash c cs h = grind (arith, percent_decode-nil, slice_split-cons_yes (λ c. c == slash) c cs h)

at_byte : (c : ℕ) (cs : Text) → (c == slash) ≡ false → c ≢ 37
    → (q : Text) × (qs : List Text) × (decoded (pieces_at slash cs) ≡ q ∷ qs) × (decoded (pieces_at slash (c ∷ cs)) ≡ (c ∷ q) ∷ qs)
at_byte c cs h k =
    let some = some_piece slash cs in
    let first = percent_decode_not_percent c some.0 k in
    (percent_decode some.0, decoded some.1, ap decoded some.2, grind (arith, slice_split-cons_no (λ c. c == slash) c cs h))

module _ (c : ℕ) (xs ys : Text) where
  same_byte_by : (b : Bool) → (c == slash) ≡ b → c ≢ 37 → order_of (c ∷ xs) (c ∷ ys) ≡ order_of xs ys
  same_byte_by true e h = let one = at_slash c xs e in let two = at_slash c ys e in grind arith
  same_byte_by false e h = let one = at_byte c xs e h in let two = at_byte c ys e h in grind (arith, nat_tests)

  -- a byte that both begin with does not count, unless it is `%`
  same_byte : c ≢ 37 → order_of (c ∷ xs) (c ∷ ys) ≡ order_of xs ys
  same_byte = same_byte_by (c == slash) refl

past : (xs ys : Text) (n : ℕ) → n ≤ length xs → n ≤ length ys → ((k : ℕ) → k < n → get_or xs k 0 ≡ get_or ys k 0) → ((k : ℕ) → k < n → get_or xs k 0 ≢ 37)
    → order_of xs ys ≡ order_of (drop n xs) (drop n ys)
past xs ys zero p q same kept = refl
past [] ys (suc n) p q same kept = absurd (omega arith)
past (x ∷ xs) [] (suc n) p q same kept = absurd (omega arith)
past (x ∷ xs) (y ∷ ys) (suc n) p q same kept =
    ap (λ y. order_of (x ∷ xs) (y ∷ ys)) (sym (same 0 (omega arith)))
    ∙ same_byte x xs ys (kept 0 (omega arith))
    ∙ past xs ys n (omega arith) (omega arith) (λ k l. same (suc k) (omega arith)) (λ k l. kept (suc k) (omega arith))

-- ---- the first bytes decide

no_percent : (c : ℕ) (cs : Text) (r : ℕ) → rank (c ∷ cs) ≡ Some r → c ≢ 37
no_percent c cs r h e = grind (arith, nat_tests)

slash_rank : (c : ℕ) (cs : Text) (r : ℕ) → rank (c ∷ cs) ≡ Some r → (c == slash) ≡ true → r ≡ 1
slash_rank c cs r h e = grind (arith, nat_tests)

byte_rank : (c : ℕ) (cs : Text) (r : ℕ) → rank (c ∷ cs) ≡ Some r → (c == slash) ≡ false → r ≡ 2 + c
byte_rank c cs r h e = grind (arith, nat_tests)

end_rank : (r : ℕ) → rank [] ≡ Some r → r ≡ 0
end_rank r h = grind arith

module _ (c : ℕ) (cs : Text) (r : ℕ) (h : rank (c ∷ cs) ≡ Some r) where
  after_end : (b : Bool) → (c == slash) ≡ b → (nat_cmp 0 r ≡ order_of [] (c ∷ cs)) × (nat_cmp r 0 ≡ order_of (c ∷ cs) [])
  after_end true e =
      let is = slash_rank c cs r h e in
      let one = at_slash c cs e in
      let some = some_piece slash cs in
      (grind (arith, nat_tests, percent_decode-nil), grind (arith, nat_tests, percent_decode-nil))
  after_end false e =
      let is = byte_rank c cs r h e in
      let one = at_byte c cs e (no_percent c cs r h) in
      (grind (arith, nat_tests, percent_decode-nil), grind (arith, nat_tests, percent_decode-nil))

module _ (c d : ℕ) (cs ds : Text) (r s : ℕ) (h : rank (c ∷ cs) ≡ Some r) (k : rank (d ∷ ds) ≡ Some s) (ne : c ≢ d) where
  at_bytes : (a b : Bool) → (c == slash) ≡ a → (d == slash) ≡ b → nat_cmp r s ≡ order_of (c ∷ cs) (d ∷ ds)
  at_bytes true true e f = absurd (ne (grind (arith, nat_tests)))
  at_bytes true false e f =
      let is = slash_rank c cs r h e in
      let other = byte_rank d ds s k f in
      let one = at_slash c cs e in
      let two = at_byte d ds f (no_percent d ds s k) in
      grind (arith, nat_tests)
  at_bytes false true e f =
      let is = byte_rank c cs r h e in
      let other = slash_rank d ds s k f in
      let one = at_byte c cs e (no_percent c cs r h) in
      let two = at_slash d ds f in
      grind (arith, nat_tests)
  at_bytes false false e f =
      let is = byte_rank c cs r h e in
      let other = byte_rank d ds s k f in
      let one = at_byte c cs e (no_percent c cs r h) in
      let two = at_byte d ds f (no_percent d ds s k) in
      grind (arith, nat_tests)

-- what is left of a text begins with the byte that stands there
dropped : (xs : Text) (n c : ℕ) (cs : Text) → drop n xs ≡ c ∷ cs → (n < length xs) × (get_or xs n 0 ≡ c)
dropped [] zero c cs h = absurd (cc h)
dropped [] (suc n) c cs h = absurd (cc h)
dropped (x ∷ xs) zero c cs h = grind arith
dropped (x ∷ xs) (suc n) c cs h = let rest = dropped xs n c cs h in (omega arith, rest.1)

module _ (r s : ℕ) where
  -- texts that do not begin with the same byte
  decided : (xs ys : Text) → rank xs ≡ Some r → rank ys ≡ Some s → ((c d : ℕ) (cs ds : Text) → xs ≡ c ∷ cs → ys ≡ d ∷ ds → c ≢ d) → nat_cmp r s ≡ order_of xs ys
  decided [] [] h k ne = let one = end_rank r h in let two = end_rank s k in grind (arith, percent_decode-nil)
  decided [] (d ∷ ds) h k ne = ap (λ r. nat_cmp r s) (end_rank r h) ∙ (after_end d ds s k (d == slash) refl).0
  decided (c ∷ cs) [] h k ne = ap (nat_cmp r) (end_rank s k) ∙ (after_end c cs r h (c == slash) refl).1
  decided (c ∷ cs) (d ∷ ds) h k ne = at_bytes c d cs ds r s h k (ne c d cs ds refl refl) (c == slash) (d == slash) refl refl

  -- what follows the bytes that two texts have in common decides
  pub order_at_difference : (xs ys us vs : Text) (n : ℕ) → IsKeptFront xs ys n → us ≡ drop n xs → vs ≡ drop n ys → rank us ≡ Some r → rank vs ≡ Some s → nat_cmp r s ≡ order_of xs ys
  order_at_difference xs ys us vs n front e f h k =
      decided us vs h k (λ c d cs ds g m same.
      let first = dropped xs n c cs (sym e ∙ g) in
      let second = dropped ys n d ds (sym f ∙ m) in
      no_percent c cs r (ap rank (sym g) ∙ h) (sym first.1 ∙ front.ends first.0 second.0 (first.1 ∙ same ∙ sym second.1)))
      ∙ (λ i. order_of (e i) (f i))
      ∙ sym (past xs ys n front.first front.second front.same front.kept)
