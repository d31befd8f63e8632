-- An address of a future version in brackets is what is read from its first byte to its last.
use Rattle.std.proofs.Common.{◌≡◌, ℕ, Bool, true, false, ◌&&◌, [], ◌∷◌, refl, ap, arith, ◌==◌, codes, Some}
use Rattle.std.proofs.lemmas.Bool.Decides.{nat_tests}
use Rattle.std.specs.{List.{list_all}, Char.{is_ascii_hexdigit, char_set_contains}}
use Rattle.iref_grammar.specs.{Grammar.{full_stop, left_bracket, right_bracket, is_future_char}, Rules.{Text}}
use Rattle.iref_grammar.specs.Texts.{before, after, after_first_char, is_empty}
use Rattle.iref_grammar.specs.Tests.{ends_here, in_brackets, is_future_address, is_future_version, is_ipvfuture, some_and}
use Rattle.iref_grammar.proofs.CutLemmas.{before-no, before-yes, from_first-no, from_first-yes}
use Rattle.iref_canonical.specs.{FutureLiteral.{after_byte, is_read, is_whole}, declared.literal.Progress.{Progress}}
use Rattle.iref_canonical.specs.declared.literal.Progress.TheVariants.{Nothing, Bracket, V, Version, Stop, Address, Whole, Other}

-- ---- cuts at one delimiter

after-no : (mark c : ℕ) (cs : Text) → char_set_contains (mark ∷ []) c ≡ false → after mark (c ∷ cs) ≡ after mark cs
after-no mark c cs h = ap after_first_char (from_first-no (mark ∷ []) c cs h)

after-yes : (mark c : ℕ) (cs : Text) → char_set_contains (mark ∷ []) c ≡ true → after mark (c ∷ cs) ≡ Some cs
after-yes mark c cs h = ap after_first_char (from_first-yes (mark ∷ []) c cs h)

-- what stands before the first `]`, and whether that ends the text
abbrev inside : Text → Text
inside text = before (right_bracket ∷ []) text

abbrev is_closed : Text → Bool
is_closed text = ends_here (after right_bracket text)

-- ---- from the last part on

other : (text : Text) → is_read Other text ≡ false
unfolding is_read
other [] = refl
other (c ∷ cs) = other cs

whole : (text : Text) → is_read Whole text ≡ is_empty text
unfolding is_read
whole [] = refl
whole (c ∷ cs) = other cs

address : (text : Text) → is_read Address text ≡ (is_closed text && list_all is_future_char (inside text))
unfolding is_read
address [] = refl
address (c ∷ cs) = by (address cs) (is_future_char c) refl (char_set_contains (right_bracket ∷ []) c) refl
  where
    by : (is_read Address cs ≡ (is_closed cs && list_all is_future_char (inside cs))) → (kept : Bool) → is_future_char c ≡ kept → (end : Bool) → char_set_contains (right_bracket ∷ []) c ≡ end
        → is_read Address (c ∷ cs) ≡ (is_closed (c ∷ cs) && list_all is_future_char (inside (c ∷ cs)))
    by rest true e true f = absurd (grind (arith, nat_tests))
    by rest true e false f = grind (arith, nat_tests, rest, before-no (right_bracket ∷ []) c cs, after-no right_bracket c cs)
    by rest false e true f = grind (arith, nat_tests, whole cs, before-yes (right_bracket ∷ []) c cs, after-yes right_bracket c cs)
    by rest false e false f = grind (arith, nat_tests, other cs, before-no (right_bracket ∷ []) c cs, after-no right_bracket c cs)

stop : (text : Text) → is_read Stop text ≡ (is_closed text && is_future_address (Some (inside text)))
unfolding is_read
stop [] = refl
stop (c ∷ cs) = by (is_future_char c) refl (char_set_contains (right_bracket ∷ []) c) refl
  where
    by : (kept : Bool) → is_future_char c ≡ kept → (end : Bool) → char_set_contains (right_bracket ∷ []) c ≡ end
        → is_read Stop (c ∷ cs) ≡ (is_closed (c ∷ cs) && is_future_address (Some (inside (c ∷ cs))))
    by true e true f = absurd (grind (arith, nat_tests))
    by true e false f = grind (arith, nat_tests, address cs, before-no (right_bracket ∷ []) c cs, after-no right_bracket c cs)
    by false e true f = grind (arith, nat_tests, other cs, before-yes (right_bracket ∷ []) c cs, after-yes right_bracket c cs)
    by false e false f = grind (arith, nat_tests, other cs, before-no (right_bracket ∷ []) c cs, after-no right_bracket c cs)

-- a rest of a version, and the address after it
abbrev goes_on : Text → Bool
goes_on text = list_all is_ascii_hexdigit (before (full_stop ∷ []) text) && is_future_address (after full_stop text)

version : (text : Text) → is_read Version text ≡ (is_closed text && goes_on (inside text))
unfolding is_read
version [] = refl
version (c ∷ cs) = by (version cs) (is_ascii_hexdigit c) refl (char_set_contains (right_bracket ∷ []) c) refl (char_set_contains (full_stop ∷ []) c) refl
  where
    by : (is_read Version cs ≡ (is_closed cs && goes_on (inside cs))) → (digit : Bool) → is_ascii_hexdigit c ≡ digit → (end : Bool) → char_set_contains (right_bracket ∷ []) c ≡ end → (dot : Bool) → char_set_contains (full_stop ∷ []) c ≡ dot
        → is_read Version (c ∷ cs) ≡ (is_closed (c ∷ cs) && goes_on (inside (c ∷ cs)))
    by rest true e true f dot d = absurd (grind (arith, nat_tests))
    by rest true e false f true d = absurd (grind (arith, nat_tests))
    by rest true e false f false d =
        grind (arith, nat_tests, rest, before-no (right_bracket ∷ []) c cs, after-no right_bracket c cs, before-no (full_stop ∷ []) c (inside cs), after-no full_stop c (inside cs))
    by rest false e true f dot d = grind (arith, nat_tests, other cs, before-yes (right_bracket ∷ []) c cs, after-yes right_bracket c cs)
    by rest false e false f true d =
        grind (arith, nat_tests, stop cs, before-no (right_bracket ∷ []) c cs, after-no right_bracket c cs, before-yes (full_stop ∷ []) c (inside cs), after-yes full_stop c (inside cs))
    by rest false e false f false d =
        grind (arith, nat_tests, other cs, before-no (right_bracket ∷ []) c cs, after-no right_bracket c cs, before-no (full_stop ∷ []) c (inside cs), after-no full_stop c (inside cs))

-- after the `v`
abbrev is_after_v : Text → Bool
is_after_v text = is_future_version (before (full_stop ∷ []) text) && is_future_address (after full_stop text)

after_v : (text : Text) → is_read V text ≡ (is_closed text && is_after_v (inside text))
unfolding is_read
after_v [] = refl
after_v (c ∷ cs) = by (is_ascii_hexdigit c) refl (char_set_contains (right_bracket ∷ []) c) refl (char_set_contains (full_stop ∷ []) c) refl
  where
    by : (digit : Bool) → is_ascii_hexdigit c ≡ digit → (end : Bool) → char_set_contains (right_bracket ∷ []) c ≡ end → (dot : Bool) → char_set_contains (full_stop ∷ []) c ≡ dot
        → is_read V (c ∷ cs) ≡ (is_closed (c ∷ cs) && is_after_v (inside (c ∷ cs)))
    by true e true f dot d = absurd (grind (arith, nat_tests))
    by true e false f true d = absurd (grind (arith, nat_tests))
    by true e false f false d =
        grind (arith, nat_tests, version cs, before-no (right_bracket ∷ []) c cs, after-no right_bracket c cs, before-no (full_stop ∷ []) c (inside cs), after-no full_stop c (inside cs))
    by false e true f dot d = grind (arith, nat_tests, other cs, before-yes (right_bracket ∷ []) c cs, after-yes right_bracket c cs)
    by false e false f true d =
        grind (arith, nat_tests, other cs, before-no (right_bracket ∷ []) c cs, after-no right_bracket c cs, before-yes (full_stop ∷ []) c (inside cs), after-yes full_stop c (inside cs))
    by false e false f false d =
        grind (arith, nat_tests, other cs, before-no (right_bracket ∷ []) c cs, after-no right_bracket c cs, before-no (full_stop ∷ []) c (inside cs), after-no full_stop c (inside cs))

after_bracket : (text : Text) → is_read Bracket text ≡ (is_closed text && is_ipvfuture (inside text))
unfolding is_read is_ipvfuture
after_bracket [] = refl
after_bracket (c ∷ cs) = by (char_set_contains (codes "vV") c) refl (char_set_contains (right_bracket ∷ []) c) refl
  where
    by : (v : Bool) → char_set_contains (codes "vV") c ≡ v → (end : Bool) → char_set_contains (right_bracket ∷ []) c ≡ end
        → is_read Bracket (c ∷ cs) ≡ (is_closed (c ∷ cs) && is_ipvfuture (inside (c ∷ cs)))
    by true e true f = absurd (grind (arith, nat_tests))
    by true e false f = grind (arith, nat_tests, after_v cs, before-no (right_bracket ∷ []) c cs, after-no right_bracket c cs)
    by false e true f = grind (arith, nat_tests, other cs, before-yes (right_bracket ∷ []) c cs, after-yes right_bracket c cs)
    by false e false f = grind (arith, nat_tests, other cs, before-no (right_bracket ∷ []) c cs, after-no right_bracket c cs)

pub read-future : (text : Text) → is_read Nothing text ≡ some_and is_ipvfuture (in_brackets text)
unfolding is_read
read-future [] = refl
read-future (c ∷ cs) = by (c == left_bracket) refl (is_closed cs) refl
  where
    by : (opened : Bool) → (c == left_bracket) ≡ opened → (closed : Bool) → is_closed cs ≡ closed → is_read Nothing (c ∷ cs) ≡ some_and is_ipvfuture (in_brackets (c ∷ cs))
    by true e closed f = grind (arith, after_bracket cs)
    by false e closed f = grind (arith, other cs)

-- one byte more, and no more
pub read-next : (p : Progress) (text rest : Text) (b : ℕ) → text ≡ b ∷ rest → is_read p text ≡ is_read (after_byte p b) rest
unfolding is_read
read-next p text rest b e = ap (is_read p) e

pub read-nothing : (p : Progress) (text : Text) → text ≡ [] → is_read p text ≡ is_whole p
unfolding is_read
read-nothing p text e = ap (is_read p) e

pub ruleset reads = (read-future, read-next, read-nothing)
