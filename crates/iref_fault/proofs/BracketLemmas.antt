-- The port behind the last `]`, and the host before it.
use Rattle.std.proofs.Common.{◌≡◌, ◌≢◌, ℕ, ◌<◌, Bool, true, false, [], ◌∷◌, length, refl, sym, ap, ◌∙◌, arith, ◌==◌, ◌||◌, IfSome, Option, Some, None, if◌then◌else◌, true≢false}
use Rattle.std.proofs.{lemmas.Bool.Decides.{nat_tests}, lemmas.Option.{same_Some}}
use Rattle.std.specs.{Borrow.{Bor}, Option.{option_copied}, Char.{char_set_contains}}
use Rattle.iref_grammar.specs.{Rules.{Text}, Grammar.{colon, right_bracket}, Texts.{after, after_first_char}}
use Rattle.iref_grammar.proofs.CutLemmas.{from_first-no, from_first-yes}
use Rattle.iref_fault.specs.{Cut.{bracket_port}, CutSteps.{after_last}}

abbrev has : Text → Bool
has text = char_set_contains text right_bracket

last-lacking : (text : Text) → has text ≡ false → after_last text ≡ text
last-lacking [] h = refl
last-lacking (c ∷ cs) h = grind arith

is_mark : (c : ℕ) (b : Bool) → (c == right_bracket) ≡ b → char_set_contains (right_bracket ∷ []) c ≡ b
is_mark c true h = grind (arith, nat_tests)
is_mark c false h = grind (arith, nat_tests)

-- what follows the first `]`, at it and before it
after-at : (c : ℕ) (cs : Text) → (c == right_bracket) ≡ true → after right_bracket (c ∷ cs) ≡ Some cs
after-at c cs h = ap after_first_char (from_first-yes (right_bracket ∷ []) c cs (is_mark c true h))

after-past : (c : ℕ) (cs : Text) → (c == right_bracket) ≡ false → after right_bracket (c ∷ cs) ≡ after right_bracket cs
after-past c cs h = ap after_first_char (from_first-no (right_bracket ∷ []) c cs (is_mark c false h))

has-rest : (c : ℕ) (cs : Text) → has cs ≡ true → has (c ∷ cs) ≡ true
has-rest c cs h = grind arith

-- a text that goes on behind a `]` has one
has_after : (text rest : Text) → after right_bracket text ≡ Some rest → has text ≡ true
has_after [] rest e = cc
has_after (c ∷ cs) rest e = by (c == right_bracket) refl (has_after cs rest)
  where
    by : (b : Bool) → (c == right_bracket) ≡ b → (after right_bracket cs ≡ Some rest → has cs ≡ true) → has (c ∷ cs) ≡ true
    by true h more = ap (λ b. b || has cs) h
    by false h more = ap (λ b. b || has cs) h ∙ more (sym (after-past c cs h) ∙ e)

lacks_after : (text : Text) → after right_bracket text ≡ None → has text ≡ false
lacks_after [] e = refl
lacks_after (c ∷ cs) e = by (c == right_bracket) refl (lacks_after cs)
  where
    by : (b : Bool) → (c == right_bracket) ≡ b → (after right_bracket cs ≡ None → has cs ≡ false) → has (c ∷ cs) ≡ false
    by true h more = let two = sym (after-at c cs h) ∙ e in cc
    by false h more = ap (λ b. b || has cs) h ∙ more (sym (after-past c cs h) ∙ e)

pub last-none : (text : Text) → after right_bracket text ≡ None → text ≡ after_last text
last-none text e = sym (last-lacking text (lacks_after text e))

pub after-shorter : (text : Text) (r : Option (Bor Text)) → option_copied r ≡ after right_bracket text → IfSome r (λ rest. length rest.now < length text)
after-shorter text None e = tt
after-shorter text (Some rest) e = by text (sym e)
  where
    by : (t : Text) → after right_bracket t ≡ Some rest.now → length rest.now < length t
    by [] e = cc
    by (c ∷ cs) e = at (c == right_bracket) refl (by cs)
      where
        at : (b : Bool) → (c == right_bracket) ≡ b → (after right_bracket cs ≡ Some rest.now → length rest.now < length cs) → length rest.now < length (c ∷ cs)
        at true h more = let same = same_Some cs rest.now (sym (after-at c cs h) ∙ e) in omega (arith, ap length same)
        at false h more = let less = more (sym (after-past c cs h) ∙ e) in omega (arith, less)

last-has : (c : ℕ) (cs : Text) → has cs ≡ true → after_last (c ∷ cs) ≡ after_last cs
last-has c cs h = ap (λ b. if b then after_last cs else (if c == right_bracket then cs else c ∷ cs)) h

last-at : (c : ℕ) (cs : Text) → (c == right_bracket) ≡ true → has cs ≡ false → after_last (c ∷ cs) ≡ cs
last-at c cs k h = ap (λ b. if b then after_last cs else (if c == right_bracket then cs else c ∷ cs)) h ∙ ap (λ b. if b then cs else c ∷ cs) k

-- behind the first `]` the last one is the same
pub last-after : (text rest : Text) → after right_bracket text ≡ Some rest → after_last text ≡ after_last rest
last-after [] rest e = cc
last-after (c ∷ cs) rest e = by (c == right_bracket) refl (has cs) refl (last-after cs rest)
  where
    by : (b : Bool) → (c == right_bracket) ≡ b → (d : Bool) → has cs ≡ d → (after right_bracket cs ≡ Some rest → after_last cs ≡ after_last rest) → after_last (c ∷ cs) ≡ after_last rest
    by true h true k more = last-has c cs k ∙ ap after_last (same_Some cs rest (sym (after-at c cs h) ∙ e))
    by true h false k more = last-at c cs h k ∙ sym (last-lacking cs k) ∙ ap after_last (same_Some cs rest (sym (after-at c cs h) ∙ e))
    by false h d k more = let past = sym (after-past c cs h) ∙ e in last-has c cs (has_after cs rest past) ∙ more past

last-shorter : (text : Text) → has text ≡ true → length (after_last text) < length text
last-shorter [] h = absurd (true≢false (sym h))
last-shorter (c ∷ cs) h = by (has cs) refl (c == right_bracket) refl (last-shorter cs)
  where
    by : (d : Bool) → has cs ≡ d → (b : Bool) → (c == right_bracket) ≡ b → (has cs ≡ true → length (after_last cs) < length cs) → length (after_last (c ∷ cs)) < length (c ∷ cs)
    by true k b e more = let shorter = more k in omega (arith, ap length (last-has c cs k), shorter)
    by false k true e more = omega (arith, ap length (last-at c cs e k))
    by false k false e more = absurd (true≢false (sym h ∙ ap (λ b. b || has cs) e ∙ k))

port-has : (text : Text) → has text ≡ true → bracket_port text ≡ after colon (after_last text)
port-has [] h = absurd (true≢false (sym h))
port-has (c ∷ cs) h = by (has cs) refl (c == right_bracket) refl (port-has cs)
  where
    by : (d : Bool) → has cs ≡ d → (b : Bool) → (c == right_bracket) ≡ b → (has cs ≡ true → bracket_port cs ≡ after colon (after_last cs)) → bracket_port (c ∷ cs) ≡ after colon (after_last (c ∷ cs))
    by true k b e more = ap (λ b. if b then bracket_port cs else (if c == right_bracket then after colon cs else None)) k ∙ more k ∙ ap (after colon) (sym (last-has c cs k))
    by false k true e more =
        ap (λ b. if b then bracket_port cs else (if c == right_bracket then after colon cs else None)) k ∙ ap (λ b. if b then after colon cs else None) e ∙ ap (after colon) (sym (last-at c cs e k))
    by false k false e more = absurd (true≢false (sym h ∙ ap (λ b. b || has cs) e ∙ k))

port-lacks : (text : Text) → has text ≡ false → bracket_port text ≡ None
port-lacks [] h = refl
port-lacks (c ∷ cs) h = by (has cs) refl (c == right_bracket) refl
  where
    by : (d : Bool) → has cs ≡ d → (b : Bool) → (c == right_bracket) ≡ b → bracket_port (c ∷ cs) ≡ None
    by true k b e = absurd (true≢false (sym (has-rest c cs k) ∙ h))
    by false k true e = absurd (true≢false (sym (ap (λ b. b || has cs) e) ∙ h))
    by false k false e =
        ap (λ b. if b then bracket_port cs else (if c == right_bracket then after colon cs else None)) k ∙ ap (λ b. if b then after colon cs else None) e

pub port_none : (text rest : Text) → rest ≡ after_last text → length rest ≡ length text → bracket_port text ≡ None
port_none text rest e l = by (has text) refl
  where
    by : (b : Bool) → has text ≡ b → bracket_port text ≡ None
    by false h = port-lacks text h
    by true h = let s = last-shorter text h in absurd (omega (arith, ap length e))

pub port_after_last : (text rest : Text) → rest ≡ after_last text → length rest ≢ length text → bracket_port text ≡ after colon rest
port_after_last text rest e l = by (has text) refl
  where
    by : (b : Bool) → has text ≡ b → bracket_port text ≡ after colon rest
    by true h = port-has text h ∙ ap (after colon) (sym e)
    by false h = absurd (l (ap length (e ∙ last-lacking text h)))
