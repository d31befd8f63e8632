-- Labels of prefix tables.
use Rattle.std.proofs.Common.{arith, ◌≡◌, ℕ, Bool, true, false, not, ◌&&◌, ◌||◌, [], ◌∷◌, ◌++◌, length, refl, sym, ◌∙◌, ap, subst, inl, inr, ◌==◌, chars, encode_utf8_all}
use Rattle.std.proofs.{lemmas.Grind.{common_steps}, lemmas.Bool.{and_from, eqb-true, false_from_ne_true}}
use Rattle.std.proofs.lemmas.Bool.Decides.{nat_tests}
use Rattle.std.proofs.lemmas.Str.{encodes-chars, chars-nil, is_utf8-from_IsUtf8, IsUtf8-from_is_utf8}
use Rattle.std.proofs.{lemmas.List.{nil_from_length}, Math.Logic.{◌↔◌}}
use Rattle.std.specs.{Bool.{Decides}, List.{list_all, list_any}, Str.{is_utf8, IsUtf8}}
use Rattle.iref_grammar.specs.{Grammar.{colon, full_stop}, Rules.{Text, InUtf8, OneOf, Optional, ZeroOrMore, ◌⨾◌}}
use Rattle.iref_grammar.specs.Texts.{is_empty, lacks}
use Rattle.iref_grammar.proofs.TextLemmas.{first_of_both, second_of_both}
use Rattle.iref_grammar.proofs.{LackLemmas.{lacks_more, all_lacks, lacks-encoded}, LeafLemmas.{Decides-in_utf8}}
use Rattle.iref_grammar.proofs.RuleLemmas.{Decides-ones, none_of, one_more}
use Rattle.iref.specs.PrefixLabels.{is_label, is_ascii_label, is_pn_chars_base, is_pn_chars, is_pn_chars_or_dot, IsPnPrefix, follow_pn_chars_base, is_turtle_label}
use Rattle.iref.specs.declared.compact.label.Labels.{Labels}
use Rattle.iref.specs.declared.compact.label.Labels.TheVariants.{Ascii, Turtle, Any}

-- ---- no label holds a colon

ascii_lacks : (label : Text) → is_ascii_label label ≡ true → lacks colon label ≡ true
unfolding is_ascii_label
ascii_lacks [] h = refl
ascii_lacks (c ∷ cs) h = grind (arith, common_steps, lacks_more, false_from_ne_true, first_of_both, eqb-true, all_lacks)

base_no_colon : (c : ℕ) → is_pn_chars_base c ≡ true → (c == colon) ≡ false
base_no_colon c h = grind (arith, nat_tests)

char_no_colon : (c : ℕ) → is_pn_chars c ≡ true → (c == colon) ≡ false
char_no_colon c h = grind (arith, nat_tests)

dot_no_colon : (c : ℕ) → (c == full_stop) ≡ true → (c == colon) ≡ false
dot_no_colon c h = grind (arith, nat_tests)

follow_lacks : (cs : Text) → follow_pn_chars_base cs ≡ true → lacks colon cs ≡ true
unfolding follow_pn_chars_base
follow_lacks [] h = refl
follow_lacks (c ∷ cs) h = grind (arith, common_steps, lacks_more, first_of_both, second_of_both, char_no_colon, dot_no_colon, follow_lacks cs)

turtle_lacks : (cs : Text) → is_turtle_label cs ≡ true → lacks colon cs ≡ true
unfolding is_turtle_label
turtle_lacks [] h = refl
turtle_lacks (c ∷ cs) h = lacks_more colon c cs (base_no_colon c (first_of_both (is_pn_chars_base c) (follow_pn_chars_base cs) h)) (follow_lacks cs (second_of_both (is_pn_chars_base c) (follow_pn_chars_base cs) h))

pub label_lacks : (labels : Labels) (label : Text) → is_label labels label ≡ true → lacks colon label ≡ true
label_lacks Ascii label h = ascii_lacks label h
label_lacks Turtle label h =
    let utf8 = IsUtf8-from_is_utf8 label (first_of_both (is_utf8 label) (is_turtle_label (chars label)) h) in
    subst (λ t. lacks colon t ≡ true) (encodes-chars label utf8)
    (lacks-encoded colon (chars label) (omega arith) (turtle_lacks (chars label) (second_of_both (is_utf8 label) (is_turtle_label (chars label)) h)))
label_lacks Any label h = h

-- ---- the scan of a label

-- a text without characters has no bytes
chars_empty : (bytes : Text) → IsUtf8 bytes → is_empty (chars bytes) ≡ (length bytes == 0)
chars_empty [] u = ap is_empty chars-nil
chars_empty (b ∷ bs) u = by (chars (b ∷ bs)) (encodes-chars (b ∷ bs) u)
  where
    by : (cs : Text) → encode_utf8_all cs ≡ b ∷ bs → is_empty cs ≡ (length (b ∷ bs) == 0)
    by [] e = absurd (cc e)
    by (c ∷ cs) e = grind (arith, nat_tests)

pub follows_none : (text : Text) → length text ≡ 0 → follow_pn_chars_base (chars text) ≡ true
unfolding follow_pn_chars_base
follows_none text h = ap follow_pn_chars_base (ap chars (nil_from_length text h) ∙ chars-nil)

pub follows_next : (text behind : Text) (c : ℕ) → chars text ≡ c ∷ chars behind → IsUtf8 behind
    → follow_pn_chars_base (chars text) ≡ ((is_pn_chars c || (c == full_stop && not (length behind == 0))) && follow_pn_chars_base (chars behind))
unfolding follow_pn_chars_base
follows_next text behind c e u = ap follow_pn_chars_base e ∙ ap (λ b. (is_pn_chars c || (c == full_stop && not b)) && follow_pn_chars_base (chars behind)) (chars_empty behind u)

pub label_of_none : (text : Text) → length text ≡ 0 → is_turtle_label (chars text) ≡ true
unfolding is_turtle_label
label_of_none text h = ap is_turtle_label (ap chars (nil_from_length text h) ∙ chars-nil)

pub label_of_some : (text behind : Text) (c : ℕ) → chars text ≡ c ∷ chars behind → is_turtle_label (chars text) ≡ (is_pn_chars_base c && follow_pn_chars_base (chars behind))
unfolding is_turtle_label
label_of_some text behind c e = ap is_turtle_label e

pub no_byte_is : (mark : ℕ) (text : Text) → lacks mark text ≡ not (list_any (λ c. c == mark) text)
no_byte_is mark [] = refl
no_byte_is mark (c ∷ cs) = grind (arith, common_steps, no_byte_is mark cs)

pub ruleset allows = (is_utf8-from_IsUtf8, no_byte_is)

-- ---- the labels of Turtle are those of its grammar

last_in_class : (class dot : Bool) → ((class || (dot && false)) && true) ≡ true → class ≡ true
last_in_class true dot h = refl
last_in_class false true h = h
last_in_class false false h = h

class_or_dot : (class dot : Bool) → (class || (dot && true)) ≡ true → (class || dot) ≡ true
class_or_dot true dot h = refl
class_or_dot false true h = refl
class_or_dot false false h = h

dot_stands : (class dot : Bool) → (class || dot) ≡ true → (class || (dot && true)) ≡ true
dot_stands true dot h = refl
dot_stands false true h = refl
dot_stands false false h = h

follow_rule : (cs : Text) → follow_pn_chars_base cs ≡ true → Optional (ZeroOrMore (OneOf is_pn_chars_or_dot) ⨾ OneOf is_pn_chars) cs
unfolding follow_pn_chars_base
follow_rule [] h = inl refl
follow_rule (c ∷ []) h = inr ([], c ∷ [], none_of (OneOf is_pn_chars_or_dot), (c, last_in_class (is_pn_chars c) (c == full_stop) h, refl), refl)
follow_rule (c ∷ d ∷ cs) h = elim (follow_rule (d ∷ cs) (second_of_both (is_pn_chars c || (c == full_stop && true)) (follow_pn_chars_base (d ∷ cs)) h)) [
  | inl e ↦ absurd (cc e)
  | inr z ↦ inr (c ∷ z.0, z.1, one_more (OneOf is_pn_chars_or_dot) (c ∷ []) z.0 (c, class_or_dot (is_pn_chars c) (c == full_stop) (first_of_both (is_pn_chars c || (c == full_stop && true)) (follow_pn_chars_base (d ∷ cs)) h), refl) z.2, z.3, ap (λ t. c ∷ t) z.4)
]

some_left : (front : Text) (c : ℕ) → is_empty (front ++ c ∷ []) ≡ false
some_left [] c = refl
some_left (d ∷ ds) c = refl

rule_follows : (front : Text) (c : ℕ) → list_all is_pn_chars_or_dot front ≡ true → is_pn_chars c ≡ true → follow_pn_chars_base (front ++ c ∷ []) ≡ true
unfolding follow_pn_chars_base
rule_follows [] c h k = and_from (is_pn_chars c || (c == full_stop && false)) true (ap (λ b. b || (c == full_stop && false)) k) refl
rule_follows (d ∷ ds) c h k =
    and_from (is_pn_chars d || (d == full_stop && not (is_empty (ds ++ c ∷ [])))) (follow_pn_chars_base (ds ++ c ∷ []))
    (ap (λ b. is_pn_chars d || (d == full_stop && not b)) (some_left ds c) ∙ dot_stands (is_pn_chars d) (d == full_stop) (first_of_both (is_pn_chars_or_dot d) (list_all is_pn_chars_or_dot ds) h))
    (rule_follows ds c (second_of_both (is_pn_chars_or_dot d) (list_all is_pn_chars_or_dot ds) h) k)

optional_follows : (cs : Text) → Optional (ZeroOrMore (OneOf is_pn_chars_or_dot) ⨾ OneOf is_pn_chars) cs → follow_pn_chars_base cs ≡ true
unfolding follow_pn_chars_base
optional_follows cs z = elim z [
  | inl e ↦ ap follow_pn_chars_base e
  | inr w ↦
      ap follow_pn_chars_base (sym w.4 ∙ ap (λ t. w.0 ++ t) w.3.2) ∙ rule_follows w.0 w.3.0 ((Decides-ones is_pn_chars_or_dot w.0).1 w.2) w.3.1
]

Decides-is_turtle_label : (text : Text) → Decides (is_turtle_label text) (Optional IsPnPrefix text)
unfolding is_turtle_label
Decides-is_turtle_label text = (there text, back)
  where
    there : (t : Text) → is_turtle_label t ≡ true → Optional IsPnPrefix t
    there [] h = inl refl
    there (c ∷ cs) h = inr (
      c ∷ [],
      cs,
      (c, first_of_both (is_pn_chars_base c) (follow_pn_chars_base cs) h, refl),
      follow_rule cs (second_of_both (is_pn_chars_base c) (follow_pn_chars_base cs) h),
      refl,
    )

    back : Optional IsPnPrefix text → is_turtle_label text ≡ true
    back z = elim z [
      | inl e ↦ ap is_turtle_label e
      | inr w ↦ ap is_turtle_label (sym w.4 ∙ ap (λ t. t ++ w.1) w.2.2) ∙ and_from (is_pn_chars_base w.2.0) (follow_pn_chars_base w.1) w.2.1 (optional_follows w.1 w.3)
    ]

pub turtle_is_pn_prefix : (bytes : Text) → (is_label Turtle bytes ≡ true) ↔ InUtf8 (Optional IsPnPrefix) bytes
turtle_is_pn_prefix bytes = Decides-in_utf8 is_turtle_label (Optional IsPnPrefix) Decides-is_turtle_label bytes
