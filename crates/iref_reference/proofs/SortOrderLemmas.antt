-- Sort keys are compared as the references are.
use Rattle.std.proofs.{Common.{◌≡◌, true, sym, ◌∙◌, ap, subst}, Math.Logic.{◌↔◌}}
use Rattle.std.specs.{Cmp.Lexicographic.{texts_ties}, Ordering.{eq_by_cmp, is_eq}}
use Rattle.iref_grammar.specs.{Keys.{is_same_text, text_order}, Reference.{ReferenceValue}, Rules.{Text}}
use Rattle.iref_grammar.specs.Key.{key_cmp}
use Rattle.iref_grammar.proofs.TieLemmas.{references_tie}
use Rattle.iref_canonical.specs.SortKey.{sort_key}
use Rattle.iref_canonical.proofs.SortKeyLemmas.{text_order-sort_key}

-- of two texts that are sort keys, the order is that of the keys
pub text_order-as : (k l : ReferenceValue) (x y : Text) → x ≡ sort_key k → y ≡ sort_key l → text_order x y ≡ key_cmp k l
text_order-as k l x y p q = ap (λ x. text_order x y) p ∙ ap (text_order (sort_key k)) q ∙ text_order-sort_key k l

-- and they are the same where the keys tie
pub is_same_text-as : (k l : ReferenceValue) (x y : Text) → x ≡ sort_key k → y ≡ sort_key l → is_same_text x y ≡ eq_by_cmp key_cmp k l
is_same_text-as k l x y p q = texts_ties x y ∙ ap is_eq (text_order-as k l x y p q)

-- and they are the same where the keys are
pub is_same_text-where : (k l : ReferenceValue) (x y : Text) → x ≡ sort_key k → y ≡ sort_key l → (is_same_text x y ≡ true) ↔ (k ≡ l)
is_same_text-where k l x y p q = subst (λ b. (b ≡ true) ↔ (k ≡ l)) (sym (is_same_text-as k l x y p q)) (references_tie k l)

pub ruleset as_references = (is_same_text-as, is_same_text-where, text_order-as)
