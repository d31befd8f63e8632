-- Lists after a move and two overwrites, seen as one splice.
use Rattle.std.proofs.Common.{◌≡◌, ℕ, ◌+◌, ◌-◌, ◌≤◌, List, ◌++◌, length, take, replicate, refl, sym, ap, ◌∙◌, length-append, arith, rules}
use Rattle.std.specs.List.{splice, copy_within}
use Rattle.std.proofs.lemmas.List.{places, same_lists}

splice-again : (bs xs c : List ℕ) (start n : ℕ) → n ≡ length xs → start + (n + length c) ≤ length bs
    → splice (splice bs start (start + n) xs) (start + n) (start + n + length c) c ≡ splice bs start (start + (n + length c)) (xs ++ c)
splice-again bs xs c start n e h = same_lists _ _ (search (rules, places)) (λ k d h. grind (arith, places))

pub splice-thrice : (bs a b c : List ℕ) (start : ℕ) → start + (length a + length b + length c) ≤ length bs
    → splice (splice (splice bs start (start + length a) a) (start + length a) (start + length a + length b) b) (start + (length a + length b)) (start + (length a + length b) + length c) c
    ≡ splice bs start (start + (length a + length b + length c)) (a ++ b ++ c)
splice-thrice bs a b c start h =
    ap (λ xs. splice xs (start + (length a + length b)) (start + (length a + length b) + length c) c) (splice-again bs a b start (length a) refl (omega arith))
    ∙ splice-again bs (a ++ b) c start (length a + length b) (sym (length-append a b)) (omega arith)

pub grown : (bs xs : List ℕ) (start end len more added x : ℕ) → start ≤ end → end ≤ len → len ≡ length bs → end + more ≡ start + added
    → splice (copy_within (bs ++ replicate more x) end len (end + more)) start (start + added) xs ≡ splice bs start end xs
grown bs xs start end len more added x h1 h2 h3 h4 = same_lists _ _ (search (rules, places)) (λ k d h. grind (arith, places))

pub shrunk : (bs xs : List ℕ) (start end len added : ℕ) → start + added ≤ end → end ≤ len → len ≡ length bs
    → splice (take (len - (end - start - added)) (copy_within bs end len (start + added))) start (start + added) xs ≡ splice bs start end xs
shrunk bs xs start end len added h1 h2 h3 = same_lists _ _ (search (rules, places)) (λ k d h. grind (arith, places))

pub level : (bs xs : List ℕ) (start end added : ℕ) → start + added ≡ end → splice bs start (start + added) xs ≡ splice bs start end xs
level bs xs start end added e = ap (λ m. splice bs start m xs) e

pub ruleset gaps = (splice-thrice, grown, shrunk, level)
