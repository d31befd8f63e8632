-- Beginnings of texts.
use Rattle.std.proofs.Common.{arith, ◌≡◌, ◌≤◌, true, List, ℕ, length, length-take, ap, subst, take}
use Rattle.std.proofs.lemmas.Str.{IsCharBoundary-from_take}
use Rattle.std.specs.{Str.{IsCharBoundary, IsUtf8}, Cmp.Lexicographic.{bytes_decides}}
use Rattle.iref_grammar.specs.Texts.{begins_with}

-- a text that begins with another one may be cut where that ends
pub front_ends : (front text : List ℕ) → begins_with front text ≡ true → IsUtf8 front → IsUtf8 text → IsCharBoundary text (length front)
front_ends front text h f t =
    let is : front ≡ take (length front) text = (bytes_decides front (take (length front) text)).0 h in
    let short : length front ≤ length text = omega (arith, ap length is, length-take (length front) text) in
    IsCharBoundary-from_take text (length front) t short (subst IsUtf8 is f)
