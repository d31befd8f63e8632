-- The host of an authority without user info, before its port.
use Rattle.std.proofs.Common.{◌≡◌, ℕ, ◌+◌, ◌-◌, ◌≤◌, [], ◌∷◌, ◌++◌, length, take, sym, ap, ◌∙◌, subst, arith, lit<, length-append, Option, Some, None}
use Rattle.std.proofs.{Math.Seq.{take-append_seam}, lemmas.List.{append-nil}}
use Rattle.std.specs.Str.{IsCharBoundary}
use Rattle.iref_grammar.specs.{Rules.{Text}, Grammar.{colon}, Texts.{before, after, then_part}}
use Rattle.iref_grammar.proofs.{CutLemmas.{cut}, SliceLemmas.{mark_boundary}}
use Rattle.iref_fault.specs.Cut.{cut_host, cut_port}
use Rattle.iref_fault.proofs.CutPieceLemmas.{host_joins}

joins : (text : Text) (port : Option Text) → port ≡ cut_port text → cut_host text ++ then_part (colon ∷ []) port ≡ text
joins text port e = ap (λ p. cut_host text ++ then_part (colon ∷ []) p) e ∙ host_joins text

pub host_alone : (text : Text) → None ≡ cut_port text → text ≡ cut_host text
host_alone text e = sym (joins text None e) ∙ append-nil (cut_host text)

module _ (text port : Text) (e : Some port ≡ cut_port text) where
  pub host_len : length (cut_host text) + 1 + length port ≡ length text
  host_len = omega (arith, length-append (cut_host text) (colon ∷ port), ap length (joins text (Some port) e))

  same_len : length text - length port - 1 ≡ length (cut_host text)
  same_len = omega (arith, host_len)

  pub host_boundary : IsCharBoundary text (length text - length port - 1)
  host_boundary = subst (IsCharBoundary text) (sym same_len) (mark_boundary colon (cut_host text) (Some port) text (lit< tt) (joins text (Some port) e))

  pub take-host : take (length text - length port - 1) text ≡ cut_host text
  take-host = ap (λ n. take n text) same_len ∙ ap (take (length (cut_host text))) (sym (joins text (Some port) e)) ∙ take-append_seam (cut_host text) (colon ∷ port)

pub host_within : (text : Text) → length (cut_host text) ≤ length text
host_within text = omega (arith, length-append (cut_host text) (then_part (colon ∷ []) (cut_port text)), ap length (host_joins text))

-- of a text that is cut at a mark
pub cut_len : (mark : ℕ) (text rest : Text) → Some rest ≡ after mark text → length (before (mark ∷ []) text) + 1 + length rest ≡ length text
cut_len mark text rest e =
    omega (arith, length-append (before (mark ∷ []) text) (mark ∷ rest), ap length (ap (λ o. before (mark ∷ []) text ++ then_part (mark ∷ []) o) e ∙ cut mark text))
