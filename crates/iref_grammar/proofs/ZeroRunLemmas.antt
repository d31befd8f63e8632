-- The first longest run of zero groups, and what stands around it.
use Rattle.std.proofs.Common.{◌≡◌, ℕ, suc, ◌+◌, ◌<◌, ◌≤◌, ◌++◌, true, false, cond, List, [], ◌∷◌, length, take, drop, replicate, refl, sym, ap, ◌∙◌, subst, arith, ◌⊎◌, ◌≢◌, inl, inr}
use Rattle.std.proofs.{lemmas.Bool.Decides.{eqb_tells, leb_tells}, Math.Numerals.{one-add}}
use Rattle.std.specs.Prelude.{nat_le as leb, ◌==◌}
use Rattle.std.specs.List.{prefix_len}
use Rattle.iref_grammar.specs.HostNumbers.{longest_run, run_start}

-- how many zeros stand at the front
abbrev zeros : List ℕ → ℕ
zeros groups = prefix_len (λ group. group == 0) groups

module _ (group : ℕ) (groups : List ℕ) where
  -- where a longer run follows
  module _ (h : zeros (group ∷ groups) < longest_run groups) where
    longest-later : longest_run (group ∷ groups) ≡ longest_run groups
    longest-later = grind arith

    start-later : run_start (group ∷ groups) ≡ suc (run_start groups)
    start-later = grind arith

  -- where none does
  module _ (h : longest_run groups ≤ zeros (group ∷ groups)) where
    longest-here : longest_run (group ∷ groups) ≡ zeros (group ∷ groups)
    longest-here = grind arith

    start-here : run_start (group ∷ groups) ≡ 0
    start-here = grind arith

-- this number of zeros stands at this position, and what stands around them makes the list whole
pub record IsZeroRun (groups : List ℕ) (start len : ℕ) : Type 0 where
  pub within : start + len ≤ length groups
  pub parted : groups ≡ take start groups ++ (replicate len 0 ++ drop (start + len) groups)

zeros_in_front : (groups : List ℕ) → IsZeroRun groups 0 (zeros groups)
zeros_in_front [] = record { within = omega arith; parted = refl }
zeros_in_front (group ∷ groups) = by (eqb_tells group 0) (zeros_in_front groups)
  where
    later : (n : ℕ) → suc (0 + n) ≡ 0 + suc n
    later n = omega arith

    by : ((group == 0) ≡ true) × (group ≡ 0) ⊎ ((group == 0) ≡ false) × (group ≢ 0) → IsZeroRun groups 0 (zeros groups) → IsZeroRun (group ∷ groups) 0 (zeros (group ∷ groups))
    by (inl e) run =
        let count : zeros (group ∷ groups) ≡ suc (zeros groups) = ap (λ b. cond b (1 + zeros groups) 0) e.0 ∙ one-add (zeros groups) in
        subst (IsZeroRun (group ∷ groups) 0) (sym count) (record {
          within = omega (arith, run.within);
          parted = (λ i. e.1 i ∷ run.parted i) ∙ ap (λ k. 0 ∷ (replicate (zeros groups) 0 ++ drop k (group ∷ groups))) (later (zeros groups));
        })
    by (inr e) run = grind arith

pub first_longest_run : (groups : List ℕ) → IsZeroRun groups (run_start groups) (longest_run groups)
first_longest_run [] = record { within = omega arith; parted = refl }
first_longest_run (group ∷ groups) = by (leb_tells (suc (zeros (group ∷ groups))) (longest_run groups)) (first_longest_run groups)
  where
    later : (s l : ℕ) → suc (s + l) ≡ suc s + l
    later s l = omega arith

    by : ((leb (suc (zeros (group ∷ groups))) (longest_run groups) ≡ true) × (zeros (group ∷ groups) < longest_run groups))
        ⊎ ((leb (suc (zeros (group ∷ groups))) (longest_run groups) ≡ false) × (longest_run groups < suc (zeros (group ∷ groups))))
        → IsZeroRun groups (run_start groups) (longest_run groups) → IsZeroRun (group ∷ groups) (run_start (group ∷ groups)) (longest_run (group ∷ groups))
    by (inl e) run =
        let s = run_start groups in
        let l = longest_run groups in
        subst (λ k. IsZeroRun (group ∷ groups) (run_start (group ∷ groups)) k) (sym (longest-later group groups e.1))
        (subst (λ k. IsZeroRun (group ∷ groups) k l) (sym (start-later group groups e.1)) (record {
          within = omega (arith, run.within);
          parted = ap (λ t. group ∷ t) run.parted ∙ ap (λ k. group ∷ (take s groups ++ (replicate l 0 ++ drop k (group ∷ groups)))) (later s l);
        }))
    by (inr e) run =
        let h : longest_run groups ≤ zeros (group ∷ groups) = omega (arith, e.1) in
        subst (λ k. IsZeroRun (group ∷ groups) (run_start (group ∷ groups)) k) (sym (longest-here group groups h))
        (subst (λ k. IsZeroRun (group ∷ groups) k (zeros (group ∷ groups))) (sym (start-here group groups h)) (zeros_in_front (group ∷ groups)))
