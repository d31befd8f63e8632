-- Characters beyond ASCII as their bytes.
use Rattle.std.proofs.Common.{◌≡◌, ℕ, ◌+◌, ◌<◌, ◌≤◌, ◌/◌, ◌%◌, Bool, true, not, List, [], ◌∷◌, arith, nat_lt}
use Rattle.std.proofs.{Math.Utf8.{encode}, lemmas.Bool.Decides.{nat_tests}}
use Rattle.std.specs.List.{list_all}

pub encode_two : (code first second : ℕ) → 128 ≤ code → code < 2048 → 192 + code / 64 ≡ first → 128 + code % 64 ≡ second → encode code ≡ first ∷ second ∷ []
unfolding encode
encode_two code first second low high a b = grind (arith, nat_tests)

pub encode_three : (code first second third : ℕ) → 2048 ≤ code → code < 65536 → 224 + code / 4096 ≡ first → 128 + code / 64 % 64 ≡ second → 128 + code % 64 ≡ third
    → encode code ≡ first ∷ second ∷ third ∷ []
unfolding encode
encode_three code first second third low high a b c = grind (arith, nat_tests)

pub encode_four : (code first second third fourth : ℕ) → 65536 ≤ code → 240 + code / 262144 ≡ first → 128 + code / 4096 % 64 ≡ second → 128 + code / 64 % 64 ≡ third → 128 + code % 64 ≡ fourth
    → encode code ≡ first ∷ second ∷ third ∷ fourth ∷ []
unfolding encode
encode_four code first second third fourth low a b c d = grind (arith, nat_tests)

-- each byte of a character beyond ASCII is
abbrev pub are_high : List ℕ → Bool
are_high = list_all (λ b. not (nat_lt b 128))

pub encode_high : (code : ℕ) → 128 ≤ code → are_high (encode code) ≡ true
unfolding encode
encode_high code low = grind (arith, nat_tests)
