-- The bits of assignments.
use Rattle.std.proofs.Common.{◌≡◌, ℕ, ◌*◌, ◌/◌, ◌%◌, ◌^◌, ◌<◌, ◌≤◌, false, eqb, ap, mod-lt, div-add-mod', arith, pow_pos, pow_mono}
use native.Mathlib.Nat.{div-eq_of_lt}
use Rattle.model.specs.Assignments.{holds, Assigns}

-- a 64-bit number has no bit beyond 64 facts or more
pub assigns_all : (x facts : ℕ) → x < 2 ^ 64 → 64 ≤ facts → Assigns facts x
assigns_all x facts fits many = let p = pow_mono {i = 64} {j = facts} many in omega arith

-- a fact beyond them does not hold
pub fails_beyond : (x fact : ℕ) → Assigns fact x → holds x fact ≡ false
fails_beyond x fact h = ap (λ n. eqb (n % 2) 1) (div-eq_of_lt h)

-- shifted by the number of facts, nothing is left if there is no bit beyond
pub assigns_shifted : (x facts : ℕ) → x / 2 ^ facts ≡ 0 → Assigns facts x
assigns_shifted x facts e =
    let rest = mod-lt x (pow_pos facts) in
    let whole = ap (λ n. n * 2 ^ facts) e in
    omega (arith, div-add-mod' x (2 ^ facts))
