-- A phase's number and the phase are inverse to each other. Assumes nothing.
use Rattle.std.proofs.Common.{◌≡◌, ℕ, zero, suc, ◌+◌, ◌-◌, ◌%◌, ◌^◌, ◌<◌, sym, refl, ap, ◌∙◌, mod-eq_of_lt, arith, ne_eqb}
use Rattle.steps.specs.declared.Phase.{Phase}
use Rattle.steps.specs.declared.Phase.TheVariants.{Step1, Refill1, Refill2, Later}
use Rattle.core_arrays.specs.Phases.{phase_number, phase_of}

later : (n k : ℕ) → n ≡ k + 3 → phase_of n ≡ Later k
later n k e =
    let zero-not : (n ≡ 0 → ⊥) = (λ h. omega arith) in
    let one-not : (n ≡ 1 → ⊥) = (λ h. omega arith) in
    let two-not : (n ≡ 2 → ⊥) = (λ h. omega arith) in
    let left : n - 3 ≡ k = omega arith in
    simp (ne_eqb n 0 zero-not, ne_eqb n 1 one-not, ne_eqb n 2 two-not, left)

-- a phase whose number fits a word
pub phase-back : (p : Phase) → ((k : ℕ) → p ≡ Later k → k + 3 < 2 ^ 32) → phase_of (phase_number p) ≡ p
phase-back Step1 h = refl
phase-back Refill1 h = refl
phase-back Refill2 h = refl
phase-back (Later k) h = later ((k + 3) % 2 ^ 32) k (mod-eq_of_lt (h k refl))

pub number-back : (n : ℕ) → n < 2 ^ 32 → phase_number (phase_of n) ≡ n
number-back zero h = refl
number-back (suc zero) h = refl
number-back (suc (suc zero)) h = refl
number-back (suc (suc (suc k))) h =
    let sum : suc (suc (suc k)) ≡ k + 3 = omega arith in
    let fits : k + 3 < 2 ^ 32 = omega arith in
    ap phase_number (later (suc (suc (suc k))) k sum) ∙ (mod-eq_of_lt fits ∙ sym sum)
