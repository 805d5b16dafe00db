-- Pieces put one after the other into a text are one piece, and a message has room in an empty one. Assumes nothing.
use mathlib.Core.Path.{◌≡◌, sym, ap, ◌∙◌}
use mathlib.Core.List.{List, [], ◌++◌}
use Prim.Native.Nat.{ℕ, ◌≤◌}
use native.Mathlib.Omega.{arith}
use lib.ListN.{length, length-append}
use Rattle.text.specs.Text.{decimal}
use Rattle.text.specs.Quoted.{bytes}
use Rattle.text.specs.Output.{put}
use Rattle.text.proofs.Digits.{decimal-length}
use Rattle.text.proofs.Put.{put-append, put-fits}
use Rattle.intel_hex.specs.declared.refused.Refusal.{Refusal}
use Rattle.intel_hex.specs.declared.refused.Refusal.TheVariants.{Length, Unsound, Outside, NoEnd}
use Rattle.intel_hex.specs.Numbers.{number_of}
use Rattle.intel_hex.specs.Message.{meaning, message}

pub two : (t0 : List ℕ) {t1 t2 : List ℕ} (a b : List ℕ) → t1 ≡ put t0 a → t2 ≡ put t1 b → t2 ≡ put t0 (a ++ b)
two t0 a b e1 e2 = e2 ∙ ap (λ t. put t b) e1 ∙ sym (put-append t0 a b)

pub three : (t0 : List ℕ) {t1 t2 t3 : List ℕ} (a b c : List ℕ) → t1 ≡ put t0 a → t2 ≡ put t1 b → t3 ≡ put t2 c → t3 ≡ put t0 (a ++ (b ++ c))
three t0 {t1} a b c e1 e2 e3 = two t0 a (b ++ c) e1 (two t1 b c e2 e3)

meaning-length : (refusal : Refusal) → length (meaning refusal) ≤ 100
meaning-length Length = omega arith
meaning-length (Unsound line) = simp length-append (omega (arith, decimal-length 20 line))
meaning-length (Outside line) = simp length-append (omega (arith, decimal-length 20 line))
meaning-length (NoEnd lines) = simp length-append (omega (arith, decimal-length 20 lines))

pub told : {t0 t1 t2 t3 t4 : List ℕ} {n : ℕ} (refusal : Refusal) → t0 ≡ [] → n ≡ number_of refusal → t1 ≡ put t0 (bytes "refused with ")
    → t2 ≡ put t1 (decimal n) → t3 ≡ put t2 (bytes ": ") → t4 ≡ put t3 (meaning refusal) → t4 ≡ message refusal
told {t0} {t1} refusal e0 is e1 e2 e3 e4 =
    let m = meaning-length refusal in
    let d = decimal-length 20 (number_of refusal) in
    let rest = three t1 _ _ _ (e2 ∙ ap (λ k. put t1 (decimal k)) is) e3 e4 in
    two t0 _ _ e1 rest ∙ ap (λ t. put t (message refusal)) e0 ∙ put-fits [] (message refusal) (simp length-append (omega (arith, m, d)))
