-- Pieces put one after the other into a text are one piece. Assumes nothing.
use Rattle.std.proofs.Common.{◌≡◌, ℕ, ◌≤◌, List, [], ◌++◌, length, sym, ap, ◌∙◌, arith}
use Rattle.text.specs.Output.{put}
use Rattle.text.proofs.Put.{put-append, put-fits}

pub two : (t0 : List ℕ) {t1 t2 : List ℕ} (a b : List ℕ) → t1 ≡ put t0 a → t2 ≡ put t1 b → t2 ≡ put t0 (a ++ b)
two t0 a b e1 e2 = e2 ∙ ap (λ t. put t b) e1 ∙ sym (put-append t0 a b)

pub three : (t0 : List ℕ) {t1 t2 t3 : List ℕ} (a b c : List ℕ) → t1 ≡ put t0 a → t2 ≡ put t1 b → t3 ≡ put t2 c → t3 ≡ put t0 (a ++ (b ++ c))
three t0 {t1} a b c e1 e2 e3 = two t0 a (b ++ c) e1 (two t1 b c e2 e3)

pub four : (t0 : List ℕ) {t1 t2 t3 t4 : List ℕ} (a b c d : List ℕ) → t1 ≡ put t0 a → t2 ≡ put t1 b → t3 ≡ put t2 c → t4 ≡ put t3 d → t4 ≡ put t0 (a ++ (b ++ (c ++ d)))
four t0 {t1} a b c d e1 e2 e3 e4 = two t0 a (b ++ (c ++ d)) e1 (three t1 b c d e2 e3 e4)

-- a text that was empty holds all of a piece that has room
pub whole : {t0 t1 : List ℕ} (a : List ℕ) → t0 ≡ [] → t1 ≡ put t0 a → length a ≤ 512 → t1 ≡ a
whole a e0 e1 h = e1 ∙ ap (λ t. put t a) e0 ∙ put-fits [] a (omega (arith, h))
