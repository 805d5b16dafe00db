-- A turn of the walk over the buffers. Assumes nothing.
use Rattle.std.proofs.Common.{◌≡◌, ℕ, ◌+◌, ◌<◌, ◌≤◌, List, length, set, ap, sym, subst, ◌∙◌, arith}
use Rattle.std.proofs.lemmas.List.{get_or-set_same, get_or-set_other}
use borrow.Author.Count.{below_more}
use Rattle.link.specs.declared.Store.{Store}
use Rattle.link.specs.declared.Line.{Line}
use Rattle.link.specs.declared.Buffer.{Buffer}
use Rattle.link.specs.Fold.{empty, all_taken, Filled}
use Rattle.rate.specs.Folds.{buffer_at}

module _ (line : ℕ → Line) (old now : List Buffer) (k : ℕ) (es : List Store) (b : Buffer) (room : k < length now)
    (rest : (j : ℕ) → k ≤ j → buffer_at now j ≡ buffer_at old j) (is : b ≡ all_taken (line k) (buffer_at now k) es) where
  other : (j : ℕ) → (j ≡ k → ⊥) → buffer_at (set now k b) j ≡ buffer_at now j
  other j h = get_or-set_other now k j b empty h

  same : buffer_at (set now k b) k ≡ b
  same = get_or-set_same now k b empty room

  pub turn-more : ((j : ℕ) → j < k → buffer_at now j ≡ all_taken (line j) (buffer_at old j) es)
      → (j : ℕ) → j < k + 1 → buffer_at (set now k b) j ≡ all_taken (line j) (buffer_at old j) es
  turn-more more =
      let P : ℕ → Type 0 = λ j. buffer_at (set now k b) j ≡ all_taken (line j) (buffer_at old j) es in
      below_more P k (λ j h. other j (λ e. omega (arith, e)) ∙ more j h) (same ∙ is ∙ ap (λ x. all_taken (line k) x es) (rest k (omega arith)))

  pub turn-filled : ((j : ℕ) → j < k → Filled (line j) (buffer_at now j)) → Filled (line k) b → (j : ℕ) → j < k + 1 → Filled (line j) (buffer_at (set now k b) j)
  turn-filled filled here =
      let P : ℕ → Type 0 = λ j. Filled (line j) (buffer_at (set now k b) j) in
      below_more P k (λ j h. subst (Filled (line j)) (sym (other j (λ e. omega (arith, e)))) (filled j h)) (subst (Filled (line k)) (sym same) here)

  pub turn-rest : (j : ℕ) → k + 1 ≤ j → buffer_at (set now k b) j ≡ buffer_at old j
  turn-rest j h = other j (λ e. omega (arith, e, h)) ∙ rest j (omega (arith, h))
