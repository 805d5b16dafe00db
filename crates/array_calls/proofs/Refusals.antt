-- Refused run calls, proved; and a run on the array of a core is the core's run. Assumes nothing.
use Prim.Native.Nat.{ℕ, zero, suc}
use native.Mathlib.Omega.{arith}
use mathlib.Core.Path.{◌≡◌, refl, sym, ap, ◌∙◌}
use mathlib.Core.Bool.{Bool, true, false}
use mathlib.Core.List.{List}
use lib.Dec.{eqb}
use lib.ListN.{length}
use borrow.Author.Tests.{eqb-true, eqb-false, eq-eqb, ne_eqb}
use Rattle.refusals.specs.Numbers as numbers
use Rattle.pipeline.specs.Calls as pipeline
use Rattle.plain.specs.Machine as unpiped
use Rattle.plain.specs.Numbers as plain_numbers
use Rattle.plain.specs.Run as plain
use Rattle.arrays.specs.Words.{at}
use Rattle.core_arrays.specs.CoreArray.{length_in}
use Rattle.core_arrays.specs.CoreArray as core_array
use Rattle.core_arrays.proofs.Places as core_layout
use Rattle.plain_arrays.specs.PlainArray as plain_array
use Rattle.plain_arrays.specs.Places.{plain_place, plain_length}
use Rattle.plain_arrays.proofs.Places as plain_layout
use Rattle.array_calls.specs.Calls.{called, refused, core_called, core_machine, refusal_of, core_run, plain_run}
use Rattle.array_calls.specs.Refusals.{RunRefusals, PlainRefusals}
use Rattle.array_calls.proofs.Refusing.{core-number, core_accepted, plain-number, plain-accepted}
use Rattle.array_calls.proofs.Calling.{handed-back, left, array-refused, array-accepted}

module _ (words mem : List ℕ) (n : ℕ) where
  lent-otherwise : (length mem ≡ length_in words → ⊥) → 12 ≡ numbers.refusal (length mem) n (core_machine (core_array.unpacked words) mem)
  unfolding numbers.refusal
  lent-otherwise h = rw ((core_layout.laid_out).core_memory_length words, ne_eqb (length mem) (length_in words) h)

  module _ (s : core_array.stands_for_core words ≡ true) where
    array-fine : length mem ≡ length_in words → refusal_of words (length mem) ≡ 0
    array-fine l = rw (s, eq-eqb (length mem) (length_in words) l)

    array-otherwise : (length mem ≡ length_in words → ⊥) → 12 ≡ refusal_of words (length mem)
    array-otherwise h = rw (s, ne_eqb (length mem) (length_in words) h)

    refuses : (q : ℕ) → numbers.refusal (length mem) n (core_machine (core_array.unpacked words) mem) ≡ suc q → core_run words mem n ≡ refused (suc q) words mem
    unfolding pipeline.run
    refuses q e = go (eqb (length mem) (length_in words)) refl
      where
        go : (b : Bool) → eqb (length mem) (length_in words) ≡ b → core_run words mem n ≡ refused (suc q) words mem
        go true l =
            sym (array-accepted words mem n (array-fine (eqb-true _ _ l)))
            ∙ rw (e, ne_eqb (suc q) 0 (λ z. omega arith)) (sym (handed-back words mem (called (suc q) 0 (core_array.packed (core_array.unpacked words)) mem) (rw (sym e) (core-number (length mem) n _ q e))))
        go false l =
            let differs = eqb-false _ _ l in
            sym (array-refused words mem n (array-otherwise differs) (λ z. omega arith))
            ∙ ap (λ (k : ℕ). refused k words mem) (lent-otherwise differs ∙ e)

    accepts : numbers.refusal (length mem) n (core_machine (core_array.unpacked words) mem) ≡ 0
        → core_run words mem n ≡ core_called (pipeline.run (length mem) n (core_machine (core_array.unpacked words) mem))
    accepts e = go (eqb (length mem) (length_in words)) refl
      where
        go : (b : Bool) → eqb (length mem) (length_in words) ≡ b
            → core_run words mem n ≡ core_called (pipeline.run (length mem) n (core_machine (core_array.unpacked words) mem))
        go true l =
            sym (array-accepted words mem n (array-fine (eqb-true _ _ l)))
            ∙ sym (left words mem _ (core_accepted (length mem) n (core_machine (core_array.unpacked words) mem) e))
        go false l = absurd (let z : ◌≡◌ {A = ℕ} 12 0 = lent-otherwise (eqb-false _ _ l) ∙ e in omega arith)

    -- the array of a core is left as the array of the core that ran, refused or not
    pub core-packed : core_array.packed (core_array.unpacked words) ≡ words
        → core_run words mem n ≡ core_called (pipeline.run (length mem) n (core_machine (core_array.unpacked words) mem))
    unfolding pipeline.run
    core-packed back = go (numbers.refusal (length mem) n (core_machine (core_array.unpacked words) mem)) refl
      where
        go : (r : ℕ) → numbers.refusal (length mem) n (core_machine (core_array.unpacked words) mem) ≡ r
            → core_run words mem n ≡ core_called (pipeline.run (length mem) n (core_machine (core_array.unpacked words) mem))
        go zero e = accepts e
        go (suc q) e = refuses q e ∙ rw (e, ne_eqb (suc q) 0 (λ z. omega arith)) (ap (λ (p : List ℕ). called (suc q) 0 p mem) (sym back))

  other_length : (length mem ≡ length_in words → ⊥) → core_run words mem n ≡ refused 12 words mem
  other_length h = sym (array-refused words mem n (rw (ne_eqb (length mem) (length_in words) h)) (λ z. omega arith))

  no_core : length mem ≡ length_in words → core_array.stands_for_core words ≡ false → core_run words mem n ≡ refused 11 words mem
  no_core l s = sym (array-refused words mem n (rw (eq-eqb (length mem) (length_in words) l, s)) (λ z. omega arith))

  pub core-refusals : RunRefusals words mem n
  core-refusals = record {
    other_length = other_length;
    no_core = no_core;
    refuses = λ q s e. refuses s q e;
    accepts = λ s e. accepts s e;
  }

  plain-refuses : (q : ℕ) → plain_numbers.refusal (plain_array.unpacked words) (length mem) n ≡ suc q → plain_run words mem n ≡ refused (suc q) words mem
  unfolding plain_run plain.run
  plain-refuses q e =
      rw (e, ne_eqb (suc q) 0 (λ z. omega arith)) (sym (handed-back words mem (called (suc q) 0 (plain_array.packed (plain_array.unpacked words)) mem) (rw (sym e) (plain-number n (unpiped.machine (plain_array.unpacked words) mem) q e))))

  plain-otherwise : (length mem ≡ at words (plain_place plain_length) → ⊥) → plain_numbers.refusal (plain_array.unpacked words) (length mem) n ≡ 12
  unfolding plain_numbers.refusal
  plain-otherwise h = rw ((plain_layout.laid_out).memory_length words, ne_eqb (length mem) (at words (plain_place plain_length)) h)

  pub plain-refusals : PlainRefusals words mem n
  unfolding plain_run
  plain-refusals = record {
    other_length = λ h. plain-refuses 11 (plain-otherwise h);
    refuses = plain-refuses;
    accepts = λ e. sym (left words mem _ (plain-accepted n (unpiped.machine (plain_array.unpacked words) mem) e));
  }
