-- Settle on an array: the run whose budget is the cycles left of the array's core. Assumes nothing.
use Prim.Native.Nat.{ℕ}
use mathlib.Core.Path.{◌≡◌, sym, ap, ◌∙◌}
use mathlib.Core.Bool.{true}
use mathlib.Core.List.{List}
use lib.Dec.{eqb}
use lib.ListN.{length}
use Rattle.bits.specs.Choice.{pick}
use Rattle.plain.specs.Running.{Ran}
use Rattle.cycle.specs.Machine as pipelined
use Rattle.runs.specs.CyclesLeft.{cycles_left}
use Rattle.pipeline.specs.declared.Core.{Core}
use Rattle.pipeline.specs.Calls as pipeline
use Rattle.pipeline.proofs.Settled.{same-refusal, settle-laws}
use Rattle.core_arrays.specs.CoreArray as core_array
use Rattle.array_calls.specs.Calls.{Called, refused, unless_refused, core_called, core_machine, refusal_of, core_run, core_settle}
use Rattle.array_calls.specs.Refusals.{SettleRefusals}
use Rattle.array_calls.proofs.Refusals.{core-refusals, core-packed}

module _ (words mem : List ℕ) where
  abbrev settling : pipelined.Machine
  settling = core_machine (core_array.unpacked words) mem

  abbrev budget : ℕ
  budget = cycles_left settling

  its-run : pipeline.settle (length mem) settling ≡ pipeline.run (length mem) budget settling
  its-run = settle-laws.budget (length mem) settling

  settle-runs : core_settle words mem ≡ core_run words mem budget
  unfolding core_settle core_run
  settle-runs =
      ap (λ (r : Ran pipelined.Machine). pick (eqb (refusal_of words (length mem)) 0) (unless_refused words mem (core_called r)) (refused (refusal_of words (length mem)) words mem)) its-run

  -- from the core that was unpacked, and the run by its cycles left
  pub by_its_run : {c : Core} {n : ℕ} {r : Called} → c ≡ core_array.unpacked words → n ≡ cycles_left (core_machine c mem) → r ≡ core_run words mem n → r ≡ core_settle words mem
  by_its_run e h q = q ∙ ap (core_run words mem) (h ∙ ap (λ (k : Core). cycles_left (core_machine k mem)) e) ∙ sym settle-runs

  pub settle-refusals : SettleRefusals words mem
  settle-refusals =
      let r = core-refusals words mem budget in
      record {
        other_length = λ h. settle-runs ∙ r.other_length h;
        no_core = λ l s. settle-runs ∙ r.no_core l s;
        refuses = λ q s e. settle-runs ∙ r.refuses q s (sym (same-refusal (length mem) settling) ∙ e);
        accepts = λ s e. settle-runs ∙ r.accepts s (sym (same-refusal (length mem) settling) ∙ e) ∙ ap core_called (sym its-run);
      }

  pub settle-packed : core_array.stands_for_core words ≡ true → core_array.packed (core_array.unpacked words) ≡ words
      → core_settle words mem ≡ core_called (pipeline.settle (length mem) settling)
  settle-packed s back = settle-runs ∙ core-packed words mem budget s back ∙ ap core_called (sym its-run)
