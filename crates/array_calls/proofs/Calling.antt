-- What a call leaves, from what the functions that it calls ensure. Assumes nothing.
use Prim.Native.Nat.{ℕ}
use mathlib.Core.Path.{◌≡◌, refl, sym, ap, ◌∙◌}
use mathlib.Core.Bool.{true, false}
use mathlib.Core.List.{List}
use lib.ListN.{length}
use borrow.Author.Tests.{ne_eqb}
use Rattle.std.specs.Prelude.{Result, Ok, Err}
use Rattle.writer.specs.declared.NoWord.{NoWord}
use Rattle.writer.specs.Writer.{Answer, answer_of, write_of}
use Rattle.word.specs.declared.Instruction.{Instruction}
use Rattle.pipeline.specs.declared.Core.{Core}
use Rattle.cycle.specs.Machine as pipelined
use Rattle.pipeline.specs.Calls as pipeline
use Rattle.plain.specs.declared.Plain.{Plain}
use Rattle.plain.specs.Machine as unpiped
use Rattle.plain.specs.Running.{Ran, ran}
use Rattle.plain.specs.declared.Ran as plain_record
use Rattle.plain.specs.declared.refused.Refusal.{Refusal}
use Rattle.plain.specs.Told.{ran_as}
use Rattle.plain.specs.Run as plain
use Rattle.core_arrays.specs.CoreArray as core_array
use Rattle.plain_arrays.specs.PlainArray as plain_array
use Rattle.record_arrays.specs.RecordArray.{record_of, stands_for_record}
use Rattle.array_calls.specs.Calls.{Called, called, is_refusal, refused, unless_refused, core_called, core_machine, refusal_of, core_run, plain_called, plain_run, answer, word_of}
use Rattle.array_calls.specs.Kept.{ended_in}
use Rattle.array_calls.proofs.Refused.{of_refusal, of_stop}
use Rattle.array_calls.proofs.Refusing.{core-kept, plain-kept}

-- where a run is refused, and where it is not
module _ (words mem : List ℕ) (r : Called) where
  pub handed-back : is_refusal r.answer ≡ true → refused r.answer words mem ≡ unless_refused words mem r
  handed-back h = rw h

  pub left : is_refusal r.answer ≡ false → r ≡ unless_refused words mem r
  left h = rw h

module _ (words mem : List ℕ) (n : ℕ) where
  -- ---- the core's run

  pub array-refused : {r : ℕ} → r ≡ refusal_of words (length mem) → (r ≡ 0 → ⊥) → refused r words mem ≡ core_run words mem n
  unfolding core_run
  array-refused {r} e h = rw (← e, ne_eqb r 0 h)

  pub array-accepted : refusal_of words (length mem) ≡ 0
      → unless_refused words mem (core_called (pipeline.run (length mem) n (core_machine (core_array.unpacked words) mem))) ≡ core_run words mem n
  unfolding core_run
  array-accepted e = rw e

  -- where the array refuses nothing: from the core that was unpacked, and what its run left
  module _ {r : ℕ} (i : r ≡ refusal_of words (length mem)) (z : r ≡ 0) {c next : Core} {a u : ℕ} {mem' : List ℕ} (e : c ≡ core_array.unpacked words)
      (q : ran a u (pipelined.machine next.registers next.control mem') ≡ pipeline.run (length mem) n (core_machine c mem)) where
    core-joined : unless_refused words mem (called a u (core_array.packed next) mem') ≡ core_run words mem n
    core-joined =
        ap (λ (r : Ran pipelined.Machine). unless_refused words mem (core_called r)) q
        ∙ (ap (λ (k : Core). unless_refused words mem (core_called (pipeline.run (length mem) n (core_machine k mem)))) e ∙ array-accepted (sym i ∙ z))

    pub core_refused : is_refusal a ≡ true → called a 0 words mem' ≡ core_run words mem n
    core_refused r =
        let kept = core-kept (length mem) n (core_machine c mem) (ap (λ (z : Ran pipelined.Machine). is_refusal z.answer) (sym q) ∙ r) in
        ap (λ (k : List ℕ). called a 0 words k) (ap (λ (z : Ran pipelined.Machine). z.machine.memory) (q ∙ kept))
        ∙ (handed-back words mem (called a u (core_array.packed next) mem') r ∙ core-joined)

    pub core-ran : {p : List ℕ} → is_refusal a ≡ false → p ≡ core_array.packed next → called a u p mem' ≡ core_run words mem n
    core-ran r h = ap (λ (p : List ℕ). called a u p mem') h ∙ (left words mem (called a u (core_array.packed next) mem') r ∙ core-joined)

  -- ---- the plain machine's run

  module _ {c next : Plain} {a u : ℕ} {mem' : List ℕ} (e : c ≡ plain_array.unpacked words)
      (q : ran a u (unpiped.machine next mem') ≡ plain.run n (unpiped.machine c mem)) where
    plain-joined : unless_refused words mem (called a u (plain_array.packed next) mem') ≡ plain_run words mem n
    unfolding plain_run
    plain-joined =
        ap (λ (r : Ran unpiped.Machine). unless_refused words mem (plain_called r)) q
        ∙ ap (λ (k : Plain). unless_refused words mem (plain_called (plain.run n (unpiped.machine k mem)))) e

    pub plain-refused : is_refusal a ≡ true → called a 0 words mem' ≡ plain_run words mem n
    plain-refused r =
        let kept = plain-kept n (unpiped.machine c mem) (ap (λ (z : Ran unpiped.Machine). is_refusal z.answer) (sym q) ∙ r) in
        ap (λ (k : List ℕ). called a 0 words k) (ap (λ (z : Ran unpiped.Machine). z.machine.memory) (q ∙ kept))
        ∙ (handed-back words mem (called a u (plain_array.packed next) mem') r ∙ plain-joined)

    pub plain-ran : {p : List ℕ} → is_refusal a ≡ false → p ≡ plain_array.packed next → called a u p mem' ≡ plain_run words mem n
    plain-ran r h = ap (λ (p : List ℕ). called a u p mem') h ∙ (left words mem (called a u (plain_array.packed next) mem') r ∙ plain-joined)

-- ---- a run, refused or not

module _ (words mem : List ℕ) (n : ℕ) (mem' : List ℕ) where
  pub core-ended : {z : ℕ} → z ≡ refusal_of words (length mem) → z ≡ 0 → {c : Core} → c ≡ core_array.unpacked words → (r : Result (plain_record.Ran Core) Refusal)
      → ran_as (pipeline.seen mem') c r ≡ pipeline.run (length mem) n (pipeline.seen mem c) → ended_in core_array.packed words mem' r ≡ core_run words mem n
  core-ended i z e (Ok r) q = core-ran words mem n i z e q (of_stop r.stop) refl
  core-ended i z {c} e (Err refusal) q = core_refused words mem n i z {next = c} e q (of_refusal refusal)

  pub plain-ended : {p : Plain} → p ≡ plain_array.unpacked words → (r : Result (plain_record.Ran Plain) Refusal)
      → ran_as (λ q. unpiped.machine q mem') p r ≡ plain.run n (unpiped.machine p mem) → ended_in plain_array.packed words mem' r ≡ plain_run words mem n
  plain-ended e (Ok r) q = plain-ran words mem n e q (of_stop r.stop) refl
  plain-ended {p} e (Err refusal) q = plain-refused words mem n {next = p} e q (of_refusal refusal)

-- the writer's answer for an array
pub no_word_there : (words : List ℕ) → stands_for_record words ≡ false → answer 5 0 ≡ word_of words
unfolding word_of
no_word_there words h = rw h

pub its-word : (words : List ℕ) {i : Instruction} (m : Result ℕ NoWord) {a : Answer} → stands_for_record words ≡ true → i ≡ record_of words
    → answer_of m ≡ write_of i → a ≡ answer_of m → a ≡ word_of words
unfolding word_of
its-word words m s e w h = h ∙ (w ∙ (ap write_of e ∙ rw s))
