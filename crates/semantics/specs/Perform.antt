-- One step, in the paper's order: what is fetched at A is no word, or its condition fails, or it is stopped, or done (paper 01, "Plain machine").
use Rattle.std.specs.Prelude.{◌≡◌, ℕ, ◌+◌, List, ◌==◌, Option}
use Rattle.bits.specs.Choice.{pick}
use Rattle.word.specs.declared.Instruction.{Instruction}
use Rattle.datapath.specs.Counter.{ahead}
use Rattle.memory.specs.Memory.{Memory}
use Rattle.registers.specs.State.{State}
use Rattle.stops.specs.Numbers.{no_word}
use Rattle.stops.specs.Stops.{Due, no_word_there, skipped, executes, due, stop_of}
use Rattle.semantics.specs.Effect.{Effect, effect_of}
use Rattle.semantics.specs.Duration.{own_steps, skipped_steps, refills, next_address, duration_of}

-- what came of it beside registers and memory: the stop met, or 0; the flags; the address of the next instruction, after a stop its own; the cycles taken
pub record Told : Type 0 where
  pub stop : ℕ
  pub flags : ℕ
  pub next : ℕ
  pub cycles : ℕ

-- what came of it: registers and memory afterwards, and the rest
pub record Result : Type 0 where
  pub performed : Told
  pub registers : List ℕ
  pub memory : Memory

abbrev pub result_of : Told → List ℕ → Memory → Result
result_of p g mem = record { performed = p; registers = g; memory = mem }

abbrev pub performed : ℕ → ℕ → ℕ → ℕ → Told
performed stop f next cycles = record { stop = stop; flags = f; next = next; cycles = cycles }

-- an effect in its duration: own steps, plus 2 if the counter was stored
abbrev pub done : State → ℕ → Effect → Result
done s steps e =
    result_of (performed 0 e.out.flags (next_address s.a e.out.goes) (steps + refills e.out.goes)) e.out.registers e.memory

-- a stop changes only the stop
abbrev pub stopped_at : ℕ → ℕ → ℕ → Told
stopped_at stop f a = performed stop f a 0

abbrev pub stopped : ℕ → State → Result
stopped stop s = result_of (stopped_at stop s.status s.a) s.registers s.memory

-- an instruction whose condition passes: stopped, or done
unfoldable pub executed : Instruction → State → Result
executed i s = pick (stop_of i s == 0) (done s (own_steps i s.registers) (effect_of i s)) (stopped (stop_of i s) s)

-- if the condition fails, A+4 and nothing else
abbrev pub performed_due : Due → State → Result
performed_due no_word_there s = stopped no_word s
performed_due skipped s = result_of (performed 0 s.status (ahead s.a 4) skipped_steps) s.registers s.memory
performed_due (executes i) s = executed i s

unfoldable pub performs : Option ℕ → State → Result
performs x s = performed_due (due x s.status) s

-- an instruction that is done takes its duration, which goes by its word and the registers alone
abbrev pub Lasting : Type 0
Lasting = (i : Instruction) (s : State) → stop_of i s ≡ 0 → (executed i s).performed.cycles ≡ duration_of i s.registers
