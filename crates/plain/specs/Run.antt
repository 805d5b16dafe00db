-- Start and run of the plain machine.
use Rattle.std.specs.Prelude.{ℕ, List, eqb, length, replicate}
use Rattle.bits.specs.Choice.{pick}
use Rattle.plain.specs.declared.Plain.{Plain}
use Rattle.plain.specs.Machine.{Machine, plain, step}
use Rattle.plain.specs.Numbers.{start_answer, refusal}
use Rattle.plain.specs.Running.{Ran, Started, started, Engine, runs, unless}

-- a record with everything 0: what a refused start hands back
abbrev pub zeroed : Plain
zeroed = plain (replicate 15 0) 0 0 0 (record { size = 0 })

abbrev pub begun : List ℕ → ℕ → ℕ → List ℕ → Plain
begun g flags entry mem = plain g entry flags 0 (record { size = length mem })

unfoldable pub start : List ℕ → ℕ → ℕ → List ℕ → Started Plain
start g flags entry mem =
    let answer = start_answer (length mem) entry flags in
    started answer (pick (eqb answer 0) (begun g flags entry mem) zeroed)

-- a step finds its stop itself, and leaves it in the machine
abbrev pub engine : Engine Machine
engine = record { finds = λ m. (step m).plain.stop; next = step; stopped = λ m q. step m }

-- so many instructions, or fewer and a stop, which is not counted
abbrev pub run_from : ℕ → Machine → Ran Machine
run_from n m = runs engine n m

-- refused, or a stop held is repeated, or it goes on
unfoldable pub run : ℕ → Machine → Ran Machine
run n m = unless (refusal m.plain (length m.memory) n) m (unless m.plain.stop m (run_from n m))
