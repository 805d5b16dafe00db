-- Term 3 (paper 01; settle: paper 02, §2; the three sums: §3): what every list of calls, run or settle, from an accepted start answers and leaves, in terms of the plain machine.
use Rattle.std.specs.Prelude.{ℕ, ◌+◌, ◌-◌, ◌^◌, ◌≤◌, ◌<◌, ◌≡◌, false, List, [], ◌∷◌, ◌≢◌, ◌⊎◌, length, ltb}
use Rattle.plain.specs.Machine as plain
use Rattle.plain.specs.Run as plain_calls
use Rattle.plain.specs.Starts.{Answered}
use Rattle.bits.specs.Choice.{pick}
use Rattle.semantics.specs.declared.Sums.{Sums}
use Rattle.semantics.specs.Sums.{no_sums, plus, total, start_sums}
use Rattle.plain.specs.Trace.{trace, stop_met, durations, added, Does}
use Rattle.steps.specs.declared.Phase.TheVariants.{Step1}
use Rattle.cycle.specs.Machine.{Machine, machine, counts}
use Rattle.refusals.specs.Numbers.{bad}
use Rattle.runs.specs.Boundary.{boundary, lead}
use Rattle.runs.specs.CyclesLeft.{cycles_left}
use Rattle.pipeline.specs.Calls.{zeroed, start, run, settle}
use Rattle.plain.specs.Running.{Ran}
use Rattle.runs.specs.Run.{holding, reach}

-- ---- the two machines from one start

-- what each machine's start hands back, with the memory that the start was lent
unfoldable pub fresh : List ℕ → ℕ → ℕ → List ℕ → Machine
fresh g flags entry mem = let k = (start g flags entry mem).machine in machine k.registers k.control mem

unfoldable pub plain_fresh : List ℕ → ℕ → ℕ → List ℕ → plain.Machine
plain_fresh g flags entry mem = plain.machine (plain_calls.start g flags entry mem).machine mem

-- a start of both machines
pub record Begins (g : List ℕ) (flags entry : ℕ) (mem : List ℕ) : Type 0 where
  -- both answer 1, 2, 4 or 0, exactly as the paper's conditions say
  pub answer : Answered (length mem) entry flags (start g flags entry mem).answer
  pub alike : (plain_calls.start g flags entry mem).answer ≡ (start g flags entry mem).answer
  -- an accepted plain machine has the registers, flags, entry and memory that it is given
  pub given : (start g flags entry mem).answer ≡ 0 → plain_fresh g flags entry mem ≡ plain.machine (plain.plain g entry flags 0 (record { size = length mem })) mem
  -- a refused start hands back a zeroed record
  pub refused : (start g flags entry mem).answer ≢ 0
      → ((start g flags entry mem).machine ≡ zeroed) × ((plain_calls.start g flags entry mem).machine ≡ plain_calls.zeroed)

-- 2 plus the durations of the plain machine's first k instructions
unfoldable pub sums : plain.Machine → ℕ → ℕ
sums p k = 2 + durations p k

-- the three sums after the plain machine's first k instructions: the start's plus theirs
unfoldable pub sums_there : plain.Machine → ℕ → Sums
sums_there p k = plus start_sums (added p k)

-- at total t, with k instructions retired: the start's are counted when its refill ends
unfoldable pub sums_at : plain.Machine → ℕ → ℕ → Sums
sums_at p t k = pick (ltb t 2) no_sums (sums_there p k)

-- the plain machine stops with q, and its stop total is t
pub record Stops (p : plain.Machine) (t q : ℕ) : Type 0 where
  pub k : ℕ
  pub does : Does p k
  pub total : sums p k ≡ t
  pub stop : stop_met (trace p k) ≡ q
  pub real : q ≢ 0

-- the least sum not below t is t + d
pub record Distance (p : plain.Machine) (t d : ℕ) : Type 0 where
  pub k : ℕ
  pub does : Does p k
  pub sum : t + d ≡ sums p k
  pub least : (j : ℕ) → t ≤ sums p j → sums p k ≤ sums p j

-- ---- a list of calls

-- a run, with the memory that it is lent and its budget, or settle, with the memory
pub data Call : Type 0 where
  running : List ℕ → ℕ → Call
  settling : List ℕ → Call

-- the bytes that a call is lent
abbrev pub lent_to : Call → List ℕ
lent_to (running mem budget) = mem
lent_to (settling mem) = mem

-- the core of m, lent these bytes
abbrev pub lend : Machine → List ℕ → Machine
lend m mem = machine m.registers m.control mem

-- the call on the core of m: the memory is the call's and not m's
abbrev pub call : Call → Machine → Ran Machine
call (running mem budget) m = run (length mem) budget (lend m mem)
call (settling mem) m = settle (length mem) (lend m mem)

pub record Reply : Type 0 where
  pub answer : ℕ
  pub used : ℕ

abbrev pub reply : ℕ → ℕ → Reply
reply answer used = record { answer = answer; used = used }

abbrev pub reply_of : Ran Machine → Reply
reply_of r = reply r.answer r.used

-- a run that the rules accept at total t, after a start with n bytes
pub record RunAccepted (n t : ℕ) (mem : List ℕ) (budget : ℕ) : Type 0 where
  pub lent : length mem ≡ n
  pub small : budget ≤ 1000000
  pub near : t + budget ≤ 2 ^ 40

-- and such a settle, where the distance to a boundary is d
pub record SettleAccepted (p : plain.Machine) (n t : ℕ) (mem : List ℕ) (d : ℕ) : Type 0 where
  pub lent : length mem ≡ n
  pub distance : Distance p t d
  pub near : t + d ≤ 2 ^ 40

-- a call that the rules accept, and one that they refuse
abbrev pub Accepted : plain.Machine → ℕ → ℕ → Call → Type 0
Accepted p n t (running mem budget) = RunAccepted n t mem budget
Accepted p n t (settling mem) = (d : ℕ) × SettleAccepted p n t mem d

abbrev pub Refused : plain.Machine → ℕ → ℕ → Call → Type 0
Refused p n t c = Accepted p n t c → ⊥

-- the calls of a list, one after the other, each on the core that the one before handed back: from m and t, with these replies, to m' and t'.
-- m is the core with its one memory, t the total: the cycles that accepted calls said they used
pub data Calls (p : plain.Machine) (n : ℕ) : Machine → ℕ → List Call → List Reply → Machine → ℕ → Type 0 where
  no_calls : {m : Machine} {t : ℕ} → Calls p n m t [] [] m t
  -- an accepted call is lent the memory as the accepted one before left it
  accepted : {m m' : Machine} {t t' : ℕ} {c : Call} {cs : List Call} {rs : List Reply} → Accepted p n t c → lent_to c ≡ m.memory
      → Calls p n (call c m).machine (t + (call c m).used) cs rs m' t' → Calls p n m t (c ∷ cs) (reply_of (call c m) ∷ rs) m' t'
  -- a refused call is lent any bytes, and the memory stays
  refused : {m m' : Machine} {t t' : ℕ} {c : Call} {cs : List Call} {rs : List Reply} → Refused p n t c
      → Calls p n (lend (call c m).machine m.memory) t cs rs m' t' → Calls p n m t (c ∷ cs) (reply_of (call c m) ∷ rs) m' t'

-- ---- what the calls answer

-- at total t with stop q answered (0: none), a call answers this, and total and stop are then those at the end
pub data Answers (p : plain.Machine) (n t q : ℕ) : Call → Reply → ℕ → ℕ → Type 0 where
  -- the lent length isn't the start's
  other_length : {c : Call} → length (lent_to c) ≢ n → Answers p n t q c (reply 12 0) t q
  -- else the budget is above 1,000,000
  too_many : {mem : List ℕ} {budget : ℕ} → length mem ≡ n → 1000000 < budget → Answers p n t q (running mem budget) (reply 3 0) t q
  -- else total plus budget is above 2^40
  too_far : {mem : List ℕ} {budget : ℕ} → length mem ≡ n → budget ≤ 1000000 → 2 ^ 40 < t + budget → Answers p n t q (running mem budget) (reply 13 0) t q
  -- an accepted run repeats a stop answered earlier, with 0 cycles
  repeats : {mem : List ℕ} {budget : ℕ} → RunAccepted n t mem budget → q ≢ 0 → Answers p n t q (running mem budget) (reply q 0) t q
  -- else, if the stop total is below total plus budget, it answers the plain machine's stop and uses the difference
  stops : {mem : List ℕ} {budget : ℕ} → RunAccepted n t mem budget → q ≡ 0 → {t' q' : ℕ} → Stops p t' q' → t ≤ t' → t' < t + budget
      → Answers p n t q (running mem budget) (reply q' (t' - t)) t' q'
  -- else it answers 0 and uses its budget
  spends : {mem : List ℕ} {budget : ℕ} → RunAccepted n t mem budget → q ≡ 0 → {t' : ℕ} → t' ≡ t + budget → ((t'' q'' : ℕ) → Stops p t'' q'' → t' ≤ t'')
      → Answers p n t q (running mem budget) (reply 0 budget) t' 0
  -- a settle: else total plus the distance to a boundary is above 2^40
  boundary_too_far : {mem : List ℕ} → length mem ≡ n → {d : ℕ} → Distance p t d → 2 ^ 40 < t + d → Answers p n t q (settling mem) (reply 13 0) t q
  -- an accepted settle uses the distance, finds no stop, and answers one answered earlier, or 0
  settles : {mem : List ℕ} {d : ℕ} → SettleAccepted p n t mem d → Answers p n t q (settling mem) (reply q d) (t + d) q

pub data AllAnswer (p : plain.Machine) (n : ℕ) : ℕ → ℕ → List Call → List Reply → ℕ → ℕ → Type 0 where
  none : {t q : ℕ} → AllAnswer p n t q [] [] t q
  more : {t q t₁ q₁ t₂ q₂ : ℕ} {c : Call} {r : Reply} {cs : List Call} {rs : List Reply}
      → Answers p n t q c r t₁ q₁ → AllAnswer p n t₁ q₁ cs rs t₂ q₂ → AllAnswer p n t q (c ∷ cs) (r ∷ rs) t₂ q₂

-- no reply has this answer
pub data Never (answer : ℕ) : List Reply → Type 0 where
  never_none : Never answer []
  never_more : {r : Reply} {rs : List Reply} → r.answer ≢ answer → Never answer rs → Never answer (r ∷ rs)

-- ---- what the calls leave

-- the greatest k for which the plain machine does k instructions before its stop and their durations plus 2 don't pass t, or 0
pub record Greatest (p : plain.Machine) (t k : ℕ) : Type 0 where
  pub fits : (Does p k × (sums p k ≤ t)) ⊎ (k ≡ 0)
  pub most : (j : ℕ) → Does p j → sums p j ≤ t → j ≤ k

-- what the list leaves, at total t with stop q answered
pub record Leaves (p : plain.Machine) (m₀ m : Machine) (t q : ℕ) : Type 0 where
  -- what t cycles leave, holding the stop
  pub is : m ≡ holding (reach m₀ t) q
  -- as many registers and bytes as at the start
  pub lengths : (length m.registers ≡ length m₀.registers) × (length m.memory ≡ length m₀.memory)
  -- no bad record
  pub good : bad m ≡ false
  pub cycles : m.control.counts.cycles ≡ t
  pub stop : m.control.stop ≡ q
  pub retired : Greatest p t m.control.counts.retired
  -- the cycles counted are the durations of the instructions done and the steps under way
  pub counted : t ≡ durations p m.control.counts.retired + lead m
  -- the three sums are those of the last retirement
  pub three_sums : m.control.counts.sums ≡ sums_at p t m.control.counts.retired
  -- never more than 19 cycles from a boundary
  pub distance : (d : ℕ) × Distance p t d × (d ≤ 19)
  -- a boundary exactly where t is a sum: there registers, flags, PC less 8 and memory are the plain machine's, and the three sums the start's with its instructions'
  pub there : (k : ℕ) → Does p k → sums p k ≡ t → m ≡ holding (boundary (trace p k) (counts t k (sums_there p k))) q
  pub only : m.control.phase ≡ Step1 → (k : ℕ) × Does p k × (sums p k ≡ t)
  -- where N+S+I equals the cycles
  pub timed : m.control.phase ≡ Step1 → total m.control.counts.sums ≡ t

-- what any call after the list does, whatever it is lent
pub record Further (p : plain.Machine) (n t : ℕ) (m : Machine) (c : Call) : Type 0 where
  -- a refused one hands back the core, and the bytes that it was lent, as they were
  pub kept : Refused p n t c → (call c m).machine ≡ lend m (lent_to c)
  -- the core's cycles rise by those that it says it used
  pub rises : (call c m).machine.control.counts.cycles ≡ m.control.counts.cycles + (call c m).used

-- the last call is a settle that was accepted: settle has no refusals here but 12 and 13
pub data EndsSettled : List Call → List Reply → Type 0 where
  at_last : {mem : List ℕ} {r : Reply} → r.answer ≢ 12 → r.answer ≢ 13 → EndsSettled (settling mem ∷ []) (r ∷ [])
  later_on : {c : Call} {cs : List Call} {r : Reply} {rs : List Reply} → EndsSettled cs rs → EndsSettled (c ∷ cs) (r ∷ rs)

-- what a list of calls from a start with n bytes, of the plain machine p and the core m₀, comes to
pub record Follows (p : plain.Machine) (m₀ : Machine) (n : ℕ) (cs : List Call) (rs : List Reply) (m : Machine) (t : ℕ) : Type 0 where
  -- the stop answered, or 0
  pub stop : ℕ
  pub answers : AllAnswer p n 0 0 cs rs t stop
  -- 11 doesn't come up
  pub never : Never 11 rs
  pub leaves : Leaves p m₀ m t stop
  -- the cycles left are the distance to a boundary, and an accepted settle, which does them, ends the list on it
  pub distance : Distance p t (cycles_left m)
  pub on_boundary : EndsSettled cs rs → m.control.phase ≡ Step1
  pub further : (c : Call) → Further p n t m c

pub record Term3 : Type 0 where
  pub starts : (g : List ℕ) (flags entry : ℕ) (mem : List ℕ) → Begins g flags entry mem
  pub lists : (g : List ℕ) (flags entry : ℕ) (mem : List ℕ) → (start g flags entry mem).answer ≡ 0
      → (cs : List Call) (rs : List Reply) (m : Machine) (t : ℕ) → Calls (plain_fresh g flags entry mem) (length mem) (fresh g flags entry mem) 0 cs rs m t
      → Follows (plain_fresh g flags entry mem) (fresh g flags entry mem) (length mem) cs rs m t
