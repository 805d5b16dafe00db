-- Term 3 for the C calls: every list of them is a list of the core's calls, on arrays.
use Rattle.std.specs.Prelude.{ℕ, ◌+◌, ◌≡◌, List, [], ◌∷◌, length}
use Rattle.plain.specs.Machine as plain
use Rattle.plain.specs.Starts.{Answered}
use Rattle.cycle.specs.Machine.{Machine}
use Rattle.pipeline.specs.Calls.{core}
use Rattle.pipeline.specs.Term3.{fresh, plain_fresh, Call, running, settling, lent_to, call, Reply, reply, Accepted, Refused, Calls, Follows}
use Rattle.core_arrays.specs.CoreArray.{packed}
use Rattle.array_calls.specs.Calls.{Called, core_start, core_called, core_run, core_settle}

abbrev pub core_call : Call → List ℕ → Called
core_call (running mem budget) words = core_run words mem budget
core_call (settling mem) words = core_settle words mem

abbrev pub core_reply : Called → Reply
core_reply r = reply r.answer r.used

-- the C calls of a list, one after the other, each on the array that the one before left, as `Calls` in the pipeline's Term3. mem is the
-- core's one memory, t the total: the cycles that accepted calls said they used
pub data CoreCalls (p : plain.Machine) (n : ℕ) : List ℕ → List ℕ → ℕ → List Call → List Reply → List ℕ → List ℕ → ℕ → Type 0 where
  no_core_calls : {words mem : List ℕ} {t : ℕ} → CoreCalls p n words mem t [] [] words mem t
  -- an accepted call is lent the memory as the accepted one before left it
  core_accepted : {words words' mem mem' : List ℕ} {t t' : ℕ} {c : Call} {cs : List Call} {rs : List Reply} → Accepted p n t c → lent_to c ≡ mem
      → CoreCalls p n (core_call c words).words (core_call c words).memory (t + (core_call c words).used) cs rs words' mem' t'
      → CoreCalls p n words mem t (c ∷ cs) (core_reply (core_call c words) ∷ rs) words' mem' t'
  -- a refused call is lent any bytes, and the memory stays
  core_refused : {words words' mem mem' : List ℕ} {t t' : ℕ} {c : Call} {cs : List Call} {rs : List Reply} → Refused p n t c
      → CoreCalls p n (core_call c words).words mem t cs rs words' mem' t' → CoreCalls p n words mem t (c ∷ cs) (core_reply (core_call c words) ∷ rs) words' mem' t'

-- array and memory are those of the core m. Any call after the list does what the core's does; a refused one leaves the array and the bytes it was lent
pub record Packs (p : plain.Machine) (n t : ℕ) (m : Machine) (words mem : List ℕ) : Type 0 where
  pub array : words ≡ packed (core m.registers m.control)
  pub memory : mem ≡ m.memory
  pub further : (c : Call) → core_call c words ≡ core_called (call c m)
  pub kept : (c : Call) → Refused p n t c → ((core_call c words).words ≡ words) × ((core_call c words).memory ≡ lent_to c)

-- what a list of C calls comes to: the same list of the core's calls with the same replies and total, to which term 3 applies, on the array of its core
pub record CoreFollows (g : List ℕ) (flags entry : ℕ) (mem : List ℕ) (cs : List Call) (rs : List Reply) (words mem' : List ℕ) (t : ℕ) : Type 0 where
  pub machine : Machine
  pub calls : Calls (plain_fresh g flags entry mem) (length mem) (fresh g flags entry mem) 0 cs rs machine t
  pub follows : Follows (plain_fresh g flags entry mem) (fresh g flags entry mem) (length mem) cs rs machine t
  pub packs : Packs (plain_fresh g flags entry mem) (length mem) t machine words mem'

pub record CoreLists : Type 0 where
  -- a start answers 1, 2, 4 or 0, exactly as the paper's conditions say
  pub starts : (g : List ℕ) (flags entry : ℕ) (mem : List ℕ) → Answered (length mem) entry flags (core_start g flags entry mem).answer
  pub lists : (g : List ℕ) (flags entry : ℕ) (mem : List ℕ) → length g ≡ 15 → (core_start g flags entry mem).answer ≡ 0
      → (cs : List Call) (rs : List Reply) (words mem' : List ℕ) (t : ℕ)
      → CoreCalls (plain_fresh g flags entry mem) (length mem) (core_start g flags entry mem).words mem 0 cs rs words mem' t
      → CoreFollows g flags entry mem cs rs words mem' t
