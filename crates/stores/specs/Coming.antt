-- The stores as the core does them: what its coming cycle stores, and what a number of cycles stored.
use Rattle.std.specs.Prelude.{ℕ, zero, suc, ◌+◌, ◌≡◌, Option, Some, None, List, [], ◌∷◌, ◌++◌}
use Rattle.word.specs.declared.Instruction.{Instruction}
use Rattle.word.specs.Reader.{read_of}
use Rattle.memory.specs.Memory.{write_word, write_byte}
use Rattle.semantics.specs.Sums.{ticks}
use Rattle.steps.specs.declared.Phase.{Phase}
use Rattle.steps.specs.declared.Phase.TheVariants.{Step1, Refill1, Refill2, Later}
use Rattle.cycle.specs.Machine.{Machine, lent}
use Rattle.cycle.specs.Cycle.{cycle}
use Rattle.link.specs.declared.Store.{Store}
use Rattle.link.specs.Window.{store}
use Rattle.stores.specs.declared.Write.{Write}
use Rattle.stores.specs.Writes.{left, width, place, first_tick}

-- so many bytes, at an address
abbrev pub write_of : ℕ → ℕ → Write
write_of bytes address = record { bytes = bytes; address = address }

-- the first of so many stores that are left, of this width
abbrev pub first_of : ℕ → ℕ → ℕ → Write
first_of zero bytes a = write_of 0 0
first_of (suc n) bytes a = write_of bytes (place bytes a)

-- step k + 2 of an instruction, with this in the address latch
abbrev pub stores_in : Instruction → ℕ → ℕ → Write
stores_in i k a = first_of (left i k) (width i) a

-- step 1 and the refills store nothing
abbrev pub coming_in : Phase → Option ℕ → ℕ → Write
coming_in Step1 x a = write_of 0 0
coming_in Refill1 x a = write_of 0 0
coming_in Refill2 x a = write_of 0 0
coming_in (Later k) None a = write_of 0 0
coming_in (Later k) (Some w) a = stores_in (read_of w) k a

-- what the coming cycle stores: 0, 1 or 4 bytes
unfoldable pub coming : Machine → Write
coming m = coming_in m.control.phase m.control.pipe.ix m.control.latches.address

-- the steps done before it in its instruction, beyond the first
abbrev pub steps_done : Phase → ℕ
steps_done Step1 = 0
steps_done Refill1 = 0
steps_done Refill2 = 0
steps_done (Later k) = k

abbrev pub told_bytes : ℕ → ℕ → ℕ → ℕ → List Store
told_bytes zero a cycle tick = []
told_bytes (suc b) a cycle tick = store cycle tick a (suc b) ∷ []

-- a store, where there are bytes
abbrev pub told : Write → ℕ → ℕ → List Store
told w cycle tick = told_bytes w.bytes w.address cycle tick

-- what it stores, in its cycle, and in its tick: those of all that retired, and of the own steps up to and with the write
unfoldable pub stored_by : Machine → List Store
stored_by m =
    let n = m.control.counts in
    told (coming m) (suc n.cycles) (ticks n.sums + first_tick + steps_done m.control.phase)

-- what t cycles from m on store
unfoldable pub stored : Machine → ℕ → List Store
stored m zero = []
stored m (suc t) = stored_by m ++ stored (cycle m) t

-- the memory after so many bytes of the data latch are written where the address latch says
abbrev pub written : ℕ → Machine → List ℕ
written zero m = m.memory
written (suc zero) m = (write_byte (lent m) m.control.latches.address m.control.latches.datum).bytes
written (suc (suc n)) m = (write_word (lent m) m.control.latches.address m.control.latches.datum).bytes

-- on every record, also on one that no start leads to: a cycle writes what is said here, and nothing else
abbrev pub WritesSo : Type 0
WritesSo = (m : Machine) → (cycle m).memory ≡ written (coming m).bytes m
