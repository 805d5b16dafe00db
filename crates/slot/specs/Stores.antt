-- What the call tells of the coming cycle, and what a run of one cycle then writes.
use Rattle.std.specs.Prelude.{ℕ, ◌≡◌, false, List}
use Rattle.stores.specs.Coming.{written}
use Rattle.core_arrays.specs.CoreArray.{unpacked}
use Rattle.array_calls.specs.Calls.{is_refusal, core_machine, core_run}
use Rattle.slot.specs.Store.{core_store}

-- of any array and memory that a run of one cycle takes: it writes as many bytes of the data latch as were told, where the address latch says, and
-- nothing else; so it does where it finds or repeats a stop, of which no bytes are told
abbrev pub StoresSo : Type 0
StoresSo = (words mem : List ℕ) → is_refusal (core_run words mem 1).answer ≡ false
    → (core_run words mem 1).memory ≡ written (core_store words mem).bytes (core_machine (unpacked words) mem)
