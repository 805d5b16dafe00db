-- What the coming cycle of an array's core stores.
use Rattle.std.specs.Prelude.{ℕ, ◌&&◌, List, eqb}
use Rattle.bits.specs.Choice.{pick}
use Rattle.stores.specs.declared.Write.{Write}
use Rattle.stores.specs.Coming.{write_of, coming}
use Rattle.core_arrays.specs.CoreArray as core_array
use Rattle.array_calls.specs.Calls.{core_machine}

-- nothing where the array stands for no core or holds a stop; the memory that the cycle is lent is no matter
unfoldable pub core_store : List ℕ → List ℕ → Write
core_store words mem =
    let c = core_array.unpacked words in
    pick (core_array.stands_for_core words && eqb c.control.stop 0) (coming (core_machine c mem)) (write_of 0 0)
