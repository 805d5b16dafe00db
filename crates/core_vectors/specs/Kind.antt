-- What a call does.
use Rattle.std.specs.Prelude.{ℕ, zero, suc}
use Rattle.core_vectors.specs.declared.call.Kind.{Kind}
use Rattle.core_vectors.specs.declared.call.Kind.TheVariants.{Run, Settle}

-- 0 runs; any other number settles
abbrev pub kind_of : ℕ → Kind
kind_of zero = Run
kind_of (suc n) = Settle
