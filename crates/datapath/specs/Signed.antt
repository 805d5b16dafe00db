-- The signed values that words stand for, as integers.
use Rattle.std.specs.Prelude.{ℕ, ◌^◌, Bool, ◌&&◌, ℤ, pos, int_le, int_lt, nat_lt}
use Rattle.std.proofs.Math.IntN.{sub_ℕ}
use Rattle.bits.specs.Choice.{pick}

-- two's complement: a word from 2^31 on stands for 2^32 less
abbrev pub signed_value : ℕ → ℤ
signed_value w = pick (nat_lt w (2 ^ 31)) (pos w) (sub_ℕ w (2 ^ 32))

-- an integer that a word stands for: from -2^31 on, and below 2^31
abbrev pub in_range : ℤ → Bool
in_range z = int_le (sub_ℕ 0 (2 ^ 31)) z && int_lt z (pos (2 ^ 31))
