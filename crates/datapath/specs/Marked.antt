-- The marked values of shifts, flags and R15 words (paper 01, "Marked values, proved together").
use Rattle.std.specs.Prelude.{◌≡◌, Bool, true, false}
use Rattle.datapath.specs.Shifter.{shifted, by_register, by_amount, constant}
use Rattle.datapath.specs.Alu.{operate, flags_of}
use Rattle.datapath.specs.Counter.{ahead, r15_word}

-- at any carry s of the shifter, and any flags C and V where none is said
pub record Marked : Type 0 where
  -- SUBS 1-1: flags 6.
  pub subs_equal : (s c v : Bool) → flags_of (operate 2 1 1 s c v) ≡ 6
  -- 0-1: 8.
  pub subs_borrow : (s c v : Bool) → flags_of (operate 2 0 1 s c v) ≡ 8
  -- 80000000-1: 3.
  pub subs_overflow : (s c v : Bool) → flags_of (operate 2 0x80000000 1 s c v) ≡ 3
  -- ADDS 7FFFFFFF+1: 9.
  pub adds_overflow : (s c v : Bool) → flags_of (operate 4 0x7FFFFFFF 1 s c v) ≡ 9
  -- LSR 0 on 80000001: 0, carry 1.
  pub lsr_0 : (c : Bool) → by_amount 1 0x80000001 0 c ≡ shifted 0 true
  -- ROR 0 on 2, C=1: 80000001, carry 0.
  pub ror_0 : by_amount 3 2 0 true ≡ shifted 0x80000001 false
  -- LSL by register of 1: by 20 carry 1, by 21 carry 0, both 0.
  pub lsl_20 : (c : Bool) → by_register 0 1 0x20 c ≡ shifted 0 true
  pub lsl_21 : (c : Bool) → by_register 0 1 0x21 c ≡ shifted 0 false
  -- Constant 4FF: FF000000, carry 1.
  pub constant_4FF : (c : Bool) → constant 4 0xFF c ≡ shifted 0xFF000000 true
  -- At 20, flags 6: link 60000024, R15 stored 6000002C.
  pub link : r15_word 6 (ahead 0x20 4) ≡ 0x60000024
  pub stored : r15_word 6 (ahead 0x20 12) ≡ 0x6000002C
