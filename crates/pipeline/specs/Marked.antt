-- The marked values, one theorem: those of the shifter and the ALU, those of stops and of instructions, and the report.
use Rattle.std.specs.Prelude.{ℕ, ◌≡◌, List, [], ◌∷◌, length, replicate}
use Rattle.datapath.specs.Marked as datapath
use Rattle.stops.specs.Marked as stops
use Rattle.semantics.specs.Sums.{ticks}
use Rattle.semantics.specs.Marked as semantics
use Rattle.cycle.specs.Machine.{Machine, machine}
use Rattle.plain.specs.Running.{Ran}
use Rattle.pipeline.specs.Calls.{start, run}

-- words E3A00005 E2500001 1AFFFFFD EF000000
abbrev pub image : List ℕ
image =
    0x05 ∷ 0x00 ∷ 0xA0 ∷ 0xE3 ∷ 0x01 ∷ 0x00 ∷ 0x50 ∷ 0xE2 ∷
    0xFD ∷ 0xFF ∷ 0xFF ∷ 0x1A ∷ 0x00 ∷ 0x00 ∷ 0x00 ∷ 0xEF ∷ []

-- started at 0 with zero registers and flags, budget 64
abbrev pub reported : Ran Machine
reported =
    let core = (start (replicate 15 0) 0 0 image).machine in
    run (length image) 64 (machine core.registers core.control image)

pub record Report : Type 0 where
  pub answer : reported.answer ≡ 22
  pub pc : reported.machine.control.pipe.pc ≡ 0x14
  pub cycles : reported.machine.control.counts.cycles ≡ 21
  pub ticks : ticks reported.machine.control.counts.sums ≡ 26
  pub retired : reported.machine.control.counts.retired ≡ 11
  pub flags : reported.machine.control.flags ≡ 6
  pub registers : reported.machine.registers ≡ replicate 15 0

pub record Marked : Type 0 where
  pub datapath : datapath.Marked
  pub stops : stops.Marked
  pub instructions : semantics.Marked
  pub report : Report
