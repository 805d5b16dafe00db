-- 21 and 22, and what a failed condition hides (paper 01, "Plain machine"): marked words at 20, in every state of the registers.
use Rattle.std.specs.Prelude.{ℕ, ◌≡◌, true, false, List, [], ◌∷◌, map, Some, None}
use Rattle.bits.specs.Bits.{bit}
use Rattle.memory.specs.Memory.{Memory}
use Rattle.registers.specs.State.{State, state}
use Rattle.stops.specs.Stops.{stop_for}

abbrev pub at20 : List ℕ → ℕ → Memory → ℕ → ℕ
at20 g f mem word = stop_for (Some word) (state g f 0x20 mem)

-- each of these words has the stop q
abbrev pub AllMeet : ℕ → List ℕ → ℕ → Memory → List ℕ → Type 0
AllMeet q g f mem words = map (at20 g f mem) words ≡ map (λ word. q) words

-- words that meet 22, 23, 24, 25 and none in some state, with condition EQ, and the same with condition never:
-- SWI; MOV R0, R1, LSL R15; LDR R0, [R1]; STMIA R1, {R0, R2}; B
abbrev pub equal : List ℕ
equal = 0x0F000000 ∷ 0x01A00F11 ∷ 0x05910000 ∷ 0x08810005 ∷ 0x0A000000 ∷ []

abbrev pub never : List ℕ
never = 0xFF000000 ∷ 0xF1A00F11 ∷ 0xF5910000 ∷ 0xF8810005 ∷ 0xFA000000 ∷ []

pub record Hidden : Type 0 where
  -- 21 where there is no word
  pub no_word_there : (s : State) → stop_for None s ≡ 21
  -- 22 Other: SWI; SWP and the other neighbours of multiply, with one bit of 27..22 or of 7..4 that is not multiply's; a single with bit 4 set; a
  -- coprocessor's load and operation
  pub other : (g : List ℕ) (f : ℕ) (mem : Memory)
      → AllMeet 22 g f mem (0xEF000000 ∷ 0xE1010092 ∷ 0xE0400291 ∷ 0xE0800291 ∷ 0xE1000291 ∷ 0xE00002B1 ∷ 0xE00002D1 ∷ 0xE7910012 ∷ 0xED910000 ∷ 0xEE000000 ∷ [])
  -- if the condition fails, none of 22 to 25
  pub failed : (g : List ℕ) (f : ℕ) (mem : Memory) → bit f 2 ≡ false → AllMeet 0 g f mem equal
  pub never_done : (g : List ℕ) (f : ℕ) (mem : Memory) → AllMeet 0 g f mem never
  -- if it passes, the word's own
  pub passed : (g : List ℕ) (f : ℕ) (mem : Memory) → bit f 2 ≡ true → (at20 g f mem 0x0F000000 ≡ 22) × (at20 g f mem 0x01A00F11 ≡ 23)
