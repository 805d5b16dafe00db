-- A core with a value of its own in each place that a report tells.
use Rattle.std.specs.Prelude.{ℕ, List, [], ◌∷◌, None}
use Rattle.cycle.specs.declared.Control.{Control}
use Rattle.semantics.specs.Sums.{nsi}
use Rattle.cycle.specs.Machine.{pipe, counts}
use Rattle.pipeline.specs.Calls.{zeroed}

-- R0 to R14
abbrev pub registers : List ℕ
registers =
    0x01234567 ∷ 0x89ABCDEF ∷ 2 ∷ 3 ∷ 4 ∷ 5 ∷ 6 ∷ 7 ∷ 8 ∷ 9 ∷ 0xA ∷ 0xB ∷ 0xC ∷ 0xD ∷ 0xFFFFFFFF ∷ []

-- flags 10, at cycle 2^40
abbrev pub held : Control
held = record { flags = 10; pipe = pipe 0x3FFFFFC None None None; phase = zeroed.control.phase; latches = zeroed.control.latches; counts = counts 0x10000000000 987654321 (nsi 0x8000000000 123456789 1000); stop = 0; board = record { size = 16 } }
