-- What a call writes of a line is the line; so the calls are the writer and the reader. Assumes nothing.
use mathlib.Core.Path.{◌≡◌, refl, ap, ◌∙◌}
use mathlib.Core.List.{List, ◌++◌}
use Prim.Native.Nat.{ℕ, zero, suc}
use lib.ListN.{length, take, drop}
use Rattle.std.proofs.lemmas.List.{take_at}
use Rattle.intel_hex.specs.RoundTrip as lines
use Rattle.intel_hex.specs.Writer.{write}
use Rattle.intel_hex.proofs.RoundTrip.{round-trip}
use Rattle.intel_hex.proofs.Refusals.{refuses, writes}
use Rattle.slot.specs.Hex.{read_as, hex_read, line_as, hex_line}
use Rattle.slot.specs.HexTrip.{file, HexTrip}

written : (mem out : List ℕ) (n : ℕ) → take (hex_line mem n out).written (hex_line mem n out).out ≡ (write mem n).text
written mem out n = take_at (write mem n).text (drop (length (write mem n).text) out) (length (write mem n).text) refl

same-file : (mem out : List ℕ) (n : ℕ) → file mem out n ≡ lines.file mem n
unfolding file lines.file
same-file mem out zero = refl
same-file mem out (suc n) = ap (λ t. t ++ take (hex_line mem n out).written (hex_line mem n out).out) (same-file mem out n) ∙ ap (λ t. lines.file mem n ++ t) (written mem out n)

pub hex-trip : (mem : List ℕ) → HexTrip mem
hex-trip mem =
    record {
      same = λ lent out n b good long enough.
          ap (λ t. hex_read t lent) (same-file mem out n) ∙ ap (λ r. read_as r.answer r.memory) (round-trip mem lent n b good long enough);
      not_read = λ text bad. ap (λ r. read_as r.answer r.memory) ((refuses text mem).length_bad bad);
      not_written = λ out number bad.
          ap (λ w. line_as w.answer (length w.text) (w.text ++ drop (length w.text) out)) ((writes mem number).length_bad bad);
    }
