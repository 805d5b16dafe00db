-- What the lines left make of the memory so far is what all make of the first. The measure is what is left. Assumes nothing.
use Rattle.std.proofs.Common.{◌≡◌, ◌-◌, ◌≤◌, length, drop}
use Rattle.intel_hex.specs.Reader.{records, read_on}
use Rattle.intel_hex.proofs.reader.read_lines.Given as goal

abbrev pub invariant-loop-at : goal.invariant-loop-at
invariant-loop-at l =
    record {
      within : l.at ≤ length l.text;
      counted : l.line ≤ l.at;
      goes : read_on 0 0 l.initial.memory (records l.text) ≡ read_on l.line l.upper l.memory (records (drop l.at l.text));
    }

abbrev pub decreases-loop-at : goal.decreases-loop-at
decreases-loop-at l = length l.text - l.at
