-- After k pairs: all are digits where the worst so far is one's value and those left are; and then the sum so far with the bytes left is that of
-- all, and memory has the bytes so far. Assumes nothing.
use Rattle.std.proofs.Common.{◌≡◌, ◌+◌, ◌*◌, ◌%◌, ◌<◌, ◌&&◌, take, drop, sum, ◌++◌}
use Rattle.intel_hex.specs.Record.{all_digits, bytes_of}
use Rattle.intel_hex.proofs.Pairs.{well}
use Rattle.intel_hex.proofs.digits.decode.Given as goal

abbrev pub invariant-loop-k : goal.invariant-loop-k
invariant-loop-k l =
    let left = drop (2 * l.k) l.digits in
    record {
      digits : all_digits l.digits ≡ (well l.worst && all_digits left);
      summed : l.worst < 16 → (l.sum + sum (bytes_of left)) % 256 ≡ sum (bytes_of l.digits) % 256;
      held : l.worst < 16 → take l.k l.into ++ bytes_of left ≡ bytes_of l.digits;
    }
