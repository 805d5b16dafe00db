-- The marked values, by computing. Assumes nothing.
use Rattle.std.proofs.Common.{refl}
use Rattle.link.specs.Window.{handed, bad_window}
use Rattle.link.specs.Summary.{noted}
use Rattle.link.specs.Rate.{rate}
use Rattle.link.specs.Buffer.{levels_from, greatest_of, grows, overflow_from}
use Rattle.link.specs.Marked.{Marked}

pub marked : Marked
unfolding handed bad_window noted rate levels_from greatest_of grows overflow_from
marked = record {
  alone = refl;
  second = refl;
  third = refl;
  bytes = refl;
  anew = refl;
  capped = refl;
  frame = refl;
  tenth = refl;
  bit_more = refl;
  no_rate = refl;
  late = refl;
  same_tick = refl;
  no_store = refl;
  full = refl;
  over = refl;
  goes_on = refl;
  growing = refl;
  grown = refl;
  odd = refl;
  drained = refl;
  rounded_up = refl;
  carried = refl;
  not_over = refl;
  not_growing = refl;
  ends = refl;
  from_off = refl;
  to_off = refl;
  empty = refl;
  reversed = refl;
  one = refl;
  whole = refl;
  beyond = refl;
}
