-- 21 and 22, and what a failed condition hides, by computation on the definitions.
-- Assumes nothing.
use mathlib.Core.Path.{refl}
use Rattle.bits.specs.Bits.{field, bit}
use Rattle.word.specs.Reader.{read_of}
use Rattle.condition.specs.Condition.{passes}
use Rattle.stops.specs.Rules.{rule_broken}
use Rattle.stops.specs.Stops.{due, stop_of, stop_for}
use Rattle.stops.specs.Hidden.{Hidden}

pub hidden : Hidden
unfolding field bit read_of passes rule_broken due stop_of stop_for
hidden = record {
  no_word_there = λ s. refl;
  other = λ g f mem. refl;
  failed = λ g f mem e. rw e refl;
  never_done = λ g f mem. refl;
  passed = λ g f mem e. (rw e refl, rw e refl);
}
