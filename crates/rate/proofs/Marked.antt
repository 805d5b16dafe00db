-- The marked values, by computing. Assumes nothing.
use Rattle.std.proofs.Common.{refl}
use Rattle.text.specs.Text.{hex_digits, decimal_digits}
use Rattle.link.specs.Window.{bad_window}
use Rattle.rate.specs.Request.{rises, refused}
use Rattle.rate.specs.Figures.{chosen}
use Rattle.rate.specs.Texts.{end_lines, count_lines, time_lines, gap_lines, rate_line, head, overflow_told, option_line, last_lines, option_lines}
use Rattle.rate.specs.Marked.{Limits, Choices, Outcomes, Texts}

pub limits : Limits
unfolding rises refused bad_window
limits = record {
  clock_least = refl;
  clock_most = refl;
  clock_below = refl;
  clock_above = refl;
  option_least = refl;
  option_most = refl;
  options_most = refl;
  option_below = refl;
  option_above = refl;
  twice = refl;
  falling = refl;
  no_option = refl;
  too_many = refl;
  unasked = refl;
  words_least = refl;
  words_most = refl;
  words_below = refl;
  words_above = refl;
  cycles_least = refl;
  cycles_most = refl;
  cycles_below = refl;
  cycles_above = refl;
  fits = refl;
  outside = refl;
  first = refl;
  second = refl;
  third = refl;
  fourth = refl;
  fifth = refl;
  last = refl;
}

pub choices : Choices
unfolding chosen
choices = record { least = refl; none = refl; unasked = refl }

pub outcomes : Outcomes
outcomes = record { spent = refl; at_end = refl; no_end = refl; elsewhere = refl; one = refl; no_store = refl }

pub texts : Texts
unfolding hex_digits decimal_digits end_lines count_lines time_lines gap_lines rate_line head overflow_told option_line last_lines option_lines
texts = record { stopped = refl; blank = refl; spent = refl; growing = refl; over = refl; none = refl; all = refl }
