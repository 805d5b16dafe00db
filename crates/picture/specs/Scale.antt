-- Where in a panel a number lies, and how long ticks are. Sums and products stay at 2^64-1 where they would pass it.
use Rattle.std.specs.Prelude.{ℕ, ◌+◌, ◌-◌, ◌*◌, ◌/◌, ◌^◌, min, max}
use Rattle.picture.specs.declared.span.Span.{Span}
use Rattle.picture.specs.declared.panel.Panel.{Panel}

abbrev pub capped : ℕ → ℕ
capped n = min n (2 ^ 64 - 1)

abbrev pub length : Span → ℕ
length s = s.to - s.from

-- the part of a whole that lies before so much of a span: an empty one counts as 1
abbrev pub share : Span → ℕ → ℕ → ℕ
share s inside whole = capped (inside * whole) / max (length s) 1

-- a value outside counts as the nearest number of the span
abbrev pub part : Span → ℕ → ℕ → ℕ
part s value whole = share s (min value s.to - s.from) whole

-- one above it counts up to as far again
abbrev pub part_above : Span → ℕ → ℕ → ℕ
part_above s value whole = share s (min (value - s.from) (capped (length s * 2))) whole

abbrev pub bottom : Panel → ℕ
bottom p = capped (p.top + p.height)

-- from left to right, and from the bottom up: y counts downwards
abbrev pub x : Panel → ℕ → ℕ
x p value = capped (p.left + part p.across value p.width)

abbrev pub y : Panel → ℕ → ℕ
y p value = bottom p - part p.up value p.height

-- without a clock a tick is a second
abbrev pub nanoseconds : ℕ → ℕ → ℕ
nanoseconds ticks clock = capped (ticks * 1000000000) / max clock 1

abbrev pub ticks : ℕ → ℕ → ℕ
ticks nanoseconds clock = capped (nanoseconds * clock) / 1000000000
