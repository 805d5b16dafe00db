-- What a scale is good for, a second road to it: it keeps the order, and a span's ends are the whole's. Marked places beside it.
use Rattle.std.specs.Prelude.{ℕ, ◌*◌, ◌^◌, ◌<◌, ◌≤◌, ◌≡◌}
use Rattle.picture.specs.declared.span.Span.{Span}
use Rattle.picture.specs.declared.panel.Panel.{Panel}
use Rattle.picture.specs.Scale.{length, part, part_above, x, y, nanoseconds, ticks}

pub record Order (s : Span) (whole : ℕ) : Type 0 where
  pub keeps : (a b : ℕ) → a ≤ b → part s a whole ≤ part s b whole
  pub first : part s s.from whole ≡ 0
  pub last : s.from < s.to → length s * whole < 2 ^ 64 → part s s.to whole ≡ whole

abbrev pub span : ℕ → ℕ → Span
span from to = record { from = from; to = to }

-- 600 wide from 88, 264 high from 227; ticks 100 to 700, bits 0 to 1,100
abbrev pub panel : Panel
panel = record { left = 880; top = 2270; width = 6000; height = 2640; across = span 100 700; up = span 0 1100 }

pub record Marked : Type 0 where
  -- a quarter, below, above, of an empty span
  pub quarter : part (span 100 700) 250 6000 ≡ 1500
  pub below : part (span 100 700) 99 6000 ≡ 0
  pub above : part (span 100 700) 701 6000 ≡ 6000
  pub empty : part (span 5 5) 5 6000 ≡ 0
  -- a quarter above it, and no further than as far again
  pub beyond : part_above (span 100 700) 850 6000 ≡ 7500
  pub far : part_above (span 100 700) 9000 6000 ≡ 12000
  -- tick 400 in the middle; no bits at the bottom, 550 in the middle, 1,100 at the top
  pub across : x panel 400 ≡ 3880
  pub bottom : y panel 0 ≡ 4910
  pub middle : y panel 550 ≡ 3590
  pub top : y panel 1100 ≡ 2270
  -- tick 684 at 8 MHz is at 85.5 µs
  pub time : nanoseconds 684 8000000 ≡ 85500
  pub clock : ticks 85500 8000000 ≡ 684
