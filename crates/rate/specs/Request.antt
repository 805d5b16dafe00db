-- What is asked, and what of it is refused.
use Rattle.std.specs.Prelude.{ℕ, ◌^◌, Bool, true, not, ◌&&◌, List, [], ◌∷◌, Option, Some, None, take, ltb, leb}
use Rattle.bits.specs.Choice.{pick}
use Rattle.memory.specs.Lengths.{bad_length}
use Rattle.link.specs.declared.Line.{Line}
use Rattle.link.specs.Window.{window, bad_window}
use Rattle.rate.specs.declared.Request.{Request}
use Rattle.rate.specs.declared.Refusal.{Refusal}
use Rattle.rate.specs.declared.Refusal.TheVariants.{Length, Window, Clock, Options, Buffer, Cycles}

-- ticks of a second
abbrev pub most_clock : ℕ
most_clock = 1000000000

-- of an option, in kb/s
abbrev pub most_kilobits : ℕ
most_kilobits = 10000000

abbrev pub most_options : ℕ
most_options = 32

-- of a buffer
abbrev pub most_words : ℕ
most_words = 2 ^ 20

-- of a run
abbrev pub most_cycles : ℕ
most_cycles = 500000000

-- from 1 to the most
abbrev pub within : ℕ → ℕ → Bool
within most n = leb 1 n && leb n most

-- the options that are asked for
abbrev pub options_of : Request → List ℕ
options_of r = take r.count r.options

-- an option, with the clock and the buffer
abbrev pub line_of : Request → ℕ → Line
line_of r option = record { kilobits = option; clock = r.clock; words = r.words }

-- an option above x, and not above the most
abbrev pub next : ℕ → ℕ → Bool
next x option = ltb x option && leb option most_kilobits

-- each is next to the one before, and the first to x
unfoldable pub rises : ℕ → List ℕ → Bool
rises x [] = true
rises x (o ∷ os) = next x o && rises o os

-- one option or more, from 1 on strictly rising
abbrev pub good_options : Request → Bool
good_options r = within most_options r.count && rises 0 (options_of r)

-- what is refused of a request on an image of n bytes
unfoldable pub refused : Request → ℕ → Option Refusal
refused r n =
    pick (bad_length n) (Some Length)
    (pick (bad_window (window r.from r.to) n) (Some Window)
    (pick (not (within most_clock r.clock)) (Some Clock)
    (pick (not (good_options r)) (Some Options)
    (pick (not (within most_words r.words)) (Some Buffer)
    (pick (not (within most_cycles r.cycles)) (Some Cycles)
    None)))))
