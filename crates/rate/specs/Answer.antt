-- The answer: the figures, or why there are none.
use Rattle.std.specs.Prelude.{ℕ, Bool, false, ◌||◌, List, Option, Some, None, Result, Ok, Err, length, eqb, ltb}
use Rattle.bits.specs.Choice.{pick}
use Rattle.rate.specs.declared.Request.{Request}
use Rattle.rate.specs.declared.Figures.{Figures}
use Rattle.rate.specs.declared.Refusal.{Refusal}
use Rattle.rate.specs.declared.Refusal.TheVariants.{Stopped, Stores}
use Rattle.rate.specs.Request.{refused}
use Rattle.rate.specs.Figures.{run_of, figures}

-- the address is the one at which a stop is accepted
abbrev pub is_end : Option ℕ → ℕ → Bool
is_end None a = false
is_end (Some end) a = eqb end a

-- the cycles were spent, or the stop is accepted
abbrev pub ends_well : Request → Figures → Bool
ends_well r f = eqb f.end 0 || is_end r.end f.end_address

-- a stop that is not accepted is told before stores that are too few
abbrev pub outcome : Request → Figures → Result Figures Refusal
outcome r f =
    pick (ends_well r f)
    (pick (ltb f.summary.stores 2) (Err (Stores f.summary.stores)) (Ok f))
    (Err (Stopped f.end f.end_address f.cycles))

abbrev pub unless_refused : Option Refusal → Result Figures Refusal → Result Figures Refusal
unless_refused (Some refusal) r = Err refusal
unless_refused None r = r

unfoldable pub answer : Request → List ℕ → Result Figures Refusal
answer r image = unless_refused (refused r (length image)) (outcome r (figures r image))

-- the image afterwards: as the run leaves it
abbrev pub after_unless : Option Refusal → List ℕ → List ℕ → List ℕ
after_unless (Some refusal) before after = before
after_unless None before after = after

unfoldable pub image_after : Request → List ℕ → List ℕ
image_after r image = after_unless (refused r (length image)) image (run_of r image).machine.memory
