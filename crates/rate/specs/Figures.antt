-- The figures of an image: its run from address 0 with zero registers and flags, and of the stores into the window the summary, the rate, and the
-- verdict on each option.
use Rattle.std.specs.Prelude.{ℕ, ◌-◌, false, List, [], ◌∷◌, ◌++◌, Option, Some, None, length, map, replicate}
use Rattle.bits.specs.Choice.{pick}
use Rattle.datapath.specs.Counter.{behind}
use Rattle.semantics.specs.Sums.{ticks}
use Rattle.plain.specs.Running.{Ran}
use Rattle.cycle.specs.Machine.{Machine}
use Rattle.runs.specs.Run.{run_from}
use Rattle.pipeline.specs.Term3.{fresh}
use Rattle.link.specs.declared.Store.{Store}
use Rattle.link.specs.declared.Verdict.{Verdict}
use Rattle.link.specs.Window.{window, handed}
use Rattle.link.specs.Summary.{nothing, summed}
use Rattle.link.specs.Rate.{rate}
use Rattle.link.specs.Buffer.{verdict_of, carries}
use Rattle.stores.specs.Coming.{stored}
use Rattle.rate.specs.declared.Request.{Request}
use Rattle.rate.specs.declared.Figures.{Figures}
use Rattle.rate.specs.Request.{most_options, options_of, line_of}

-- the core from a start
abbrev pub begun : List ℕ → Machine
begun image = fresh (replicate 15 0) 0 0 image

-- cycles until they are spent or a stop is found
abbrev pub run_of : Request → List ℕ → Ran Machine
run_of r image = run_from r.cycles (begun image)

-- what it stored into the window
abbrev pub stores_of : Request → List ℕ → List Store
stores_of r image = handed (window r.from r.to) (stored (begun image) (run_of r image).used)

abbrev pub no_verdict : Verdict
no_verdict = record { backlog = 0; grows = false; overflow = 0; overflow_tick = 0 }

-- on so many stores, of each of these options
abbrev pub verdicts_on : Request → List Store → List ℕ → List Verdict
verdicts_on r es os = map (λ (option : ℕ). verdict_of (line_of r option) es) os

-- the places of options that are not asked for hold none
abbrev pub verdicts : Request → List Store → List Verdict
verdicts r es = verdicts_on r es (options_of r) ++ replicate (most_options - r.count) no_verdict

-- the first option that carries: they rise, so it is the least
unfoldable pub chosen : List ℕ → List Verdict → Option ℕ
chosen [] vs = None
chosen (o ∷ os) [] = None
chosen (o ∷ os) (v ∷ vs) = pick (carries v) (Some o) (chosen os vs)

-- where it ended, and what that held; the counts are the core's, its ticks those of its sums
abbrev pub figures_of : Request → ℕ → Ran Machine → List Store → Figures
figures_of r n ran es =
    record {
      size = n;
      end = ran.answer;
      end_address = behind ran.machine.control.pipe.pc 8;
      end_word = ran.machine.control.pipe.ix;
      cycles = ran.machine.control.counts.cycles;
      ticks = ticks ran.machine.control.counts.sums;
      summary = summed nothing es;
      rate = rate (summed nothing es) r.clock;
      verdicts = verdicts r es;
      choice = chosen (options_of r) (verdicts r es);
    }

abbrev pub figures : Request → List ℕ → Figures
figures r image = figures_of r (length image) (run_of r image) (stores_of r image)
