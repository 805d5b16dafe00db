-- Requests, figures and verdicts with what is told of them, by hand: a second road to the limits, the order of the refusals, the choice, and the texts byte for byte.
use Rattle.std.specs.Prelude.{ℕ, ◌≡◌, suc, true, false, Bool, List, [], ◌∷◌, ◌++◌, Option, Some, None, Ok, Err, replicate}
use Prim.Native.String as string
use Prim.Native.String.{String}
use Rattle.text.specs.Quoted.{bytes}
use Rattle.link.specs.declared.Verdict.{Verdict}
use Rattle.link.specs.Summary.{times, summary}
use Rattle.rate.specs.declared.Request.{Request}
use Rattle.rate.specs.declared.Figures.{Figures}
use Rattle.rate.specs.declared.Refusal.TheVariants.{Length, Window, Clock, Options, Buffer, Cycles, Stopped, Stores}
use Rattle.rate.specs.Request.{refused}
use Rattle.rate.specs.Figures.{no_verdict, chosen}
use Rattle.rate.specs.Answer.{outcome, answer}
use Rattle.rate.specs.Texts.{head, option_line, last_lines, told}

-- one text after the other
abbrev then : String → String → String
then a b = string.◌++◌ a b

abbrev padded : List ℕ → ℕ → List ℕ
padded os n = os ++ replicate n 0

abbrev request : ℕ → ℕ → ℕ → List ℕ → ℕ → ℕ → ℕ → Option ℕ → Request
request from to clock options count words cycles end =
    record { from = from; to = to; clock = clock; options = options; count = count; words = words; cycles = cycles; end = end }

-- ---- limits

abbrev three : List ℕ
three = padded (250 ∷ 500 ∷ 1000 ∷ []) 29

-- options from x on, one kb/s above the other
abbrev run_of_four : ℕ → List ℕ
run_of_four x = x ∷ suc x ∷ suc (suc x) ∷ suc (suc (suc x)) ∷ []

abbrev thirty_two : List ℕ
thirty_two =
    run_of_four 1 ++ (run_of_four 5 ++ (run_of_four 9 ++ (run_of_four 13 ++ (run_of_four 17 ++ (run_of_four 21 ++ (run_of_four 25 ++ run_of_four 29))))))

-- of 64 bytes of window in a memory of 65,536
abbrev of_clock : ℕ → Request
of_clock clock = request 0x8000 0x8040 clock three 3 17 1000 None

abbrev of_options : List ℕ → ℕ → Request
of_options options count = request 0x8000 0x8040 8000000 options count 17 1000 None

abbrev of_words : ℕ → Request
of_words words = request 0x8000 0x8040 8000000 three 3 words 1000 None

abbrev of_cycles : ℕ → Request
of_cycles cycles = request 0x8000 0x8040 8000000 three 3 17 cycles None

abbrev pub Allows : Request → Type 0
Allows r = refused r 65536 ≡ None

pub record Limits : Type 0 where
  pub clock_least : Allows (of_clock 1)
  pub clock_most : Allows (of_clock 1000000000)
  pub clock_below : refused (of_clock 0) 65536 ≡ Some Clock
  pub clock_above : refused (of_clock 1000000001) 65536 ≡ Some Clock
  pub option_least : Allows (of_options (padded (1 ∷ []) 31) 1)
  pub option_most : Allows (of_options (padded (1 ∷ 10000000 ∷ []) 30) 2)
  pub options_most : Allows (of_options thirty_two 32)
  pub option_below : refused (of_options (padded (0 ∷ 250 ∷ []) 30) 2) 65536 ≡ Some Options
  pub option_above : refused (of_options (padded (250 ∷ 10000001 ∷ []) 30) 2) 65536 ≡ Some Options
  pub twice : refused (of_options (padded (250 ∷ 250 ∷ []) 30) 2) 65536 ≡ Some Options
  pub falling : refused (of_options (padded (500 ∷ 250 ∷ []) 30) 2) 65536 ≡ Some Options
  pub no_option : refused (of_options three 0) 65536 ≡ Some Options
  pub too_many : refused (of_options thirty_two 33) 65536 ≡ Some Options
  pub unasked : Allows (of_options (padded (250 ∷ 7 ∷ []) 30) 1)
  pub words_least : Allows (of_words 1)
  pub words_most : Allows (of_words 1048576)
  pub words_below : refused (of_words 0) 65536 ≡ Some Buffer
  pub words_above : refused (of_words 1048577) 65536 ≡ Some Buffer
  pub cycles_least : Allows (of_cycles 1)
  pub cycles_most : Allows (of_cycles 500000000)
  pub cycles_below : refused (of_cycles 0) 65536 ≡ Some Cycles
  pub cycles_above : refused (of_cycles 500000001) 65536 ≡ Some Cycles
  -- the window by the image's length
  pub fits : refused (of_clock 1) 0x8040 ≡ None
  pub outside : refused (of_clock 1) 0x803C ≡ Some Window
  -- all is wrong, and then less and less
  pub first : refused (request 2 0 0 three 0 0 0 None) 18 ≡ Some Length
  pub second : refused (request 2 0 0 three 0 0 0 None) 16 ≡ Some Window
  pub third : refused (request 0 4 0 three 0 0 0 None) 16 ≡ Some Clock
  pub fourth : refused (request 0 4 1 three 0 0 0 None) 16 ≡ Some Options
  pub fifth : refused (request 0 4 1 three 1 0 0 None) 16 ≡ Some Buffer
  pub last : refused (request 0 4 1 three 1 1 0 None) 16 ≡ Some Cycles

-- ---- verdicts and the choice

abbrev verdict : ℕ → Bool → ℕ → ℕ → Verdict
verdict backlog grows overflow tick = record { backlog = backlog; grows = grows; overflow = overflow; overflow_tick = tick }

abbrev carried : Verdict
carried = verdict 521 false 0 0

abbrev growing : Verdict
growing = verdict 522 true 0 0

abbrev over : Verdict
over = verdict 2134 false 28 10033

abbrev over_and_growing : Verdict
over_and_growing = verdict 2134 true 28 10033

pub record Choices : Type 0 where
  -- one that overflows or grows is not chosen, and of the others the least is
  pub least : chosen (250 ∷ 500 ∷ 863 ∷ 864 ∷ 1000 ∷ []) (over_and_growing ∷ over ∷ growing ∷ carried ∷ carried ∷ []) ≡ Some 864
  pub none : chosen (250 ∷ 500 ∷ 863 ∷ []) (over_and_growing ∷ over ∷ growing ∷ []) ≡ None
  -- nor is what is not asked for
  pub unasked : chosen (250 ∷ []) (growing ∷ no_verdict ∷ []) ≡ None

-- ---- outcomes

abbrev figures : ℕ → ℕ → Option ℕ → ℕ → ℕ → Option ℕ → Figures
figures end address word stores rate choice =
    record {
      size = 40;
      end = end;
      end_address = address;
      end_word = word;
      cycles = 101;
      ticks = 202;
      summary = summary stores 72 8 (times 11 13 15 17) (times 12 14 16 18);
      rate = rate;
      verdicts = over ∷ carried ∷ replicate 30 no_verdict;
      choice = choice;
    }

abbrev ending_at : Option ℕ → Request
ending_at end = request 32 36 1000000 (padded (500 ∷ 864 ∷ []) 30) 2 17 101 end

pub record Outcomes : Type 0 where
  -- the budget is spent, and a stop at the end
  pub spent : outcome (ending_at None) (figures 0 44 None 2 7 None) ≡ Ok (figures 0 44 None 2 7 None)
  pub at_end : outcome (ending_at (Some 44)) (figures 22 44 None 2 7 None) ≡ Ok (figures 22 44 None 2 7 None)
  -- a stop elsewhere, told before the stores
  pub no_end : outcome (ending_at None) (figures 22 44 None 2 7 None) ≡ Err (Stopped 22 44 101)
  pub elsewhere : outcome (ending_at (Some 40)) (figures 22 44 None 1 7 None) ≡ Err (Stopped 22 44 101)
  -- fewer than two stores
  pub one : outcome (ending_at (Some 44)) (figures 22 44 None 1 7 None) ≡ Err (Stores 1)
  pub no_store : outcome (ending_at None) (figures 0 44 None 0 7 None) ≡ Err (Stores 0)

-- ---- texts

-- from cycles to greatest_gap_ticks
abbrev counted : String
counted =
    then "cycles=101\n"
    (then "ticks=202\n"
    (then "stores=3\n"
    (then "bits=72\n"
    (then "first_cycle=11\n"
    (then "first_tick=12\n"
    (then "last_cycle=13\n"
    (then "last_tick=14\n"
    (then "least_gap_cycles=15\n"
    (then "least_gap_ticks=16\n"
    (then "greatest_gap_cycles=17\n" "greatest_gap_ticks=18\n"))))))))))

abbrev lines : String
lines =
    then "option=500 backlog=2134 grows=no fits=no overflow_store=28 overflow_tick=10033\n"
    "option=864 backlog=521 grows=no fits=yes\n"

pub record Texts : Type 0 where
  -- with a stop, its word there and blank, and with none; the rate always with one decimal
  pub stopped : head (figures 22 0x2C (Some 0xEF0089AB) 3 8635 None)
      ≡ bytes (then "length=40\nend=22\nend_address=0000002C\nend_word=EF0089AB\n" (then counted "rate=863.5\n"))
  pub blank : head (figures 21 0x3FFFFFC None 3 9 None) ≡ bytes (then "length=40\nend=21\nend_address=03FFFFFC\n" (then counted "rate=0.9\n"))
  pub spent : head (figures 0 0x2C (Some 0xEF0089AB) 3 10000 None) ≡ bytes (then "length=40\nend=0\n" (then counted "rate=1000.0\n"))
  pub growing : option_line 863 growing ≡ bytes "option=863 backlog=522 grows=yes fits=yes\n"
  pub over : option_line 250 over_and_growing ≡ bytes "option=250 backlog=2134 grows=yes fits=no overflow_store=28 overflow_tick=10033\n"
  pub none : last_lines (figures 0 44 None 3 7 None)
      ≡ bytes "choice=none\nclaim=this image from address 0 with zero registers and flags, for 101 cycles; no other input\n"
  -- all of it, in order; what is not asked for is not told
  pub all : told (ending_at None) (figures 0 44 None 3 8635 (Some 864))
      ≡ bytes
      (then "length=40\nend=0\n"
      (then counted
      (then "rate=863.5\n"
      (then lines "choice=864\nclaim=this image from address 0 with zero registers and flags, for 101 cycles; no other input\n"))))

-- ---- a whole answer

-- E3A00020, which sets R0 to 32; E5800000, which stores it there, twice; EF000000, which stops at 12; and zeros
abbrev pub image : List ℕ
image =
    0x20 ∷ 0x00 ∷ 0xA0 ∷ 0xE3 ∷ 0x00 ∷ 0x00 ∷ 0x80 ∷ 0xE5 ∷
    0x00 ∷ 0x00 ∷ 0x80 ∷ 0xE5 ∷ 0x00 ∷ 0x00 ∷ 0x00 ∷ 0xEF ∷ replicate 20 0

-- a million ticks a second, one word of buffer
abbrev pub asked : Option ℕ → Request
asked end = request 32 36 1000000 (padded (7999 ∷ 8000 ∷ 9000 ∷ []) 29) 3 1 100 end

-- The start takes 2 cycles and 3 ticks, the first word 1 and 1, each store 2 and 4, and it writes in the last of them. 32 bits in 4 ticks are 8,000 kb/s.
abbrev pub found : Figures
found =
    record {
      size = 36;
      end = 22;
      end_address = 12;
      end_word = Some 0xEF000000;
      cycles = 7;
      ticks = 12;
      summary = summary 2 64 32 (times 5 7 2 2) (times 8 12 4 4);
      rate = 80000;
      verdicts = verdict 33 true 2 12 ∷ verdict 32 false 0 0 ∷ verdict 32 false 0 0 ∷ replicate 29 no_verdict;
      choice = Some 8000;
    }

pub record Whole : Type 0 where
  pub ended : answer (asked (Some 12)) image ≡ Ok found
  pub stopped : answer (asked None) image ≡ Err (Stopped 22 12 7)
  pub refused : answer (asked (Some 12)) (replicate 16 0) ≡ Err Window

pub record Marked : Type 0 where
  pub limits : Limits
  pub choices : Choices
  pub outcomes : Outcomes
  pub texts : Texts
  pub whole : Whole
