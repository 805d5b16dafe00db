-- The texts of the figures: a key, its value and a line feed; an option's line has a key more than one.
use Rattle.std.specs.Prelude.{ℕ, ◌/◌, ◌%◌, Bool, true, false, List, [], ◌∷◌, ◌++◌, Option, Some, None, eqb}
use Prim.Native.String.{String}
use Rattle.bits.specs.Choice.{pick}
use Rattle.text.specs.Text.{hex_digits, decimal}
use Rattle.text.specs.Quoted.{bytes}
use Rattle.link.specs.declared.Summary.{Summary}
use Rattle.link.specs.declared.Verdict.{Verdict}
use Rattle.rate.specs.declared.Request.{Request}
use Rattle.rate.specs.declared.Figures.{Figures}
use Rattle.rate.specs.Request.{options_of}

abbrev pub line : String → List ℕ → List ℕ
line key value = bytes key ++ (value ++ bytes "\n")

abbrev pub counted : String → ℕ → List ℕ
counted key n = line key (decimal n)

-- eight upper-case digits
abbrev pub address : String → ℕ → List ℕ
address key n = line key (hex_digits 8 n)

-- nothing where the word is blank
abbrev pub word_line : Option ℕ → List ℕ
word_line None = []
word_line (Some word) = address "end_word=" word

-- where it stopped, if it did
unfoldable pub end_lines : Figures → List ℕ
end_lines f = counted "end=" f.end ++ pick (eqb f.end 0) [] (address "end_address=" f.end_address ++ word_line f.end_word)

unfoldable pub count_lines : Figures → List ℕ
count_lines f = counted "cycles=" f.cycles ++ (counted "ticks=" f.ticks ++ (counted "stores=" f.summary.stores ++ counted "bits=" f.summary.bits))

unfoldable pub time_lines : Summary → List ℕ
time_lines s =
    counted "first_cycle=" s.cycles.first
    ++ (counted "first_tick=" s.ticks.first
    ++ (counted "last_cycle=" s.cycles.last
    ++ counted "last_tick=" s.ticks.last))

unfoldable pub gap_lines : Summary → List ℕ
gap_lines s =
    counted "least_gap_cycles=" s.cycles.least
    ++ (counted "least_gap_ticks=" s.ticks.least
    ++ (counted "greatest_gap_cycles=" s.cycles.greatest
    ++ counted "greatest_gap_ticks=" s.ticks.greatest))

-- always one decimal
unfoldable pub rate_line : ℕ → List ℕ
rate_line tenths = bytes "rate=" ++ (decimal (tenths / 10) ++ line "." (decimal (tenths % 10)))

-- from length to rate
unfoldable pub head : Figures → List ℕ
head f = counted "length=" f.size ++ (end_lines f ++ (count_lines f ++ (time_lines f.summary ++ (gap_lines f.summary ++ rate_line f.rate))))

abbrev pub yes_no : Bool → List ℕ
yes_no true = bytes "yes"
yes_no false = bytes "no"

-- whether it fits, and where not the first overflow
unfoldable pub overflow_told : Verdict → List ℕ
overflow_told v =
    pick (eqb v.overflow 0)
    (bytes "yes")
    (bytes "no overflow_store=" ++ (decimal v.overflow ++ (bytes " overflow_tick=" ++ decimal v.overflow_tick)))

unfoldable pub option_line : ℕ → Verdict → List ℕ
option_line option v =
    bytes "option=" ++ (decimal option ++ (bytes " backlog=" ++ (decimal v.backlog ++ (bytes " grows=" ++ (yes_no v.grows ++ line " fits=" (overflow_told v))))))

abbrev pub choice_told : Option ℕ → List ℕ
choice_told None = bytes "none"
choice_told (Some option) = decimal option

-- the choice, and what the claim covers
unfoldable pub last_lines : Figures → List ℕ
last_lines f =
    line "choice=" (choice_told f.choice)
    ++ (bytes "claim=this image from address 0 with zero registers and flags, for " ++ (decimal f.cycles ++ bytes " cycles; no other input\n"))

-- the lines of these options
unfoldable pub option_lines : List ℕ → List Verdict → List ℕ
option_lines [] vs = []
option_lines (o ∷ os) [] = []
option_lines (o ∷ os) (v ∷ vs) = option_line o v ++ option_lines os vs

-- all that is told
abbrev pub told : Request → Figures → List ℕ
told r f = head f ++ (option_lines (options_of r) f.verdicts ++ last_lines f)
