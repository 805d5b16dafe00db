-- What the reader's code goes by from line to line: a record by its parts, and what came of a line.
use Rattle.std.specs.Prelude.{ℕ, suc, ◌+◌, ◌-◌, ◌*◌, ◌%◌, ◌≤◌, ◌≡◌, ◌≢◌, true, false, List, [], ◌∷◌, Bool, ◌&&◌, eqb, leb, length, get_or, take, drop, sum, Option, MatchOption, Result, Ok, Err}
use Rattle.bits.specs.Choice.{pick}
use Rattle.intel_hex.specs.declared.records.Came.{Came}
use Rattle.intel_hex.specs.declared.records.Came.TheVariants as came
use Rattle.intel_hex.specs.declared.records.Head.{Head}
use Rattle.intel_hex.specs.declared.cut.Line.{Line}
use Rattle.text.specs.Digit.{value_of}
use Rattle.intel_hex.specs.Lines.{line_feed, carriage_return}
use Rattle.intel_hex.specs.Record.{Record, Unsound, colon, beside_data, is_digit, all_digits, bytes_of, type_in, sums_to_zero, typed}
use Rattle.intel_hex.specs.declared.refused.Refusal.{Refusal}
use Rattle.intel_hex.specs.Numbers.{unsound, outside, number_of, line_of}
use Rattle.intel_hex.specs.Reader.{Read, answered, refused, read_on, records}

-- digit pairs decoded into memory: none where one is no digit, else the sum of their bytes, modulo 256
abbrev pub Decoded : List ℕ → List ℕ → Option ℕ → Type 0
Decoded digits into result =
    MatchOption result (all_digits digits ≡ false) (λ s. (all_digits digits ≡ true) × (s ≡ sum (bytes_of digits) % 256) × (into ≡ bytes_of digits))

-- what the bytes of a well-formed line say
unfoldable pub meaning : List ℕ → Record
meaning bytes = pick (sums_to_zero bytes) (typed (type_in bytes) bytes) Unsound

-- a record by its count and the digits after it
abbrev pub counted_record : ℕ → List ℕ → Record
counted_record count digits = pick (all_digits digits) (meaning (count ∷ bytes_of digits)) Unsound

-- a record by its head and the digits of its data and sum
abbrev pub headed_record : Head → List ℕ → Record
headed_record h digits = pick (all_digits digits) (meaning (h.count ∷ h.high ∷ h.low ∷ h.kind ∷ bytes_of digits)) Unsound

-- the read goes on as this says, from k lines and this memory to the records after them
abbrev pub goes : ℕ → List ℕ → List Record → Came → Read
goes k mem later came.Unsound = refused unsound (suc k) mem
goes k mem later came.Outside = refused outside (suc k) mem
goes k mem later came.End = answered 0 0 mem
goes k mem later (came.Onward upper) = read_on (suc k) upper mem later

-- what came of all lines; a refused memory is still to be cleared
abbrev pub came_to : Result (Unit {0}) Refusal → List ℕ → Read
came_to (Ok u) mem = answered 0 0 mem
came_to (Err refusal) mem = refused (number_of refusal) (line_of refusal) mem

-- a text begins as a record does: a colon, and the two digits of its count
unfoldable pub begins : List ℕ → Bool
begins text = leb 3 (length text) && (eqb (get_or text 0 0) colon && (is_digit (get_or text 1 0) && is_digit (get_or text 2 0)))

abbrev pub count_at : List ℕ → ℕ
count_at text = value_of (get_or text 1 0) * 16 + value_of (get_or text 2 0)

-- how many bytes the end of a line has that stands at the beginning of a text; 3 where none does
unfoldable pub end_at : List ℕ → ℕ
end_at left =
    pick (eqb (length left) 0) 0
    (pick (eqb (get_or left 0 0) line_feed) 1
    (pick (eqb (get_or left 0 0) carriage_return && eqb (get_or left 1 0) line_feed) 2
    3))

-- the first line of a text says this, and where it is sound the lines behind it are those from a place on
abbrev pub Leads : List ℕ → Record → ℕ → Type 0
Leads text r whole = (later : List Record) × (records text ≡ r ∷ later) × (r ≢ Unsound → later ≡ records (drop whole text))

-- where the first line of a text ends, if it is a record; none where it is unsound
abbrev pub Cut : List ℕ → Option Line → Type 0
Cut text result =
    MatchOption result (text ≢ [] → Leads text Unsound 0)
    (λ l.
    (l.length ≡ 1 + 2 * (l.count + beside_data))
    × (l.length ≤ l.whole)
    × (l.whole ≤ length text)
    × Leads text (counted_record l.count (take (l.length - 3) (drop 3 text))) l.whole)
