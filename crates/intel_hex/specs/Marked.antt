-- Texts with what they are read as, and memories with what they are written as, made by hand: a second road to what a line is, to the digits,
-- the sums and the types.
use Rattle.std.specs.Prelude.{ℕ, ◌≡◌, Bool, true, ◌&&◌, List, [], ◌∷◌, ◌++◌, eqb, replicate}
use Prim.Native.String.{String}
use Prim.Native.String as string
use Rattle.text.specs.Quoted.{bytes}
use Rattle.intel_hex.specs.Reader.{answered, read}
use Rattle.intel_hex.specs.RoundTrip.{file}

-- a text, and the answer and line with which a memory of 32 bytes reads it
pub record Case : Type 0 where
  pub text : String
  pub answer : ℕ
  pub line : ℕ

abbrev case : String → ℕ → ℕ → Case
case text answer line = record { text = text; answer = answer; line = line }

-- a text of two texts
abbrev then : String → String → String
then a b = string.◌++◌ a b

-- the end record
abbrev end : String
end = ":00000001FF\n"

abbrev pub cases : List Case
cases =
    -- the end record, in each of its ends
    case end 0 0
    ∷ case ":00000001FF\r\n" 0 0
    ∷ case ":00000001FF" 0 0
    ∷ case ":00000001ff" 0 0
    -- lines before it that end in CR LF
    ∷ case (then ":02000300AABB96\r\n" end) 0 0
    -- a carriage return that is no end's
    ∷ case ":00000001FF\r" 41 1
    ∷ case ":00000001FF\r\r\n" 41 1
    ∷ case ":000000\r01FF\n" 41 1
    -- text after the end record, on later lines and on its own
    ∷ case (then end "anything") 0 0
    ∷ case ":00000001FF:\n" 41 1
    -- no end record
    ∷ case "" 43 0
    ∷ case ":02000300AABB96" 43 1
    ∷ case ":02000300AABB96\n" 43 1
    -- empty lines
    ∷ case "\n" 41 1
    ∷ case (then "\r\n" end) 41 1
    ∷ case (then ":02000300AABB96\n\n" end) 41 2
    -- a blank before the colon, and behind the sum
    ∷ case " :00000001FF\n" 41 1
    ∷ case ":00000001FF \n" 41 1
    -- no colon, no digit, half a pair more, a pair less and a pair more (both with a sum that fits), the wrong sum
    ∷ case "00000001FF" 41 1
    ∷ case ":0000000GFF" 41 1
    ∷ case ":00000001FF0\n" 41 1
    ∷ case ":03000300AABB95" 41 1
    ∷ case ":0000000100FF" 41 1
    ∷ case ":00000001FE" 41 1
    -- other types; types 01 and 04 with other counts and addresses
    ∷ case (then ":020000021000EC\n" end) 41 1
    ∷ case (then ":0400000300000000F9\n" end) 41 1
    ∷ case (then ":0400000500000000F7\n" end) 41 1
    ∷ case (then ":00000006FA\n" end) 41 1
    ∷ case (then ":00000010F0\n" end) 41 1
    ∷ case ":0100000100FE" 41 1
    ∷ case ":00000101FE" 41 1
    ∷ case ":00010001FE" 41 1
    ∷ case (then ":0100000401FA\n" end) 41 1
    ∷ case (then ":03000004000000F9\n" end) 41 1
    ∷ case (then ":020001040000F9\n" end) 41 1
    ∷ case (then ":020100040000F9\n" end) 41 1
    -- data at the end of memory, data past it, and a record without data, past it
    ∷ case (then ":02001E000102DD\n" end) 0 0
    ∷ case (then ":02001F000102DC\n" end) 42 1
    ∷ case (then ":00002800D8\n" end) 0 0
    -- past it by the upper half, and back; an end that a wrap at 2^32 would bring back
    ∷ case (then ":020000040001F9\n:02000300AABB96\n" end) 42 2
    ∷ case (then ":020000040001F9\n:020000040000FA\n:02000300AABB96\n" end) 0 0
    ∷ case (then ":02000004FFFFFC\n:09FFF800000102030405060708DC\n" end) 42 2
    -- line order, and 41 before 42 on one line
    ∷ case ":02001F000102DC\n:00000001FE" 42 1
    ∷ case ":00000001FE\n:02001F000102DC" 41 1
    ∷ case ":02001F000102DD\n" 41 1
    ∷ case ":02001F000102DC\n" 42 1
    ∷ []

abbrev pub hold : List Case → Bool
hold [] = true
hold (c ∷ cases) =
    eqb (read (bytes c.text) (replicate 32 7)).answer c.answer && (eqb (read (bytes c.text) (replicate 32 7)).line c.line && hold cases)

-- the sample countdown.bin
abbrev pub countdown : List ℕ
countdown = 5 ∷ 0 ∷ 160 ∷ 227 ∷ 1 ∷ 0 ∷ 80 ∷ 226 ∷ 253 ∷ 255 ∷ 255 ∷ 26 ∷ 0 ∷ 0 ∷ 0 ∷ 239 ∷ []

abbrev countdown_text : String
countdown_text = then ":100000000500A0E3010050E2FDFFFF1A000000EF31\n" end

-- four bytes more, in a shorter record
abbrev longer : List ℕ
longer = countdown ++ (16 ∷ 17 ∷ 18 ∷ 19 ∷ [])

abbrev longer_text : String
longer_text = then ":100000000500A0E3010050E2FDFFFF1A000000EF31\n:0400100010111213A6\n" end

pub record Marked : Type 0 where
  pub read_as : hold cases ≡ true
  -- A byte that no record names is 0, and one named twice takes the later; digits of either case.
  pub held : read (bytes (then ":02000300AABB96\n:01000400cc2f\n" end)) (replicate 16 7)
      ≡ answered 0 0 (0 ∷ 0 ∷ 0 ∷ 170 ∷ 204 ∷ replicate 11 0)
  pub written : file countdown 2 ≡ bytes countdown_text
  pub shorter : file longer 3 ≡ bytes longer_text
  -- No byte past the end record.
  pub past : file countdown 9 ≡ bytes countdown_text
