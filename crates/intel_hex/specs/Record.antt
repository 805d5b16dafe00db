-- What a line says: a record, where it is a sound one of type 00, 01 or 04.
use Rattle.std.specs.Prelude.{ℕ, ◌+◌, ◌*◌, ◌%◌, List, [], ◌∷◌, Bool, true, ◌&&◌, eqb, ltb, length, get_or, take, drop, sum}
use Rattle.bits.specs.Choice.{pick}
use Rattle.text.specs.Digit.{value_of}

-- a hexadecimal digit, of either case
abbrev pub is_digit : ℕ → Bool
is_digit byte = ltb (value_of byte) 16

abbrev pub all_digits : List ℕ → Bool
all_digits [] = true
all_digits (byte ∷ text) = is_digit byte && all_digits text

-- the bytes of digit pairs
unfoldable pub bytes_of : List ℕ → List ℕ
bytes_of [] = []
bytes_of (high ∷ []) = []
bytes_of (high ∷ low ∷ pairs) = (value_of high * 16 + value_of low) ∷ bytes_of pairs

abbrev pub colon : ℕ
colon = 58

-- a record's bytes: the count of its data, two of its address, its type, the data, the sum
abbrev pub record_bytes : List ℕ → List ℕ
record_bytes line = bytes_of (drop 1 line)

abbrev pub count_in : List ℕ → ℕ
count_in bytes = get_or bytes 0 0

abbrev pub address_in : List ℕ → ℕ
address_in bytes = get_or bytes 1 0 * 256 + get_or bytes 2 0

abbrev pub type_in : List ℕ → ℕ
type_in bytes = get_or bytes 3 0

abbrev pub data_in : List ℕ → List ℕ
data_in bytes = take (count_in bytes) (drop 4 bytes)

-- digit pairs of a record beside its data: the count, two of the address, the type, the sum
abbrev pub beside_data : ℕ
beside_data = 5

-- a colon, then just the digit pairs that the count calls for
unfoldable pub well_formed : List ℕ → Bool
well_formed line =
    eqb (get_or line 0 0) colon && (all_digits (drop 1 line) && eqb (length line) (1 + 2 * (count_in (record_bytes line) + beside_data)))

-- the bytes of a record sum to 0 modulo 256
abbrev pub sums_to_zero : List ℕ → Bool
sums_to_zero bytes = eqb (sum bytes % 256) 0

-- sound, but for its type: with that sum
abbrev pub sound : List ℕ → Bool
sound line = well_formed line && sums_to_zero (record_bytes line)

-- the types that are read
abbrev pub data_type : ℕ
data_type = 0

abbrev pub end_type : ℕ
end_type = 1

abbrev pub upper_type : ℕ
upper_type = 4

pub data Record : Type 0 where
  -- no sound record of these types
  Unsound : Record
  -- 00, data: bytes from an address on
  Bytes : ℕ → List ℕ → Record
  -- 01, end of file
  End : Record
  -- 04, extended linear address: the upper sixteen bits of the addresses that follow
  Upper : ℕ → Record

-- types 01 and 04 have 0 and 2 data bytes and address 0000
abbrev pub fixed : ℕ → List ℕ → Bool
fixed count bytes = eqb (count_in bytes) count && eqb (address_in bytes) 0

abbrev pub upper_in : List ℕ → ℕ
upper_in bytes = get_or bytes 4 0 * 256 + get_or bytes 5 0

abbrev pub typed : ℕ → List ℕ → Record
typed type bytes =
    pick (eqb type data_type) (Bytes (address_in bytes) (data_in bytes))
    (pick (eqb type end_type) (pick (fixed 0 bytes) End Unsound)
    (pick (eqb type upper_type) (pick (fixed 2 bytes) (Upper (upper_in bytes)) Unsound)
    Unsound))

unfoldable pub record_of : List ℕ → Record
record_of line = pick (sound line) (typed (type_in (record_bytes line)) (record_bytes line)) Unsound
