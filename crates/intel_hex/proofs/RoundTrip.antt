-- A written file is read row by row: after k rows the memory has the first 16 k bytes. Assumes nothing.
use mathlib.Core.Path.{◌≡◌, refl, sym, ap, subst, ◌∙◌}
use mathlib.Core.Bool.{Bool, true, false}
use mathlib.Core.List.{List, [], ◌∷◌, ◌++◌}
use Prim.Native.Nat.{ℕ, zero, suc, ◌+◌, ◌-◌, ◌*◌, ◌<◌, ◌≤◌, min}
use native.Mathlib.Omega.{arith}
use borrow.Author.Tests.{lt-ltb, le-ltb, eq-eqb, ltb-true, ltb-false}
use lib.Dec.{ltb}
use lib.ListN.{length, length-append, length-take, length-drop, length-replicate, take, drop, get_or}
use Rattle.std.proofs.lemmas.List.{append_assoc, append-nil, get_or-take, get_or-drop, get_or_past, take_all, take_at, take-take, drop_all, drop_at, drop-drop, drop-take, take-append-drop}
use Rattle.memory.specs.Lengths.{GoodLength}
use Rattle.memory.specs.Lanes as lanes
use Rattle.memory.proofs.Lengths.{length-good}
use Rattle.intel_hex.specs.Lines.{lines}
use Rattle.intel_hex.specs.Record.{Bytes, End, data_type}
use Rattle.intel_hex.specs.Reader.{answered, zeros, place, over, records, read_on, read}
use Rattle.intel_hex.specs.Writer.{row, rows, record_line, line, write}
use Rattle.intel_hex.specs.RoundTrip.{file, RoundTrip, RecordsBack}
use Rattle.intel_hex.proofs.Heads.{read-inside, read-end}
use Rattle.intel_hex.proofs.ReadBack.{Small, data-back, end-back}

-- ---- bytes of a memory

small : (mem : List ℕ) → lanes.Bytes mem → Small mem
small [] b = tt {0}
small (byte ∷ mem) b = (b 0, small mem (λ k. b (suc k)))

bytes-take : (n : ℕ) (mem : List ℕ) → lanes.Bytes mem → lanes.Bytes (take n mem)
bytes-take n mem b k = go (ltb k n) refl
  where
    go : (t : Bool) → ltb k n ≡ t → get_or (take n mem) k 0 < 256
    go true e = rw (get_or-take n mem k 0 (ltb-true k n e)) (b k)
    go false e =
        let far = ltb-false k n e in
        let long = length-take n mem in
        let past = get_or_past (take n mem) k 0 (omega (arith, far, long)) in
        omega (arith, past)

bytes-drop : (n : ℕ) (mem : List ℕ) → lanes.Bytes mem → lanes.Bytes (drop n mem)
bytes-drop n mem b k = rw (get_or-drop n mem k 0) (b (n + k))

-- ---- the lines from the k-th on

from : List ℕ → ℕ → ℕ → List ℕ
from mem k zero = []
from mem k (suc m) = (write mem k).text ++ from mem (suc k) m

file-from : (mem : List ℕ) (k m : ℕ) → file mem k ++ from mem k m ≡ file mem (k + m)
unfolding file from
file-from mem k zero =
    let none : k + 0 ≡ k = omega arith in
    rw none (append-nil (file mem k))
file-from mem k (suc m) =
    let more : k + suc m ≡ suc k + m = omega arith in
    rw more (sym (append_assoc (file mem k) (write mem k).text (from mem (suc k) m)) ∙ file-from mem (suc k) m)

from-start : (mem : List ℕ) (n : ℕ) → file mem n ≡ from mem 0 n
unfolding file
from-start mem n =
    let none : 0 + n ≡ n = omega arith in
    ap (file mem) (sym none) ∙ sym (file-from mem 0 n)

-- ---- rows

module _ (mem : List ℕ) (b : lanes.Bytes mem) (good : GoodLength (length mem)) where
  abbrev bytes_at : ℕ → List ℕ
  bytes_at k = take row (drop (row * k) mem)

  -- the first k rows, and zeros
  abbrev filled : ℕ → List ℕ
  filled k = take (row * k) mem ++ drop (row * k) (zeros mem)

  row-small : (k : ℕ) → Small (bytes_at k)
  row-small k = small (bytes_at k) (bytes-take row (drop (row * k) mem) (bytes-drop (row * k) mem b))

  row-length : (k : ℕ) → length (bytes_at k) ≡ min 16 (length mem - row * k)
  row-length k = length-take row (drop (row * k) mem) ∙ ap (min 16) (length-drop (row * k) mem)

  data-line : (k : ℕ) → k < rows (length mem) → (write mem k).text ≡ record_line 0 (row * k) (bytes_at k)
  unfolding write line
  data-line k h = rw (length-good (length mem) good, lt-ltb k (rows (length mem)) h) refl

  end-line : (write mem (rows (length mem))).text ≡ record_line 1 0 []
  unfolding write line
  end-line = rw (length-good (length mem) good, le-ltb (rows (length mem)) (rows (length mem)) (omega arith), eq-eqb (rows (length mem)) (rows (length mem)) refl) refl

  filled-length : (k : ℕ) → length (filled k) ≡ length mem
  filled-length k =
      let m1 = length-append (take (row * k) mem) (drop (row * k) (zeros mem)) in
      let m2 = length-take (row * k) mem in
      let m3 = length-drop (row * k) (zeros mem) in
      let m4 = length-replicate {A = ℕ} (length mem) 0 in
      omega (arith, m1, m2, m3, m4)

  -- where the row ends in memory, the zeros left are those behind the whole row
  zeros-left : (k : ℕ) → drop (row * k + length (bytes_at k)) (zeros mem) ≡ drop (row * suc k) (zeros mem)
  zeros-left k = go (ltb (row * k + 16) (suc (length mem))) refl
    where
      go : (t : Bool) → ltb (row * k + 16) (suc (length mem)) ≡ t → drop (row * k + length (bytes_at k)) (zeros mem) ≡ drop (row * suc k) (zeros mem)
      go true e =
          let long = row-length k in
          let whole = ltb-true (row * k + 16) (suc (length mem)) e in
          ap (λ i. drop i (zeros mem)) (omega (arith, whole, long))
      go false e =
          let long = row-length k in
          let size = length-replicate {A = ℕ} (length mem) 0 in
          let short = ltb-false (row * k + 16) (suc (length mem)) e in
          drop_all (row * k + length (bytes_at k)) (zeros mem) (omega (arith, short, long, size))
          ∙ sym (drop_all (row * suc k) (zeros mem) (omega (arith, short, size)))

  rows-joined : (k : ℕ) → take (row * k) mem ++ bytes_at k ≡ take (row * suc k) mem
  rows-joined k =
      let next : row * k + 16 ≡ row * suc k = omega arith in
      ap (λ x. take (row * k) mem ++ x) (sym (drop-take (row * k) 16 mem))
      ∙ ap (λ x. x ++ drop (row * k) (take (row * k + 16) mem)) (sym (take-take (row * k) (row * k + 16) mem (omega arith)))
      ∙ take-append-drop (row * k) (take (row * k + 16) mem) ∙ ap (λ i. take i mem) next

  -- a row put over its zeros
  one-more-row : (k : ℕ) → k < rows (length mem) → over (place 0 (row * k)) (bytes_at k) (filled k) ≡ filled (suc k)
  unfolding over
  one-more-row k h =
      let there : place 0 (row * k) ≡ row * k = omega arith in
      let begin : length (take (row * k) mem) ≡ row * k = length-take (row * k) mem ∙ omega (arith, h) in
      let front = take_at (take (row * k) mem) (drop (row * k) (zeros mem)) (row * k) begin in
      let back : drop (row * k + length (bytes_at k)) (filled k) ≡ drop (row * suc k) (zeros mem) =
      sym (drop-drop (length (bytes_at k)) (row * k) (filled k)) ∙ ap (drop (length (bytes_at k))) (drop_at (take (row * k) mem) (drop (row * k) (zeros mem)) (row * k) begin)
      ∙ drop-drop (length (bytes_at k)) (row * k) (zeros mem) ∙ zeros-left k in
      ap (λ at. over at (bytes_at k) (filled k)) there ∙ ap (λ x. x ++ (bytes_at k ++ drop (row * k + length (bytes_at k)) (filled k))) front
      ∙ ap (λ x. take (row * k) mem ++ (bytes_at k ++ x)) back ∙ sym (append_assoc (take (row * k) mem) (bytes_at k) (drop (row * suc k) (zeros mem)))
      ∙ ap (λ x. x ++ drop (row * suc k) (zeros mem)) (rows-joined k)

  all-rows : filled (rows (length mem)) ≡ mem
  all-rows =
      let size = length-replicate {A = ℕ} (length mem) 0 in
      rw (take_all (row * rows (length mem)) mem (omega arith), drop_all (row * rows (length mem)) (zeros mem) (omega (arith, size))) (append-nil mem)

  -- a row, and what the rows after it come to
  reads-row : (m k j : ℕ) → k < rows (length mem) → read_on (suc j) 0 (filled (suc k)) (records (from mem (suc k) m)) ≡ answered 0 0 mem
      → read_on j 0 (filled k) (records (from mem k (suc m))) ≡ answered 0 0 mem
  unfolding from
  reads-row m k j h more =
      let long = row-length k in
      let size = filled-length k in
      let address : row * k < 65536 = omega (arith, h, good.most) in
      let first : records (from mem k (suc m)) ≡ Bytes (row * k) (bytes_at k) ∷ records (from mem (suc k) m) =
      ap (λ x. records (x ++ from mem (suc k) m)) (data-line k h) ∙ data-back (row * k) (bytes_at k) (from mem (suc k) m) address (omega (arith, long)) (row-small k) in
      ap (read_on j 0 (filled k)) first
      ∙ read-inside j 0 (row * k) (bytes_at k) (filled k) (records (from mem (suc k) m)) (Bytes (row * k) (bytes_at k)) refl (omega (arith, size, long, h))
      ∙ ap (λ x. read_on (suc j) 0 x (records (from mem (suc k) m))) (one-more-row k h) ∙ more

  -- the end record
  reads-end : (m j : ℕ) → read_on j 0 (filled (rows (length mem))) (records (from mem (rows (length mem)) (suc m))) ≡ answered 0 0 mem
  unfolding from
  reads-end m j =
      let k = rows (length mem) in
      ap (read_on j 0 (filled k)) (ap (λ x. records (x ++ from mem (suc k) m)) end-line ∙ end-back (from mem (suc k) m))
      ∙ read-end j 0 (filled k) (records (from mem (suc k) m)) End refl ∙ ap (answered 0 0) all-rows

  reads : (m k j : ℕ) → k ≤ rows (length mem) → rows (length mem) < k + m → read_on j 0 (filled k) (records (from mem k m)) ≡ answered 0 0 mem
  reads zero k j h enough = absurd (omega (arith, h, enough))
  reads (suc m) k j h enough = go (ltb k (rows (length mem))) refl (λ less. reads m (suc k) (suc j) less (omega (arith, enough)))
    where
      go : (t : Bool) → ltb k (rows (length mem)) ≡ t → (k < rows (length mem) → read_on (suc j) 0 (filled (suc k)) (records (from mem (suc k) m)) ≡ answered 0 0 mem)
          → read_on j 0 (filled k) (records (from mem k (suc m))) ≡ answered 0 0 mem
      go true e more = reads-row m k j (ltb-true k (rows (length mem)) e) (more (ltb-true k (rows (length mem)) e))
      go false e more =
          let same : k ≡ rows (length mem) = omega (arith, h, ltb-false k (rows (length mem)) e) in
          subst (λ i. read_on j 0 (filled i) (records (from mem i (suc m))) ≡ answered 0 0 mem) (sym same) (reads-end m j)

pub round-trip : RoundTrip
unfolding read
round-trip mem lent n b good same enough =
    rw (same, length-good (length mem) good, from-start mem n) (reads mem b good n 0 0 (omega arith) (omega (arith, enough)))

pub records-back : RecordsBack
unfolding lines
records-back address bytes b a n =
    ap records (sym (append-nil (record_line data_type address bytes))) ∙ data-back address bytes [] a n (small bytes b)
