-- What a read gives and leaves, record by record. Assumes nothing.
use mathlib.Core.Path.{◌≡◌, refl, sym, ap, subst, ◌∙◌}
use mathlib.Core.Bool.{Bool, true, false, false≢true}
use mathlib.Core.List.{List, [], ◌∷◌}
use Prim.Native.Nat.{ℕ, suc, ◌+◌, ◌*◌, ◌<◌}
use native.Mathlib.Omega.{arith}
use borrow.Author.Tests.{leb-true, leb-false, le-ltb, ne_eqb}
use lib.Dec.{leb}
use lib.ListN.{length, length-replicate, replicate}
use Rattle.bits.specs.Choice.{pick}
use Rattle.memory.specs.Lengths.{bad_length, GoodLength}
use Rattle.memory.proofs.Lengths.{good_length, length-good}
use Rattle.intel_hex.specs.Record.{Record, Unsound, Bytes, End, Upper}
use Rattle.intel_hex.specs.Numbers as numbers
use Rattle.intel_hex.specs.Reader.{Read, refused, zeros, place, beyond, over, records, read_on, read}
use Rattle.intel_hex.specs.Writer.{rows, line, write}
use Rattle.intel_hex.specs.Refusals.{Gives, ends, unsound, outside, no_end, inside, upper_half, Refuses, Writes}
use Rattle.intel_hex.proofs.Reading.{refused-length, read-lines}
use Rattle.intel_hex.proofs.Beyond.{beyond-is, over-keeps}

gives : (n upper k : ℕ) (mem : List ℕ) (rs : List Record) → length mem ≡ n → Gives n upper k rs (read_on k upper mem rs).answer (read_on k upper mem rs).line
unfolding read_on
gives n upper k mem [] e = no_end upper k
gives n upper k mem (Unsound ∷ rs) e = unsound upper k rs
gives n upper k mem (End ∷ rs) e = ends upper k rs
gives n upper k mem (Upper half ∷ rs) e = upper_half upper half k _ _ rs (gives n half (suc k) mem rs e)
gives n upper k mem (Bytes address bytes ∷ rs) e =
    go (beyond (place upper address) bytes mem) refl (λ same. gives n upper (suc k) (over (place upper address) bytes mem) rs same)
  where
    go : (t : Bool) → beyond (place upper address) bytes mem ≡ t
        → (length (over (place upper address) bytes mem) ≡ n
        → Gives n upper (suc k) rs (read_on (suc k) upper (over (place upper address) bytes mem) rs).answer
        (read_on (suc k) upper (over (place upper address) bytes mem) rs).line)
        → Gives n upper k (Bytes address bytes ∷ rs)
        (pick t (refused numbers.outside (suc k) mem) (read_on (suc k) upper (over (place upper address) bytes mem) rs)).answer
        (pick t (refused numbers.outside (suc k) mem) (read_on (suc k) upper (over (place upper address) bytes mem) rs)).line
    go true t more =
        let j = (beyond-is (place upper address) bytes mem).some t in
        outside upper k address j.0 bytes rs j.1 (omega (arith, j.2, e))
    go false t more =
        inside upper k address _ _ bytes rs (λ j h. within j h (leb n (65536 * upper + address + j)) refl) (more (over-keeps (place upper address) bytes mem t ∙ e))
      where
        within : (j : ℕ) → j < length bytes → (s : Bool) → leb n (65536 * upper + address + j) ≡ s → 65536 * upper + address + j < n
        within j h true s =
            absurd (false≢true (sym t ∙ (beyond-is (place upper address) bytes mem).all j h (omega (arith, e, leb-true n (65536 * upper + address + j) s))))
        within j h false s = leb-false n (65536 * upper + address + j) s

-- the memory that is left is as long as that lent, and zero where a number is given
record Left (n : ℕ) (r : Read) : Type 0 where
  cleared : (r.answer ≡ 0 → ⊥) → r.memory ≡ replicate n 0
  as_long : length r.memory ≡ n

left-refused : (n number line : ℕ) (mem : List ℕ) → length mem ≡ n → Left n (refused number line mem)
left-refused n number line mem e =
    record { cleared = λ some. ap (λ i. replicate i 0) e; as_long = length-replicate {A = ℕ} (length mem) 0 ∙ e }

left : (n upper k : ℕ) (mem : List ℕ) (rs : List Record) → length mem ≡ n → Left n (read_on k upper mem rs)
unfolding read_on
left n upper k mem [] e = left-refused n numbers.no_end k mem e
left n upper k mem (Unsound ∷ rs) e = left-refused n numbers.unsound (suc k) mem e
left n upper k mem (End ∷ rs) e = record { cleared = λ some. absurd (some refl); as_long = e }
left n upper k mem (Upper half ∷ rs) e = left n half (suc k) mem rs e
left n upper k mem (Bytes address bytes ∷ rs) e =
    go (beyond (place upper address) bytes mem) refl (λ same. left n upper (suc k) (over (place upper address) bytes mem) rs same)
  where
    go : (t : Bool) → beyond (place upper address) bytes mem ≡ t
        → (length (over (place upper address) bytes mem) ≡ n → Left n (read_on (suc k) upper (over (place upper address) bytes mem) rs))
        → Left n (pick t (refused numbers.outside (suc k) mem) (read_on (suc k) upper (over (place upper address) bytes mem) rs))
    go true t more = left-refused n numbers.outside (suc k) mem e
    go false t more = more (over-keeps (place upper address) bytes mem t ∙ e)

zero-length : (mem : List ℕ) → length (zeros mem) ≡ length mem
zero-length mem = length-replicate {A = ℕ} (length mem) 0

good-left : (text mem : List ℕ) → GoodLength (length mem) → Left (length mem) (read text mem)
good-left text mem g = subst (Left (length mem)) (sym (read-lines text mem _ (length-good (length mem) g) refl)) (left (length mem) 0 0 (zeros mem) (records text) (zero-length mem))

pub refuses : (text mem : List ℕ) → Refuses text mem
refuses text mem =
    record {
      length_bad = λ bad. refused-length text mem (by-length bad (bad_length (length mem)) refl);
      gives = λ g.
          subst (λ r. Gives (length mem) 0 0 (records text) r.answer r.line) (sym (read-lines text mem _ (length-good (length mem) g) refl))
          (gives (length mem) 0 0 (zeros mem) (records text) (zero-length mem));
      cleared = λ g. (good-left text mem g).cleared;
      as_long = as-long (bad_length (length mem)) refl;
    }
  where
    by-length : (GoodLength (length mem) → ⊥) → (b : Bool) → bad_length (length mem) ≡ b → bad_length (length mem) ≡ true
    by-length bad true e = e
    by-length bad false e = absurd (bad (good_length (length mem) e))

    as-long : (b : Bool) → bad_length (length mem) ≡ b → length (read text mem).memory ≡ length mem
    as-long true e = ap (λ r. length r.memory) (refused-length text mem e)
    as-long false e = (good-left text mem (good_length (length mem) e)).as_long

-- ---- the writer

pub writes : (mem : List ℕ) (number : ℕ) → Writes mem number
unfolding write line
writes mem number =
    record {
      length_bad = λ bad. rw (by-length bad (bad_length (length mem)) refl) refl;
      accepted = λ g. rw (length-good (length mem) g) refl;
      past = λ g far.
          rw (length-good (length mem) g, le-ltb number (rows (length mem)) (omega (arith, far)), ne_eqb number (rows (length mem)) (λ e. omega (arith, far, e)))
          refl;
    }
  where
    by-length : (GoodLength (length mem) → ⊥) → (b : Bool) → bad_length (length mem) ≡ b → bad_length (length mem) ≡ true
    by-length bad true e = e
    by-length bad false e = absurd (bad (good_length (length mem) e))
