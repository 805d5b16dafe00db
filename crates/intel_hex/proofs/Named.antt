-- What stands at an address after a read, record by record. Assumes nothing.
use mathlib.Core.Path.{◌≡◌, refl, sym, ap, ◌∙◌}
use mathlib.Core.Bool.{Bool, true, false}
use mathlib.Core.List.{List, [], ◌∷◌}
use Prim.Native.Nat.{ℕ, suc, ◌+◌, ◌*◌}
use native.Mathlib.Omega.{arith}
use lib.ListN.{length, get_or}
use Rattle.std.proofs.lemmas.List.{get_or-replicate}
use Rattle.bits.specs.Choice.{pick}
use Rattle.memory.specs.Lengths.{bad_length}
use Rattle.intel_hex.specs.Record.{Record, Unsound, Bytes, End, Upper}
use Rattle.intel_hex.specs.Numbers as numbers
use Rattle.intel_hex.specs.Reader.{refused, zeros, place, beyond, over, records, read_on, read}
use Rattle.intel_hex.specs.Named.{named, byte_after, Named}
use Rattle.intel_hex.proofs.Reading.{refused-length, read-lines}
use Rattle.intel_hex.proofs.Beyond.{over-at}

after : (k upper a had : ℕ) (mem : List ℕ) (rs : List Record) → get_or mem a 0 ≡ had → (read_on k upper mem rs).answer ≡ 0
    → get_or (read_on k upper mem rs).memory a 0 ≡ byte_after upper a had rs
unfolding read_on byte_after
after k upper a had mem [] e z = let n : numbers.no_end ≡ 0 = z in omega (arith, n)
after k upper a had mem (Unsound ∷ rs) e z = let n : numbers.unsound ≡ 0 = z in omega (arith, n)
after k upper a had mem (End ∷ rs) e z = e
after k upper a had mem (Upper half ∷ rs) e z = after (suc k) half a had mem rs e z
after k upper a had mem (Bytes address bytes ∷ rs) e z =
    go (beyond (place upper address) bytes mem) refl z
    (λ same zero. after (suc k) upper a (named a (place upper address) bytes had) (over (place upper address) bytes mem) rs same zero)
  where
    go : (t : Bool) → beyond (place upper address) bytes mem ≡ t
        → (pick t (refused numbers.outside (suc k) mem) (read_on (suc k) upper (over (place upper address) bytes mem) rs)).answer ≡ 0
        → (get_or (over (place upper address) bytes mem) a 0 ≡ named a (place upper address) bytes had
        → (read_on (suc k) upper (over (place upper address) bytes mem) rs).answer ≡ 0
        → get_or (read_on (suc k) upper (over (place upper address) bytes mem) rs).memory a 0
        ≡ byte_after upper a (named a (place upper address) bytes had) rs)
        → get_or (pick t (refused numbers.outside (suc k) mem) (read_on (suc k) upper (over (place upper address) bytes mem) rs)).memory a 0
        ≡ byte_after upper a (named a (65536 * upper + address) bytes had) rs
    go true t nought more = let n : numbers.outside ≡ 0 = nought in omega (arith, n)
    go false t nought more = more (over-at (place upper address) a bytes mem t ∙ ap (named a (place upper address) bytes) e) nought

pub named-bytes : Named
named-bytes text mem a z h = go (bad_length (length mem)) refl
  where
    go : (b : Bool) → bad_length (length mem) ≡ b → get_or (read text mem).memory a 0 ≡ byte_after 0 a 0 (records text)
    go true e = let n : 1 ≡ 0 = sym (ap (λ r. r.answer) (refused-length text mem e)) ∙ z in omega (arith, n)
    go false e =
        let r = read-lines text mem _ e refl in
        ap (λ x. get_or x.memory a 0) r
        ∙ after 0 0 a 0 (zeros mem) (records text) (get_or-replicate (length mem) a 0 0 h) (sym (ap (λ x. x.answer) r) ∙ z)
