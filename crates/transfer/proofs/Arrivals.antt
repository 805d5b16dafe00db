-- A block load has each of its named registers from the word that is its own, lowest first from its lowest address on.
-- Assumes nothing.
use Rattle.std.specs.Prelude.{Some, None}
use Rattle.std.proofs.Common.{◌≡◌, ℕ, zero, suc, ◌+◌, ◌*◌, ◌^◌, ◌<◌, Bool, true, false, ltb, ◌≢◌, List, [], ◌∷◌, length, get_or, set, sym, refl, ap, ◌∙◌, mod-eq_of_lt, arith, get_or-set_other, get_or-set_same, lt-ltb}
use Rattle.bits.specs.Choice.{pick}
use Rattle.memory.specs.Memory.{Memory, read_word}
use Rattle.registers.specs.Registers.{put, out, arrives}
use Rattle.transfer.specs.Block.{next, loads}
use Rattle.transfer.proofs.NamedRegisters.{Rising}
use Rattle.transfer.proofs.NamedPlaces.{At, Absent, rising-absent}
use Rattle.transfer.proofs.Lengths.{put-length}
use Rattle.registers.proofs.Written.{put_other, put_same}

-- the word of register x goes to it, and the rest is kept
module _ (f : ℕ) (mem : Memory) where
  -- registers that are not named
  pub loads-kept : (xs g : List ℕ) (a r : ℕ) → Absent r xs → get_or (loads xs g f a mem).registers r 0 ≡ get_or g r 0
  unfolding loads arrives
  loads-kept [] g a r u = refl
  loads-kept (x ∷ []) g a r u = go (ltb x 15)
    where
      go : (t : Bool) → get_or (pick t (out (set g x (read_word mem a)) f None) (out g f (Some (read_word mem a)))).registers r 0 ≡ get_or g r 0
      go true = get_or-set_other g x r (read_word mem a) 0 u.0
      go false = refl
  loads-kept (x ∷ (y ∷ ys)) g a r u =
      loads-kept (y ∷ ys) (put g x (read_word mem a)) (next a) r u.1 ∙ put_other g x (read_word mem a) r u.0

  pub loaded_at : (xs g : List ℕ) (a n k : ℕ) → Rising 16 n xs → length g ≡ 15 → k < length xs → get_or xs k 16 < 15 → a + 4 * length xs < 2 ^ 32
      → get_or (loads xs g f a mem).registers (get_or xs k 16) 0 ≡ read_word mem (a + 4 * k)
  unfolding loads arrives
  loaded_at [] g a n k u l h below w = absurd (omega arith)
  loaded_at (x ∷ []) g a n zero u l h below w =
      let e : a + 4 * 0 ≡ a = omega arith in
      rw (e, lt-ltb x 15 below) (get_or-set_same g x (read_word mem a) 0 (omega arith))
  loaded_at (x ∷ []) g a n (suc k) u l h below w = absurd (omega arith)
  loaded_at (x ∷ (y ∷ ys)) g a n zero u l h below w =
      let e : a + 4 * 0 ≡ a = omega arith in
      rw e
      (loads-kept (y ∷ ys) (put g x (read_word mem a)) (next a) x (rising-absent 16 (suc x) x (y ∷ ys) (omega arith) u.2)
      ∙ put_same g x (read_word mem a) below l)
  loaded_at (x ∷ (y ∷ ys)) g a n (suc k) u l h below w =
      let e : next a ≡ a + 4 = mod-eq_of_lt (omega arith) in
      let d : a + 4 * suc k ≡ a + 4 + 4 * k = omega arith in
      let put-g = put g x (read_word mem a) in
      let kept : length put-g ≡ length g = put-length g x (read_word mem a) in
      let rest : get_or (loads (y ∷ ys) put-g f (a + 4) mem).registers (get_or (y ∷ ys) k 16) 0 ≡ read_word mem (a + 4 + 4 * k) =
      loaded_at (y ∷ ys) put-g (a + 4) (suc x) k u.2 (omega arith) (omega arith) below (omega arith) in
      ap (λ (b : ℕ). get_or (loads (y ∷ ys) put-g f b mem).registers (get_or (y ∷ ys) k 16) 0) e
      ∙ rest ∙ ap (read_word mem) (sym d)

  -- ---- R15, which is the last

  pub loads-flags : (xs g : List ℕ) (a : ℕ) → (loads xs g f a mem).flags ≡ f
  unfolding loads arrives
  loads-flags [] g a = refl
  loads-flags (x ∷ []) g a = go (ltb x 15)
    where
      go : (t : Bool) → (pick t (out (set g x (read_word mem a)) f None) (out g f (Some (read_word mem a)))).flags ≡ f
      go true = refl
      go false = refl
  loads-flags (x ∷ (y ∷ ys)) g a = loads-flags (y ∷ ys) (put g x (read_word mem a)) (next a)

  pub goes_on : (xs g : List ℕ) (a n : ℕ) → Rising 16 n xs → Absent 15 xs → (loads xs g f a mem).goes ≡ None
  unfolding loads arrives
  goes_on [] g a n u away = refl
  goes_on (x ∷ []) g a n u away =
      let other : 15 ≢ x = away.0 in
      let low : x < 15 = omega (arith, u.1) in
      rw (lt-ltb x 15 low)
  goes_on (x ∷ (y ∷ ys)) g a n u away = goes_on (y ∷ ys) (put g x (read_word mem a)) (next a) (suc x) u.2 away.1

  pub goes_to : (xs g : List ℕ) (a n k : ℕ) → Rising 16 n xs → At 15 k xs → a + 4 * length xs < 2 ^ 32
      → (loads xs g f a mem).goes ≡ Some (read_word mem (a + 4 * k))
  unfolding loads arrives
  goes_to [] g a n k u at w = absurd (omega (arith, at.0))
  goes_to (x ∷ []) g a n zero u at w =
      let e : a + 4 * 0 ≡ a = omega arith in
      rw (e, at.1)
  goes_to (x ∷ []) g a n (suc k) u at w = absurd (omega (arith, at.0))
  goes_to (x ∷ (y ∷ ys)) g a n zero u at w = absurd (omega (arith, at.1, u.2.0, u.2.1))
  goes_to (x ∷ (y ∷ ys)) g a n (suc k) u at w =
      let e : next a ≡ a + 4 = mod-eq_of_lt (omega arith) in
      let d : a + 4 * suc k ≡ a + 4 + 4 * k = omega arith in
      let put-g = put g x (read_word mem a) in
      let rest : (loads (y ∷ ys) put-g f (a + 4) mem).goes ≡ Some (read_word mem (a + 4 + 4 * k)) =
      goes_to (y ∷ ys) put-g (a + 4) (suc x) k u.2 (omega (arith, at.0), at.1) (omega arith) in
      ap (λ (b : ℕ). (loads (y ∷ ys) put-g f b mem).goes) e ∙ rest ∙ ap (λ (b : ℕ). Some (read_word mem b)) (sym d)
