-- The buffer in one walk: what it keeps of the stores so far, by their levels. Assumes nothing.
use Rattle.std.proofs.Common.{◌≡◌, ℕ, suc, ◌+◌, ◌/◌, ◌≤◌, max, Bool, true, false, List, [], ◌∷◌, ◌++◌, length, take, drop, eqb, ltb, sym, ap, ◌∙◌, refl, arith}
use Rattle.std.proofs.lemmas.Bool.{ltb-true, ltb-false, lt-ltb, le-ltb, ne_eqb}
use Rattle.std.proofs.lemmas.List.{take-append-drop, length-take-le, take_at, drop_at}
use Rattle.std.proofs.lemmas.List.Sums.{fold-append}
use Rattle.std.specs.Int.{div_ceil}
use Rattle.bits.specs.Choice.{pick}
use Rattle.link.specs.declared.Store.{Store}
use Rattle.link.specs.declared.Line.{Line}
use Rattle.link.specs.declared.Buffer.{Buffer}
use Rattle.link.specs.declared.Verdict.{Verdict}
use Rattle.link.specs.Rate.{rounded_up}
use Rattle.link.specs.Buffer.{holds, level_after, levels_from, levels, greatest_of, grows, Overflow, overflow_from, verdict_of}
use Rattle.link.specs.Fold.{empty, taken, all_taken, Joins}
use Rattle.link.proofs.Rates.{ceiling}

taken-stores : (o : Line) (b : Buffer) (e : Store) → (taken o b e).stores ≡ suc b.stores
unfolding taken
taken-stores o b e = refl

pub joins : Joins
joins o b xs ys = fold-append (taken o) b xs ys

-- ---- the levels of a walk

abbrev pub levels_on : Line → Buffer → List Store → List ℕ
levels_on o b es = levels_from o b.level b.tick es

pub levels-length : (o : Line) (v t : ℕ) (es : List Store) → length (levels_from o v t es) ≡ length es
unfolding levels_from
levels-length o v t [] = refl
levels-length o v t (e ∷ es) = ap suc (levels-length o (level_after o v t e) e.tick es)

pub levels-append : (o : Line) (b : Buffer) (xs ys : List Store) → levels_on o b (xs ++ ys) ≡ levels_on o b xs ++ levels_on o (all_taken o b xs) ys
unfolding levels_from taken
levels-append o b [] ys = refl
levels-append o b (x ∷ xs) ys = ap (λ vs. level_after o b.level b.tick x ∷ vs) (levels-append o (taken o b x) xs ys)

-- ---- what the walk keeps

pub walk-stores : (o : Line) (b : Buffer) (es : List Store) → (all_taken o b es).stores ≡ b.stores + length es
unfolding taken
walk-stores o b [] = omega arith
walk-stores o b (e ∷ es) = let h = walk-stores o (taken o b e) es in omega (arith, h)

pub walk-greatest : (o : Line) (b : Buffer) (es : List Store) → (all_taken o b es).greatest ≡ max b.greatest (greatest_of (levels_on o b es))
unfolding levels_from taken greatest_of
walk-greatest o b [] = omega arith
walk-greatest o b (e ∷ es) = let h = walk-greatest o (taken o b e) es in omega (arith, h)

pick-below : (t : Bool) (n p : ℕ) → p ≤ n → pick t (suc n) p ≤ suc n
pick-below true n p h = omega arith
pick-below false n p h = omega arith

-- the peak is a store that came
pub walk-peak : (o : Line) (b : Buffer) (es : List Store) → b.peak ≤ b.stores → (all_taken o b es).peak ≤ b.stores + length es
unfolding taken
walk-peak o b [] h = omega arith
walk-peak o b (e ∷ es) h =
    let p = pick-below (ltb b.greatest (level_after o b.level b.tick e)) b.stores b.peak h in
    let w = walk-peak o (taken o b e) es p in
    omega (arith, w)

-- and it only moves on
pick-no_less : (t : Bool) (n p : ℕ) → p ≤ n → p ≤ pick t (suc n) p
pick-no_less true n p h = omega arith
pick-no_less false n p h = omega arith

walk-no_less : (o : Line) (b : Buffer) (es : List Store) → b.peak ≤ b.stores → b.peak ≤ (all_taken o b es).peak
unfolding taken
walk-no_less o b [] h = omega arith
walk-no_less o b (e ∷ es) h =
    let t = ltb b.greatest (level_after o b.level b.tick e) in
    let p = pick-below t b.stores b.peak h in
    let q = pick-no_less t b.stores b.peak h in
    let w = walk-no_less o (taken o b e) es p in
    omega (arith, q, w)

-- a level that is no new greatest
above-alike : (a x y : ℕ) → x ≤ a → ltb a (max x y) ≡ ltb a y
above-alike a x y h = go (ltb a y) refl
  where
    go : (t : Bool) → ltb a y ≡ t → ltb a (max x y) ≡ ltb a y
    go true t = lt-ltb a (max x y) (omega (arith, ltb-true a y t)) ∙ sym t
    go false t = le-ltb a (max x y) (omega (arith, ltb-false a y t)) ∙ sym t

peak-new : (o : Line) (b : Buffer) (e : Store) → ltb b.greatest (level_after o b.level b.tick e) ≡ true → (taken o b e).peak ≡ suc b.stores
unfolding taken
peak-new o b e t = rw t

peak-old : (o : Line) (b : Buffer) (e : Store) → ltb b.greatest (level_after o b.level b.tick e) ≡ false → (taken o b e).peak ≡ b.peak
unfolding taken
peak-old o b e t = rw t

-- it comes after the first k, of which it was one so far, exactly where a level to come is above the greatest so far
pub walk-after : (o : Line) (b : Buffer) (es : List Store) (k : ℕ) → b.peak ≤ k → k ≤ b.stores
    → ltb k (all_taken o b es).peak ≡ ltb b.greatest (greatest_of (levels_on o b es))
unfolding levels_from greatest_of taken
walk-after o b [] k h m = le-ltb k b.peak h ∙ sym (le-ltb b.greatest 0 (omega arith))
walk-after o b (e ∷ es) k h m = go (walk-after o (taken o b e) es k) (ltb b.greatest (level_after o b.level b.tick e)) refl
  where
    go : ((taken o b e).peak ≤ k → k ≤ (taken o b e).stores → ltb k (all_taken o (taken o b e) es).peak ≡ ltb (taken o b e).greatest (greatest_of (levels_on o (taken o b e) es)))
        → (t : Bool) → ltb b.greatest (level_after o b.level b.tick e) ≡ t
        → ltb k (all_taken o (taken o b e) es).peak
        ≡ ltb b.greatest (max (level_after o b.level b.tick e) (greatest_of (levels_from o (level_after o b.level b.tick e) e.tick es)))
    go later true t =
        let p = peak-new o b e t in
        let n = taken-stores o b e in
        let w = walk-no_less o (taken o b e) es (omega (arith, p, n)) in
        let u = ltb-true b.greatest (level_after o b.level b.tick e) t in
        lt-ltb k (all_taken o (taken o b e) es).peak (omega (arith, w, p)) ∙ sym (lt-ltb b.greatest _ (omega (arith, u)))
    go later false t =
        let p = peak-old o b e t in
        let n = taken-stores o b e in
        let u = ltb-false b.greatest (level_after o b.level b.tick e) t in
        let g : max b.greatest (level_after o b.level b.tick e) ≡ b.greatest = omega (arith, u) in
        later (omega (arith, p)) (omega (arith, n)) ∙ ap (λ x. ltb x (greatest_of (levels_from o (level_after o b.level b.tick e) e.tick es))) g ∙ sym (above-alike _ _ _ u)

-- ---- whether it grows

-- after the first half, and after the others
pub grows-by : (o : Line) (b : Buffer) (es : List Store) → b ≡ all_taken o empty es → ltb (b.stores / 2) b.peak ≡ grows o es
unfolding grows
grows-by o b es is =
    let half = length es / 2 in
    let xs = take half es in
    let ys = drop half es in
    let m = all_taken o empty xs in
    let joined = sym (take-append-drop half es) in
    let within : half ≤ length es = omega arith in
    let long = length-take-le half es within in
    let counted = walk-stores o empty xs in
    let peaked = walk-peak o empty xs (omega arith) in
    let all : b ≡ all_taken o m ys = is ∙ ap (all_taken o empty) joined ∙ joins o empty xs ys in
    let stores : b.stores ≡ length es = ap (λ (b : Buffer). b.stores) is ∙ walk-stores o empty es ∙ omega arith in
    let after = walk-after o m ys half (omega (arith, peaked, long)) (omega (arith, counted, long)) in
    let first = walk-greatest o empty xs in
    let levels = ap (levels_on o empty) joined ∙ levels-append o empty xs ys in
    let size = levels-length o 0 0 xs ∙ long in
    let early = ap (take half) levels ∙ take_at _ _ half size in
    let late = ap (drop half) levels ∙ drop_at _ _ half size in
    let g : m.greatest ≡ greatest_of (levels_on o empty xs) = first ∙ omega arith in
    ap (λ n. ltb (n / 2) b.peak) stores ∙ ap (λ (b : Buffer). ltb half b.peak) all ∙ after ∙ rw (early, late, g) refl

-- ---- the first overflow

-- the store and its tick
abbrev Tells : Buffer → Overflow → Type 0
Tells b f = (b.overflow ≡ f.store) × (b.overflow_tick ≡ f.tick)

kept-one : (o : Line) (b : Buffer) (e : Store) → eqb b.overflow 0 ≡ false → Tells (taken o b e) (record { store = b.overflow; tick = b.overflow_tick })
unfolding taken
kept-one o b e n = (rw n, rw n)

walk-kept : (o : Line) (b : Buffer) (es : List Store) → eqb b.overflow 0 ≡ false → Tells (all_taken o b es) (record { store = b.overflow; tick = b.overflow_tick })
walk-kept o b [] n = (refl, refl)
walk-kept o b (e ∷ es) n =
    let (s, t) = kept-one o b e n in
    let (u, v) = walk-kept o (taken o b e) es (ap (λ x. eqb x 0) s ∙ n) in
    (u ∙ s, v ∙ t)

first-one : (o : Line) (b : Buffer) (e : Store) → b.overflow ≡ 0 → ltb (holds o) (level_after o b.level b.tick e) ≡ true
    → Tells (taken o b e) (record { store = suc b.stores; tick = e.tick })
unfolding taken
first-one o b e n t = (rw (n, t), rw (n, t))

none-one : (o : Line) (b : Buffer) (e : Store) → b.overflow ≡ 0 → ltb (holds o) (level_after o b.level b.tick e) ≡ false
    → Tells (taken o b e) (record { store = b.overflow; tick = b.overflow_tick })
unfolding taken
none-one o b e n t = (rw (n, t), rw (n, t))

pub walk-overflow : (o : Line) (b : Buffer) (es : List Store) → b.overflow ≡ 0 → b.overflow_tick ≡ 0 → Tells (all_taken o b es) (overflow_from o b.stores b.level b.tick es)
unfolding overflow_from
walk-overflow o b [] n z = (n, z)
walk-overflow o b (e ∷ es) n z = go (walk-overflow o (taken o b e) es) (ltb (holds o) (level_after o b.level b.tick e)) refl
  where
    go : ((taken o b e).overflow ≡ 0 → (taken o b e).overflow_tick ≡ 0 → Tells (all_taken o (taken o b e) es) (overflow_from o (taken o b e).stores (taken o b e).level (taken o b e).tick es))
        → (t : Bool) → ltb (holds o) (level_after o b.level b.tick e) ≡ t
        → Tells (all_taken o (taken o b e) es) (pick t (record { store = suc b.stores; tick = e.tick }) (overflow_from o (suc b.stores) (level_after o b.level b.tick e) e.tick es))
    go later true t =
        let (s, u) = first-one o b e n t in
        let (x, y) = walk-kept o (taken o b e) es (ap (λ x. eqb x 0) s ∙ ne_eqb (suc b.stores) 0 (λ h. omega arith)) in
        (x ∙ s, y ∙ u)
    go later false t = let (s, u) = none-one o b e n t in unfold taken in later (s ∙ n) (u ∙ z)

-- ---- the verdict

same-verdict : {a a' : ℕ} {g g' : Bool} {n n' t t' : ℕ} → a ≡ a' → g ≡ g' → n ≡ n' → t ≡ t'
    → ◌≡◌ {A = Verdict} (record { backlog = a; grows = g; overflow = n; overflow_tick = t }) (record { backlog = a'; grows = g'; overflow = n'; overflow_tick = t' })
same-verdict a g n t = cc

pub verdict-by : (o : Line) (b : Buffer) (bits : ℕ) → 1 ≤ o.clock → bits ≡ div_ceil b.greatest o.clock → (es : List Store) → b ≡ all_taken o empty es
    → ◌≡◌ {A = Verdict} (record { backlog = bits; grows = ltb (b.stores / 2) b.peak; overflow = b.overflow; overflow_tick = b.overflow_tick }) (verdict_of o es)
verdict-by o b bits h r es is =
    let g : b.greatest ≡ greatest_of (levels o es) = ap (λ (b : Buffer). b.greatest) is ∙ walk-greatest o empty es ∙ omega arith in
    let (s, t) = walk-overflow o empty es refl refl in
    same-verdict (r ∙ ceiling b.greatest o.clock h ∙ ap (λ x. rounded_up x o.clock) g) (grows-by o b es is) (ap (λ (b : Buffer). b.overflow) is ∙ s)
    (ap (λ (b : Buffer). b.overflow_tick) is ∙ t)
