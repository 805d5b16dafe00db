-- What a summary says, by the list of the stores. Assumes nothing.
use Rattle.std.proofs.Common.{◌≡◌, ◌⊎◌, ℕ, zero, suc, ◌+◌, ◌-◌, ◌*◌, ◌^◌, ◌<◌, ◌≤◌, min, max, List, [], ◌∷◌, ◌++◌, length, map, sym, ap, subst, ◌∙◌, refl, inl, inr, ⊎_elim, arith}
use Rattle.std.specs.List.{sum_by, fold, All}
use Rattle.std.proofs.lemmas.List.Elements.{All-head, All-tail}
use Rattle.std.proofs.lemmas.Bool.{cases_lt}
use Rattle.std.proofs.lemmas.List.Sums.{sum_by-cons, fold-append}
use Rattle.link.specs.declared.Store.{Store}
use Rattle.link.specs.declared.Times.{Times}
use Rattle.link.specs.declared.Summary.{Summary}
use Rattle.link.specs.Summary.{times, nothing, bits_of, Word, timed, noted, summed, Splits}
use Rattle.link.specs.Gaps.{gaps, Among, Tells, cycle_of, tick_of, Summaries}
use Rattle.link.specs.Gaps.Among.{here, further}

pub splits : Splits
splits s xs ys = fold-append noted s xs ys

-- ---- the counts

one-more : (s : Summary) (e : Store) → suc s.stores < 2 ^ 64 → (noted s e).stores ≡ suc s.stores
unfolding noted
one-more s e h = go s.stores refl
  where
    go : (n : ℕ) → s.stores ≡ n → (noted s e).stores ≡ suc s.stores
    go zero q = rw q refl
    go (suc n) q = rw q (omega (arith, h, q))

counted : (s : Summary) (es : List Store) → s.stores + length es < 2 ^ 64 → (summed s es).stores ≡ s.stores + length es
counted s [] h = omega arith
counted s (e ∷ es) h =
    let m = one-more s e (omega (arith, h)) in
    let i = counted (noted s e) es (omega (arith, h, m)) in
    omega (arith, i, m)

-- one that stands for no store has no bits
abbrev Fair : Summary → Type 0
Fair s = s.stores ≡ 0 → s.bits ≡ 0

more-bits : (s : Summary) (e : Store) → Fair s → s.bits + bits_of e < 2 ^ 64 → (noted s e).bits ≡ s.bits + bits_of e
unfolding noted
more-bits s e f h = go s.stores refl
  where
    go : (n : ℕ) → s.stores ≡ n → (noted s e).bits ≡ s.bits + bits_of e
    go zero q = rw q (omega (arith, f q))
    go (suc n) q = rw q (omega (arith, h))

some-store : (s : Summary) (e : Store) → 0 < (noted s e).stores
unfolding noted
some-store s e = go s.stores refl
  where
    go : (n : ℕ) → s.stores ≡ n → 0 < (noted s e).stores
    go zero q = rw q (omega arith)
    go (suc n) q = rw q (omega arith)

all-bits : (s : Summary) (es : List Store) → Fair s → s.bits + sum_by bits_of es < 2 ^ 64 → (summed s es).bits ≡ s.bits + sum_by bits_of es
all-bits s [] f h = omega arith
all-bits s (e ∷ es) f h =
    let c = sum_by-cons bits_of e es in
    let m = more-bits s e f (omega (arith, h, c)) in
    let n = some-store s e in
    let i = all-bits (noted s e) es (λ z. absurd (omega (arith, n, z))) (omega (arith, h, c, m)) in
    omega (arith, i, m, c)

words-noted : (s : Summary) (e : Store) → Word e → s.bits ≤ 32 * s.stores → (noted s e).bits ≤ 32 * (noted s e).stores
unfolding noted
words-noted s e w h = go s.stores refl
  where
    go : (n : ℕ) → s.stores ≡ n → (noted s e).bits ≤ 32 * (noted s e).stores
    go zero q = rw q (omega (arith, w))
    go (suc n) q = rw q (omega (arith, w, h, q))

words-summed : (s : Summary) (es : List Store) → All Word es → s.bits ≤ 32 * s.stores → (summed s es).bits ≤ 32 * (summed s es).stores
words-summed s [] w h = h
words-summed s (e ∷ es) w h = words-summed (noted s e) es (All-tail Word e es w) (words-noted s e (All-head Word e es w) h)

first-kept : (s : Summary) (e : Store) → 0 < s.stores → (noted s e).first_bits ≡ s.first_bits
unfolding noted
first-kept s e h = go s.stores refl
  where
    go : (n : ℕ) → s.stores ≡ n → (noted s e).first_bits ≡ s.first_bits
    go zero q = absurd (omega (arith, h, q))
    go (suc n) q = rw q refl

first-bits : (s : Summary) (es : List Store) → 0 < s.stores → (summed s es).first_bits ≡ s.first_bits
first-bits s [] h = refl
first-bits s (e ∷ es) h = first-bits (noted s e) es (some-store s e) ∙ first-kept s e h

-- ---- the times: from the third store on

abbrev gap : Times → ℕ → Times
gap t x = times t.first x (min t.least (x - t.last)) (max t.greatest (x - t.last))

abbrev on : Times → List ℕ → Times
on t xs = fold gap t xs

third : (n : ℕ) (t : Times) (x : ℕ) → 2 ≤ n → timed n t x ≡ gap t x
third zero t x h = absurd (omega arith)
third (suc zero) t x h = absurd (omega arith)
third (suc (suc n)) t x h = refl

record Third (s : Summary) (e : Store) : Type 0 where
  stores : 2 ≤ (noted s e).stores
  cycles : (noted s e).cycles ≡ gap s.cycles e.cycle
  ticks : (noted s e).ticks ≡ gap s.ticks e.tick

third-noted : (s : Summary) (e : Store) → 2 ≤ s.stores → Third s e
unfolding noted
third-noted s e h = go s.stores refl
  where
    go : (n : ℕ) → s.stores ≡ n → Third s e
    go zero q = absurd (omega (arith, h, q))
    go (suc n) q = record {
      stores = rw q (omega (arith, h, q));
      cycles = rw q (third (suc n) s.cycles e.cycle (omega (arith, h, q)));
      ticks = rw q (third (suc n) s.ticks e.tick (omega (arith, h, q)));
    }

cycles-on : (s : Summary) (es : List Store) → 2 ≤ s.stores → (summed s es).cycles ≡ on s.cycles (map cycle_of es)
cycles-on s [] h = refl
cycles-on s (e ∷ es) h =
    let t = third-noted s e h in
    cycles-on (noted s e) es t.stores ∙ ap (λ c. on c (map cycle_of es)) t.cycles

ticks-on : (s : Summary) (es : List Store) → 2 ≤ s.stores → (summed s es).ticks ≡ on s.ticks (map tick_of es)
ticks-on s [] h = refl
ticks-on s (e ∷ es) h =
    let t = third-noted s e h in
    ticks-on (noted s e) es t.stores ∙ ap (λ c. on c (map tick_of es)) t.ticks

first-on : (t : Times) (xs : List ℕ) → (on t xs).first ≡ t.first
first-on t [] = refl
first-on t (x ∷ xs) = first-on (gap t x) xs

-- the last of a list, or d
abbrev last_of : ℕ → List ℕ → ℕ
last_of d [] = d
last_of d (x ∷ xs) = last_of x xs

last-on : (t : Times) (xs : List ℕ) → (on t xs).last ≡ last_of t.last xs
last-on t [] = refl
last-on t (x ∷ xs) = last-on (gap t x) xs

last-push : (d : ℕ) (xs : List ℕ) (z : ℕ) → last_of d (xs ++ (z ∷ [])) ≡ z
last-push d [] z = refl
last-push d (x ∷ xs) z = last-push x xs z

-- one of two in their place
pub alike : {x y : ℕ} {vs : List ℕ} → x ≡ y → Among x vs → Among y vs
alike {vs = vs} e h = rw e at h

chosen : {r c : ℕ} {l : List ℕ} (a b : ℕ) → (c ≡ a) ⊎ (c ≡ b) → Among r (c ∷ l) → Among r (a ∷ (b ∷ l))
chosen {r = r} {c = c} {l = l} a b d (further m) = further (further m)
chosen {r = r} {c = c} {l = l} a b d here = ⊎_elim (λ (e : c ≡ a). alike (sym e) here) (λ (e : c ≡ b). alike (sym e) (further here)) d

lesser : (a b : ℕ) → (min a b ≡ a) ⊎ (min a b ≡ b)
lesser a b = ⊎_elim (λ l. inl (omega (arith, l))) (λ l. inr (omega (arith, l))) (cases_lt a b)

greater : (a b : ℕ) → (max a b ≡ a) ⊎ (max a b ≡ b)
greater a b = ⊎_elim (λ l. inr (omega (arith, l))) (λ l. inl (omega (arith, l))) (cases_lt a b)

least-among : (t : Times) (xs : List ℕ) → Among (on t xs).least (t.least ∷ gaps (t.last ∷ xs))
unfolding gaps
least-among t [] = here
least-among t (x ∷ xs) = chosen t.least (x - t.last) (lesser t.least (x - t.last)) (least-among (gap t x) xs)

greatest-among : (t : Times) (xs : List ℕ) → Among (on t xs).greatest (t.greatest ∷ gaps (t.last ∷ xs))
unfolding gaps
greatest-among t [] = here
greatest-among t (x ∷ xs) = chosen t.greatest (x - t.last) (greater t.greatest (x - t.last)) (greatest-among (gap t x) xs)

-- a bound on one of two is one on both
both-above : {r c : ℕ} {l : List ℕ} (a b : ℕ) → c ≤ a → c ≤ b → ((g : ℕ) → Among g (c ∷ l) → r ≤ g) → (g : ℕ) → Among g (a ∷ (b ∷ l)) → r ≤ g
both-above {c = c} a b i j h g here = let k = h c here in omega (arith, k)
both-above {c = c} a b i j h g (further here) = let k = h c here in omega (arith, k)
both-above a b i j h g (further (further m)) = h g (further m)

both-below : {r c : ℕ} {l : List ℕ} (a b : ℕ) → a ≤ c → b ≤ c → ((g : ℕ) → Among g (c ∷ l) → g ≤ r) → (g : ℕ) → Among g (a ∷ (b ∷ l)) → g ≤ r
both-below {c = c} a b i j h g here = let k = h c here in omega (arith, k)
both-below {c = c} a b i j h g (further here) = let k = h c here in omega (arith, k)
both-below a b i j h g (further (further m)) = h g (further m)

only : {r : ℕ} (a : ℕ) → r ≡ a → (g : ℕ) → Among g (a ∷ []) → g ≡ r
only a e g here = sym e
only a e g (further m) = elim m [ ]

no_less : (t : Times) (xs : List ℕ) (g : ℕ) → Among g (t.least ∷ gaps (t.last ∷ xs)) → (on t xs).least ≤ g
unfolding gaps
no_less t [] g m = let e = only t.least refl g m in omega (arith, e)
no_less t (x ∷ xs) g m = both-above t.least (x - t.last) (omega arith) (omega arith) (no_less (gap t x) xs) g m

no_more : (t : Times) (xs : List ℕ) (g : ℕ) → Among g (t.greatest ∷ gaps (t.last ∷ xs)) → g ≤ (on t xs).greatest
unfolding gaps
no_more t [] g m = let e = only t.greatest refl g m in omega (arith, e)
no_more t (x ∷ xs) g m = both-below t.greatest (x - t.last) (omega arith) (omega arith) (no_more (gap t x) xs) g m

-- of two stores
abbrev two : ℕ → ℕ → Times
two x y = times x y (y - x) (y - x)

tells-on : (x y : ℕ) (rest : List ℕ) → Tells x y rest (on (two x y) rest)
unfolding gaps
tells-on x y rest = record {
  first = first-on (two x y) rest;
  last = λ xs z e. last-on (two x y) rest ∙ ap (last_of 0) e ∙ last-push 0 xs z;
  least = least-among (two x y) rest;
  no_less = no_less (two x y) rest;
  greatest = greatest-among (two x y) rest;
  no_more = no_more (two x y) rest;
}

second : (d e : Store) → noted (noted nothing d) e
    ≡ record { stores = 2; bits = min (bits_of d + bits_of e) (2 ^ 64 - 1); first_bits = bits_of d; cycles = two d.cycle e.cycle; ticks = two d.tick e.tick }
unfolding noted
second d e = refl

two-stores : (d e : Store) → 2 ≤ (noted (noted nothing d) e).stores
two-stores d e = rw (second d e) (omega arith)

pub summaries : Summaries
summaries = record {
  stores = λ es h. counted nothing es (omega (arith, h)) ∙ omega arith;
  bits = λ es h. all-bits nothing es (λ z. refl) (omega (arith, h)) ∙ omega arith;
  words = λ es w. words-summed nothing es w (omega arith);
  first = λ e es. first-bits (noted nothing e) es (some-store nothing e) ∙ unfold noted in refl;
  alone = λ e. unfold noted in (record { first = refl; last = refl; least = refl; greatest = refl }, record { first = refl; last = refl; least = refl; greatest = refl });
  cycles = λ d e es.
      let s = cycles-on (noted (noted nothing d) e) es (two-stores d e) ∙ ap (λ (s : Summary). on s.cycles (map cycle_of es)) (second d e) in
      subst (Tells d.cycle e.cycle (map cycle_of es)) (sym s) (tells-on d.cycle e.cycle (map cycle_of es));
  ticks = λ d e es.
      let s = ticks-on (noted (noted nothing d) e) es (two-stores d e) ∙ ap (λ (s : Summary). on s.ticks (map tick_of es)) (second d e) in
      subst (Tells d.tick e.tick (map tick_of es)) (sym s) (tells-on d.tick e.tick (map tick_of es));
}
