-- What a default is, and what a stop that is there or not tells. Assumes nothing.
use Rattle.std.proofs.Common.{◌≡◌, ℕ, true, false, Option, Some, None, refl}
use Rattle.std.specs.Option.{is_some}
use Rattle.stops.specs.declared.reason.Stop.{Stop}
use Rattle.stops.specs.Numbers.{held_number}
use Rattle.stops.proofs.Numbers.{some_number}
use Rattle.link.specs.declared.Times.{Times}
use Rattle.link.specs.declared.Summary.{Summary}
use Rattle.link.specs.declared.Buffer.{Buffer}
use Rattle.link.specs.Summary.{times, nothing}
use Rattle.link.specs.Fold.{empty}

buffer : {s l t g p o u : ℕ} → s ≡ 0 → l ≡ 0 → t ≡ 0 → g ≡ 0 → p ≡ 0 → o ≡ 0 → u ≡ 0
    → ◌≡◌ {A = Buffer} (record { stores = s; level = l; tick = t; greatest = g; peak = p; overflow = o; overflow_tick = u }) empty
buffer s l t g p o u = cc

abbrev BlankBuffer : Buffer → Type 0
BlankBuffer b = (b.stores ≡ 0) × ((b.level ≡ 0) × ((b.tick ≡ 0) × ((b.greatest ≡ 0) × ((b.peak ≡ 0) × ((b.overflow ≡ 0) × (b.overflow_tick ≡ 0))))))

pub blank-buffer : (b : Buffer) → BlankBuffer b → b ≡ empty
blank-buffer b (s, (l, (t, (g, (p, (o, u)))))) = buffer s l t g p o u

abbrev BlankTimes : Times → Type 0
BlankTimes t = (t.first ≡ 0) × ((t.last ≡ 0) × ((t.least ≡ 0) × (t.greatest ≡ 0)))

no-times : {f l s g : ℕ} → f ≡ 0 → l ≡ 0 → s ≡ 0 → g ≡ 0 → ◌≡◌ {A = Times} (record { first = f; last = l; least = s; greatest = g }) (times 0 0 0 0)
no-times f l s g = cc

blank-times : (t : Times) → BlankTimes t → t ≡ times 0 0 0 0
blank-times t (f, (l, (s, g))) = no-times f l s g

all : {n b f : ℕ} {c t : Times} → n ≡ 0 → b ≡ 0 → f ≡ 0 → c ≡ times 0 0 0 0 → t ≡ times 0 0 0 0
    → ◌≡◌ {A = Summary} (record { stores = n; bits = b; first_bits = f; cycles = c; ticks = t }) nothing
all n b f c t = cc

pub blank-summary : (s : Summary) → (s.stores ≡ 0) × ((s.bits ≡ 0) × ((s.first_bits ≡ 0) × (BlankTimes s.cycles × BlankTimes s.ticks))) → s ≡ nothing
blank-summary s (n, (b, (f, (c, t)))) = all n b f (blank-times s.cycles c) (blank-times s.ticks t)

pub a-stop : (o : Option Stop) → is_some o ≡ true → held_number o ≡ 0 → ⊥
a-stop None e h = absurd cc
a-stop (Some s) e h = some_number s h

pub no-stop : (o : Option Stop) → is_some o ≡ false → o ≡ None
no-stop None e = refl
no-stop (Some s) e = absurd cc
