-- What is known of a request that is not refused. Assumes nothing.
use Rattle.std.proofs.Common.{◌≡◌, ℕ, zero, suc, ◌*◌, ◌^◌, ◌<◌, ◌≤◌, Bool, true, false, not, Option, Some, None, List, [], ◌∷◌, length, get_or, ltb, leb, refl, ap, subst, arith}
use Rattle.std.proofs.lemmas.Bool.{leb-true}
use Rattle.std.proofs.lemmas.List.{get_or-take}
use Rattle.std.proofs.Math.Nat.{mul-le-mul_left, mul-le-mul_right}
use borrow.Author.Tests.{not-false}
use Rattle.bits.specs.Choice.{pick}
use Rattle.semantics.proofs.Both.{and-true}
use Rattle.memory.specs.Lengths.{bad_length}
use Rattle.link.specs.declared.Store.{Store}
use Rattle.link.specs.declared.Summary.{Summary}
use Rattle.link.specs.Window.{window, bad_window}
use Rattle.link.specs.Summary.{Word, nothing, summed}
use Rattle.link.specs.Rate.{later_bits}
use Rattle.link.proofs.Gaps.{summaries}
use Rattle.std.specs.List.{All}
use Rattle.rate.specs.declared.Request.{Request}
use Rattle.rate.specs.declared.Refusal.{Refusal}
use Rattle.rate.specs.declared.Refusal.TheVariants.{Length, Window, Clock, Options, Buffer, Cycles}
use Rattle.rate.specs.Request.{most_clock, most_kilobits, most_options, most_words, most_cycles, within, options_of, next, rises, good_options, refused}
use Rattle.rate.specs.Folds.{Limits}

pub record Allowed (r : Request) (n : ℕ) : Type 0 where
  pub length : bad_length n ≡ false
  pub window : bad_window (window r.from r.to) n ≡ false
  pub clock : within most_clock r.clock ≡ true
  pub options : good_options r ≡ true
  pub words : within most_words r.words ≡ true
  pub cycles : within most_cycles r.cycles ≡ true

passed : (b : Bool) (x : Refusal) (rest : Option Refusal) → pick b (Some x) rest ≡ None → (b ≡ false) × (rest ≡ None)
passed true x rest e = absurd cc
passed false x rest e = (refl, e)

pub allowed : (r : Request) (n : ℕ) → refused r n ≡ None → Allowed r n
unfolding refused
allowed r n e =
    let a = passed (bad_length n) Length _ e in
    let b = passed (bad_window (window r.from r.to) n) Window _ a.1 in
    let c = passed (not (within most_clock r.clock)) Clock _ b.1 in
    let d = passed (not (good_options r)) Options _ c.1 in
    let f = passed (not (within most_words r.words)) Buffer _ d.1 in
    let g = passed (not (within most_cycles r.cycles)) Cycles _ f.1 in
    record {
      length = a.0;
      window = b.0;
      clock = not-false _ c.0;
      options = not-false _ d.0;
      words = not-false _ f.0;
      cycles = not-false _ g.0;
    }

pub at_least : (most n : ℕ) → within most n ≡ true → 1 ≤ n
at_least most n e = leb-true 1 n (and-true (leb 1 n) e).0

pub at_most : (most n : ℕ) → within most n ≡ true → n ≤ most
at_most most n e = leb-true n most (and-true (leb 1 n) e).1

-- none of the options is above the most
pub rises-most : (x : ℕ) (os : List ℕ) (k : ℕ) → rises x os ≡ true → get_or os k 0 ≤ most_kilobits
unfolding rises
rises-most x [] k e = omega arith
rises-most x (o ∷ os) zero e = leb-true o most_kilobits (and-true (ltb x o) (and-true (next x o) e).0).1
rises-most x (o ∷ os) (suc k) e = rises-most o os k (and-true (next x o) e).1

pub limits : {r : Request} {n : ℕ} → Allowed r n → Limits r
limits {r} a =
    let both = and-true (within most_options r.count) a.options in
    record {
      count = at_most most_options r.count both.0;
      lines = λ k l.
          record {
            clock_from = at_least most_clock r.clock a.clock;
            clock = at_most most_clock r.clock a.clock;
            kilobits = subst (λ x. x ≤ most_kilobits) (get_or-take r.count r.options k 0 l) (rises-most 0 (options_of r) k both.1);
            words = at_most most_words r.words a.words;
          };
    }

-- the rate's product fits
pub bits-room : (es : List Store) (s : Summary) (clock : ℕ) → s ≡ summed nothing es → All Word es → length es ≤ most_cycles → clock ≤ most_clock → later_bits s * clock < 2 ^ 64
bits-room es s clock is words h k =
    let n = summaries.stores es (omega (arith, h)) in
    let w = summaries.words es words in
    let b : s.bits ≡ (summed nothing es).bits = ap (λ (s : Summary). s.bits) is in
    let few : later_bits s ≤ 16000000000 = omega (arith, n, w, b, h) in
    let l = mul-le-mul_left (later_bits s) k in
    let m = mul-le-mul_right most_clock few in
    omega (arith, l, m)
