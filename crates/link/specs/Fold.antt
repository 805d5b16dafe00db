-- The buffer in one walk: what of the stores so far tells the verdict, and the limits within which no number of it passes 64 bits.
use Rattle.std.specs.Prelude.{ℕ, suc, ◌+◌, ◌*◌, ◌^◌, ◌≤◌, ◌≡◌, max, ◌&&◌, List, ◌++◌, ltb, eqb, fold}
use Rattle.bits.specs.Choice.{pick}
use Rattle.link.specs.declared.Store.{Store}
use Rattle.link.specs.declared.Line.{Line}
use Rattle.link.specs.declared.Buffer.{Buffer}
use Rattle.link.specs.Buffer.{holds, level_after}

-- before the first store
abbrev pub empty : Buffer
empty = record { stores = 0; level = 0; tick = 0; greatest = 0; peak = 0; overflow = 0; overflow_tick = 0 }

-- one store more, which leaves the level v
abbrev pub measured : Line → Buffer → ℕ → ℕ → Buffer
measured o b tick v =
    let over = eqb b.overflow 0 && ltb (holds o) v in
    record {
      stores = suc b.stores;
      level = v;
      tick = tick;
      greatest = max b.greatest v;
      peak = pick (ltb b.greatest v) (suc b.stores) b.peak;
      overflow = pick over (suc b.stores) b.overflow;
      overflow_tick = pick over tick b.overflow_tick;
    }

unfoldable pub taken : Line → Buffer → Store → Buffer
taken o b e = measured o b e.tick (level_after o b.level b.tick e)

abbrev pub all_taken : Line → Buffer → List Store → Buffer
all_taken o b es = fold (taken o) b es

-- in pieces or at once
abbrev pub Joins : Type 0
Joins = (o : Line) (b : Buffer) (xs ys : List Store) → all_taken o b (xs ++ ys) ≡ all_taken o (all_taken o b xs) ys

abbrev pub most_stores : ℕ
most_stores = 500000000

-- an option, its clock and its buffer within their limits
pub record Limited (o : Line) : Type 0 where
  pub clock_from : 1 ≤ o.clock
  pub clock : o.clock ≤ 1000000000
  pub kilobits : o.kilobits ≤ 10000000
  pub words : o.words ≤ 2 ^ 20

-- no store brought more than a word
abbrev pub Filled : Line → Buffer → Type 0
Filled o b = b.level ≤ 32 * o.clock * b.stores

-- and n more can come
abbrev pub Room : Line → Buffer → ℕ → Type 0
Room o b n = Filled o b × (b.stores + n ≤ most_stores)
