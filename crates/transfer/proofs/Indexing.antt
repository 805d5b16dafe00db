-- Single transfers by where they go and what they leave in the base register, proved.
-- Assumes nothing.
use Rattle.std.proofs.Common.{ℕ, List, ◌∙◌, arith}
use Rattle.word.specs.declared.Single.{Single}
use Rattle.transfer.specs.Single.{writes_base, changed_base, address_of, with_base}
use Rattle.transfer.specs.Indexing.{Indexing}
use Rattle.transfer.proofs.Written.{picked-other, picked_same}

pub indexed : (i : Single) (g : List ℕ) (f pc : ℕ) → Indexing i g f pc
unfolding changed_base address_of with_base
indexed i g f pc =
    let v = changed_base i g f pc in
    record {
      up = λ u h. simp u (omega arith);
      down = λ u word h. simp u (omega arith);
      post_indexed = λ p. simp p;
      post_written = λ p r l. picked_same (writes_base i) g i.rn v r l ∙ simp p;
      pre_indexed = λ p. simp p;
      pre_written = λ p w r l. picked_same (writes_base i) g i.rn v r l ∙ simp (p, w);
      pre_kept = λ p w. simp (p, w);
      others = λ x n. picked-other (writes_base i) g i.rn v x n;
    }
