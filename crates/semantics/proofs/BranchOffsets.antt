-- A branch goes by its signed offset.
-- Assumes nothing.
use Rattle.std.proofs.Common.{◌≡◌, ℕ, ◌+◌, ◌*◌, ◌%◌, ◌^◌, ◌<◌, Bool, true, false, ◌≢◌, List, length, get_or, set, refl, arith, get_or-set_other, get_or-set_same}
use Rattle.bits.specs.Choice.{pick}
use Rattle.word.specs.declared.Branch.{Branch}
use Rattle.datapath.specs.Counter.{ahead, counter, r15_word}
use Rattle.registers.specs.State.{State}
use Rattle.registers.specs.Registers.{put}
use Rattle.semantics.specs.Branch.{branched}
use Rattle.semantics.specs.Effect.{effect_of}
use Rattle.semantics.specs.BranchOffsets.{BranchOffsets, Branches, branch_effect}

module _ (i : Branch) (s : State) (fits : s.status < 16) (word : s.a % 4 ≡ 0) where
  abbrev g : List ℕ
  g = s.registers

  others : (r : ℕ) → r ≢ 14 → get_or (branch_effect i s).out.registers r 0 ≡ get_or g r 0
  unfolding effect_of branched put
  others r n = go i.link _
    where
      go : (b : Bool) (v : ℕ) → get_or (pick b (set g 14 v) g) r 0 ≡ get_or g r 0
      go true v = get_or-set_other g 14 r v 0 n
      go false v = refl

  linked : i.link ≡ true → length g ≡ 15 → get_or (branch_effect i s).out.registers 14 0 ≡ s.status * 2 ^ 28 + (s.a + 4) % 2 ^ 26
  unfolding effect_of branched put r15_word ahead
  linked e l = rw (e, get_or-set_same g 14 _ 0 (omega arith)) (omega arith)

  branches : Branches i s
  unfolding effect_of branched counter ahead
  branches = record {
    below = omega arith;
    forward = λ h. omega arith;
    back = λ h k. omega arith;
    linked = linked;
    others = others;
    unlinked = λ e. rw e;
    flags = refl;
    memory = refl;
  }

pub branch-offsets : BranchOffsets
branch-offsets = branches
