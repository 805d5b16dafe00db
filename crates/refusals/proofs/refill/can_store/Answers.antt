use mathlib.Core.Path.{sym, ◌∙◌}
use Rattle.word.specs.declared.Instruction.{Instruction}
use Rattle.stops.specs.Rules.{rule_broken}
use Rattle.refusals.proofs.Refills.{kept, read-stores, both-store, stores-none, branch-stores}
use Rattle.refusals.proofs.refill.can_store.Goals as goal

pub returns-in-Processing : goal.returns-in-Processing
unfolding rule_broken
returns-in-Processing c s =
    read-stores s (sym c.in-Processing.is ∙ c.read.ensures)
    (both-store s (Instruction.Processing c.in-Processing.i) (kept _ c.is_ok.ensures.value (c.processing_rule.ensures s)) c.processing_stores.ensures)

pub returns-in-Single : goal.returns-in-Single
unfolding rule_broken
returns-in-Single c s =
    read-stores s (sym c.in-Single.is ∙ c.read.ensures)
    (both-store s (Instruction.Single c.in-Single.i) (kept _ c.is_ok-in-Single.ensures.value c.single_rule.ensures) c.single_stores.ensures)

pub returns-in-Block : goal.returns-in-Block
unfolding rule_broken
returns-in-Block c s =
    read-stores s (sym c.in-Block.is ∙ c.read.ensures)
    (both-store s (Instruction.Block c.in-Block.i) (kept _ c.is_ok-in-Block.ensures.value c.block_rule.ensures) c.block_stores.ensures)

pub returns-in-Branch : goal.returns-in-Branch
returns-in-Branch c s = read-stores s (sym c.in-Branch.is ∙ c.read.ensures) (branch-stores s _)

pub returns-in-Multiply : goal.returns-in-Multiply
returns-in-Multiply c s = stores-none s c.in-Multiply.is c.read.ensures
