use mathlib.Core.Path.{◌≡◌, sym, ◌∙◌}
use Rattle.word.specs.declared.Instruction.{Instruction}
use Rattle.word.specs.Reader.{read_of}
use Rattle.watch.proofs.Bursts.{no-stores, processing-stores, branch-stores, multiply-stores, other-stores}
use Rattle.watch.proofs.due.word_burst.Goals as goal

pub returns-in-Processing-clause-value : goal.returns-in-Processing-clause-value
returns-in-Processing-clause-value c mem =
    let e : Instruction.Processing c.in-Processing.field-0 ≡ read_of c.args.word = sym c.in-Processing.is ∙ c.read.ensures in
    c.from_second.ensures.value ∙ no-stores _ _ _ _ ∙ sym (rw (← e) (processing-stores _ _ _ _))

pub returns-in-Branch-clause-value : goal.returns-in-Branch-clause-value
returns-in-Branch-clause-value c mem =
    let e : Instruction.Branch c.in-Branch.field-0 ≡ read_of c.args.word = sym c.in-Branch.is ∙ c.read.ensures in
    c.from_second-in-Branch.ensures.value ∙ no-stores _ _ _ _ ∙ sym (rw (← e) (branch-stores _ _ _ _))

pub returns-in-Multiply-clause-value : goal.returns-in-Multiply-clause-value
returns-in-Multiply-clause-value c mem =
    let e : Instruction.Multiply c.in-Multiply.field-0 ≡ read_of c.args.word = sym c.in-Multiply.is ∙ c.read.ensures in
    c.from_second-in-Multiply.ensures.value ∙ no-stores _ _ _ _ ∙ sym (rw (← e) (multiply-stores _ _ _ _))

pub returns-in-Other-clause-value : goal.returns-in-Other-clause-value
returns-in-Other-clause-value c mem =
    let e : Instruction.Other c.in-Other.field-0 ≡ read_of c.args.word = sym c.in-Other.is ∙ c.read.ensures in
    c.from_second-in-Other.ensures.value ∙ no-stores _ _ _ _ ∙ sym (rw (← e) (other-stores _ _ _ _))
