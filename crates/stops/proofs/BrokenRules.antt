-- The marked words of the rules of 23, by computation on the definitions.
-- Assumes nothing.
use mathlib.Core.Path.{◌≡◌, refl}
use Rattle.bits.specs.Bits.{field, bit}
use Rattle.word.specs.declared.Instruction.{Instruction}
use Rattle.word.specs.Reader.{read_of}
use Rattle.condition.specs.Condition.{passes}
use Rattle.registers.specs.State.{State}
use Rattle.transfer.specs.Block.{named, named_from}
use Rattle.stops.specs.Rules.{rule_broken}
use Rattle.stops.specs.Stops.{due, stop_of, stop_for}
use Rattle.stops.specs.BrokenRules.{BrokenRules}

pub broken-rules : BrokenRules
unfolding field bit read_of passes named named_from rule_broken due stop_of stop_for
broken-rules = record {
  one = record { rs_15 = λ s. (refl, refl); rs_14 = λ s. refl; rm_15 = λ s. refl; rn_and_rd_15 = λ s. refl; amount = λ s. refl; rotation = λ s. refl };
  two = record {
    tst = λ s. (refl, refl);
    teq = λ s. (refl, refl);
    cmp = λ s. (refl, refl);
    cmn = λ s. (refl, refl);
    tst_s = λ s. refl;
    teq_s = λ s. refl;
    cmp_s = λ s. refl;
    cmn_s = λ s. refl;
    rsc = λ s. refl;
    orr = λ s. refl;
  };
  three = record {
    post_indexed = λ s. (refl, refl);
    written_back = λ s. (refl, refl);
    both = λ s. (refl, refl);
    store = λ s. (refl, refl);
    pre_indexed = λ s. refl;
    base_14 = λ s. refl;
    rd_15 = λ s. refl;
  };
  four = record {
    load = λ s. (refl, refl);
    store = λ s. (refl, refl);
    shifted = λ s. (refl, refl);
    rm_14 = λ s. refl;
    rn_15 = λ s. refl;
    rd_15 = λ s. refl;
    amount_15 = λ s. refl;
    constant_15 = λ s. refl;
    processing = λ s. refl;
  };
  five = record {
    load = λ s. (refl, refl);
    store = λ s. (refl, refl);
    rd_14 = λ s. refl;
    rn_15 = λ s. refl;
    word = λ s. refl;
    written_back = λ s. refl;
  };
  six = record {
    load = λ s. (refl, refl);
    store = λ s. (refl, refl);
    written_back = λ s. (refl, refl);
    down = λ s. (refl, refl);
    base_14 = λ s. refl;
    named_15 = λ s. refl;
  };
  seven = record {
    load = λ s. (refl, refl);
    store = λ s. (refl, refl);
    named_15 = λ s. (refl, refl);
    without_s = λ s. refl;
    p = λ s. refl;
    u = λ s. refl;
    w = λ s. refl;
  };
  eight = record {
    load = λ s. (refl, refl);
    store = λ s. (refl, refl);
    base_1 = λ s. (refl, refl);
    lowest = λ s. refl;
    highest = λ s. refl;
    several = λ s. refl;
  };
  nine = record {
    mul = λ s. (refl, refl);
    mla = λ s. (refl, refl);
    with_15 = λ s. (refl, refl);
    rd_rs = λ s. refl;
    rd_rn = λ s. refl;
    rd_unused = λ s. refl;
    rm_rs = λ s. refl;
  };
  ten = record {
    rd = λ s. (refl, refl);
    rm = λ s. (refl, refl);
    rs = λ s. (refl, refl);
    rn = λ s. (refl, refl);
    unused = λ s. (refl, refl);
    with_s = λ s. (refl, refl);
    rd_14 = λ s. refl;
    rn_14 = λ s. refl;
    rs_14 = λ s. refl;
    rm_14 = λ s. refl;
  };
}

-- these rules go by the word alone
pub rule-alike : (i : Instruction) (s t : State) → rule_broken i s ≡ rule_broken i t
unfolding rule_broken
rule-alike (Instruction.Processing i) s t = refl
rule-alike (Instruction.Single i) s t = refl
rule-alike (Instruction.Block i) s t = refl
rule-alike (Instruction.Branch i) s t = refl
rule-alike (Instruction.Multiply i) s t = refl
rule-alike (Instruction.Other w) s t = refl
