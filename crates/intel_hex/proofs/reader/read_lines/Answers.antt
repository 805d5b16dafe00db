-- The first line left is unsound, or leads on; at the end of the text no line is left. Assumes nothing.
use Rattle.std.proofs.Common.{length, arith, ap, sym, ◌∙◌}
use Rattle.std.proofs.lemmas.List.{take_rest, length-drop}
use Rattle.intel_hex.proofs.Reading.{left-unsound, left-onward, none-left}
use Rattle.intel_hex.proofs.reader.read_lines.Goals as goal

pub returns-in_default : goal.returns-in_default
returns-in_default c =
    let l = c.loop-at in
    let text = c.args.text.now in
    sym (l.invariant.goes ∙ left-unsound l.line l.upper l.at l.memory text _ (take_rest text l.at) c.in_default.ensures c.loop-at-test.true)

pub loop-at-preserved : goal.loop-at-preserved
loop-at-preserved c =
    let l = c.loop-at in
    let text = c.args.text.now in
    let cut = c.in-Some.ensures in
    let left = ap length (take_rest text l.at) ∙ length-drop l.at text in
    record {
      within = omega (arith, cut.2, left, l.invariant.within);
      counted = omega (arith, cut.0, cut.1, l.invariant.counted);
      goes = l.invariant.goes
          ∙ left-onward l.line l.upper _ _ l.at l.memory _ text _ _ (take_rest text l.at) cut.3 (λ later. c.in-Onward.ensures l.line later);
    }

pub returns : goal.returns
returns c =
    let l = c.loop-at in
    sym (l.invariant.goes ∙ none-left l.line l.upper l.at l.memory c.args.text.now c.loop-at-test.false)
