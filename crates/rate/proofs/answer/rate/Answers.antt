-- A refusal, or the run and what it is told by. Assumes nothing.
use Rattle.std.proofs.Common.{◌∙◌, sym, arith, ◌≤◌, length, replicate, refl}
use Rattle.cycle.specs.declared.Control.{Control}
use Rattle.cycle.specs.Machine.{machine}
use Rattle.plain.specs.Told.{ran_to}
use Rattle.link.specs.Window.{window}
use Rattle.rate.specs.Request.{most_clock, most_cycles}
use Rattle.rate.proofs.Handed.{into, into-words, into-length}
use Rattle.rate.proofs.Allowed.{allowed, limits, at_most, bits-room}
use Rattle.rate.proofs.Whole.{refusal-told, refusal-keeps, not-both, whole, leaves, all-heard}
use Rattle.rate.proofs.answer.rate.Goals as goal

pub returns-in-Some : goal.returns-in-Some
returns-in-Some g c =
    let e = sym c.refused.ensures ∙ c.in-Some.is in
    record {
      answer = sym (refusal-told c.args.request c.args.image.now c.in-Some.refusal e);
      image = refusal-keeps c.args.request c.args.image.now c.in-Some.refusal e;
      heard = λ n. absurd (not-both e n);
      unheard = λ x n. refl;
    }

pub begun-control-requires : goal.begun-control-requires
begun-control-requires g c = (allowed c.args.request (length c.args.image.now) (sym c.refused.ensures ∙ c.in_default.is)).length

pub watched-went-requires-clause-limits : goal.watched-went-requires-clause-limits
watched-went-requires-clause-limits g c = limits (allowed c.args.request (length c.args.image.now) (sym c.refused.ensures ∙ c.in_default.is))

pub watched-went-requires-clause-cycles : goal.watched-went-requires-clause-cycles
watched-went-requires-clause-cycles g c = at_most most_cycles _ (allowed c.args.request (length c.args.image.now) (sym c.refused.ensures ∙ c.in_default.is)).cycles

pub figures-requires-clause-limits : goal.figures-requires-clause-limits
figures-requires-clause-limits g c = limits (allowed c.args.request (length c.args.image.now) (sym c.refused.ensures ∙ c.in_default.is))

pub figures-requires-clause-sums : goal.figures-requires-clause-sums
figures-requires-clause-sums g c =
    let within = at_most most_cycles c.args.request.cycles (allowed c.args.request (length c.args.image.now) (sym c.refused.ensures ∙ c.in_default.is)).cycles in
    omega (arith, c.watched-went.ensures.ends.counted.sums, c.watched-went.ensures.ends.within, within)

pub figures-requires-clause-bits : goal.figures-requires-clause-bits
figures-requires-clause-bits g c =
    let r = c.args.request in
    let a = allowed r (length c.args.image.now) (sym c.refused.ensures ∙ c.in_default.is) in
    let w = window r.from r.to in
    let m = machine (replicate 15 0) c.begun-control.result c.args.image.now in
    let n = c.watched-went.result.ran.used in
    let few : length (into w m n) ≤ most_cycles = omega (arith, into-length w m n, c.watched-went.ensures.ends.within, at_most most_cycles r.cycles a.cycles) in
    bits-room (into w m n) c.watched-went.result.summary r.clock c.watched-went.ensures.ends.folded.summary (into-words w m n) few (at_most most_clock r.clock a.clock)

pub returns : goal.returns
returns g c =
    let r = c.args.request in
    let image = c.args.image.now in
    let m = machine (replicate 15 0) c.begun-control.result image in
    let went = ran_to (λ (d : Control). machine c.watched-went.new.registers d c.watched-went.new.image) c.watched-went.result.ran in
    let none = sym c.refused.ensures ∙ c.in_default.is in
    let start = c.begun-control.ensures.start image refl in
    let ends = c.watched-went.ensures.ends in
    record {
      answer =
          c.outcome.ensures
          ∙ whole r image m went c.figures.result c.watched-went.result.summary c.watched-went.result.buffers none start ends
          (c.figures.ensures c.watched-went.new.registers c.watched-went.new.image);
      image = leaves r image m went c.watched-went.result.summary c.watched-went.result.buffers start ends none;
      heard = λ n. all-heard r image m went c.watched-went.result.summary c.watched-went.result.buffers start ends c.watched-went.ensures.heard;
      unheard = λ x e. absurd (not-both e none);
    }
