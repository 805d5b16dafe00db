-- Data and sum are the two parts of the digits. Assumes nothing.
use Rattle.std.proofs.Common.{◌*◌, ◌≤◌, length, ap, arith, ◌∙◌}
use Rattle.intel_hex.specs.Record.{bytes_of}
use Rattle.intel_hex.proofs.Heads.{parts-held, bad-data, bad-last, good-parts}
use Rattle.intel_hex.proofs.records.sound_in.Goals as goal

pub returns-in_default-clause-answer : goal.returns-in_default-clause-answer
returns-in_default-clause-answer c = bad-data c.args.h _ _ _ c.split_at.ensures.front c.in_default.ensures

pub returns-in_default-decode-clause-answer : goal.returns-in_default-decode-clause-answer
returns-in_default-decode-clause-answer c = bad-last c.args.h _ _ _ c.split_at.ensures.back c.in_default-decode.ensures

pub returns-clause-answer : goal.returns-clause-answer
returns-clause-answer c =
    let room : 2 * length c.args.into.now ≤ length c.args.digits.now = omega (arith, c.requires) in
    let front = c.in-Some.ensures in
    let last = c.in-Some-decode.ensures in
    good-parts c.args.h _ _ _ (length c.args.into.now) _ _ _ room c.split_at.ensures.front c.split_at.ensures.back front.0 last.0 c.sum.ensures front.1 last.1

pub returns-clause-held : goal.returns-clause-held
returns-clause-held c sound =
    let room : 2 * length c.args.into.now ≤ length c.args.digits.now = omega (arith, c.requires) in
    parts-held (length c.args.into.now) _ _ room (c.in-Some.ensures.2 ∙ ap bytes_of c.split_at.ensures.front)
