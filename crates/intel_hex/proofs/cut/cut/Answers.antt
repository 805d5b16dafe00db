-- A text that does not begin as a record, is too short or has no end there begins with an unsound line; else that line is as long as its count
-- says. Assumes nothing.
use Rattle.std.proofs.Common.{◌≡◌, ◌+◌, ◌*◌, length, drop, arith, ap, sym, ◌∙◌, refl}
use Rattle.std.proofs.lemmas.Bool.{false≢true}
use Rattle.std.proofs.lemmas.List.{take_rest, length-drop}
use Rattle.intel_hex.specs.Walk.{count_at, end_at}
use Rattle.intel_hex.proofs.Cuts.{does-begin, fits, does-end, found, refused-text}
use Rattle.intel_hex.proofs.cut.cut.Goals as goal

pub returns-in_default : goal.returns-in_default
returns-in_default c = refused-text _ (λ s f. false≢true (sym c.in_default.ensures ∙ does-begin _ s f))

pub returns-then-text-length : goal.returns-then-text-length
returns-then-text-length c = refused-text _ (λ s f. omega (arith, fits _ s f, c.in-Some.ensures.1, c.if-text-length.true))

pub returns-in_default-end_of : goal.returns-in_default-end_of
returns-in_default-end_of c =
    let n = 1 + 2 * (c.in-Some.count + 5) in
    let same : 11 + 2 * count_at c.args.text.now ≡ n = omega (arith, c.in-Some.ensures.1) in
    let there = ap (λ k. drop k c.args.text.now) same ∙ sym (take_rest c.args.text.now n) in
    refused-text _ (λ s f. does-end _ s f (ap end_at there ∙ c.in_default-end_of.ensures))

pub returns : goal.returns
returns c =
    let n = 1 + 2 * (c.in-Some.count + 5) in
    let e = c.in-Some-end_of.ensures in
    let left = sym (take_rest c.args.text.now n) in
    let size = ap length left in (
      refl,
      omega arith,
      omega (arith, e.2, size, length-drop n c.args.text.now, c.if-text-length.false),
      found _ _ _ _ c.in-Some.ensures.0 c.in-Some.ensures.1 (omega arith) c.if-text-length.false (ap end_at left ∙ e.0) e.1,
    )
