-- Piece by piece. Assumes nothing.
use Rattle.std.proofs.Common.{◌≡◌, ◌<◌, ◌++◌, ◌∙◌, List, ℕ, min, length, take, sym, ap, arith}
use Rattle.std.proofs.lemmas.List.{append-nil, append_assoc, take_min}
use Rattle.rate.specs.Texts.{head, option_lines, last_lines}
use Rattle.rate.proofs.Lists.{lines-more, no-lines}
use Rattle.rate.proofs.told.told.Goals as goal

pub loop-k-init : goal.loop-k-init
loop-k-init c =
    let f = c.args.f.now in
    c.in_ok-extend_from_slice.ensures.items ∙ ap (λ xs. xs ++ c.as_slice.result.now) c.new-all.ensures.items
    ∙ (c.as_slice.ensures ∙ c.head.ensures) ∙ sym (append-nil (head f)) ∙ ap (λ xs. head f ++ xs) (sym (no-lines f.verdicts))

pub loop-k-preserved : goal.loop-k-preserved
loop-k-preserved c =
    let f = c.args.f.now in
    let os = c.args.r.now.options in
    let k = c.loop-k.k in
    let lines = option_lines (take k os) f.verdicts in
    let line = c.option_line.result in
    let in_options : k < length os = omega (arith, c.loop-k-test.true, c.min-count.ensures) in
    let in_verdicts : k < length f.verdicts = omega (arith, c.loop-k-test.true, c.min-count.ensures) in
    c.in_ok-extend_from_slice-2.ensures.items
    ∙ ap (λ xs. xs ++ c.as_slice-in-loop-k.result.now) c.loop-k.invariant
    ∙ append_assoc (head f) lines c.as_slice-in-loop-k.result.now
    ∙ ap (λ xs. head f ++ (lines ++ xs)) (c.as_slice-in-loop-k.ensures ∙ c.option_line.ensures)
    ∙ ap (λ xs. head f ++ xs) (sym (lines-more k os f.verdicts _ in_options in_verdicts))

pub returns : goal.returns
returns c =
    let f = c.args.f.now in
    let os = c.args.r.now.options in
    let n = c.args.r.now.count in
    let lines = option_lines (take c.loop-k.k os) f.verdicts in
    let all : c.loop-k.k ≡ min n (length os) = omega (arith, c.loop-k-test.false, c.loop-k.auto.k-end, c.min-count.ensures) in
    let asked = ap (λ (j : ℕ). take j os) all ∙ take_min n os in
    c.in_ok-extend_from_slice-3.ensures.items
    ∙ ap (λ xs. xs ++ c.as_slice-2.result.now) c.loop-k.invariant
    ∙ append_assoc (head f) lines c.as_slice-2.result.now
    ∙ ap (λ xs. head f ++ (lines ++ xs)) (c.as_slice-2.ensures ∙ c.last_lines.ensures)
    ∙ ap (λ (xs : List ℕ). head f ++ (option_lines xs f.verdicts ++ last_lines f)) asked
