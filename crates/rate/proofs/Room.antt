-- Each text of the figures has room, whatever its numbers are. Assumes nothing.
use Rattle.std.proofs.Common.{◌≡◌, ℕ, ◌^◌, ◌<◌, ◌≤◌, ◌/◌, ◌%◌, Bool, true, false, [], ◌++◌, Option, Some, None, length, eqb, ltb, ap, refl, arith}
use Rattle.std.proofs.lemmas.Bool.{ltb-true, ltb-false}
use Rattle.std.proofs.Math.ListN.{length-append}
use Rattle.bits.specs.Choice.{pick}
use Rattle.text.specs.Text.{decimal, hex_digits}
use Rattle.text.specs.Quoted.{bytes}
use Rattle.text.proofs.Digits.{hex-length, decimal-length, decimal-below, decimal-tens}
use Rattle.link.specs.declared.Summary.{Summary}
use Rattle.link.specs.declared.Verdict.{Verdict}
use Rattle.rate.specs.declared.Figures.{Figures}
use Rattle.rate.specs.Texts.{word_line, end_lines, count_lines, time_lines, gap_lines, rate_line, head, yes_no, overflow_told, option_line, choice_told, last_lines}

word-length : (word : Option ℕ) → length (word_line word) ≤ 18
word-length None = omega arith
word-length (Some w) = simp (length-append, hex-length) (omega arith)

end-length : (f : Figures) → length (end_lines f) ≤ 64
unfolding end_lines
end-length f = go (eqb f.end 0)
  where
    go : (b : Bool) → length ((bytes "end=" ++ (decimal f.end ++ bytes "\n")) ++ pick b [] ((bytes "end_address=" ++ (hex_digits 8 f.end_address ++ bytes "\n")) ++ word_line f.end_word)) ≤ 64
    go true = simp length-append (omega (arith, decimal-length 20 f.end))
    go false = simp (length-append, hex-length) (omega (arith, decimal-length 20 f.end, word-length f.end_word))

count-length : (f : Figures) → length (count_lines f) ≤ 109
unfolding count_lines
count-length f =
    simp length-append
    (omega (arith, decimal-length 20 f.cycles, decimal-length 20 f.ticks, decimal-length 20 f.summary.stores, decimal-length 20 f.summary.bits))

time-length : (s : Summary) → length (time_lines s) ≤ 128
unfolding time_lines
time-length s =
    simp length-append
    (omega (arith, decimal-length 20 s.cycles.first, decimal-length 20 s.ticks.first, decimal-length 20 s.cycles.last, decimal-length 20 s.ticks.last))

gap-length : (s : Summary) → length (gap_lines s) ≤ 156
unfolding gap_lines
gap-length s =
    simp length-append
    (omega (arith, decimal-length 20 s.cycles.least, decimal-length 20 s.ticks.least, decimal-length 20 s.cycles.greatest, decimal-length 20 s.ticks.greatest))

-- the digits of all tens are one fewer
tens-length : (n : ℕ) → n < 2 ^ 64 → length (decimal (n / 10)) ≤ 19
tens-length n h = go (ltb n 10) refl
  where
    go : (b : Bool) → ltb n 10 ≡ b → length (decimal (n / 10)) ≤ 19
    go true e =
        let small = ltb-true n 10 e in
        rw (decimal-below (n / 10) (omega (arith, small))) (omega arith)
    go false e =
        let d = ap length (decimal-tens n (ltb-false n 10 e) h) in
        let s = simp length-append at d in
        omega (arith, s, decimal-length 20 n)

rate-length : (n : ℕ) → n < 2 ^ 64 → length (rate_line n) ≤ 27
unfolding rate_line
rate-length n h =
    let one : length (decimal (n % 10)) ≡ 1 = ap length (decimal-below (n % 10) (omega arith)) in
    simp length-append (omega (arith, tens-length n h, one))

pub head-length : (f : Figures) → f.rate < 2 ^ 64 → length (head f) ≤ 512
unfolding head
head-length f h =
    simp length-append
    (omega (arith, decimal-length 20 f.size, end-length f, count-length f, time-length f.summary, gap-length f.summary, rate-length f.rate h))

overflow-length : (v : Verdict) → length (overflow_told v) ≤ 73
unfolding overflow_told
overflow-length v = go (eqb v.overflow 0)
  where
    go : (b : Bool) → length (pick b (bytes "yes") (bytes "no overflow_store=" ++ (decimal v.overflow ++ (bytes " overflow_tick=" ++ decimal v.overflow_tick)))) ≤ 73
    go true = omega arith
    go false = simp length-append (omega (arith, decimal-length 20 v.overflow, decimal-length 20 v.overflow_tick))

yes-length : (b : Bool) → length (yes_no b) ≤ 3
yes-length true = omega arith
yes-length false = omega arith

pub option-length : (option : ℕ) (v : Verdict) → length (option_line option v) ≤ 512
unfolding option_line
option-length option v =
    simp length-append
    (omega (arith, decimal-length 20 option, decimal-length 20 v.backlog, yes-length v.grows, overflow-length v))

choice-length : (choice : Option ℕ) → length (choice_told choice) ≤ 20
choice-length None = omega arith
choice-length (Some option) = decimal-length 20 option

pub last-length : (f : Figures) → length (last_lines f) ≤ 512
unfolding last_lines
last-length f = simp length-append (omega (arith, choice-length f.choice, decimal-length 20 f.cycles))
