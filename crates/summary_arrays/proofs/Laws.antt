-- The array of a summary and the summary are inverse to each other, proved. Assumes nothing.
use Rattle.std.proofs.Common.{◌≡◌, ℕ, ◌^◌, ◌<◌, List, ◌++◌, length}
use Rattle.link.specs.declared.Times.{Times}
use Rattle.link.specs.declared.Summary.{Summary}
use Rattle.link.specs.Summary.{times, summary, nothing}
use Rattle.arrays.specs.Words.{at, firsts}
use Rattle.arrays.proofs.Words.{by-firsts}
use Rattle.core_arrays.proofs.CountLaws.{count-back, count-words-back}
use Rattle.summary_arrays.specs.SummaryArray.{packed, unpacked}
use Rattle.summary_arrays.specs.Laws.{Inverse}
use Rattle.summary_arrays.specs.Places.{rate_word_count}

-- ---- from a summary to its array and back

same-times : (t : Times) {a b d e : ℕ} → a ≡ t.first → b ≡ t.last → d ≡ t.least → e ≡ t.greatest → times a b d e ≡ t
same-times t h i j k = rw (h, i, j, k)

same-summary : (s : Summary) {a b d : ℕ} {t u : Times} → a ≡ s.stores → b ≡ s.bits → d ≡ s.first_bits → t ≡ s.cycles → u ≡ s.ticks → summary a b d t u ≡ s
same-summary s h i j k l = rw (h, i, j, k, l)

pub summary-back : (s : Summary) → unpacked (packed s) ≡ s
unfolding packed unpacked
summary-back s =
    same-summary s (count-back s.stores) (count-back s.bits) (count-back s.first_bits)
    (same-times s.cycles (count-back s.cycles.first) (count-back s.cycles.last) (count-back s.cycles.least) (count-back s.cycles.greatest))
    (same-times s.ticks (count-back s.ticks.first) (count-back s.ticks.last) (count-back s.ticks.least) (count-back s.ticks.greatest))

-- ---- from an array to its summary and back

refilled : List ℕ → List ℕ → List ℕ → List ℕ → List ℕ → List ℕ → List ℕ → List ℕ → List ℕ → List ℕ → List ℕ → List ℕ
refilled a b d e f g h i j k l = a ++ b ++ d ++ (e ++ f ++ g ++ h) ++ (i ++ j ++ k ++ l)

refilled-same : {a a' b b' d d' e e' f f' g g' h h' i i' j j' k k' l l' : List ℕ} → a ≡ a' → b ≡ b' → d ≡ d' → e ≡ e' → f ≡ f' → g ≡ g' → h ≡ h' → i ≡ i' → j ≡ j' → k ≡ k' → l ≡ l'
    → refilled a b d e f g h i j k l ≡ refilled a' b' d' e' f' g' h' i' j' k' l'
refilled-same m n o p q r s t u v w = cc

words-back-at : (f : ℕ → ℕ) → ((k : ℕ) → at (firsts rate_word_count f) k < 2 ^ 32) → packed (unpacked (firsts rate_word_count f)) ≡ firsts rate_word_count f
unfolding packed unpacked refilled
words-back-at f b =
    refilled-same (count-words-back (f 0) (f 1) (b 0) (b 1)) (count-words-back (f 2) (f 3) (b 2) (b 3)) (count-words-back (f 4) (f 5) (b 4) (b 5))
    (count-words-back (f 6) (f 7) (b 6) (b 7)) (count-words-back (f 8) (f 9) (b 8) (b 9)) (count-words-back (f 10) (f 11) (b 10) (b 11)) (count-words-back (f 12) (f 13) (b 12) (b 13))
    (count-words-back (f 14) (f 15) (b 14) (b 15)) (count-words-back (f 16) (f 17) (b 16) (b 17)) (count-words-back (f 18) (f 19) (b 18) (b 19)) (count-words-back (f 20) (f 21) (b 20) (b 21))

words-back : (words : List ℕ) → length words ≡ rate_word_count → ((k : ℕ) → at words k < 2 ^ 32) → packed (unpacked words) ≡ words
words-back = by-firsts rate_word_count (λ words. ((k : ℕ) → at words k < 2 ^ 32) → packed (unpacked words) ≡ words) words-back-at

zeros : (words : List ℕ) → ((k : ℕ) → at words k ≡ 0) → unpacked words ≡ nothing
unfolding unpacked
zeros words z =
    rw (z 0, z 1, z 2, z 3, z 4, z 5, z 6, z 7, z 8, z 9, z 10, z 11, z 12, z 13, z 14, z 15, z 16, z 17, z 18, z 19, z 20, z 21)

pub inverse : Inverse
inverse = record { summary = summary-back; words = words-back; zeros = zeros }
