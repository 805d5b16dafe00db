-- A line on: what the lines of a text make, by what its first line says. Assumes nothing.
use mathlib.Core.Path.{◌≡◌, refl, sym, ap, ◌∙◌}
use mathlib.Core.Bool.{true, false}
use mathlib.Core.List.{List, [], ◌∷◌}
use mathlib.Core.Logic.{◌≢◌}
use Prim.Native.Nat.{ℕ, suc, ◌+◌, ◌<◌, ◌≤◌}
use native.Mathlib.Omega.{arith}
use lib.ListN.{length, drop}
use Rattle.std.proofs.lemmas.List.{drop-drop, length-drop, drop_all}
use Rattle.memory.specs.Lengths.{length_refused, bad_length}
use Rattle.intel_hex.specs.Lines.{lines}
use Rattle.intel_hex.specs.Record.{Record, Unsound}
use Rattle.intel_hex.specs.Numbers.{unsound, no_end}
use Rattle.intel_hex.specs.Reader.{answered, refused, zeros, records, read_on, read}
use Rattle.intel_hex.specs.Walk.{Leads}
use Rattle.intel_hex.proofs.Heads.{read-unsound}

one-more : (k : ℕ) → suc k ≡ k + 1
one-more k = omega arith

pub first-unsound : (k upper : ℕ) (mem text : List ℕ) → Leads text Unsound 0 → read_on k upper mem (records text) ≡ refused unsound (k + 1) mem
first-unsound k upper mem text first =
    ap (read_on k upper mem) first.1 ∙ read-unsound k upper mem mem first.0 Unsound refl refl ∙ ap (λ n. refused unsound n mem) (one-more k)

-- a line from which the read goes on is sound
goes-on : (k upper half : ℕ) (mem new : List ℕ) (r : Record) → ((later : List Record) → read_on k upper mem (r ∷ later) ≡ read_on (suc k) half new later)
    → r ≡ Unsound → ⊥
unfolding read_on
goes-on k upper half mem new r step is =
    let numbers : unsound ≡ no_end = ap (λ x. x.answer) (sym (read-unsound k upper mem mem [] r is refl) ∙ step []) in
    omega (arith, numbers)

pub onward : (k upper half whole : ℕ) (mem new text : List ℕ) (r : Record) → Leads text r whole
    → ((later : List Record) → read_on k upper mem (r ∷ later) ≡ read_on (suc k) half new later)
    → read_on k upper mem (records text) ≡ read_on (k + 1) half new (records (drop whole text))
onward k upper half whole mem new text r first step =
    ap (read_on k upper mem) first.1 ∙ step first.0
    ∙ ap (read_on (suc k) half new) (first.2 (goes-on k upper half mem new r step)) ∙ ap (λ n. read_on n half new (records (drop whole text))) (one-more k)

pub none-left : (k upper at : ℕ) (mem text : List ℕ) → length text ≤ at → read_on k upper mem (records (drop at text)) ≡ refused no_end k mem
unfolding read_on lines
none-left k upper at mem text h = rw (drop_all at text h) refl

-- ---- the same, of what is left of a text

pub left-unsound : (k upper at : ℕ) (mem text left : List ℕ) → left ≡ drop at text → (left ≢ [] → Leads left Unsound 0) → at < length text
    → read_on k upper mem (records (drop at text)) ≡ refused unsound (k + 1) mem
left-unsound k upper at mem text left is first more =
    let some : left ≢ [] = λ none. omega (arith, ap length (sym is ∙ none), length-drop at text, more) in
    ap (λ t. read_on k upper mem (records t)) (sym is) ∙ first-unsound k upper mem left (first some)

pub left-onward : (k upper half whole at : ℕ) (mem new text left : List ℕ) (r : Record) → left ≡ drop at text → Leads left r whole
    → ((later : List Record) → read_on k upper mem (r ∷ later) ≡ read_on (suc k) half new later)
    → read_on k upper mem (records (drop at text)) ≡ read_on (k + 1) half new (records (drop (at + whole) text))
left-onward k upper half whole at mem new text left r is first step =
    ap (λ t. read_on k upper mem (records t)) (sym is) ∙ onward k upper half whole mem new left r first step
    ∙ ap (λ t. read_on (k + 1) half new (records t)) (ap (drop whole) is ∙ drop-drop whole at text)

-- ---- a read

pub refused-length : (text mem : List ℕ) → bad_length (length mem) ≡ true → read text mem ≡ answered length_refused 0 mem
unfolding read
refused-length text mem bad = rw bad refl

pub read-lines : (text mem cleared : List ℕ) → bad_length (length mem) ≡ false → cleared ≡ zeros mem → read text mem ≡ read_on 0 0 cleared (records text)
unfolding read
read-lines text mem cleared good is = rw (good, is) refl
