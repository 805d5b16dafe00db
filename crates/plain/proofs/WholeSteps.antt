-- Whole instructions: what the loop over them keeps, and that a run of the plain machine is nothing else.
-- Assumes nothing.
use Prim.Native.Nat.{ℕ, zero, suc, ◌+◌, ◌-◌, ◌*◌, ◌≤◌, ◌<◌}
use mathlib.Core.Logic.{◌≢◌}
use mathlib.Core.Path.{◌≡◌, refl, sym, ap, ◌∙◌}
use mathlib.Core.List.{List}
use native.Mathlib.Omega.{arith}
use native.Mathlib.Nat.{zero-add, add-zero}
use mathlib.Core.Bool.{Bool, true, false}
use lib.Dec.{leb}
use borrow.Author.Tests.{le-leb, lt-leb, leb-true}
use Rattle.bits.specs.Choice.{pick}
use Rattle.memory.specs.declared.Board.{Board}
use Rattle.memory.specs.Memory.{memory_of, word_at}
use Rattle.semantics.specs.Perform.{Result, result_of, performs, Told}
use Rattle.semantics.specs.declared.Sums.{Sums}
use Rattle.semantics.specs.declared.Tally.{Tally}
use Rattle.semantics.specs.Sums.{no_sums, plus, total, performs_sums}
use Rattle.semantics.specs.Tally.{raised, told_by}
use Rattle.semantics.proofs.Stopped.{stopped-unchanged}
use Rattle.semantics.proofs.SumLaws.{some-access, sums-timed}
use Rattle.semantics.proofs.Durations.{performed-short}
use Rattle.plain.specs.Machine.{Machine, machine, plain, state_of, after, performed_at, step}
use Rattle.plain.specs.Trace.{stop_met, duration, adds}
use Rattle.plain.specs.Running.{ran, one_more, runs}
use Rattle.plain.specs.Run.{engine, run_from}
use Rattle.plain.proofs.Running.{runs_by}
use Rattle.plain.proofs.Traces.{step-stop}
use Rattle.plain.specs.Whole.{Wholes, wholes_of, none_done, further, longest, wholes, going}

-- no instruction takes more than the longest
pub duration-short : (m : Machine) → duration m ≤ longest
unfolding duration performed_at
duration-short m = performed-short (word_at (state_of m).memory m.plain.a) (state_of m)

-- ---- one instruction more, or the end

module _ (b : ℕ) (m : Machine) where
  -- by the stop that is met
  abbrev pub met : ℕ → ℕ → Wholes
  met q n = elim q [ zero ↦ further 1 (duration m) (adds m) (wholes n (b - duration m) (step m)) | suc s ↦ none_done (suc s) (step m) ]

  pub by-met : (n : ℕ) {q : ℕ} → longest ≤ b → stop_met m ≡ q → wholes (suc n) b m ≡ met q n
  unfolding wholes
  by-met n {q} h e = rw (le-leb longest b h) (ap (λ (x : ℕ). met x n) e)

  pub goes_on : (n : ℕ) → longest ≤ b → stop_met m ≡ 0 → wholes (suc n) b m ≡ further 1 (duration m) (adds m) (wholes n (b - duration m) (step m))
  goes_on n h e = by-met n h e

  stops : (n : ℕ) {q : ℕ} → longest ≤ b → stop_met m ≡ q → (q ≡ 0 → ⊥) → wholes (suc n) b m ≡ none_done q (step m)
  stops n {q} h e z = by-met n h e ∙ go q z
    where
      go : (q : ℕ) → (q ≡ 0 → ⊥) → met q n ≡ none_done q (step m)
      go zero z = absurd (z refl)
      go (suc s) z = refl

  pub ends-short : (n : ℕ) → b < longest → wholes n b m ≡ none_done 0 m
  unfolding wholes
  ends-short zero h = refl
  ends-short (suc n) h = rw (lt-leb longest b h)

-- neither budget is passed
pub within-budgets : (n b : ℕ) (m : Machine) → ((wholes n b m).done ≤ n) × ((wholes n b m).used ≤ b)
unfolding wholes
within-budgets zero b m = (omega arith, omega arith)
within-budgets (suc n) b m = by-room (leb longest b) refl (within-budgets n (b - duration m) (step m))
  where
    by-stop : (q : ℕ) → longest ≤ b → ((wholes n (b - duration m) (step m)).done ≤ n) × ((wholes n (b - duration m) (step m)).used ≤ b - duration m)
        → ((met b m q n).done ≤ suc n) × ((met b m q n).used ≤ b)
    by-stop zero h i = (omega (arith, i.0), omega (arith, i.1, duration-short m))
    by-stop (suc q) h i = (omega arith, omega arith)

    by-room : (t : Bool) → leb longest b ≡ t → ((wholes n (b - duration m) (step m)).done ≤ n) × ((wholes n (b - duration m) (step m)).used ≤ b - duration m)
        → ((pick t (met b m (stop_met m) n) (none_done 0 m)).done ≤ suc n) × ((pick t (met b m (stop_met m) n) (none_done 0 m)).used ≤ b)
    by-room true e i = by-stop (stop_met m) (leb-true longest b e) i
    by-room false e i = (omega arith, omega arith)

-- ---- what performing the word there tells
module _ (m : Machine) {r : Told} {h : List ℕ} {board : Board} {new : List ℕ}
    (e : result_of r h (memory_of board new) ≡ performs (word_at (state_of m).memory m.plain.a) (state_of m)) where
  told : result_of r h (memory_of board new) ≡ performed_at m
  unfolding performed_at
  told = e

  pub stop-told : stop_met m ≡ r.stop
  unfolding stop_met
  stop-told = ap (λ (x : Result). x.performed.stop) (sym told)

  pub cycles-told : r.cycles ≡ duration m
  unfolding duration
  cycles-told = ap (λ (x : Result). x.performed.cycles) told

  short-told : r.cycles ≤ longest
  short-told = rw cycles-told (duration-short m)

  pub adds-told : (w : Tally) {v : Tally} → v ≡ raised w (performs_sums (word_at (state_of m).memory m.plain.a) (state_of m)) → v ≡ raised w (adds m)
  unfolding adds
  adds-told w f = f

  pub step-told : machine (plain h r.next r.flags r.stop board) new ≡ step m
  unfolding step
  step-told = ap after told

  pub goes-told : r.stop ≡ 0 → going h r.flags r.next board new ≡ step m
  goes-told z = ap (λ (q : ℕ). machine (plain h r.next r.flags q board) new) (sym z) ∙ step-told

-- ---- the sums

-- an instruction that is done adds an access at least, and its duration in all
pub adds-some : (m : Machine) → stop_met m ≡ 0 → 1 ≤ (adds m).n + (adds m).s
unfolding stop_met performed_at adds
adds-some m e = some-access (word_at (state_of m).memory m.plain.a) (state_of m) e

pub adds-timed : (m : Machine) → total (adds m) ≡ duration m
unfolding duration performed_at adds
adds-timed m = sums-timed (word_at (state_of m).memory m.plain.a) (state_of m)

-- one that is stopped leaves the tally
pub stopped-tally : (m : Machine) (w : Tally) {v : Tally} → v ≡ raised w (adds m) → stop_met m ≢ 0 → v ≡ w
unfolding stop_met duration performed_at
stopped-tally m w e h =
    let s = stopped-unchanged (word_at (state_of m).memory m.plain.a) (state_of m) in
    let t = adds-timed m in
    let z : duration m ≡ 0 = (s.unchanged (λ z. h (s.stop ∙ z))).cycles in
    let n : w.n + (adds m).n ≡ w.n = omega arith in
    let x : w.extra + ((adds m).n + (adds m).s - 1) ≡ w.extra = omega arith in
    e ∙ rw (n, x)

-- so whole instructions add the cycles that they use
pub wholes-timed : (n b : ℕ) (m : Machine) → total (wholes n b m).sums ≡ (wholes n b m).used
unfolding wholes
wholes-timed zero b m = refl
wholes-timed (suc n) b m = by-room (leb longest b) (wholes-timed n (b - duration m) (step m))
  where
    by-stop : (q : ℕ) → total (wholes n (b - duration m) (step m)).sums ≡ (wholes n (b - duration m) (step m)).used → total (met b m q n).sums ≡ (met b m q n).used
    by-stop zero i = omega (arith, i, adds-timed m)
    by-stop (suc q) i = refl

    by-room : (t : Bool) → total (wholes n (b - duration m) (step m)).sums ≡ (wholes n (b - duration m) (step m)).used
        → total (pick t (met b m (stop_met m) n) (none_done 0 m)).sums ≡ (pick t (met b m (stop_met m) n) (none_done 0 m)).used
    by-room true i = by-stop (stop_met m) i
    by-room false i = refl

-- ---- the loop

-- the tally tells the sums q of so many instructions done in so many cycles
pub record Tells (w : Tally) (done used : ℕ) (q : Sums) : Type 0 where
  pub n : w.n ≡ q.n
  pub accesses : done + w.extra ≡ q.n + q.s
  pub cycles : used ≡ total q

tells-all : {w : Tally} {done used : ℕ} {q : Sums} → Tells w done used q → told_by w done used ≡ q
tells-all {w} {done} {used} {q} t =
    let s : done + w.extra - q.n ≡ q.s = omega (arith, t.accesses) in
    let i : used - (done + w.extra) ≡ q.i = omega (arith, t.accesses, t.cycles) in
    rw (t.n, s, i)

-- with `more` instructions to come and `left` cycles of the budget left, it stands at m on its way to r
pub record Left (count budget : ℕ) (r : Wholes) (more left : ℕ) (w : Tally) (m : Machine) : Type 0 where
  pub done : ℕ
  pub sum : done + more ≡ count
  pub within : left ≤ budget
  pub q : Sums
  pub tells : Tells w done (budget - left) q
  pub same : r ≡ further done (budget - left) q (wholes more left m)

pub plus-none : (q : Sums) → plus q no_sums ≡ q
plus-none q = rw (add-zero q.n, add-zero q.s, add-zero q.i)

pub none-plus : (q : Sums) → plus no_sums q ≡ q
none-plus q = rw (zero-add q.n, zero-add q.s, zero-add q.i)

pub plus-plus : (x y z : Sums) → plus x (plus y z) ≡ plus (plus x y) z
plus-plus x y z =
    let n : x.n + (y.n + z.n) ≡ x.n + y.n + z.n = omega arith in
    let s : x.s + (y.s + z.s) ≡ x.s + y.s + z.s = omega arith in
    let i : x.i + (y.i + z.i) ≡ x.i + y.i + z.i = omega arith in
    rw (n, s, i)

pub left-start : (count budget : ℕ) (m : Machine) {w : Tally} → w.n ≡ 0 → w.extra ≡ 0 → Left count budget (wholes count budget m) count budget w m
left-start count budget m n e =
    let r = wholes count budget m in
    let none : r.used ≡ (budget - budget) + r.used = omega arith in
    record {
      done = 0;
      sum = zero-add count;
      within = omega arith;
      q = no_sums;
      tells = record { n = n; accesses = omega (arith, e); cycles = omega arith };
      same =
          ap (λ (n : ℕ). wholes_of n r.used r.sums r.stop r.machine) (sym (zero-add r.done))
          ∙ ap (λ (n : ℕ). wholes_of (0 + r.done) n r.sums r.stop r.machine) none
          ∙ ap (λ (q : Sums). wholes_of (0 + r.done) ((budget - budget) + r.used) q r.stop r.machine) (sym (none-plus r.sums));
    }

module _ {count budget : ℕ} {r : Wholes} {more left : ℕ} {w : Tally} {m : Machine} (l : Left count budget r more left w m) where
  -- what the loop hands back where it ends, with the stop met
  abbrev pub handed : ℕ → Machine → Wholes
  handed q k = wholes_of (count - more) (budget - left) (told_by w (count - more) (budget - left)) q k

  ended : {q : ℕ} {k : Machine} → wholes more left m ≡ none_done q k → handed q k ≡ r
  ended {q} {k} e =
      let done : count - more ≡ l.done = omega (arith, l.sum) in
      let told : told_by w (count - more) (budget - left) ≡ l.q = rw done (tells-all l.tells) in
      rw (told, done)
      (sym (l.same ∙ ap (further l.done (budget - left) l.q) e ∙ ap (λ (n : ℕ). wholes_of n ((budget - left) + 0) (plus l.q no_sums) q k) (add-zero l.done)
      ∙ ap (λ (n : ℕ). wholes_of l.done n (plus l.q no_sums) q k) (add-zero (budget - left))
      ∙ ap (λ (x : Sums). wholes_of l.done (budget - left) x q k) (plus-none l.q)))

  pub left-short : left < longest → handed 0 m ≡ r
  left-short h = ended (ends-short left m more h)

  pub left-done : more ≡ 0 → handed 0 m ≡ r
  unfolding wholes
  left-done z = ended (ap (λ (n : ℕ). wholes n left m) z)

  pub left-stop : more ≢ 0 → longest ≤ left → {q : ℕ} → stop_met m ≡ q → (q ≡ 0 → ⊥) → handed q (step m) ≡ r
  left-stop h b {q} e z = go more h ended
    where
      go : (n : ℕ) → n ≢ 0 → (wholes n left m ≡ none_done q (step m) → handed q (step m) ≡ r) → handed q (step m) ≡ r
      go zero h f = absurd (h refl)
      go (suc n) h f = f (stops left m n b e z)

  pub left_step : more ≢ 0 → longest ≤ left → stop_met m ≡ 0 → {cycles : ℕ} {k : Machine} {v : Tally} → cycles ≡ duration m → k ≡ step m → v ≡ raised w (adds m)
      → Left count budget r (more - 1) (left - cycles) v k
  left_step h b e {cycles} {k} {v} d s t = go more h l.sum l.same
    where
      go : (n : ℕ) → n ≢ 0 → l.done + n ≡ count → r ≡ further l.done (budget - left) l.q (wholes n left m) → Left count budget r (n - 1) (left - cycles) v k
      go zero h i j = absurd (h refl)
      go (suc n) h i j =
          let x = wholes n (left - duration m) (step m) in
          let ones : l.done + (1 + x.done) ≡ l.done + 1 + x.done = omega arith in
          let used : (budget - left) + (duration m + x.used) ≡ (budget - (left - duration m)) + x.used = omega (arith, duration-short m, l.within) in
          let one : suc n - 1 ≡ n = omega arith in
          rw (d, s, t, one)
          record {
            done = l.done + 1;
            sum = omega arith;
            within = omega (arith, l.within);
            q = plus l.q (adds m);
            tells = record {
              n = omega (arith, l.tells.n);
              accesses = omega (arith, l.tells.accesses, adds-some m e);
              cycles = omega (arith, l.tells.cycles, adds-timed m, duration-short m, l.within);
            };
            same =
                j ∙ ap (further l.done (budget - left) l.q) (goes_on left m n b e)
                ∙ ap (λ (y : ℕ). wholes_of y ((budget - left) + (duration m + x.used)) (plus l.q (plus (adds m) x.sums)) x.stop x.machine) ones
                ∙ ap (λ (y : ℕ). wholes_of (l.done + 1 + x.done) y (plus l.q (plus (adds m) x.sums)) x.stop x.machine) used
                ∙ ap (λ (y : Sums). wholes_of (l.done + 1 + x.done) ((budget - (left - duration m)) + x.used) y x.stop x.machine) (plus-plus l.q (adds m) x.sums);
          }

  pub left-cycles : {r : Told} {h : List ℕ} {board : Board} {new : List ℕ}
      → result_of r h (memory_of board new) ≡ performs (word_at (state_of m).memory m.plain.a) (state_of m) → r.cycles ≤ longest
  left-cycles e = short-told m e

-- ---- a run of the plain machine

-- where the longest fits as often as there are instructions, the cycles end nothing
pub run-of-wholes : (n b : ℕ) (m : Machine) → longest * n ≤ b → ran (wholes n b m).stop (wholes n b m).done (wholes n b m).machine ≡ run_from n m
unfolding wholes runs
run-of-wholes zero b m h = refl
run-of-wholes (suc n) b m h =
    rw (le-leb longest b (omega arith)) (go (stop_met m) refl (run-of-wholes n (b - duration m) (step m) (omega (arith, duration-short m))))
  where
    go : (q : ℕ) → stop_met m ≡ q
        → ran (wholes n (b - duration m) (step m)).stop (wholes n (b - duration m) (step m)).done (wholes n (b - duration m) (step m)).machine ≡ run_from n (step m)
        → ran (met b m q n).stop (met b m q n).done (met b m q n).machine ≡ run_from (suc n) m
    go zero e ih =
        let x = wholes n (b - duration m) (step m) in
        let one : 1 + x.done ≡ suc x.done = omega arith in
        ap (λ (k : ℕ). ran x.stop k x.machine) one ∙ ap one_more ih ∙ sym (runs_by engine n m (step-stop m ∙ e))
    go (suc q) e ih = sym (runs_by engine n m (step-stop m ∙ e))

-- so a machine that holds no stop runs by them
pub run-told : (n : ℕ) (m : Machine) {w : Wholes} → m.plain.stop ≡ 0
    → w ≡ wholes n (n * longest) (going m.plain.registers m.plain.flags m.plain.a m.plain.board m.memory) → ran w.stop w.done w.machine ≡ run_from n m
run-told n m z e =
    let p = m.plain in
    ap (λ (w : Wholes). ran w.stop w.done w.machine) e
    ∙ run-of-wholes n (n * longest) (going p.registers p.flags p.a p.board m.memory) (omega arith)
    ∙ ap (λ (q : ℕ). run_from n (machine (plain p.registers p.a p.flags q p.board) m.memory)) (sym z)
