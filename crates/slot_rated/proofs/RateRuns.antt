-- A watched run beside the run, proved. Assumes nothing.
use Prim.Native.Nat.{ℕ, zero, suc}
use native.Mathlib.Omega.{arith}
use mathlib.Core.Path.{◌≡◌, refl, sym, ap, ◌∙◌}
use mathlib.Core.Bool.{true, false, false≢true}
use mathlib.Core.List.{List}
use lib.ListN.{length}
use borrow.Author.Tests.{ne_eqb}
use Rattle.link.specs.declared.Window.{Window}
use Rattle.link.specs.declared.Summary.{Summary}
use Rattle.link.specs.Window.{bad_window, window_refused}
use Rattle.link.specs.Window as window
use Rattle.link.specs.Summary.{summed}
use Rattle.stores.specs.Coming.{stored}
use Rattle.cycle.specs.Machine.{Machine}
use Rattle.refusals.specs.Numbers.{refusal}
use Rattle.runs.specs.Run.{run_from}
use Rattle.pipeline.specs.Calls.{run}
use Rattle.plain.specs.Running.{ran}
use Rattle.watch.specs.Rated as watch
use Rattle.watch.proofs.Pieces.{split}
use Rattle.core_arrays.specs.CoreArray as core_array
use Rattle.summary_arrays.specs.SummaryArray as summary_array
use Rattle.summary_arrays.proofs.Laws.{summary-back}
use Rattle.array_calls.specs.Calls.{Called, is_refusal, refused, core_called, core_machine, refusal_of, core_run}
use Rattle.slot_rated.specs.Rate.{RateCalled, rate_refused, unless_rate_refused, packed, rate_run}
use Rattle.slot_rated.specs.RateRuns.{RateRuns, Splits}
use Rattle.array_calls.proofs.Refused.{array-number}
use Rattle.array_calls.proofs.Refusing.{core-number, core_accepted}
use Rattle.array_calls.proofs.Calling.{left, handed-back, array-refused, array-accepted}
use Rattle.slot_rated.proofs.RateRefusing.{run-other}
use Rattle.slot_rated.proofs.RateCalling.{its_run, rate-handed-back, rate-left, rate-array-refused, rate-array-accepted}

module _ (words mem : List ℕ) (n : ℕ) (w : Window) (sum : List ℕ) where
  abbrev lent : ℕ
  lent = length mem

  abbrev m : Machine
  m = core_machine (core_array.unpacked words) mem

  abbrev s : Summary
  s = summary_array.unpacked sum

  -- both refused alike
  both : (q : ℕ) → core_run words mem n ≡ refused q words mem → rate_run words mem n w sum ≡ rate_refused q words mem sum → is_refusal q ≡ true → RateRuns words mem n w sum
  both q a b i =
      let is : is_refusal (core_run words mem n).answer ≡ true = ap (λ (x : Called). is_refusal x.answer) a ∙ i in
      record {
        refuses = λ h. b ∙ ap (λ (x : Called). rate_refused x.answer words mem sum) (sym a);
        bad = λ h. absurd (false≢true (sym h ∙ is));
        runs = λ h. absurd (false≢true (sym h ∙ is));
        sums = λ h. absurd (false≢true (sym h ∙ is));
      }

  core-refused : (q : ℕ) → refusal lent n m ≡ suc q → run lent n m ≡ ran (suc q) 0 m
  unfolding run
  core-refused q e = rw (e, ne_eqb (suc q) 0 (λ z. omega arith))

  its-refused : (q : ℕ) → refusal lent n m ≡ suc q → its_run words mem sum n w ≡ watch.rated (ran (suc q) 0 m) s
  unfolding watch.rate_run
  its-refused q e = rw (e, ne_eqb (suc q) 0 (λ z. omega arith))

  its-window : refusal lent n m ≡ 0 → bad_window w lent ≡ true → its_run words mem sum n w ≡ watch.rated (ran window_refused 0 m) s
  unfolding watch.rate_run
  its-window e b = rw (e, b)

  its-run : refusal lent n m ≡ 0 → bad_window w lent ≡ false → its_run words mem sum n w ≡ watch.with_stores w s m (run lent n m)
  unfolding watch.rate_run
  its-run e b = rw (e, b)

  module _ (e : refusal_of words lent ≡ 0) where
    handed : (r : watch.Rated) → its_run words mem sum n w ≡ r → rate_run words mem n w sum ≡ unless_rate_refused words mem sum (packed r)
    handed r i = sym (rate-array-accepted words mem sum n w e) ∙ ap (λ (x : watch.Rated). unless_rate_refused words mem sum (packed x)) i

    core-refuses : (q : ℕ) → refusal lent n m ≡ suc q → RateRuns words mem n w sum
    core-refuses q f =
        let i : is_refusal (suc q) ≡ true = ap is_refusal (sym f) ∙ core-number lent n m q f in
        both (suc q)
        (sym (array-accepted words mem n e) ∙ rw (core-refused q f) (sym (handed-back words mem (core_called (ran (suc q) 0 m)) i)))
        (handed _ (its-refused q f) ∙ sym (rate-handed-back words mem sum (packed (watch.rated (ran (suc q) 0 m) s)) (rw i)))
        i

    ran-so : refusal lent n m ≡ 0 → bad_window w lent ≡ false → rate_run words mem n w sum ≡ packed (watch.with_stores w s m (run lent n m))
    ran-so f b = handed _ (its-run f b) ∙ sym (rate-left words mem sum (packed (watch.with_stores w s m (run lent n m))) (run-other lent n m f))

    accepted : refusal lent n m ≡ 0 → RateRuns words mem n w sum
    accepted f =
        let a : core_called (run lent n m) ≡ core_run words mem n = left words mem (core_called (run lent n m)) (core_accepted lent n m f) ∙ array-accepted words mem n e in
        record {
          refuses = λ h. absurd (false≢true (sym (core_accepted lent n m f) ∙ ap (λ (x : Called). is_refusal x.answer) a ∙ h));
          bad = λ h b. handed _ (its-window f b) ∙ sym (rate-handed-back words mem sum (packed (watch.rated (ran window_refused 0 m) s)) refl);
          runs = λ h b. ap (λ (x : RateCalled). x.run) (ran-so f b) ∙ a;
          sums = λ h b.
              ap (λ (x : RateCalled). x.summary) (ran-so f b)
              ∙ ap (λ (x : Called). summary_array.packed (summed s (window.handed w (stored m x.used)))) a;
        }

  pub rate-runs : RateRuns words mem n w sum
  rate-runs = go (refusal_of words lent) refl (refusal lent n m) refl
    where
      go : (r : ℕ) → refusal_of words lent ≡ r → (k : ℕ) → refusal lent n m ≡ k → RateRuns words mem n w sum
      go (suc q) e k f =
          both (suc q) (sym (array-refused words mem n (sym e) (λ z. omega arith))) (sym (rate-array-refused words mem sum n w (sym e) (λ z. omega arith))) (array-number words lent q e)
      go zero e (suc q) f = core-refuses e q f
      go zero e zero f = accepted e f

pub splits : Splits
splits a b w sum m e =
    ap (λ (r : watch.Rated). summary_array.packed r.summary) (split a b w (summary_array.unpacked sum) m e)
    ∙ ap (λ (x : Summary). summary_array.packed (watch.rate_from b w x (run_from a m).machine).summary) (sym (summary-back (watch.rate_from a w (summary_array.unpacked sum) m).summary))
