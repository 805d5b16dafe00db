-- What a watched run leaves on arrays, from what the functions that it calls ensure. Assumes nothing.
use Prim.Native.Nat.{ℕ}
use mathlib.Core.Path.{◌≡◌, refl, sym, ap, ◌∙◌}
use mathlib.Core.Bool.{true, false}
use mathlib.Core.List.{List}
use lib.ListN.{length}
use borrow.Author.Tests.{ne_eqb}
use Rattle.std.specs.Prelude.{Option, Some, None, Result, Ok, Err}
use Rattle.stops.specs.declared.reason.Stop.{Stop}
use Rattle.stops.specs.declared.reason.Stop.TheVariants.{NoWord, OtherWord, BrokenRule, OutsideMemory, FetchedWord}
use Rattle.stops.specs.Numbers.{held_number}
use Rattle.link.specs.declared.Window.{Window}
use Rattle.link.specs.declared.Summary.{Summary}
use Rattle.pipeline.specs.declared.Core.{Core}
use Rattle.pipeline.specs.Calls.{seen}
use Rattle.watch.specs.Rated as watch
use Rattle.watch.specs.declared.calls.RatedCore.{RatedCore}
use Rattle.watch.specs.declared.calls.Refused.{Refused}
use Rattle.watch.specs.declared.calls.Refused.TheVariants as refused_for
use Rattle.watch.specs.Refused.{refused_number, rated_as}
use Rattle.core_arrays.specs.CoreArray as core_array
use Rattle.summary_arrays.specs.SummaryArray as summary_array
use Rattle.array_calls.specs.Calls.{core_machine, refusal_of}
use Rattle.slot_rated.specs.Rate.{RateCalled, is_rate_refusal, rate_refused, unless_rate_refused, packed, rate_run}
use Rattle.slot_rated.specs.RateKept.{rate_ended_in}
use Rattle.array_calls.proofs.Refused.{of_refusal}
use Rattle.slot_rated.proofs.RateRefusing.{rate-kept}

of-refused : (r : Refused) → is_rate_refusal (refused_number r) ≡ true
of-refused (refused_for.Run refusal) = rw (of_refusal refusal)
of-refused refused_for.Window = refl

of-held : (held : Option Stop) → is_rate_refusal (held_number held) ≡ false
of-held (Some NoWord) = refl
of-held (Some OtherWord) = refl
of-held (Some BrokenRule) = refl
of-held (Some OutsideMemory) = refl
of-held (Some FetchedWord) = refl
of-held None = refl

module _ (words mem sum : List ℕ) where
  -- where it is refused, and where it is not
  pub rate-handed-back : (r : RateCalled) → is_rate_refusal r.run.answer ≡ true → rate_refused r.run.answer words mem sum ≡ unless_rate_refused words mem sum r
  rate-handed-back r h = rw h

  pub rate-left : (r : RateCalled) → is_rate_refusal r.run.answer ≡ false → r ≡ unless_rate_refused words mem sum r
  rate-left r h = rw h

  module _ (n : ℕ) (w : Window) where
    pub rate-array-refused : {r : ℕ} → r ≡ refusal_of words (length mem) → (r ≡ 0 → ⊥) → rate_refused r words mem sum ≡ rate_run words mem n w sum
    unfolding rate_run
    rate-array-refused {r} e h = rw (← e, ne_eqb r 0 h)

    abbrev pub its_run : watch.Rated
    its_run = watch.rate_run (length mem) n w (summary_array.unpacked sum) (core_machine (core_array.unpacked words) mem)

    pub rate-array-accepted : refusal_of words (length mem) ≡ 0 → unless_rate_refused words mem sum (packed its_run) ≡ rate_run words mem n w sum
    unfolding rate_run
    rate-array-accepted e = rw e

    -- the watched run of the core and the summary that were unpacked, and what it hands back
    module _ (mem' : List ℕ) {z : ℕ} (i : z ≡ refusal_of words (length mem)) (zero : z ≡ 0) {c : Core} (e : c ≡ core_array.unpacked words) {s : Summary} (f : s ≡ summary_array.unpacked sum) where
      same-run : watch.rate_run (length mem) n w s (seen mem c) ≡ its_run
      same-run =
          ap (λ (k : Core). watch.rate_run (length mem) n w s (core_machine k mem)) e
          ∙ ap (λ (x : Summary). watch.rate_run (length mem) n w x (core_machine (core_array.unpacked words) mem)) f

      pub rate-ended : (r : Result RatedCore Refused) → rated_as (seen mem') c s r ≡ watch.rate_run (length mem) n w s (seen mem c)
          → rate_ended_in words sum mem' r ≡ rate_run words mem n w sum
      rate-ended (Ok r) q =
          rate-left (packed (rated_as (seen mem') c s (Ok r))) (of-held r.ran.stop)
          ∙ ap (λ (x : watch.Rated). unless_rate_refused words mem sum (packed x)) (q ∙ same-run)
          ∙ rate-array-accepted (sym i ∙ zero)
      rate-ended (Err refusal) q =
          let kept = rate-kept (length mem) n (core_machine c mem) w s (ap (λ (x : watch.Rated). is_rate_refusal x.ran.answer) (sym q) ∙ of-refused refusal) in
          ap (λ (k : List ℕ). rate_refused (refused_number refusal) words k sum) (ap (λ (x : watch.Rated). x.ran.machine.memory) (q ∙ kept))
          ∙ rate-handed-back (packed (rated_as (seen mem') c s (Err refusal))) (of-refused refusal)
          ∙ ap (λ (x : watch.Rated). unless_rate_refused words mem sum (packed x)) (q ∙ same-run)
          ∙ rate-array-accepted (sym i ∙ zero)
