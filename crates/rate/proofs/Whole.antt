-- The answer, from where the run ended. Assumes nothing.
use Rattle.std.proofs.Common.{Option, subst, ◌≡◌, ℕ, ◌<◌, false, Some, None, Err, List, length, replicate, refl, sym, ap, ◌∙◌, arith}
use Rattle.std.proofs.lemmas.Bool.{lt-ltb}
use Rattle.memory.specs.Lengths.{bad_length}
use Rattle.memory.proofs.Lengths.{good_length}
use Rattle.plain.specs.Numbers.{start_answer}
use Rattle.plain.specs.Running.{Ran}
use Rattle.cycle.specs.Machine.{Machine, machine}
use Rattle.cycle.specs.Fresh.{fresh_control}
use Rattle.runs.specs.Run.{run_from}
use Rattle.pipeline.specs.Calls.{start}
use Rattle.pipeline.specs.Term3.{fresh}
use Rattle.link.specs.declared.Store.{Store}
use Rattle.link.specs.declared.Buffer.{Buffer}
use Rattle.link.specs.declared.Summary.{Summary}
use Rattle.link.specs.Summary.{nothing, summed}
use Rattle.rate.specs.declared.Request.{Request}
use Rattle.rate.specs.declared.Figures.{Figures}
use Rattle.rate.specs.declared.Refusal.{Refusal}
use Rattle.rate.specs.Request.{refused}
use Rattle.rate.specs.Figures.{begun, run_of, stores_of, figures_of, figures}
use Rattle.rate.specs.Answer.{outcome, unless_refused, answer, after_unless, image_after}
use Rattle.rate.specs.Heard.{Heard}
use Rattle.rate.specs.Folds.{Taken, into_window, Ends}

-- a start of a good length is accepted
pub accepted : (image : List ℕ) → bad_length (length image) ≡ false → machine (replicate 15 0) (fresh_control 0 0 (record { size = length image })) image ≡ begun image
unfolding fresh start start_answer
accepted image e =
    let g = good_length (length image) e in
    let some : 0 < length image = omega (arith, g.least) in
    rw (e, lt-ltb 0 (length image) some) refl

pub refusal-told : (r : Request) (image : List ℕ) (x : Refusal) → refused r (length image) ≡ Some x → answer r image ≡ Err x
unfolding answer
refusal-told r image x e = ap (λ o. unless_refused o (outcome r (figures r image))) e

pub whole : (r : Request) (image : List ℕ) (m₀ : Machine) (went : Ran Machine) (f : Figures) (s : Summary) (buffers : List Buffer) → refused r (length image) ≡ None → m₀ ≡ begun image
    → Ends r m₀ went s buffers → ((es : List Store) → s ≡ summed nothing es → Taken r buffers es → f ≡ figures_of r (length image) went es) → outcome r f ≡ answer r image
unfolding answer
whole r image m₀ went f s buffers e b ends told =
    let n = length image in
    let is : f ≡ figures r image =
    told (into_window r m₀ went.used) ends.folded.summary ends.folded.taken
    ∙ ap (λ (x : Ran Machine). figures_of r n x (into_window r m₀ x.used)) ends.run
    ∙ ap (λ (m : Machine). figures_of r n (run_from r.cycles m) (into_window r m (run_from r.cycles m).used)) b in
    ap (outcome r) is ∙ ap (λ o. unless_refused o (outcome r (figures r image))) (sym e)

pub refusal-keeps : (r : Request) (image : List ℕ) (x : Refusal) → refused r (length image) ≡ Some x → image ≡ image_after r image
unfolding image_after
refusal-keeps r image x e = ap (λ o. after_unless o image (run_of r image).machine.memory) (sym e)

-- no request is refused and not refused
pub not-both : {o : Option Refusal} {x : Refusal} → o ≡ Some x → o ≡ None → ⊥
not-both e n = cc

module _ (r : Request) (image : List ℕ) (m₀ : Machine) (went : Ran Machine) (s : Summary) (buffers : List Buffer) (b : m₀ ≡ begun image) (ends : Ends r m₀ went s buffers) where
  there : went ≡ run_of r image
  there = ends.run ∙ ap (run_from r.cycles) b

  pub leaves : refused r (length image) ≡ None → went.machine.memory ≡ image_after r image
  unfolding image_after
  leaves e = ap (λ (x : Ran Machine). x.machine.memory) there ∙ ap (λ o. after_unless o image (run_of r image).machine.memory) (sym e)

  pub all-heard : {L : Type 0} {hears : L → List Store → ℕ → L → Type 0} {l₀ l : L} → Heard hears l₀ went.used (into_window r m₀ went.used) l
      → Heard hears l₀ (run_of r image).used (stores_of r image) l
  all-heard {L} {hears} {l₀} {l} h =
      let there_now = subst (λ (m : Machine). Heard hears l₀ went.used (into_window r m went.used) l) b h in
      subst (λ (x : Ran Machine). Heard hears l₀ x.used (into_window r (begun image) x.used) l) there there_now
