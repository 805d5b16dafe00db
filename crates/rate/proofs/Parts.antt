-- A piece of the run after those before it. Assumes nothing.
use Rattle.std.proofs.Common.{◌≡◌, ℕ, ◌+◌, ◌-◌, ◌<◌, ◌≤◌, List, [], ◌∷◌, ◌++◌, length, replicate, refl, sym, ap, subst, ◌∙◌, arith, zero-add}
use Rattle.std.proofs.lemmas.List.{get_or-replicate}
use Rattle.plain.specs.Running.{Ran, ran, more_by, runs}
use Rattle.cycle.specs.Machine.{Machine}
use Rattle.runs.specs.Run.{engine, reach, run_from}
use Rattle.link.specs.declared.Store.{Store}
use Rattle.link.specs.declared.Buffer.{Buffer}
use Rattle.link.specs.declared.Summary.{Summary}
use Rattle.link.specs.Window.{window}
use Rattle.link.specs.Summary.{nothing, summed}
use Rattle.link.specs.Fold.{empty, all_taken, Filled}
use Rattle.link.proofs.Gaps.{splits}
use Rattle.link.proofs.Walk.{joins, walk-stores}
use Rattle.rate.specs.declared.Request.{Request}
use Rattle.rate.specs.Request.{most_cycles}
use Rattle.rate.specs.Heard.{Heard}
use Rattle.rate.specs.Heard.Heard.{nothing as unheard, piece}
use Rattle.rate.specs.Folds.{line_at, buffer_at, Rooms, More, Counted, into_window, Folded, Ends}
use Rattle.stores.proofs.Flights.{reach-add}
use Rattle.rate.proofs.Joined.{spent-used, goes-on, stops-there, counted-run}
use Rattle.plain.proofs.Running.{used-at-most}
use Rattle.rate.proofs.Handed.{into-length, into-add}

-- t cycles on from m₀ it stands at m, with no stop found
pub record Stands (r : Request) (m₀ : Machine) (t : ℕ) (m : Machine) (s : Summary) (buffers : List Buffer) : Type 0 where
  pub within : t ≤ r.cycles
  pub goes : run_from r.cycles m₀ ≡ more_by t (run_from (r.cycles - t) m)
  pub there : m ≡ reach m₀ t
  pub counted : Counted t m.control
  pub folded : Folded r m₀ t s buffers

-- a piece on from there: where it came to, its stores, and what they are folded into
pub record Piece (r : Request) (m₀ m : Machine) (t budget : ℕ) (went : Ran Machine) (told : List Store) (s s' : Summary) (old new : List Buffer) : Type 0 where
  pub stands : Stands r m₀ t m s old
  pub fits : t + budget ≤ r.cycles
  pub run : went ≡ run_from budget m
  pub is : told ≡ into_window r m went.used
  pub sums : s' ≡ summed s told
  pub more : More r old told new
  pub filled : (k : ℕ) → k < r.count → Filled (line_at r k) (buffer_at new k)

-- ---- what is folded

no-stores : (r : Request) (m₀ : Machine) → into_window r m₀ 0 ≡ []
no-stores r m₀ = let l = into-length (window r.from r.to) m₀ 0 in none (into_window r m₀ 0) l
  where
    none : (es : List Store) → length es ≤ 0 → es ≡ []
    none [] h = refl
    none (e ∷ es) h = absurd (omega (arith, h))

folded-none : (r : Request) (m₀ : Machine) → r.count ≤ 32 → Folded r m₀ 0 nothing (replicate 32 empty)
folded-none r m₀ h =
    let n = sym (no-stores r m₀) in
    record {
      summary = ap (summed nothing) n;
      taken = λ k l. get_or-replicate 32 k empty empty (omega (arith, h, l)) ∙ ap (all_taken (line_at r k) empty) n;
      filled = λ k l. subst (Filled (line_at r k)) (sym (get_or-replicate 32 k empty empty (omega (arith, h, l)))) (omega arith);
    }

joined : (r : Request) (m₀ m : Machine) (t u : ℕ) (told : List Store) → m ≡ reach m₀ t → told ≡ into_window r m u
    → into_window r m₀ (t + u) ≡ into_window r m₀ t ++ told
joined r m₀ m t u told there is =
    into-add (window r.from r.to) m₀ t u ∙ ap (λ (es : List Store). into_window r m₀ t ++ es) (ap (λ (x : Machine). into_window r x u) (sym there) ∙ sym is)

-- and there is room for the stores of u cycles more
pub rooms : {r : Request} {m₀ m : Machine} {t : ℕ} {s : Summary} {buffers : List Buffer} (u : ℕ) (told : List Store) → Stands r m₀ t m s buffers
    → told ≡ into_window r m u → t + u ≤ most_cycles → Rooms r buffers (length told)
rooms {r} {m₀} {m} {t} {s} {buffers} u told st is h = λ k l.
    let o = line_at r k in
    let es = into_window r m₀ t in
    let n : (buffer_at buffers k).stores ≡ 0 + length es = ap (λ (b : Buffer). b.stores) (st.folded.taken k l) ∙ walk-stores o empty es in
    let a = into-length (window r.from r.to) m₀ t in
    let b : length told ≤ u = subst (λ (x : List Store). length x ≤ u) (sym is) (into-length (window r.from r.to) m u) in
    (st.folded.filled k l, omega (arith, n, a, b, h))

-- ---- the run

-- nothing is heard of no cycles
pub heard-start : {L : Type 0} {hears : L → List Store → ℕ → L → Type 0} {l₀ : L} (r : Request) (m₀ : Machine) → Heard hears l₀ 0 (into_window r m₀ 0) l₀
heard-start {L} {hears} {l₀} r m₀ = subst (λ es. Heard hears l₀ 0 es l₀) (sym (no-stores r m₀)) unheard

pub stands-start : (r : Request) (m₀ : Machine) → r.count ≤ 32 → Counted 0 m₀.control → Stands r m₀ 0 m₀ nothing (replicate 32 empty)
unfolding reach
stands-start r m₀ h c = record {
  within = omega arith;
  goes =
      let z : r.cycles - 0 ≡ r.cycles = omega arith in
      rw z (ap (λ x. ran (run_from r.cycles m₀).answer x (run_from r.cycles m₀).machine) (sym (zero-add (run_from r.cycles m₀).used)));
  there = refl;
  counted = c;
  folded = folded-none r m₀ h;
}

pub used-most : (budget : ℕ) (m : Machine) (went : Ran Machine) → went ≡ run_from budget m → went.used ≤ budget
used-most budget m went run = subst (λ (x : Ran Machine). x.used ≤ budget) (sym run) (used-at-most engine budget m)

pub used-all : (budget : ℕ) (m : Machine) (went : Ran Machine) → went ≡ run_from budget m → went.answer ≡ 0 → went.used ≡ budget
used-all budget m went run z = ap (λ (x : Ran Machine). x.used) run ∙ spent-used engine budget m (ap (λ (x : Ran Machine). x.answer) (sym run) ∙ z)

module _ {r : Request} {m₀ m : Machine} {t budget : ℕ} {went : Ran Machine} {told : List Store} {s s' : Summary} {old new : List Buffer}
    (p : Piece r m₀ m t budget went told s s' old new) where
  rest : r.cycles - t ≡ budget + (r.cycles - (t + budget))
  rest = omega (arith, p.fits)

  counted : Counted (t + went.used) went.machine.control
  counted = subst (λ (x : Ran Machine). Counted (t + x.used) x.machine.control) (sym p.run) (counted-run budget t m p.stands.counted)

  folded : Folded r m₀ (t + went.used) s' new
  folded =
      let es = into_window r m₀ t in
      let j = sym (joined r m₀ m t went.used told p.stands.there p.is) in
      record {
        summary = p.sums ∙ ap (λ (x : Summary). summed x told) p.stands.folded.summary ∙ sym (splits nothing es told) ∙ ap (summed nothing) j;
        taken = λ k l.
            p.more k l ∙ ap (λ (b : Buffer). all_taken (line_at r k) b told) (p.stands.folded.taken k l) ∙ sym (joins (line_at r k) empty es told)
            ∙ ap (all_taken (line_at r k) empty) j;
        filled = p.filled;
      }

  -- and the listener has heard it
  pub piece-heard : {L : Type 0} {hears : L → List Store → ℕ → L → Type 0} {l₀ l l' : L} → Heard hears l₀ t (into_window r m₀ t) l → hears l told (t + went.used) l'
      → Heard hears l₀ (t + went.used) (into_window r m₀ (t + went.used)) l'
  piece-heard {L} {hears} {l₀} {l} {l'} h step =
      subst (λ es. Heard hears l₀ (t + went.used) es l') (sym (joined r m₀ m t went.used told p.stands.there p.is)) (piece went.used h step)

  -- it spent its cycles
  pub piece-spent : went.answer ≡ 0 → went.machine ≡ reach m went.used → Stands r m₀ (t + went.used) went.machine s' new
  piece-spent z reached =
      let u = used-all budget m went p.run z in
      let a : (run_from budget m).answer ≡ 0 = ap (λ (x : Ran Machine). x.answer) (sym p.run) ∙ z in
      let more_run : run_from (r.cycles - t) m ≡ more_by budget (run_from (r.cycles - (t + budget)) went.machine) =
      ap (λ n. run_from n m) rest ∙ goes-on engine budget (r.cycles - (t + budget)) m a
      ∙ ap (λ (x : Ran Machine). more_by budget (run_from (r.cycles - (t + budget)) x.machine)) (sym p.run) in
      let last = run_from (r.cycles - (t + budget)) went.machine in
      let n : t + (budget + last.used) ≡ t + budget + last.used = omega arith in
      record {
        within = omega (arith, p.fits, u);
        goes =
            p.stands.goes ∙ ap (more_by t) more_run ∙ ap (λ x. ran last.answer x last.machine) n
            ∙ ap (λ x. more_by (t + x) (run_from (r.cycles - (t + x)) went.machine)) (sym u);
        there = reached ∙ ap (λ (x : Machine). reach x went.used) p.stands.there ∙ sym (reach-add m₀ t went.used);
        counted = counted;
        folded = folded;
      }

  -- it found a stop
  pub piece-stopped : (went.answer ≡ 0 → ⊥) → Ends r m₀ (more_by t went) s' new
  piece-stopped n =
      let a : (run_from budget m).answer ≡ 0 → ⊥ = λ z. n (ap (λ (x : Ran Machine). x.answer) p.run ∙ z) in
      record {
        run = sym (p.stands.goes ∙ ap (more_by t) (ap (λ n. run_from n m) rest ∙ stops-there engine budget (r.cycles - (t + budget)) m a ∙ sym p.run));
        counted = counted;
        within = omega (arith, used-most budget m went p.run, p.fits);
        folded = folded;
      }

-- all cycles are spent
pub stands-end : {r : Request} {m₀ m : Machine} {t : ℕ} {s : Summary} {buffers : List Buffer} → Stands r m₀ t m s buffers → r.cycles ≤ t → Ends r m₀ (ran 0 t m) s buffers
unfolding runs
stands-end {r} {m₀} {m} {t} st h =
    let z : r.cycles - t ≡ 0 = omega (arith, h) in
    let n : t + 0 ≡ t = omega arith in
    record {
      run = sym (st.goes ∙ ap (λ x. more_by t (run_from x m)) z ∙ ap (λ x. ran 0 x m) n);
      counted = st.counted;
      within = st.within;
      folded = st.folded;
    }
