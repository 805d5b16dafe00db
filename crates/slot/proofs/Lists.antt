-- Lists of C calls, proved: the array is the packed core all along, since no bad record comes up. Assumes nothing.
use Prim.Native.Nat.{ℕ, ◌+◌, ◌<◌}
use native.Mathlib.Omega.{arith}
use mathlib.Core.Path.{◌≡◌, refl, sym, ap, subst, ◌∙◌}
use mathlib.Core.List.{List, [], ◌∷◌, ◌++◌}
use lib.ListN.{length}
use Rattle.plain.specs.Machine as plain
use Rattle.plain.specs.Starts.{Answered}
use Rattle.pipeline.specs.declared.Core.{Core}
use Rattle.cycle.specs.Machine.{Machine}
use Rattle.pipeline.specs.Calls.{core, start, run, settle}
use Rattle.pipeline.specs.Term3.{fresh, plain_fresh, Call, running, settling, lent_to, lend, call, Reply, reply_of, Calls, no_calls, accepted, refused}
use Rattle.refusals.proofs.Phases.{early}
use Rattle.pipeline.proofs.Lists.{term3}
use Rattle.core_arrays.specs.CoreArray.{packed, unpacked}
use Rattle.core_arrays.proofs.CoreLaws.{core-back, stands-packed}
use Rattle.array_calls.specs.Calls.{Called, core_start, core_called, core_machine}
use Rattle.slot.specs.Lists.{core_call, core_reply, CoreCalls, no_core_calls, core_accepted, core_refused, CoreFollows, CoreLists}
use Rattle.array_calls.proofs.Refusals.{core-packed}
use Rattle.slot.proofs.Settling.{settle-packed}

abbrev core_of : Machine → Core
core_of m = core m.registers m.control

-- a call on the array of a core that is read back
packed-call : (c : Call) (m : Machine) → unpacked (packed (core_of m)) ≡ core_of m → core_call c (packed (core_of m)) ≡ core_called (call c m)
packed-call (running mem budget) m e =
    core-packed (packed (core_of m)) mem budget (stands-packed (core_of m)) (ap packed e)
    ∙ ap (λ (k : Core). core_called (run (length mem) budget (core_machine k mem))) e
packed-call (settling mem) m e =
    settle-packed (packed (core_of m)) mem (stands-packed (core_of m)) (ap packed e)
    ∙ ap (λ (k : Core). core_called (settle (length mem) (core_machine k mem))) e

-- a list and then another
joined : {p : plain.Machine} {n t t₁ t₂ : ℕ} {m m₁ m₂ : Machine} {cs ds : List Call} {rs ss : List Reply} → Calls p n m t cs rs m₁ t₁ → Calls p n m₁ t₁ ds ss m₂ t₂
    → Calls p n m t (cs ++ ds) (rs ++ ss) m₂ t₂
joined no_calls l = l
joined (accepted a e k) l = accepted a e (joined k l)
joined (refused x k) l = refused x (joined k l)

module _ (g : List ℕ) (flags entry : ℕ) (mem : List ℕ) (l : length g ≡ 15) (s : (start g flags entry mem).answer ≡ 0) where
  abbrev p : plain.Machine
  p = plain_fresh g flags entry mem

  abbrev Reached : Machine → ℕ → Type 0
  Reached m t = (cs : List Call) × (rs : List Reply) × Calls p (length mem) (fresh g flags entry mem) 0 cs rs m t

  fresh-registers : length (fresh g flags entry mem).registers ≡ 15
  unfolding fresh start
  fresh-registers = rw s l

  read_back : (m : Machine) (t : ℕ) → Reached m t → unpacked (packed (core_of m)) ≡ core_of m
  read_back m t (cs, rs, k) =
      let left = (term3.lists g flags entry mem s cs rs m t k).leaves in
      core-back (core_of m) (left.lengths.0 ∙ fresh-registers)
      (λ i e. let h : i < 17 = early m left.good i e in omega arith)

  one : (c : Call) (m : Machine) (t : ℕ) → Reached m t → {words : List ℕ} → words ≡ packed (core_of m) → core_call c words ≡ core_called (call c m)
  one c m t r e = ap (core_call c) e ∙ packed-call c m (read_back m t r)

  all : {words words' mem₁ mem' : List ℕ} {t t' : ℕ} {cs : List Call} {rs : List Reply} → CoreCalls p (length mem) words mem₁ t cs rs words' mem' t'
      → (m : Machine) → Reached m t → words ≡ packed (core_of m) → mem₁ ≡ m.memory
      → (m' : Machine) × Calls p (length mem) m t cs rs m' t' × Reached m' t' × (words' ≡ packed (core_of m')) × (mem' ≡ m'.memory)
  all no_core_calls m r e f = (m, no_calls, r, e, f)
  all {words} {words'} {mem₁} {mem'} {t} {t'} (core_accepted {c = c} {cs = cs} {rs = rs} a x k) m r e f =
      let n = length mem in
      let o = one c m t r e in
      let used = ap (λ (z : Called). z.used) o in
      let m₁ = (call c m).machine in
      let y : lent_to c ≡ m.memory = x ∙ f in
      let (cs₀, rs₀, k₀) = r in
      let r₁ : Reached m₁ (t + (core_call c words).used) =
      subst (λ u. Reached m₁ (t + u)) (sym used) (cs₀ ++ (c ∷ []), rs₀ ++ (reply_of (call c m) ∷ []), joined k₀ (accepted a y no_calls)) in
      let (m', k', r', e', f') = all k m₁ r₁ (ap (λ (z : Called). z.words) o) (ap (λ (z : Called). z.memory) o) in
      let k₁ : Calls p n m₁ (t + (call c m).used) cs rs m' t' = subst (λ u. Calls p n m₁ (t + u) cs rs m' t') used k' in
      (m', subst (λ z. Calls p n m t (c ∷ cs) (z ∷ rs) m' t') (sym (ap core_reply o)) (accepted a y k₁), r', e', f')
  all {words} {words'} {mem₁} {mem'} {t} {t'} (core_refused {c = c} {cs = cs} {rs = rs} x k) m r e f =
      let n = length mem in
      let o = one c m t r e in
      let m₁ = lend (call c m).machine m.memory in
      let (cs₀, rs₀, k₀) = r in
      let r₁ : Reached m₁ t = (cs₀ ++ (c ∷ []), rs₀ ++ (reply_of (call c m) ∷ []), joined k₀ (refused x no_calls)) in
      let (m', k', r', e', f') = all k m₁ r₁ (ap (λ (z : Called). z.words) o) f in
      (m', subst (λ z. Calls p n m t (c ∷ cs) (z ∷ rs) m' t') (sym (ap core_reply o)) (refused x k'), r', e', f')

starts : (g : List ℕ) (flags entry : ℕ) (mem : List ℕ) → Answered (length mem) entry flags (core_start g flags entry mem).answer
unfolding core_start
starts g flags entry mem = (term3.starts g flags entry mem).answer

lists : (g : List ℕ) (flags entry : ℕ) (mem : List ℕ) → length g ≡ 15 → (core_start g flags entry mem).answer ≡ 0
    → (cs : List Call) (rs : List Reply) (words mem' : List ℕ) (t : ℕ)
    → CoreCalls (plain_fresh g flags entry mem) (length mem) (core_start g flags entry mem).words mem 0 cs rs words mem' t
    → CoreFollows g flags entry mem cs rs words mem' t
unfolding core_start fresh
lists g flags entry mem l e cs rs words mem' t k =
    let (m, k', r, a, b) = all g flags entry mem l e k (fresh g flags entry mem) ([], [], no_calls) refl refl in
    let follows = term3.lists g flags entry mem e cs rs m t k' in
    let does : (c : Call) → core_call c words ≡ core_called (call c m) = λ c. one g flags entry mem l e c m t r a in
    record {
      machine = m;
      calls = k';
      follows = follows;
      packs = record {
        array = a;
        memory = b;
        further = does;
        kept = λ c x. (
          ap (λ (z : Called). z.words) (does c) ∙ (ap (λ (z : Machine). packed (core_of z)) ((follows.further c).kept x) ∙ sym a),
          ap (λ (z : Called). z.memory) (does c) ∙ ap (λ (z : Machine). z.memory) ((follows.further c).kept x),
        );
      };
    }

pub core-lists : CoreLists
core-lists = record { starts = starts; lists = lists }
