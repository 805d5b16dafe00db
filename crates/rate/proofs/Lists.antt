-- What is left of the options, and what stands in place k. Assumes nothing.
use Rattle.std.proofs.Common.{◌≡◌, ℕ, zero, suc, ◌+◌, ◌-◌, ◌<◌, ◌≤◌, Bool, true, ◌&&◌, List, [], ◌∷◌, ◌++◌, Some, None, length, get_or, take, drop, map, set, replicate, ap, sym, ◌∙◌, refl, arith, add-one}
use Rattle.std.proofs.Math.Seq.{drop-cons, take-suc, set-append_seam}
use Rattle.std.proofs.Math.ListN.{drop_of_length-le}
use Rattle.std.proofs.lemmas.List.{append-nil, map-append, length-map, length-take-le, append_assoc}
use Rattle.bits.specs.Choice.{pick}
use Rattle.link.specs.declared.Verdict.{Verdict}
use Rattle.link.specs.Buffer.{carries}
use Rattle.rate.specs.Request.{next, rises}
use Rattle.rate.specs.Figures.{chosen, no_verdict}
use Rattle.rate.specs.Texts.{option_line, option_lines}

-- an option is next or not, and those after it
pub rises-step : (x i : ℕ) (os : List ℕ) {t : Bool} → i < length os → t ≡ next x (get_or os i 0) → rises x (drop i os) ≡ (t && rises (get_or os i 0) (drop (i + 1) os))
unfolding rises
rises-step x i os h e = rw (add-one, drop-cons os i 0 h, e) refl

pub rises-end : (x i : ℕ) (os : List ℕ) → length os ≤ i → rises x (drop i os) ≡ true
unfolding rises
rises-end x i os h = rw (drop_of_length-le os h) refl

-- an option carries or not, and those after it
pub chosen-step : (i : ℕ) (os : List ℕ) (vs : List Verdict) (d : Verdict) {t : Bool} → i < length os → i < length vs → t ≡ carries (get_or vs i d)
    → chosen (drop i os) (drop i vs) ≡ pick t (Some (get_or os i 0)) (chosen (drop (i + 1) os) (drop (i + 1) vs))
unfolding chosen
chosen-step i os vs d h k e = rw (add-one, drop-cons os i 0 h, drop-cons vs i d k, e) refl

pub chosen-end : (i : ℕ) (os : List ℕ) (vs : List Verdict) → length os ≤ i → chosen (drop i os) (drop i vs) ≡ None
unfolding chosen
chosen-end i os vs h = rw (drop_of_length-le os h) refl

-- one verdict more, in the first place that holds none
pub told-more : (f : ℕ → Verdict) (os : List ℕ) (k : ℕ) (v : Verdict) → k < 32 → length os ≡ 32 → v ≡ f (get_or os k 0)
    → set (map f (take k os) ++ replicate (32 - k) no_verdict) k v ≡ map f (take (k + 1) os) ++ replicate (32 - (k + 1)) no_verdict
told-more f os k v h l e =
    let n : 32 - k ≡ suc (32 - (k + 1)) = omega arith in
    let len : length (map f (take k os)) ≡ k = length-map (take k os) f ∙ length-take-le k os (omega (arith, l)) in
    let seam = set-append_seam (map f (take k os)) no_verdict (replicate (32 - (k + 1)) no_verdict) v in
    let more : map f (take (k + 1) os) ≡ map f (take k os) ++ (v ∷ []) =
    rw add-one (ap (map f) (take-suc os k 0 (omega (arith, l))) ∙ map-append f (take k os) (get_or os k 0 ∷ []) ∙ ap (λ x. map f (take k os) ++ (x ∷ [])) (sym e)) in
    ap (λ m. set (map f (take k os) ++ replicate m no_verdict) k v) n
    ∙ ap (λ j. set (map f (take k os) ++ no_verdict ∷ replicate (32 - (k + 1)) no_verdict) j v) (sym len)
    ∙ seam
    ∙ sym (append_assoc (map f (take k os)) (v ∷ []) (replicate (32 - (k + 1)) no_verdict))
    ∙ ap (λ xs. xs ++ replicate (32 - (k + 1)) no_verdict) (sym more)

-- one option's line more
one-line : (k : ℕ) (os : List ℕ) (vs : List Verdict) (d : Verdict) → k < length os → k < length vs
    → option_lines (take (suc k) os) vs ≡ option_lines (take k os) vs ++ option_line (get_or os k 0) (get_or vs k d)
unfolding option_lines
one-line k [] vs d h i = absurd (omega (arith, h))
one-line k (o ∷ os) [] d h i = absurd (omega (arith, i))
one-line zero (o ∷ os) (v ∷ vs) d h i = append-nil (option_line o v)
one-line (suc k) (o ∷ os) (v ∷ vs) d h i =
    let rest = option_line (get_or os k 0) (get_or vs k d) in
    ap (λ xs. option_line o v ++ xs) (one-line k os vs d (omega (arith, h)) (omega (arith, i))) ∙ sym (append_assoc (option_line o v) (option_lines (take k os) vs) rest)

pub lines-more : (k : ℕ) (os : List ℕ) (vs : List Verdict) (d : Verdict) → k < length os → k < length vs
    → option_lines (take (k + 1) os) vs ≡ option_lines (take k os) vs ++ option_line (get_or os k 0) (get_or vs k d)
lines-more k os vs d h i = rw add-one (one-line k os vs d h i)

pub no-lines : (vs : List Verdict) → option_lines [] vs ≡ []
unfolding option_lines
no-lines vs = refl
