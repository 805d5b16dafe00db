-- The stores into a window, in parts. Assumes nothing.
use Rattle.std.proofs.Common.{◌≡◌, Bool, true, false, List, [], ◌∷◌, ◌++◌, ap, refl}
use Rattle.bits.specs.Choice.{pick}
use Rattle.link.specs.declared.Store.{Store}
use Rattle.link.specs.Window.{within, handed, Parts}

one-part : (t : Bool) (e : Store) (xs ys zs : List Store) → xs ≡ ys ++ zs → pick t (e ∷ xs) xs ≡ pick t (e ∷ ys) ys ++ zs
one-part true e xs ys zs h = ap (λ es. e ∷ es) h
one-part false e xs ys zs h = h

pub parts : Parts
unfolding handed
parts w [] ys = refl
parts w (e ∷ es) ys = one-part (within w e) e (handed w (es ++ ys)) (handed w es) (handed w ys) (parts w es ys)
