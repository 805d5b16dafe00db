-- All digits but the last by the call of itself, then the last. The measure is the number. Assumes nothing.
use Rattle.picture.proofs.drawing.Drawing.+decimal.Given as goal

abbrev pub decreases-decimal : goal.decreases-decimal
decreases-decimal l = l.n
