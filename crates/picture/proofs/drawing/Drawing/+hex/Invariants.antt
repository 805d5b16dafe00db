-- All digits but the last by the call of itself, then the last. The measure is the number. Assumes nothing.
use Rattle.picture.proofs.drawing.Drawing.+hex.Given as goal

abbrev pub decreases-hex : goal.decreases-hex
decreases-hex l = l.n
