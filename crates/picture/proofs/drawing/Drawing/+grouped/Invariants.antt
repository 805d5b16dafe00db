-- All groups but the last by the call of itself, then the last. The measure is the number. Assumes nothing.
use Rattle.picture.proofs.drawing.Drawing.+grouped.Given as goal

abbrev pub decreases-grouped : goal.decreases-grouped
decreases-grouped l = l.n
