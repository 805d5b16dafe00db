-- A hexadecimal number: all digits but the last by the call of itself, then the last. The measure is the count of digits. Assumes nothing.
use Rattle.text.proofs.Text.+hex.Given as goal

abbrev pub decreases-hex : goal.decreases-hex
decreases-hex l = l.digits
