-- The marked texts and memories, by computing. Assumes nothing.
use mathlib.Core.Path.{refl}
use Rattle.text.specs.Text.{hex_digits}
use Rattle.text.specs.Digit.{counted}
use Rattle.intel_hex.specs.Lines.{lines}
use Rattle.intel_hex.specs.Record.{bytes_of, well_formed, record_of}
use Rattle.intel_hex.specs.Reader.{over, read_on, read}
use Rattle.intel_hex.specs.Writer.{pairs, record_line, line, write}
use Rattle.intel_hex.specs.RoundTrip.{file}
use Rattle.intel_hex.specs.Marked.{Marked}

pub marked : Marked
unfolding hex_digits counted lines bytes_of well_formed record_of over read_on read pairs record_line line write file
marked = record { read_as = refl; held = refl; written = refl; shorter = refl; past = refl }
