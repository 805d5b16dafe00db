-- The report of an image: its start, and where that is accepted its run, told line by line. Assumes nothing.
use Rattle.std.proofs.Common.{sym, refl}
use Rattle.plain.proofs.Told.{some_number}
use Rattle.report.specs.Report.{begun}
use Rattle.report.proofs.Room.{whole}
use Rattle.report.proofs.OneRun.{told-sums}
use Rattle.report.proofs.Told.{refused, accepted}
use Rattle.report.proofs.report.Goals as goal

pub run_lines-requires : goal.run_lines-requires
unfolding begun
run_lines-requires c = told-sums c.args.image.now _ c.in-Ok.ensures refl _ c.in-Ok-run.ensures

pub run_lines-requires-in-Err-run : goal.run_lines-requires-in-Err-run
unfolding begun
run_lines-requires-in-Err-run c = told-sums c.args.image.now _ c.in-Ok.ensures refl _ c.in-Err-run.ensures

pub returns-in-Ok-run : goal.returns-in-Ok-run
unfolding begun
returns-in-Ok-run c =
    let image = c.args.image.now in
    let says = accepted image _ c.in-Ok.ensures refl _ c.in-Ok-run.ensures in
    record { text = whole image says.0 (rw (← c.number.ensures, ← c.new-text.ensures) c.run_lines.ensures); image = sym says.1 }

pub returns-in-Err-run : goal.returns-in-Err-run
unfolding begun
returns-in-Err-run c =
    let image = c.args.image.now in
    let says = accepted image _ c.in-Ok.ensures refl _ c.in-Err-run.ensures in
    record { text = whole image says.0 (rw (← c.into.ensures, ← c.new-text.ensures) c.run_lines-in-Err-run.ensures); image = sym says.1 }

pub returns-in-Err : goal.returns-in-Err
unfolding begun
returns-in-Err c =
    let image = c.args.image.now in
    let says = refused image _ c.in-Err.ensures (some_number _) in
    record { text = whole image says.0 (rw (← c.into-in-Err.ensures, ← c.new-text.ensures) c.answer_line.ensures); image = sym says.1 }
