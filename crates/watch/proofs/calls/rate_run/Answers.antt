use mathlib.Core.Path.{sym, ◌∙◌}
use Rattle.watch.proofs.Wholes.{none-held, some-held}
use Rattle.watch.proofs.Calling.{told-refused, told-window, told-held, told-run, told-room}
use Rattle.watch.proofs.calls.rate_run.Goals as goal

pub returns-in-Err : goal.returns-in-Err
returns-in-Err c = told-refused _ _ _ _ _ c.in-Err.refusal (c.in-Err.ensures _)

pub returns-then-bad_window : goal.returns-then-bad_window
returns-then-bad_window c = told-window _ _ _ _ _ c.in-Ok.held (c.in-Ok.ensures _) (sym c.bad_window.ensures ∙ c.if-bad_window.true)

pub returns-then-is_some : goal.returns-then-is_some
returns-then-is_some c = told-held _ _ _ _ _ c.in-Ok.held (c.in-Ok.ensures _) (some-held _ (sym c.is_some.ensures ∙ c.if-is_some.true)) (sym c.bad_window.ensures ∙ c.if-bad_window.false)

pub rate_from-rated-requires : goal.rate_from-rated-requires
rate_from-rated-requires c = told-room _ _ _ c.in-Ok.held (c.in-Ok.ensures c.args.memory.now)

pub returns : goal.returns
returns c =
    c.rate_from-rated.ensures
    ∙ told-run _ _ _ _ _ c.in-Ok.held (c.in-Ok.ensures _) (none-held _ (sym c.is_some.ensures ∙ c.if-is_some.false)) (sym c.bad_window.ensures ∙ c.if-bad_window.false)
