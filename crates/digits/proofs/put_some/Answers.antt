-- `digits::put_some` meets its contract: one or two digits, and two more behind them where there are hundreds.
-- Assumes nothing.
use native.Mathlib.Omega.{arith}
use Rattle.digits.proofs.Steps.{step_first, step_inside, step_behind, step_both}
use Rattle.digits.proofs.put_some.Goals as goal

pub put_few-at-requires : goal.put_few-at-requires
put_few-at-requires c =
    (omega (arith, c.requires.0), step_first c.args.n c.args.out.now c.if-n-lt100.false c.requires.1)

pub slice_bounds-put_two-count : goal.slice_bounds-put_two-count
slice_bounds-put_two-count c =
    step_inside c.args.n c.args.out.now c.if-n-lt100.false c.requires.1 c.put_few-at.new.out
    c.put_few-at.result c.put_few-at.ensures

pub slice_bounds-put_two-start : goal.slice_bounds-put_two-start
slice_bounds-put_two-start c = slice_bounds-put_two-count c

pub put_two-requires : goal.put_two-requires
put_two-requires c = (
  omega arith,
  step_behind c.args.n c.args.out.now c.if-n-lt100.false c.requires.1
      c.put_few-at.new.out c.put_few-at.result c.put_few-at.ensures,
)

pub returns : goal.returns
returns c =
    step_both c.args.n c.args.out.now c.if-n-lt100.false c.requires.1 c.put_few-at.new.out
    c.put_few-at.result c.put_few-at.ensures c.put_two.new.out c.put_two.result
    c.put_two.ensures

pub overflow_add-result : goal.overflow_add-result
overflow_add-result c =
    record { fits = omega (arith, (returns c).count, c.requires.1, c.well_formed.0.0) }
