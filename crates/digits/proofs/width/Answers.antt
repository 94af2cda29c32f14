-- `digits::width` meets its contract: a number that reaches a power of ten has a digit more than that power has noughts,
-- and one below it has no more.
-- Assumes nothing.
use Prim.Native.Nat.{◌-◌}
use native.Mathlib.Omega.{arith}
use Rattle.digits.proofs.Laws.{ceiling_next, digits_some, digits_most, digits_below, digits_reach}
use Rattle.digits.proofs.width.Goals as goal

pub loop-power-init : goal.loop-power-init
loop-power-init c = (omega arith, digits_some c.args.n, omega arith, omega arith)

pub overflow_add-count : goal.overflow_add-count
overflow_add-count c =
    record { fits = omega (arith, c.loop-power.invariant.1, digits_most c.args.n c.ranges.n.fits) }

pub overflow_mul-power : goal.overflow_mul-power
overflow_mul-power c = record { fits = omega (arith, c.ranges.n.fits, c.loop-power-test.true) }

pub loop-power-smaller : goal.loop-power-smaller
loop-power-smaller c = omega (arith, c.loop-power.invariant.2, c.loop-power-test.true)

pub loop-power-preserved : goal.loop-power-preserved
loop-power-preserved c =
    let n = c.args.n in
    let count = c.loop-power.count in
    let is = c.loop-power.invariant.3 in (
      omega arith,
      omega (arith, digits_reach count n (omega (arith, is, c.loop-power-test.true))),
      omega (arith, c.loop-power.invariant.2),
      omega (arith, is, ceiling_next count),
    )

pub returns : goal.returns
returns c =
    let n = c.args.n in
    let count = c.loop-power.count in
    let inv = c.loop-power.invariant in
    let most = digits_below count n inv.0 (omega (arith, inv.3, c.loop-power-test.false)) in
    (omega (arith, inv.1, most), omega (arith, inv.1, digits_most n c.ranges.n.fits))
