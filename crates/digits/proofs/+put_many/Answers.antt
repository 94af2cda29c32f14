-- `digits::put_many` meets its contract, by recursion on the quotient: two digits go behind those of the hundreds.
-- Assumes nothing.
use Prim.Native.Nat.{◌/◌}
use native.Mathlib.Omega.{arith}
use Rattle.output.specs.Placed.{Put}
use Rattle.digits.specs.Digits.{digits}
use Rattle.digits.proofs.Steps.{step_first, step_behind, step_both}
use Rattle.digits.proofs.+put_many.Goals as goal
use Rattle.digits.proofs.+put_many.Goals.{then-hundreds-lt10000, else-hundreds-lt10000}

pub put_some-at-requires : goal.put_some-at-requires
put_some-at-requires t c =
    (c.if-hundreds-lt10000.true, step_first c.args.n c.args.out.now c.requires.0 c.requires.1)

pub put_many-at-requires : goal.put_many-at-requires
put_many-at-requires t c = (
  omega (arith, c.decreases, c.requires.0),
  (omega arith, step_first c.args.n c.args.out.now c.requires.0 c.requires.1),
)

pub put_two-requires : goal.put_two-requires
put_two-requires t c =
    let front : Put (digits (c.args.n / 100)) c.args.out.now c.if-hundreds-lt10000.at c.if-hundreds-lt10000.out =
    elim c.if-hundreds-lt10000.branch [
      | then-hundreds-lt10000 w ↦ rw (w.out-is, w.at-is) w.put_some-at.ensures
      | else-hundreds-lt10000 w ↦ rw (w.out-is, w.at-is) w.put_many-at.ensures
    ]
    in (
      omega arith,
      step_behind c.args.n c.args.out.now c.requires.0 c.requires.1 c.if-hundreds-lt10000.out
          c.if-hundreds-lt10000.at front,
    )

pub returns : goal.returns
returns t c =
    let front : Put (digits (c.args.n / 100)) c.args.out.now c.if-hundreds-lt10000.at c.if-hundreds-lt10000.out =
    elim c.if-hundreds-lt10000.branch [
      | then-hundreds-lt10000 w ↦ rw (w.out-is, w.at-is) w.put_some-at.ensures
      | else-hundreds-lt10000 w ↦ rw (w.out-is, w.at-is) w.put_many-at.ensures
    ]
    in
    step_both c.args.n c.args.out.now c.requires.0 c.requires.1 c.if-hundreds-lt10000.out c.if-hundreds-lt10000.at
    front c.put_two.new.out c.put_two.result c.put_two.ensures
