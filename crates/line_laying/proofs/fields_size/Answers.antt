-- `line_laying::fields_size` meets its contract: what is passed and what is left make up the whole.
-- Assumes nothing.
use mathlib.Core.Path.{ap}
use native.Mathlib.Omega.{arith}
use lib.ListN.{length}
use Rattle.line_layouts.proofs.Laid.{rest_length, rest_ends}
use Rattle.line_laying.proofs.fields_size.Goals as goal

pub loop-j-preserved : goal.loop-j-preserved
loop-j-preserved c =
    let a = c.args in
    let on = rest_length a.source.now a.line c.requires.0.full a.layout c.loop-j.j a.n
    (omega arith) c.requires.1 in (
      omega (arith, c.nth_size-size.ensures.1),
      omega (
        arith,
        c.nth_size-size.ensures.0,
        on,
        c.loop-j.invariant.1,
      ),
    )

pub returns : goal.returns
returns c =
    let a = c.args in
    let none = ap length (rest_ends a.source.now a.line c.requires.0.full a.layout c.loop-j.j a.n
    (omega arith)) in
    (omega (arith, none, c.loop-j.invariant.1), omega arith)
