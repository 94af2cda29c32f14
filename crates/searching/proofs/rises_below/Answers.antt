-- `searching::rises_below` meets its contract. The invariant: the list rises where no gap passed is as wide as half and
-- the rest rises from the last of the elements passed on.
-- Assumes nothing.
use mathlib.Core.Path.{sym, ◌∙◌}
use mathlib.Core.Bool.{and-true}
use Prim.Native.Nat.{◌-◌, ◌/◌, ◌<◌}
use native.Mathlib.Omega.{arith}
use lib.Dec.{eqb}
use lib.ListN.{get_or}
use Rattle.rising.proofs.Steps.{half, rest_first, rest_none, low_at, gaps_next}
use Rattle.searching.proofs.rises_below.Goals as goal

pub loop-at-init : goal.loop-at-init
loop-at-init c = rest_first c.args.s.now c.args.used

pub overflow_add-falls : goal.overflow_add-falls
overflow_add-falls c =
    let l = c.args.s.now in
    let i = c.loop-at.at in
    let below : get_or l (i - 1) 0 < half =
    low_at l c.args.used (i - 1) c.requires.0 c.requires.1 (omega arith) in
    record { fits = omega arith }

pub overflow_sub-falls-in-loop-at : goal.overflow_sub-falls-in-loop-at
overflow_sub-falls-in-loop-at c =
    let l = c.args.s.now in
    let i = c.loop-at.at in
    let below : get_or l i 0 < half = low_at l c.args.used i c.requires.0 c.requires.1 (omega arith) in
    omega arith

pub loop-at-preserved : goal.loop-at-preserved
loop-at-preserved c =
    let args = c.args in
    c.loop-at.invariant
    ∙ gaps_next args.s.now args.used c.loop-at.at c.requires.0 c.requires.1 c.loop-at.falls (omega arith) (omega arith)

pub returns : goal.returns
returns c =
    let none =
    rest_none c.args.s.now c.args.used c.loop-at.at c.requires.0 c.loop-at-test.false in
    sym (c.loop-at.invariant ∙ rw none (and-true (eqb (c.loop-at.falls / half) 0)))
