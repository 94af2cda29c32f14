-- `rising::is_rising` meets its contract. The invariant: the list rises where the elements passed rise and the
-- rest rises from the last of them on.
-- Assumes nothing.
use mathlib.Core.Path.{sym, ◌∙◌}
use mathlib.Core.Bool.{and-true, and_assoc}
use lib.Dec.{ltb}
use lib.ListN.{get_or}
use Prim.Native.Nat.{◌+◌, ◌-◌}
use Rattle.rising.proofs.Steps.{rising_rest, rest_first, rest_next, rest_none}
use Rattle.rising.proofs.is_rising.Goals as goal

pub loop-i-init : goal.loop-i-init
loop-i-init c = rest_first c.args.s.now c.args.used

pub loop-i-preserved : goal.loop-i-preserved
loop-i-preserved c =
    let l = c.args.s.now in
    let used = c.args.used in
    let i = c.loop-i.i in
    c.loop-i.invariant
    ∙ rw (rest_next l used i c.requires c.loop-i-test.true)
    (sym (and_assoc c.loop-i.rises (ltb (get_or l (i - 1) 0) (get_or l i 0)) (rising_rest l used (i + 1))))

pub returns : goal.returns
returns c =
    let none = rest_none c.args.s.now c.args.used c.loop-i.i c.requires c.loop-i-test.false in
    sym (c.loop-i.invariant ∙ rw none (and-true c.loop-i.rises))
