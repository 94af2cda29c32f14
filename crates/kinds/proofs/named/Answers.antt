-- `kinds::named` meets its contract: what is found in the slice is what is found in the list.
-- Assumes nothing.
use mathlib.Core.Bool.{◌&&◌}
use lib.Dec.{eqb}
use Rattle.std.proofs.Common.{rules, tests}
use Rattle.std.proofs.lemmas.Iterator.{YieldsList-from_slice}
use Rattle.std.proofs.lemmas.Iterator.Search.{find_from_yields_List}
use Rattle.kinds.specs.Kinds.{named}
use Rattle.kinds.proofs.named.Goals as goal

pub returns-in-Some : goal.returns-in-Some
unfolding named
returns-in-Some c =
    let a = c.args in
    let found =
    find_from_yields_List (λ p. eqb p.typ a.typ && eqb p.sub a.sub) _ _ c.find.result c.find.ensures.ran
    (YieldsList-from_slice a.table.now cc) (λ x b q k. search (rules, tests)) in
    rw (← rw c.in-Some.is at found)

pub returns-in-None : goal.returns-in-None
unfolding named
returns-in-None c =
    let a = c.args in
    let found =
    find_from_yields_List (λ p. eqb p.typ a.typ && eqb p.sub a.sub) _ _ c.find.result c.find.ensures.ran
    (YieldsList-from_slice a.table.now cc) (λ x b q k. search (rules, tests)) in
    rw (← rw c.in-None.is at found)
