-- `pouring::pour_carry` meets its contract: the walk goes over the bytes held, and what is left of them comes to the front.
-- Assumes nothing.
use Rattle.numbers.specs.Laws.{Bytes}
use Rattle.numbers.proofs.Laws.{part_bytes}
use borrow.Author.Rules.{rules}
use Rattle.pouring.proofs.Pours.{carry_begins, carry_flows}
use Rattle.pouring.proofs.pour_carry.Goals as goal

pub walk-w-requires : goal.walk-w-requires
walk-w-requires c = carry_begins _ _ _ _ c.args.p c.args.carry.now c.requires c.stage_of.ensures

pub returns : goal.returns
returns c =
    let range : Bytes c.args.carry.now = λ k. search rules in
    carry_flows _ _ _ _ c.args.p c.args.carry.now c.requires c.stage_of.ensures _ _ _ _ c.walk-w.ensures
    (part_bytes c.args.carry.now 0 c.args.p.held range) c.standing_of.ensures _ _ c.keep.ensures.0 c.keep.ensures.1
