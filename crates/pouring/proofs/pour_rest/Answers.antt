-- `pouring::pour_rest` meets its contract: a refused record stays in the carry, part of a record too, and without either the chunk is walked.
-- Assumes nothing.
use borrow.Author.Rules.{rules}
use Rattle.numbers.specs.Laws.{Bytes}
use Rattle.pouring.proofs.Pours.{stop_pours, rest_pours}
use Rattle.pouring.proofs.pour_rest.Goals as goal

pub returns-in-Some : goal.returns-in-Some
returns-in-Some c =
    let range : Bytes c.args.carry.now = λ k. search rules in
    stop_pours _ _ _ _ _ c.args.p c.args.carry.now c.args.chunk.now c.requires.1 c.requires.3 c.requires.2
    range c.in-Some.is c.stop_at.ensures

pub returns-in-None-2 : goal.returns-in-None-2
returns-in-None-2 c =
    rest_pours _ _ c.args.p c.args.carry.now c.args.chunk.now c.requires.1 c.requires.3 c.in-None.is c.if-p-eq0.false
    c.requires.4
