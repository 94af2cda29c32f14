-- `walking::steps::take_record` meets its contract: the delivery is that of the lent core, accepted or refused.
-- Assumes nothing.
use mathlib.Core.Path.{ap}
use native.Mathlib.Omega.{arith}
use Rattle.answers.specs.Numbers.{number_of}
use Rattle.numbers.specs.Laws.{Bytes}
use Rattle.walking.specs.Walking.{rest, stage_standing}
use Rattle.walking.proofs.Stepping.{number_done, lent_step, step_accepted, step_refused}
use Rattle.cutting.proofs.Cuts.{needed_some}
use Rattle.walking.proofs.steps.take_record.Goals as goal

pub deliver_lent-d-requires : goal.deliver_lent-d-requires
deliver_lent-d-requires c =
    lent_step _ _ _ _ _ _ _ c.requires.walkable.0 c.requires.walkable.1 c.standing_of.ensures

pub overflow_add-result : goal.overflow_add-result
overflow_add-result c =
    let some = needed_some (stage_standing c.args.s) (rest c.args.s c.args.bytes.now) in
    omega (arith, c.requires.walkable.0.countable, c.requires.n_value.0, c.requires.n_value.2, some)

pub returns-in-Done : goal.returns-in-Done
returns-in-Done c =
    let range : Bytes c.args.bytes.now = λ k. omega (arith, c.type_inv.bytes k) in
    step_accepted _ _ _ _ _ _ _ c.requires.walkable.0 c.requires.walkable.1 _ c.requires.n_value.0
    c.requires.n_value.1 c.requires.n_value.2 range c.standing_of.ensures _ _ _ _ _ _ c.deliver_lent-d.ensures.0
    (ap number_of c.in-Done.is)

pub returns-in_default : goal.returns-in_default
returns-in_default c =
    let range : Bytes c.args.bytes.now = λ k. omega (arith, c.type_inv.bytes k) in
    step_refused _ _ _ _ _ _ _ c.requires.walkable.0 c.requires.walkable.1 _ c.requires.n_value.0
    c.requires.n_value.1 c.requires.n_value.2 range c.standing_of.ensures _ _ _ _ _ _ c.deliver_lent-d.ensures.0
    (λ e. c.in_default.not-Done (number_done _ e)) c.stage_of.ensures
