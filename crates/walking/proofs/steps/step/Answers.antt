-- `walking::steps::step` meets its contract: each return is one law of a step.
-- Assumes nothing.
use mathlib.Core.Path.{sym, ◌∙◌}
use native.Mathlib.Omega.{arith}
use Rattle.numbers.specs.Laws.{Bytes}
use Rattle.walking.specs.Walking.{rest, stage_standing}
use Rattle.cutting.proofs.Cuts.{needed_some}
use Rattle.walking.proofs.Stepping.{told_needed, step_short, step_long}
use Rattle.walking.proofs.Tests.{step_test}
use Rattle.walking.proofs.steps.step.Goals as goal

pub returns-then-most-n : goal.returns-then-most-n
returns-then-most-n c =
    let told = told_needed c.args.s c.args.bytes.now c.standing_of.ensures c.needed-n.ensures in
    step_long _ _ _ _ _ _ _ c.requires.0 c.requires.1 _ told c.if-most-n.true c.stay.ensures

pub returns-then-bytes-at : goal.returns-then-bytes-at
returns-then-bytes-at c =
    let told = told_needed c.args.s c.args.bytes.now c.standing_of.ensures c.needed-n.ensures in
    step_short _ _ _ _ _ _ _ c.requires.0 c.requires.1 _ told c.if-most-n.false c.if-bytes-at.true
    c.stay-then-bytes-at.ensures

pub bounds-bytes-at : goal.bounds-bytes-at
bounds-bytes-at c =
    let told = told_needed c.args.s c.args.bytes.now c.standing_of.ensures c.needed-n.ensures in
    let some = needed_some (stage_standing c.args.s) (rest c.args.s c.args.bytes.now) in
    omega (arith, c.if-bytes-at.false, c.requires.0.within, told, some)

pub bounds-bytes-at-2 : goal.bounds-bytes-at-2
bounds-bytes-at-2 c =
    let told = told_needed c.args.s c.args.bytes.now c.standing_of.ensures c.needed-n.ensures in
    let some = needed_some (stage_standing c.args.s) (rest c.args.s c.args.bytes.now) in
    omega (arith, c.if-bytes-at.false, c.requires.0.within, told, some)

pub overflow_add-result : goal.overflow_add-result
overflow_add-result c =
    let told = told_needed c.args.s c.args.bytes.now c.standing_of.ensures c.needed-n.ensures in
    let some = needed_some (stage_standing c.args.s) (rest c.args.s c.args.bytes.now) in
    omega (arith, c.if-bytes-at.false, c.requires.0.within, c.requires.0.countable, told, some)

pub returns-then-is_test : goal.returns-then-is_test
returns-then-is_test c =
    let told = told_needed c.args.s c.args.bytes.now c.standing_of.ensures c.needed-n.ensures in
    let range : Bytes c.args.bytes.now = λ k. omega (arith, c.type_inv.bytes k) in
    step_test _ _ _ _ _ _ _ c.requires.0 c.requires.1 _ told c.if-most-n.false
    (omega (arith, c.if-bytes-at.false, c.requires.0.within)) range (sym c.is_test.ensures ∙ c.if-is_test.true)

pub take_record-requires : goal.take_record-requires
take_record-requires c =
    record {
      walkable = (c.requires.0, c.requires.1);
      n_value = (
        told_needed c.args.s c.args.bytes.now c.standing_of.ensures c.needed-n.ensures,
        c.if-most-n.false,
        omega (arith, c.if-bytes-at.false, c.requires.0.within),
      );
    }
