-- `walking::steps::walk` meets its contract: every step leads to the same end, with fewer bytes ahead.
-- Assumes nothing.
use mathlib.Core.Path.{refl, ◌∙◌}
use Rattle.walking.proofs.Stepping.{onward_none, onward_on, arrived}
use Rattle.walking.proofs.steps.walk.Goals as goal

pub loop-s-init : goal.loop-s-init
loop-s-init c =
    let given = c.requires in
    (onward_none _ _ _ _ _ _ _ given.0 given.1, refl, refl, refl, refl)

pub step-s-requires : goal.step-s-requires
step-s-requires c =
    (c.loop-s.invariant.0.kept, c.loop-s-test.true)

pub loop-s-smaller : goal.loop-s-smaller
loop-s-smaller c = c.step-s.ensures.nearer

pub loop-s-preserved : goal.loop-s-preserved
loop-s-preserved c = (
  onward_on _ _ _ _ _ _ _ _ _ _ _ c.loop-s.invariant.0 c.step-s.ensures.onward,
  c.step-s.auto.guesses ∙ c.loop-s.invariant.1,
  c.step-s.auto.keys ∙ c.loop-s.invariant.2,
  c.step-s.auto.counts ∙ c.loop-s.invariant.3,
  c.step-s.auto.parts ∙ c.loop-s.invariant.4,
)

pub returns : goal.returns
returns c =
    arrived _ _ _ _ _ _ _ _ _ _ _ c.requires.1 c.loop-s-test.false
    c.loop-s.invariant.0
