-- `walking::steps::walk` meets its contract: every step leads to the same end, with fewer bytes ahead.
-- Assumes nothing.
use mathlib.Core.Path.{◌≡◌}
use lib.ListN.{length}
use Rattle.walking.specs.Lent.{Onward, ahead}
use Rattle.walking.proofs.steps.walk.Given as goal

abbrev pub invariant-loop-s : goal.invariant-loop-s
invariant-loop-s l = Onward l.room l.most l.initial.keys l.initial.counts l.initial.parts l.initial.s l.keys l.counts l.parts l.s l.bytes × (length l.guesses ≡ length l.initial.guesses)
    × (length l.keys ≡ length l.initial.keys) × (length l.counts ≡ length l.initial.counts) × (length l.parts ≡ length l.initial.parts)

abbrev pub decreases-loop-s : goal.decreases-loop-s
decreases-loop-s l = ahead l.s l.bytes
