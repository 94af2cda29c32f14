-- `calls::figures` meets its contract: each return is one case of its definition.
-- Assumes nothing.
use native.Mathlib.Omega.{arith}
use Rattle.house.proofs.Laws.{told_sound, told_unsound, told_promised}
use Rattle.house.proofs.Calling.{told_within, figures_done, figures_unsound}
use Rattle.calls.proofs.figures.Goals as goal

pub returns-in_default : goal.returns-in_default
returns-in_default c = figures_unsound _ (told_unsound _ _ c.soundness_of.ensures c.in_default.is)

pub overflow_cast-result : goal.overflow_cast-result
overflow_cast-result c =
    let fine = told_sound _ _ c.soundness_of.ensures _ c.in-Some.is in
    record { fits = omega (arith, told_within _ fine) }

pub overflow_sub-result : goal.overflow_sub-result
overflow_sub-result c =
    let fine = told_sound _ _ c.soundness_of.ensures _ c.in-Some.is in
    omega (arith, told_within _ fine)

pub returns : goal.returns
returns c =
    let fine = told_sound _ _ c.soundness_of.ensures _ c.in-Some.is in
    figures_done _ fine _ (told_promised _ _ c.soundness_of.ensures _ c.in-Some.is)
