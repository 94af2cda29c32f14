-- A promise that is one equation leaves nothing open.
-- Assumes nothing.
use mathlib.Core.Path.{sym, ◌∙◌}
use Rattle.prelude.specs.Once.{Equation}

pub equation : Equation
equation O a o o' p q = p ∙ sym q
