-- `rising::holds` meets its contract: in a rising list the element at the rank of a key tells whether the key is
-- held.
-- Assumes nothing.
use mathlib.Core.Path.{sym, ◌∙◌}
use native.Mathlib.Omega.{arith}
use borrow.Author.Tests.{le-ltb}
use Rattle.rising.proofs.Steps.{kept_at, kept_past}
use Rattle.rising.proofs.holds.Goals as goal

pub returns-then-at-used : goal.returns-then-at-used
returns-then-at-used c = kept_at _ _ _ c.requires.0 c.requires.1 _ c.requires.2 (omega arith)

pub returns-else-at-used : goal.returns-else-at-used
returns-else-at-used c =
    le-ltb _ _ c.if-at-used.false ∙ sym (kept_past _ _ _ c.requires.0 c.requires.1 _ c.requires.2 (omega arith))
