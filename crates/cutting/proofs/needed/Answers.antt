-- `cutting::needed` meets its contract: each return is one case of its definition.
-- Assumes nothing.
use mathlib.Core.Path.{sym, ◌∙◌}
use Rattle.cutting.proofs.Cuts.{needed_first, needed_header, needed_told}
use Rattle.cutting.proofs.needed.Goals as goal

pub returns-then-is_start : goal.returns-then-is_start
returns-then-is_start c = sym (needed_first _ _ (sym c.is_start.ensures ∙ c.if-is_start.true))

pub returns-then-bytes-lt4 : goal.returns-then-bytes-lt4
returns-then-bytes-lt4 c = sym
    (needed_header _ _ (sym c.is_start.ensures ∙ c.if-is_start.false) c.if-bytes-lt4.true)

pub returns : goal.returns
returns c =
    needed_told _ _ (sym c.is_start.ensures ∙ c.if-is_start.false) c.if-bytes-lt4.false _
    c.u2.ensures
