-- `requests::cutting::find` meets its contract: each return is one case of `asked`.
-- Assumes nothing.
use mathlib.Core.Path.{refl, sym, ◌∙◌}
use native.Mathlib.Omega.{arith}
use Rattle.requests.proofs.CutLaws.{asked_nothing, asked_comment, asked_words, hands_none, hands_some}
use Rattle.requests.proofs.cutting.find.Goals as goal

pub returns-in-empty : goal.returns-in-empty
returns-in-empty c =
    let line = c.args.line.now in
    hands_none line _ (asked_nothing line (omega arith)) _ refl refl

pub returns-in-35 : goal.returns-in-35
returns-in-35 c =
    let line = c.args.line.now in
    hands_none line _ (asked_comment line (omega arith) (omega arith)) _ refl refl

pub returns-then-hands_over : goal.returns-then-hands_over
returns-then-hands_over c =
    let line = c.args.line.now in
    let over = sym c.hands_over.ensures ∙ c.if-hands_over.true in
    hands_some line _ (c.cut_line-cut.ensures.asks_for ∙ asked_words line (omega arith) (λ e. omega (arith, e))) _
    c.cut_line-cut.ensures.within (c.cut_line-cut.ensures.hex over) over

pub returns-else-hands_over : goal.returns-else-hands_over
returns-else-hands_over c =
    let line = c.args.line.now in
    hands_none line _ (c.cut_line-cut.ensures.asks_for ∙ asked_words line (omega arith) (λ e. omega (arith, e))) _
    refl (sym c.hands_over.ensures ∙ c.if-hands_over.false)
