-- `lent::deliver_lent` meets its contract: a record is judged, and its verdict settled.
-- Assumes nothing.
use mathlib.Core.Path.{ap, sym, subst, ◌∙◌}
use Rattle.session.specs.declared.Verdict.{Verdict}
use Rattle.settling.specs.Settling.{Settles}
use Rattle.judging.proofs.Laws.{judged_settles}
use Rattle.house.specs.Deliver.{core, guessed}
use Rattle.house.proofs.Delivering.{delivered_settled}
use Rattle.lent.proofs.deliver_lent.Goals as goal

pub settle_lent-requires : goal.settle_lent-requires
settle_lent-requires c = (
  c.requires,
  subst (Settles c.args.st) (sym c.judge_lent-verdict.ensures)
      (judged_settles _ _ _ c.requires.kept),
)

pub returns : goal.returns
returns c =
    let a = c.args in
    let lent = core a.keys.now a.counts.now a.used a.st a.parts.now in (
      c.settle_lent.ensures.0 ∙ delivered_settled _ _ _ c.judge_lent-verdict.ensures,
      c.settle_lent.ensures.1
          ∙ ap (λ (v : Verdict). guessed a.room lent v a.guesses.now) c.judge_lent-verdict.ensures,
    )
