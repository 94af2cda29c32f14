-- `deliveries::judge_slot` meets its contract: a sound session's parts may be lent.
-- Assumes nothing.
use mathlib.Core.Path.{sym, subst}
use Rattle.session.proofs.Laws.{sound_lent}
use Rattle.settling.specs.Settling.{Settles}
use Rattle.judging.proofs.Laws.{judged_settles}
use borrow.Author.Rules.{rules}
use Rattle.deliveries.proofs.judge_slot.Goals as goal

pub judge_lent-requires : goal.judge_lent-requires
judge_lent-requires c = sound_lent c.args.s.session (search rules) c.requires

pub returns : goal.returns
returns c =
    let s = c.args.s.session in (
      c.judge_lent.ensures,
      subst (Settles s.standing) (sym c.judge_lent.ensures)
          (judged_settles s.standing s.parts c.args.rec.now (sound_lent c.args.s.session (search rules) c.requires)),
    )
