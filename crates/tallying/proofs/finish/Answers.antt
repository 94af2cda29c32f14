-- `tallying::finish` meets its contract: each fate has its text.
-- Assumes nothing.
use Rattle.tally_lines.proofs.Lines.{put_as}
use Rattle.tallying.proofs.Texts.{ended_going, ended_stopped}
use Rattle.tallying.proofs.finish.Goals as goal

pub returns-in-None : goal.returns-in-None
returns-in-None c =
    put_as (ended_going c.args.s c.args.buf.now c.in-None.is)
    c.finish_going.ensures

pub returns-in-Some : goal.returns-in-Some
returns-in-Some c =
    put_as (ended_stopped c.args.s c.args.buf.now _ c.in-Some.is)
    c.put_stopped.ensures
