-- `kinds::kind_of` meets its contract: PIR and PRR stand in the table.
-- Assumes nothing.
use mathlib.Core.Path.{ap, ◌∙◌}
use Rattle.kinds.specs.Kinds.{pairs, named, kind_of}
use Rattle.kinds.proofs.kind_of.Goals as goal

pub returns-in-5-eq10 : goal.returns-in-5-eq10
unfolding kind_of named
returns-in-5-eq10 c = rw (c.in-5-eq10.is-0, c.in-5-eq10.is-1)

pub returns-in-5-eq20 : goal.returns-in-5-eq20
unfolding kind_of named
returns-in-5-eq20 c = rw (c.in-5-eq20.is-0, c.in-5-eq20.is-1)

pub returns-in_default : goal.returns-in_default
unfolding kind_of
returns-in_default c = c.named.ensures ∙ ap (named pairs c.args.typ c.args.sub) c.beyond.ensures
