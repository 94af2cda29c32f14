-- `lines::writing::write_said` meets its contract: what is not given, then what is not allowed, or else the line.
-- Assumes nothing.
use mathlib.Core.Path.{sym, ◌∙◌}
use Rattle.lines.proofs.writing.write_said.Goals as goal

pub returns-then-not-line_given : goal.returns-then-not-line_given
returns-then-not-line_given c =
    rw (sym (c.line_given.ensures.all c.args.source.now) ∙ c.if-not-line_given.true)

pub returns-then-not-line_allowed : goal.returns-then-not-line_allowed
returns-then-not-line_allowed c =
    rw (
      sym (c.line_given.ensures.all c.args.source.now) ∙ c.if-not-line_given.false,
      sym c.line_allowed.ensures ∙ c.if-not-line_allowed.true,
    )

pub returns : goal.returns
returns c =
    rw (
      sym (c.line_given.ensures.all c.args.source.now) ∙ c.if-not-line_given.false,
      sym c.line_allowed.ensures ∙ c.if-not-line_allowed.false,
    ) c.place.ensures
