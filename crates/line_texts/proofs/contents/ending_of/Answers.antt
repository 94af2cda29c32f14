-- `line_texts::contents::ending_of` meets its contract: each return is one law of `ending`.
-- Assumes nothing.
use mathlib.Core.Path.{sym}
use native.Mathlib.Omega.{arith}
use Rattle.line_texts.proofs.Whole.{ending_both, ending_alone, ending_feed, ending_return, ending_none, ending_empty}
use Rattle.line_texts.proofs.contents.ending_of.Goals as goal

pub returns-in-13 : goal.returns-in-13
returns-in-13 c = let s = c.args.line.now in (sym (ending_both s (omega arith) (omega arith)), omega arith)

pub returns-in-13-2 : goal.returns-in-13-2
returns-in-13-2 c = let s = c.args.line.now in (sym (ending_return s (grind arith) (grind arith)), omega arith)

pub returns-in-13-2-2 : goal.returns-in-13-2-2
returns-in-13-2-2 c = let s = c.args.line.now in (sym (ending_return s (omega arith) (omega arith)), omega arith)

pub returns-in-10 : goal.returns-in-10
returns-in-10 c = let s = c.args.line.now in (sym (ending_alone s (grind arith) (grind arith)), omega arith)

pub returns-in-10-2 : goal.returns-in-10-2
returns-in-10-2 c = let s = c.args.line.now in (sym (ending_feed s (omega arith) (omega arith)), omega arith)

pub returns-in_default : goal.returns-in_default
returns-in_default c = let s = c.args.line.now in (sym (ending_empty s (omega arith)), omega arith)

pub returns-in_default-2 : goal.returns-in_default-2
returns-in_default-2 c = let s = c.args.line.now in (sym (ending_none s (grind arith) (grind arith)), omega arith)

pub returns-in_default-3 : goal.returns-in_default-3
returns-in_default-3 c = let s = c.args.line.now in (sym (ending_none s (omega arith) (omega arith)), omega arith)
