-- `script::words::word_end` meets its contract: the word is as long as no space stands in it.
-- Assumes nothing.
use mathlib.Core.Path.{sym, ◌∙◌}
use native.Mathlib.Omega.{arith}
use Rattle.script.proofs.WordLaws.{first_space, no_space}
use Rattle.script.proofs.words.word_end.Goals as goal

pub returns-in-Some : goal.returns-in-Some
returns-in-Some c =
    let at = first_space c.args.line.now c.args.from c.requires c.in-Some.n (sym c.in-Some.is ∙ c.first_space.ensures) in
    (at.0, omega arith, at.1)

pub returns-in-None : goal.returns-in-None
returns-in-None c =
    (no_space c.args.line.now c.args.from c.requires (sym c.in-None.is ∙ c.first_space.ensures), c.requires, omega arith)
