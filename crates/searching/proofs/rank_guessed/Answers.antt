-- `searching::rank_guessed` meets its contract: an element of a rising list stands at its own rank.
-- Assumes nothing.
use Rattle.rising.proofs.Steps.{kept_own}
use Rattle.searching.proofs.rank_guessed.Goals as goal

pub returns-then-s-guess : goal.returns-then-s-guess
returns-then-s-guess c =
    kept_own c.args.s.now c.args.used c.args.key c.requires.2 c.requires.3 _
    c.if-guess-used.true c.if-s-guess.true
