-- `lent::find_row` meets its contract: a rank among rows that are counted in 16 bits.
-- Assumes nothing.
use native.Mathlib.Omega.{arith}
use Rattle.rising.proofs.Steps.{kept_within}
use Rattle.lent.proofs.find_row.Goals as goal

pub overflow_cast-guesses : goal.overflow_cast-guesses
overflow_cast-guesses c =
    record {
      fits =
          omega (
            arith,
            c.rank_guessed-at.ensures,
            c.requires.within,
            kept_within c.args.keys.now c.args.used c.args.key (omega (arith, c.requires.long, c.requires.within)),
          );
    }
