-- `line_records::walking::letter_at` meets its contract: a space, P or F, or none of them.
-- Assumes nothing.
use mathlib.Core.Path.{refl}
use native.Mathlib.Omega.{arith}
use Rattle.line_records.proofs.Places.{letter_size, letter_missing, letter_text, letter_other}
use Rattle.line_records.proofs.walking.letter_at.Goals as goal

pub returns-in-32 : goal.returns-in-32
returns-in-32 c =
    let a = c.args in
    λ ends col is. (
      letter_missing a.s.now a.at _ refl c.requires ends col is c.in-32.is,
      letter_size a.s.now a.at _ refl c.requires ends col is,
      omega arith,
    )

pub returns-in-80 : goal.returns-in-80
returns-in-80 c =
    let a = c.args in
    λ ends col is. (
      letter_text a.s.now a.at _ refl c.requires ends col is c.in-80.is,
      letter_size a.s.now a.at _ refl c.requires ends col is,
      omega arith,
    )

pub returns-in_default : goal.returns-in_default
returns-in_default c =
    let a = c.args in
    λ ends col is. letter_other a.s.now a.at _ refl c.requires ends col is (grind arith) (grind arith)
    (grind arith)
