-- `line_records::walking::name_at` meets its contract: each return is one law of the name at a place.
-- Assumes nothing.
use Prim.Native.Nat.{◌≤◌}
use native.Mathlib.Omega.{arith}
use Rattle.line_records.proofs.Places.{name_size, name_short, name_none, name_long, name_there}
use Rattle.line_records.proofs.walking.name_at.Goals as goal

pub returns-then-len-s : goal.returns-then-len-s
returns-then-len-s c =
    let a = c.args in
    λ ends col is kept. name_short a.s.now a.at c.from-len.result c.from-len.ensures a.most ends col is kept
    c.requires c.if-len-s.true

pub returns-then-len-eq0 : goal.returns-then-len-eq0
returns-then-len-eq0 c =
    let a = c.args in
    λ ends col is kept. (
      name_none a.s.now a.at c.from-len.result c.from-len.ensures a.most ends col is kept
          c.if-len-s.false
          c.if-len-eq0.true,
      omega (
        arith,
        name_size a.s.now a.at c.from-len.result c.from-len.ensures a.most ends col is kept,
        c.if-len-eq0.true,
      ),
      omega (arith, c.requires),
    )

pub returns-else-len-most : goal.returns-else-len-most
returns-else-len-most c =
    let a = c.args in
    λ ends col is kept. name_long a.s.now a.at c.from-len.result c.from-len.ensures a.most ends col is kept
    c.if-len-s.false c.if-len-most.false

pub returns-then-len-most : goal.returns-then-len-most
returns-then-len-most c =
    let a = c.args in
    let some : 1 ≤ c.from-len.result = omega (arith, c.if-len-eq0.false) in
    λ ends col is kept. (
      name_there a.s.now a.at c.from-len.result c.from-len.ensures a.most ends col is kept
          c.if-len-s.false some c.if-len-most.true,
      omega (
        arith,
        name_size a.s.now a.at c.from-len.result c.from-len.ensures a.most ends col is kept,
      ),
      omega (arith, c.if-len-s.false),
    )
