-- `row_tests::rows_fit` meets its contract. The invariant: every row fits where those passed do, by their bits, and
-- those from i on do.
-- Assumes nothing.
use mathlib.Core.Path.{◌≡◌, refl, sym, ◌∙◌}
use mathlib.Core.Bool.{Bool, not, ◌&&◌, and-true}
use mathlib.Core.List.{List}
use Prim.Native.Nat.{ℕ, zero, suc, ◌≤◌}
use native.Mathlib.Omega.{arith}
use lib.Dec.{leb, eqb}
use lib.ListN.{take, drop, get_or, length}
use borrow.Author.Tests.{le-leb, ne_eqb}
use Rattle.rows.specs.Rows.{bits_fit, rows_fit}
use Rattle.rows.proofs.Steps.{fit_next, fit_end}
use Rattle.row_tests.proofs.rows_fit.Goals as goal

-- at the end the rows passed are all
all : (keys counts : List ℕ) (used i : ℕ) (bits : Bool) → used ≤ length keys → length counts ≡ length keys
    → rows_fit (take used keys) (take used counts)
    ≡ (bits && rows_fit (drop i (take used keys)) (drop i (take used counts)))
    → used ≤ i → rows_fit (take used keys) (take used counts) ≡ bits
all keys counts used i bits fits paired passed h =
    passed ∙ rw (fit_end keys counts used fits paired i h) (and-true bits)

some : (count : ℕ) → leb 1 count ≡ not (eqb count 0)
some zero = refl
some (suc n) = rw (le-leb 1 (suc n) (omega arith), ne_eqb (suc n) 0 (omega arith))

pub loop-i-preserved : goal.loop-i-preserved
loop-i-preserved c =
    let args = c.args in
    c.loop-i.invariant
    ∙ fit_next args.keys.now args.counts.now args.used c.requires.0 c.requires.1 c.loop-i.i
    c.loop-i-test.true c.loop-i.joined c.loop-i.carried c.loop-i.counted
    ∙ rw (some (get_or args.counts.now c.loop-i.i 0))

pub returns-then-counted : goal.returns-then-counted
returns-then-counted c =
    let bits = bits_fit c.loop-i.joined c.loop-i.carried in
    c.bits_fit.ensures
    ∙ sym (all c.args.keys.now c.args.counts.now c.args.used c.loop-i.i (bits && c.loop-i.counted) c.requires.0
    c.requires.1 c.loop-i.invariant c.loop-i-test.false
    ∙ rw c.if-counted.true (and-true bits))
