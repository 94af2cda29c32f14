-- `searching::rank_among` meets its contract. The invariant: the rank is one of the n + 1 from `at` on, and n is at
-- most the width, so that one element is left when the width is 1.
-- Assumes nothing.
use Prim.Native.Nat.{ℕ, ◌+◌, ◌-◌, ◌/◌, ◌≤◌, ◌<◌}
use native.Mathlib.Omega.{arith}
use lib.ListN.{take}
use Rattle.rising.specs.Rising.{rank}
use Rattle.rising.proofs.Steps.{kept_within, kept_up, kept_down}
use Rattle.searching.proofs.rank_among.Invariants.{Window}
use Rattle.searching.proofs.rank_among.Goals as goal
use Rattle.searching.proofs.rank_among.Goals.{then-s-last, else-s-last, then-s-middle, else-s-middle, then-s-first, else-s-first}

-- a turn leaves one of four windows, each of a quarter
module _ (r used at n width : ℕ) (w : Window r used at n width) where
  last-quarter : at + (n - (n + 3) / 4) < r → Window r used (at + (n - (n + 3) / 4)) ((n + 3) / 4) ((width + 3) / 4)
  last-quarter low = omega arith

  third-quarter : at + n / 2 < r → r ≤ at + (n - (n + 3) / 4)
      → Window r used (at + n / 2) ((n + 3) / 4) ((width + 3) / 4)
  third-quarter low high = omega arith

  second-quarter : at + n / 4 < r → r ≤ at + n / 2 → Window r used (at + n / 4) ((n + 3) / 4) ((width + 3) / 4)
  second-quarter low high = omega arith

  first-quarter : r ≤ at + n / 4 → Window r used at ((n + 3) / 4) ((width + 3) / 4)
  first-quarter high = omega arith

pub returns-then-used-eq0 : goal.returns-then-used-eq0
returns-then-used-eq0 c =
    omega (arith, kept_within c.args.s.now c.args.used c.args.key c.requires.2)

pub loop-width-init : goal.loop-width-init
loop-width-init c =
    omega (arith, kept_within c.args.s.now c.args.used c.args.key c.requires.2)

pub loop-width-preserved : goal.loop-width-preserved
loop-width-preserved c =
    let used = c.args.used in
    let r = rank c.args.key (take used c.args.s.now) in
    let at = c.loop-width.at in
    let n = c.loop-width.n in
    let width = c.loop-width.width in
    let w = c.loop-width.invariant in
    let up = kept_up _ _ c.args.key c.requires.2 c.requires.3 in
    let down = kept_down _ _ c.args.key c.requires.2 c.requires.3 in
    let last = at + (n - (n + 3) / 4) in
    let first-in : at + n / 4 < used = omega (arith, w) in
    let middle-in : at + n / 2 < used = omega (arith, w) in
    let last-in : last < used = omega (arith, w) in
    elim c.if-s-last.branch [
      | then-s-last x ↦ rw x.at-is (last-quarter r used at n width w (up last last-in x.if-s-last.true))
      | else-s-last x ↦
          let high = down last last-in x.if-s-last.false in
          elim c.if-s-middle.branch [
            | then-s-middle y ↦
                rw (x.at-is, y.at-is)
                (third-quarter r used at n width w (up (at + n / 2) middle-in y.if-s-middle.true) high)
            | else-s-middle y ↦
                let half = down (at + n / 2) middle-in y.if-s-middle.false in
                elim c.if-s-first.branch [
                  | then-s-first z ↦
                      rw (x.at-is, y.at-is, z.at-is)
                      (second-quarter r used at n width w (up (at + n / 4) first-in z.if-s-first.true) half)
                  | else-s-first z ↦
                      rw (x.at-is, y.at-is, z.at-is)
                      (first-quarter r used at n width w (down (at + n / 4) first-in z.if-s-first.false))
                ]
          ]
    ]

pub returns-then-s-at : goal.returns-then-s-at
returns-then-s-at c =
    omega (
      arith,
      kept_up _ _ c.args.key c.requires.2 c.requires.3 c.loop-width.at (omega arith) (omega arith),
    )

pub returns-else-s-at : goal.returns-else-s-at
returns-else-s-at c =
    omega (
      arith,
      kept_down _ _ c.args.key c.requires.2 c.requires.3 c.loop-width.at (omega arith) (omega arith),
    )
