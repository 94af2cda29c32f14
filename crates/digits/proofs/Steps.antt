-- A step of a writer of digits: the hundreds stand at the start, and two digits go into the part behind them. The laws of
-- one writer after another (output), at this cut.
-- Assumes nothing.
use mathlib.Core.Path.{◌≡◌, ap, ◌∙◌}
use mathlib.Core.List.{List, ◌++◌}
use Prim.Native.Nat.{ℕ, ◌+◌, ◌-◌, ◌/◌, ◌%◌, ◌≤◌}
use lib.ListN.{length, take, drop}
use Rattle.output.specs.Placed.{Put, Room}
use Rattle.output.proofs.Laws.{first, length_over, inside, behind, both}
use Rattle.digits.specs.Digits.{digits, two}
use Rattle.digits.proofs.Laws.{two_steps}

module _ (n : ℕ) (old : List ℕ) (many : 100 ≤ n) (room : Room (digits n) old) where
  parted : Room (digits (n / 100) ++ two (n % 100)) old
  parted = rw (two_steps n many) at room

  pub step_first : Room (digits (n / 100)) old
  step_first = first (digits (n / 100)) (two (n % 100)) old parted

  module _ (mid : List ℕ) (at : ℕ) (e : Put (digits (n / 100)) old at mid) where
    pub step_same : length mid ≡ length old
    step_same = ap length e.laid ∙ length_over (digits (n / 100)) (two (n % 100)) old parted

    pub step_inside : at ≤ length mid
    step_inside = inside (digits (n / 100)) (two (n % 100)) old parted mid at e

    pub step_behind : Room (two (n % 100)) (take (length mid - at) (drop at mid))
    step_behind = behind (digits (n / 100)) (two (n % 100)) old parted mid at e

    pub step_both : (new : List ℕ) (m : ℕ) → Put (two (n % 100)) (take (length mid - at) (drop at mid)) m new
        → Put (digits n) old (at + m) (take at mid ++ (new ++ drop (length mid - at) (drop at mid)))
    step_both new m f = rw (two_steps n many) (both (digits (n / 100)) (two (n % 100)) old parted mid at e new m f)
