-- The statements of specs/Laws.antt, proved; and `is_record` by its two tests.
-- Assumes nothing.
use mathlib.Core.Path.{◌≡◌}
use mathlib.Core.Bool.{false}
use mathlib.Core.List.{List}
use Prim.Native.Nat.{ℕ, ◌-◌, ◌≤◌, ◌<◌}
use native.Mathlib.Omega.{arith}
use borrow.Author.Tests.{le-leb, lt-leb, leb-true, eqb-true}
use lib.Dec.{eqb, leb}
use lib.ListN.{length}
use Rattle.prelude.proofs.Both.{both_left, both_right}
use Rattle.numbers.specs.declared.Order.{Order}
use Rattle.frames.specs.Frames.{header, rec_len, is_record}
use Rattle.frames.specs.Laws.{RecordHeader, RecordLength}

module _ (order : Order) (s : List ℕ) where
  pub record_short : length s < header → is_record order s ≡ false
  unfolding is_record
  record_short h = rw (lt-leb header (length s) h)

  pub record_framed : header ≤ length s → (n : ℕ) → n ≡ rec_len order s → is_record order s ≡ eqb (length s - header) n
  unfolding is_record
  record_framed h n is = rw (le-leb header (length s) h, is)

pub record_header : RecordHeader
unfolding is_record
record_header order s e =
    leb-true header (length s) (both_left (leb header (length s)) (eqb (length s - header) (rec_len order s)) e)

pub record_length : RecordLength
unfolding is_record
record_length order s e =
    omega (
      arith,
      record_header order s e,
      eqb-true (length s - header) (rec_len order s)
          (both_right (leb header (length s)) (eqb (length s - header) (rec_len order s)) e),
    )
