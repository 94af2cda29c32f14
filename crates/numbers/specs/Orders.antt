-- Byte orders. Document 01, "Record frame and kinds", CPU_TYPE.
--
--   order_of   the order that a CPU_TYPE tells
-- Assumes nothing.
use Rattle.numbers.specs.declared.Order.{Order}
use Rattle.std.specs.Prelude.{ℕ, cond, eqb, Option, Some, None}
use Rattle.numbers.specs.declared.Order.TheVariants.{HighFirst, LowFirst}

-- CPU_TYPE 1, Sun: high byte first; 2, IBM PC: low byte first; every other, 0 among them, is refused with 4
abbrev pub order_of : ℕ → Option Order
order_of cpu = cond (eqb cpu 1) (Some HighFirst) (cond (eqb cpu 2) (Some LowFirst) None)
