-- Records that are passed over: document 01, "Record frame and kinds", bodies not read.
--
--   is_test   in the body, a PTR, MPR or FTR
-- Assumes nothing.
use Rattle.std.specs.Prelude.{Bool, true, false, ◌&&◌, ◌||◌, ℕ, eqb}
use Rattle.order.specs.declared.Place.{Place}
use Rattle.order.specs.declared.Place.TheVariants.{Start, Header, Lot, Setup, Body, Ended}

abbrev pub is_body : Place → Bool
is_body Start = false
is_body Header = false
is_body Lot = false
is_body Setup = false
is_body Body = true
is_body Ended = false

unfoldable pub is_test : Place → ℕ → ℕ → Bool
is_test place typ sub = eqb typ 15 && ((eqb sub 10 || (eqb sub 15 || eqb sub 20)) && is_body place)
