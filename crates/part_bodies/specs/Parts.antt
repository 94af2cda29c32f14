-- What the body of a part's record says. Document 01, "Record frame and kinds", PIR and PRR. Fields go by their number
-- in the tables of `fields`.
--
--   pir_of, prr_of                 what a body says, field by field
--   pir_values_fit, prr_values_fit   the value rules of each body
--   pir_body_fits, prr_body_fits     whether a body fits, its values too
-- Assumes nothing.
use Rattle.std.specs.Prelude.{ℕ, Bool, ◌&&◌, List}
use Rattle.numbers.specs.declared.Order.{Order}
use Rattle.fields.specs.Tables.{fits_body, pir, prr, offset_of, byte_of, value_of}
use Rattle.values.specs.Values.{bin_fits, soft_bin_fits, flag_fits, part_head_fits}
use Rattle.part_bodies.specs.declared.Pir.{Pir}
use Rattle.part_bodies.specs.declared.Prr.{Prr}

abbrev pub pir_of : List ℕ → Pir
pir_of b = record { head = byte_of pir 0 b; site = byte_of pir 1 b }

abbrev pub prr_of : Order → List ℕ → Prr
prr_of order b =
    record { head = byte_of prr 0 b; site = byte_of prr 1 b; flags = byte_of prr 2 b; bin = value_of order prr 4 b }

abbrev pub pir_values_fit : List ℕ → Bool
pir_values_fit b = part_head_fits (byte_of pir 0 b)

abbrev pub prr_values_fit : Order → List ℕ → Bool
prr_values_fit order b =
    part_head_fits (byte_of prr 0 b)
    && (flag_fits (byte_of prr 2 b)
    && (bin_fits (value_of order prr 4 b) && soft_bin_fits order b (offset_of prr 5)))

abbrev pub pir_body_fits : Order → List ℕ → Bool
pir_body_fits order b = fits_body order pir b && pir_values_fit b

abbrev pub prr_body_fits : Order → List ℕ → Bool
prr_body_fits order b = fits_body order prr b && prr_values_fit order b
