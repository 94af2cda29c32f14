-- What the body of a count record says. Document 01, "Record frame and kinds", PCR, HBR and SBR. Fields go by their
-- number in the tables of `fields`.
--
--   pcr_of, bin_count_of   what a body says, field by field
--   bin_values_fit        the value rules of HBR and SBR
--   bin_body_fits         whether such a body fits, its values too; of a PCR that is `fits_body order pcr`
-- Assumes nothing.
use Rattle.std.specs.Prelude.{ℕ, Bool, ◌&&◌, List}
use Rattle.numbers.specs.declared.Order.{Order}
use Rattle.fields.specs.Tables.{fits_body, pcr, bin, offset_of, byte_of, value_of}
use Rattle.values.specs.Values.{count_at, pass_fail_at, name_at, bin_fits, pass_fail_fits}
use Rattle.count_bodies.specs.declared.Pcr.{Pcr}
use Rattle.count_bodies.specs.declared.Bin.{Bin}

abbrev pub pcr_of : Order → List ℕ → Pcr
pcr_of order b =
    record {
      head = byte_of pcr 0 b;
      site = byte_of pcr 1 b;
      parts = value_of order pcr 2 b;
      retest = count_at order b (offset_of pcr 3);
      abort = count_at order b (offset_of pcr 4);
      good = count_at order b (offset_of pcr 5);
      functional = count_at order b (offset_of pcr 6);
    }

-- HBR, or SBR where it is soft
abbrev pub bin_count_of : Bool → Order → List ℕ → Bin
bin_count_of soft order b =
    record {
      soft = soft;
      head = byte_of bin 0 b;
      site = byte_of bin 1 b;
      bin = value_of order bin 2 b;
      count = value_of order bin 3 b;
      pf = pass_fail_at b (offset_of bin 4);
      name = name_at b (offset_of bin 5);
    }

abbrev pub bin_values_fit : Order → List ℕ → Bool
bin_values_fit order b = bin_fits (value_of order bin 2 b) && pass_fail_fits b (offset_of bin 4)

abbrev pub bin_body_fits : Order → List ℕ → Bool
bin_body_fits order b = fits_body order bin b && bin_values_fit order b
