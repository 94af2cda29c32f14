-- The statements of specs/Laws.antt, proved; and how a PRR's fields go on behind those of fixed sizes.
-- Assumes nothing.
use mathlib.Core.Path.{◌≡◌, refl, ◌∙◌}
use mathlib.Core.Bool.{true, ◌&&◌}
use mathlib.Core.List.{List, [], ◌∷◌}
use Prim.Native.Nat.{ℕ, ◌≤◌, ◌<◌}
use native.Mathlib.Omega.{arith}
use borrow.Author.Tests.{le-leb, leb-true, ne_eqb, eqb-false, not-true}
use lib.Dec.{eqb}
use lib.ListN.{length, get_or, drop, length-drop}
use lib.Seq.{drop-drop}
use Rattle.prelude.proofs.Both.{both_left, both_right}
use Rattle.numbers.specs.declared.Order.{Order}
use Rattle.fields.specs.Fields.{u2, i2, u4, cn, bn, ends_among}
use Rattle.fields.specs.Tables.{fits_body, pir, prr, value_of}
use Rattle.fields.proofs.Laws.{fixed_there}
use Rattle.values.specs.Values.{most_bin, all_sites, part_head_fits, flag_fits, bin_fits, soft_bin_fits}
use Rattle.part_bodies.specs.Parts.{pir_values_fit, prr_values_fit}
use Rattle.part_bodies.specs.Laws.{PirSaidRight, PrrSaidRight}

-- ---- fields

pub pir_fits : (order : Order) (b : List ℕ) → fits_body order pir b ≡ eqb (length b) 2
pir_fits order [] = refl
pir_fits order (x ∷ []) = refl
pir_fits order (x ∷ y ∷ []) = refl
pir_fits order (x ∷ y ∷ z ∷ rest) =
    rw (le-leb 2 (length (x ∷ y ∷ z ∷ rest)) (omega arith), ne_eqb (length (x ∷ y ∷ z ∷ rest)) 2 (omega arith))

module _ (order : Order) (b : List ℕ) where
  pub prr_behind : 7 ≤ length b → fits_body order prr b ≡ ends_among order prr.optional (drop 7 b)
  prr_behind h = rw (le-leb 7 (length b) h)

  -- where the soft bin, X, Y and the time are there, those behind them tell
  pub prr_counted : 17 ≤ length b → fits_body order prr b ≡ ends_among order (cn ∷ cn ∷ bn ∷ []) (drop 17 b)
  prr_counted h =
      prr_behind (omega arith)
      ∙ fixed_there order (u2 ∷ i2 ∷ i2 ∷ u4 ∷ []) (cn ∷ cn ∷ bn ∷ []) (drop 7 b) refl
      (omega (arith, length-drop 7 b))
      ∙ rw (drop-drop 10 7 b)

-- ---- what a part is known to be

head_below : (head : ℕ) → head < 256 → part_head_fits head ≡ true → head < all_sites
head_below head h e = omega (arith, eqb-false head all_sites (not-true (eqb head all_sites) e))

pub pir_said_right : PirSaidRight
pir_said_right order b h e =
    (head_below (get_or b 0 0) (h 0) (both_right (fits_body order pir b) (pir_values_fit b) e), h 1)

pub prr_said_right : PrrSaidRight
prr_said_right order b h e =
    let soft = soft_bin_fits order b 7 in
    let bin = value_of order prr 4 b in
    let rest = flag_fits (get_or b 2 0) && (bin_fits bin && soft) in
    let values = both_right (fits_body order prr b) (prr_values_fit order b) e in
    let bins = both_right (flag_fits (get_or b 2 0)) (bin_fits bin && soft)
    (both_right (part_head_fits (get_or b 0 0)) rest values) in (
      head_below (get_or b 0 0) (h 0) (both_left (part_head_fits (get_or b 0 0)) rest values),
      h 1,
      leb-true bin most_bin (both_left (bin_fits bin) soft bins),
    )
