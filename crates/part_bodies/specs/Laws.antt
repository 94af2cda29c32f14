-- What is shown of part bodies: statements only. Each is proved in proofs/Laws.antt, under its name in small letters.
--
--   PirRight, PrrRight   a head of at most 254, a site of at most 255, a bin of at most 32,767
-- Assumes nothing.
use Rattle.std.specs.Prelude.{◌≡◌, true, List, ℕ, ◌≤◌, ◌<◌}
use Rattle.numbers.specs.declared.Order.{Order}
use Rattle.numbers.specs.Laws.{Bytes}
use Rattle.values.specs.Values.{all_sites, most_bin}
use Rattle.part_bodies.specs.declared.Pir.{Pir}
use Rattle.part_bodies.specs.declared.Prr.{Prr}
use Rattle.part_bodies.specs.Parts.{pir_of, prr_of, pir_body_fits, prr_body_fits}

abbrev pub PirRight : Pir → Type 0
PirRight p = (p.head < all_sites) × (p.site < 256)

abbrev pub PrrRight : Prr → Type 0
PrrRight p = (p.head < all_sites) × (p.site < 256) × (p.bin ≤ most_bin)

abbrev pub PirSaidRight : Type 0
PirSaidRight = (order : Order) (b : List ℕ) → Bytes b → pir_body_fits order b ≡ true → PirRight (pir_of b)

abbrev pub PrrSaidRight : Type 0
PrrSaidRight = (order : Order) (b : List ℕ) → Bytes b → prr_body_fits order b ≡ true → PrrRight (prr_of order b)
