-- The statements of specs/Laws.antt, proved: what the reading of each kind can say.
-- Assumes nothing.
use Rattle.std.specs.Prelude.{Some}
use mathlib.Core.Path.{◌≡◌, refl, sym, subst}
use mathlib.Core.Bool.{Bool, true, false}
use mathlib.Core.List.{List}
use Prim.Native.Nat.{ℕ}
use native.Mathlib.Omega.{arith}
use Rattle.numbers.specs.declared.Order.{Order}
use Rattle.numbers.specs.Laws.{Bytes}
use Rattle.kinds.specs.declared.Kind.{Kind}
use Rattle.kinds.specs.declared.Kind.TheVariants as kind
use Rattle.fields.specs.Tables.{fits_body, far, mir, mrr, pcr, wir, wrr}
use Rattle.count_bodies.specs.Counts.{pcr_of, bin_count_of, bin_body_fits}
use Rattle.part_bodies.specs.Parts.{pir_of, prr_of, pir_body_fits, prr_body_fits}
use Rattle.part_bodies.proofs.Laws.{pir_said_right, prr_said_right}
use Rattle.bodies.specs.declared.Record.{Record}
use Rattle.bodies.specs.declared.Record.TheVariants as said
use Rattle.bodies.specs.Bodies.{far_of, wafer_of, reading, read_body}
use Rattle.bodies.specs.Laws.{said_by, SaidBy, Right, SaidRight}

-- a reading that fits passed its test and says what it was to say
read_is : (test : Bool) (r r' : Record) → reading test r ≡ Some r' → (test ≡ true) × (r ≡ r')
read_is true r r' e = (refl, (cc))
read_is false r r' e = let never : ◌≡◌ {A = ℕ} 0 1 = cc in absurd (omega arith)

pub said_by_lem : SaidBy
unfolding read_body
said_by_lem order kind.Far b r e = sym (read_is (fits_body order far b) (said.Far (far_of b)) r e).1
said_by_lem order kind.Atr b r e = cc
said_by_lem order kind.Mir b r e = sym (read_is (fits_body order mir b) (said.Mir) r e).1
said_by_lem order kind.Mrr b r e = sym (read_is (fits_body order mrr b) (said.Mrr) r e).1
said_by_lem order kind.Pcr b r e = sym (read_is (fits_body order pcr b) (said.Pcr (pcr_of order b)) r e).1
said_by_lem order kind.Hbr b r e = sym (read_is (bin_body_fits order b) (said.Bin (bin_count_of false order b)) r e).1
said_by_lem order kind.Sbr b r e = sym (read_is (bin_body_fits order b) (said.Bin (bin_count_of true order b)) r e).1
said_by_lem order kind.Rdr b r e = cc
said_by_lem order kind.Sdr b r e = cc
said_by_lem order kind.Pir b r e = sym (read_is (pir_body_fits order b) (said.Pir (pir_of b)) r e).1
said_by_lem order kind.Prr b r e = sym (read_is (prr_body_fits order b) (said.Prr (prr_of order b)) r e).1
said_by_lem order kind.Wir b r e = sym (read_is (fits_body order wir b) (said.Wir (wafer_of b)) r e).1
said_by_lem order kind.Wrr b r e = sym (read_is (fits_body order wrr b) (said.Wrr (wafer_of b)) r e).1
said_by_lem order (kind.Remaining k) b r e = cc
said_by_lem order kind.Custom b r e = cc
said_by_lem order kind.Unknown b r e = cc

by_kind : (order : Order) (k : Kind) (b : List ℕ) (r : Record) → Bytes b → read_body order k b ≡ Some r
    → Right (said_by order k b)
unfolding read_body
by_kind order kind.Far b r h e = tt
by_kind order kind.Atr b r h e = tt
by_kind order kind.Mir b r h e = tt
by_kind order kind.Mrr b r h e = tt
by_kind order kind.Pcr b r h e = tt
by_kind order kind.Hbr b r h e = tt
by_kind order kind.Sbr b r h e = tt
by_kind order kind.Rdr b r h e = tt
by_kind order kind.Sdr b r h e = tt
by_kind order kind.Pir b r h e = pir_said_right order b h (read_is (pir_body_fits order b) (said.Pir (pir_of b)) r e).0
by_kind order kind.Prr b r h e =
    prr_said_right order b h (read_is (prr_body_fits order b) (said.Prr (prr_of order b)) r e).0
by_kind order kind.Wir b r h e = (h 0, h 1)
by_kind order kind.Wrr b r h e = (h 0, h 1)
by_kind order (kind.Remaining k) b r h e = tt
by_kind order kind.Custom b r h e = tt
by_kind order kind.Unknown b r h e = tt

pub said_right : SaidRight
said_right order k b r h e = subst Right (sym (said_by_lem order k b r e)) (by_kind order k b r h e)
