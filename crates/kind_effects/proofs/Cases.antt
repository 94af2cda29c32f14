-- The ways in which what a record says is judged, as one law by which every other is shown: a refusal, or one of seven
-- ways to be accepted. And the checks of a kind's own as a list (specs/Laws.antt), proved.
-- Assumes nothing.
use mathlib.Core.Path.{◌≡◌, refl}
use mathlib.Core.Bool.{Bool, true, false, not}
use mathlib.Core.List.{List}
use Prim.Native.Nat.{ℕ, ◌<◌}
use borrow.Author.Tests.{ltb-true, not-true}
use lib.Dec.{eqb, ltb}
use lib.ListN.{take}
use Rattle.prelude.proofs.Checks.{choice_by, check_first}
use Rattle.answers.specs.declared.Answer.{Answer}
use Rattle.answers.specs.declared.Answer.TheVariants as answer
use Rattle.count_bodies.specs.declared.Pcr.{Pcr}
use Rattle.part_bodies.specs.declared.Pir.{Pir}
use Rattle.part_bodies.specs.declared.Prr.{Prr}
use Rattle.bodies.specs.declared.Wafer.{Wafer}
use Rattle.bodies.specs.declared.Record.{Record}
use Rattle.bodies.specs.declared.Record.TheVariants as said
use Rattle.rising.specs.Rising.{rank, held}
use Rattle.session.specs.declared.Standing.{Standing}
use Rattle.session.specs.declared.Verdict.{Verdict}
use Rattle.session.specs.declared.Verdict.TheVariants.{Refused, Taken, Wanted}
use Rattle.session.specs.Session.{most_open, most_results, most_wafers, part_of, key_of, wafer_number, wafers_in, heads_in}
use Rattle.session.specs.Session.{may_end}
use Rattle.session.specs.Verdicts.{stands, still_open, verdict_number, ByItself}
use Rattle.kind_effects.specs.Effects.{with_pcr, opens, closes, wafer_opens, wafer_closes, judge_pir, judge_prr}
use Rattle.kind_effects.specs.Effects.{judge_mrr, judge_wir, judge_wrr, judge_said}
use Rattle.kind_effects.specs.Laws.{OwnNumber}

-- what is taken as it is: it moves the place alone
abbrev pub quiet : Record → Bool
quiet (said.Far f) = true
quiet said.Mir = true
quiet (said.Bin b) = true
quiet said.Unread = true
quiet said.Mrr = false
quiet (said.Pcr p) = false
quiet (said.Pir p) = false
quiet (said.Prr p) = false
quiet (said.Wir w) = false
quiet (said.Wrr w) = false

module _ (st : Standing) (cells : List ℕ) (P : Verdict → Type 0)
    (refused : (a : Answer) → ByItself (take st.opened cells) a → P (Refused a)) where
  abbrev parts : List ℕ
  parts = take st.opened cells

  abbrev wafers : List ℕ
  wafers = wafers_in st.wafers cells

  abbrev heads : List ℕ
  heads = heads_in st.wafers cells

  -- a record in its place is taken as it is, or is one of the six kinds that the house looks at
  pub said_cases : (r : Record)
      → (quiet r ≡ true → P (Taken (stands st)))
      → ((p : Pcr) → r ≡ said.Pcr p → P (Taken (stands (with_pcr st))))
      → ((p : Pir) → r ≡ said.Pir p → held (part_of p.head p.site) parts ≡ false → st.opened < most_open
      → P (Taken (opens st (rank (part_of p.head p.site) parts) (part_of p.head p.site))))
      → ((p : Prr) → r ≡ said.Prr p → held (part_of p.head p.site) parts ≡ true → st.results < most_results
      → P (Wanted (closes st (rank (part_of p.head p.site) parts)) (key_of p.head p.site p.bin)))
      → (r ≡ said.Mrr → may_end st ≡ true → P (Taken (stands st)))
      → ((w : Wafer) → r ≡ said.Wir w → held w.head heads ≡ false → st.wafers < most_wafers
      → P (Taken (wafer_opens st (rank w.head heads) (wafer_number w.head w.group))))
      → ((w : Wafer) → r ≡ said.Wrr w → held (wafer_number w.head w.group) wafers ≡ true
      → P (Taken (wafer_closes st (rank (wafer_number w.head w.group) wafers))))
      → P (judge_said st cells r)
  unfolding judge_pir judge_prr judge_mrr judge_wir judge_wrr
  said_cases (said.Pir p) taken pcr pir prr mrr wir wrr =
      let part = part_of p.head p.site in
      choice_by P _ (not (held part parts)) _ (refused answer.PartOpen (refl, refl)) (λ new.
      choice_by P _ (ltb st.opened most_open) _ (refused answer.TooManyParts (refl, refl)) (λ few.
      pir p refl (not-true (held part parts) new) (ltb-true st.opened most_open few)))
  said_cases (said.Prr p) taken pcr pir prr mrr wir wrr =
      let part = part_of p.head p.site in
      choice_by P _ (held part parts) _ (refused answer.PartNotOpen (refl, refl)) (λ there.
      choice_by P _ (ltb st.results most_results) _ (refused answer.TooManyResults (refl, refl)) (λ few.
      prr p refl there (ltb-true st.results most_results few)))
  said_cases said.Mrr taken pcr pir prr mrr wir wrr =
      choice_by P _ (eqb st.opened 0) _ (refused (still_open parts) (refl, refl)) (λ none.
      choice_by P _ (eqb st.wafers 0) _ (refused answer.WaferOpen (refl, refl)) (λ no_wafer.
      choice_by P _ st.pcr _ (refused answer.NoPcr (refl, refl)) (λ noted.
      mrr refl (rw (none, no_wafer) noted))))
  said_cases (said.Wir w) taken pcr pir prr mrr wir wrr =
      choice_by P _ (not (held w.head heads)) _ (refused answer.WrongWafer (refl, refl)) (λ new.
      choice_by P _ (ltb st.wafers most_wafers) _ (refused answer.TooManyWafers (refl, refl)) (λ few.
      wir w refl (not-true (held w.head heads) new) (ltb-true st.wafers most_wafers few)))
  said_cases (said.Wrr w) taken pcr pir prr mrr wir wrr =
      choice_by P _ (held (wafer_number w.head w.group) wafers) _ (refused answer.WrongWafer (refl, refl))
      (λ there. wrr w refl there)
  said_cases (said.Pcr p) taken pcr pir prr mrr wir wrr = pcr p refl
  said_cases (said.Far f) taken pcr pir prr mrr wir wrr = taken refl
  said_cases said.Mir taken pcr pir prr mrr wir wrr = taken refl
  said_cases (said.Bin b) taken pcr pir prr mrr wir wrr = taken refl
  said_cases said.Unread taken pcr pir prr mrr wir wrr = taken refl

-- ---- the checks, as a list

pub own_number_lem : OwnNumber
unfolding judge_pir judge_prr judge_mrr judge_wir judge_wrr
own_number_lem st cells (said.Pir p) =
    check_first verdict_number _ (not (held (part_of p.head p.site) (take st.opened cells))) _ 9 _ refl (λ a.
    check_first verdict_number _ (ltb st.opened most_open) _ 11 0 refl (λ b. refl))
own_number_lem st cells (said.Prr p) =
    check_first verdict_number _ (held (part_of p.head p.site) (take st.opened cells)) _ 10 _ refl (λ a.
    check_first verdict_number _ (ltb st.results most_results) _ 14 0 refl (λ b. refl))
own_number_lem st cells said.Mrr =
    check_first verdict_number _ (eqb st.opened 0) _ 12 _ refl (λ a.
    check_first verdict_number _ (eqb st.wafers 0) _ 33 _ refl (λ b.
    check_first verdict_number _ st.pcr _ 20 0 refl (λ c. refl)))
own_number_lem st cells (said.Wir w) =
    check_first verdict_number _ (not (held w.head (heads_in st.wafers cells))) _ 22 _ refl (λ a.
    check_first verdict_number _ (ltb st.wafers most_wafers) _ 23 0 refl (λ b. refl))
own_number_lem st cells (said.Wrr w) =
    check_first verdict_number _ (held (wafer_number w.head w.group) (wafers_in st.wafers cells)) _ 22 0 refl
    (λ a. refl)
own_number_lem st cells (said.Pcr p) = refl
own_number_lem st cells (said.Far f) = refl
own_number_lem st cells said.Mir = refl
own_number_lem st cells (said.Bin b) = refl
own_number_lem st cells said.Unread = refl
