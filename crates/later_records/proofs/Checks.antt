-- The ways in which a later record is judged, as a law by which every other is shown: a refusal, or what its kind does.
-- And its order of checks as a list (specs/Laws.antt), proved.
-- Assumes nothing.
use Rattle.std.specs.Prelude.{Option, Some, None}
use mathlib.Core.Path.{◌≡◌, refl, ap, sym, ◌∙◌}
use mathlib.Core.Bool.{Bool, true, false, false≢true}
use mathlib.Core.List.{List}
use Prim.Native.Nat.{ℕ}
use lib.ListN.{take}
use Rattle.prelude.specs.Choice.{◌unless◌then◌}
use Rattle.prelude.proofs.Checks.{choice_by, check_first}
use Rattle.answers.specs.declared.Answer.{Answer}
use Rattle.answers.specs.declared.Answer.TheVariants as answer
use Rattle.numbers.specs.declared.Order.{Order}
use Rattle.kinds.specs.declared.Kind.{Kind}
use Rattle.kinds.specs.declared.Kind.TheVariants as kind
use Rattle.kinds.specs.Kinds.{kind_of, known}
use Rattle.frames.specs.Frames.{rec_typ, rec_sub, body, is_record}
use Rattle.bodies.specs.declared.Record.{Record}
use Rattle.bodies.specs.declared.Record.TheVariants as said
use Rattle.bodies.specs.Bodies.{read_body, fitting, said_of}
use Rattle.bodies.specs.Laws.{said_by}
use Rattle.bodies.proofs.Said.{said_by_lem}
use Rattle.order.specs.declared.Place.{Place}
use Rattle.order.specs.Order.{goes, in_place, place_after}
use Rattle.order.specs.Laws.{before, ended, opening}
use Rattle.order.proofs.Laws.{before_by_opening, ended_by_mrr}
use Rattle.session.specs.declared.Standing.{Standing}
use Rattle.session.specs.declared.Verdict.{Verdict}
use Rattle.session.specs.declared.Verdict.TheVariants.{Refused}
use Rattle.session.specs.Session.{stands_right}
use Rattle.session.specs.Verdicts.{verdict_number, ByItself}
use Rattle.session.proofs.Laws.{stands_from}
use Rattle.kind_effects.specs.Effects.{judge_said}
use Rattle.kind_effects.proofs.Cases.{quiet, own_number_lem}
use Rattle.later_records.specs.Later.{at, judge_later}
use Rattle.later_records.specs.Results.{None, result_in}
use Rattle.later_records.specs.Laws.{LaterNumber}

module _ (st : Standing) (cells : List ℕ) (P : Verdict → Type 0)
    (refused : (a : Answer) → ByItself (take st.opened cells) a → P (Refused a)) where
  pub later_cases : (rec : List ℕ)
      → ((k : Kind) (q : Place) (r : Record) → kind_of (rec_typ rec) (rec_sub rec) ≡ k → goes st.place k ≡ Some q
      → read_body st.order k (body rec) ≡ Some r → P (judge_said (at st q) cells r))
      → P (judge_later st cells rec)
  unfolding judge_later
  later_cases rec accepted =
      choice_by P _ (is_record st.order rec) _ (refused answer.NotOneRecord (refl, refl)) (λ _.
      choice_by P _ (known named) _ (refused answer.UnknownKind (refl, refl)) (λ _.
      by_step (goes st.place named) (read_body st.order named (body rec)) refl refl))
    where
      named : Kind
      named = kind_of (rec_typ rec) (rec_sub rec)

      by_step : (step : Option Place) (reading : Option Record) → goes st.place named ≡ step
          → read_body st.order named (body rec) ≡ reading
          → P (Refused answer.OutOfPlace unless in_place step then
          Refused answer.BodyMisfit unless fitting reading then
          judge_said (at st (place_after step)) cells (said_of reading))
      by_step None reading e f = refused answer.OutOfPlace (refl, refl)
      by_step (Some q) None e f = refused answer.BodyMisfit (refl, refl)
      by_step (Some q) (Some r) e f = accepted named q r refl e f

-- ---- where a record stands that does something

-- what the house looks at in the body
abbrev pub acts : Record → Bool
acts (said.Pcr p) = true
acts (said.Pir p) = true
acts (said.Prr p) = true
acts (said.Wir w) = true
acts (said.Wrr w) = true
acts said.Mrr = false
acts (said.Far f) = false
acts said.Mir = false
acts (said.Bin b) = false
acts said.Unread = false

-- a kind that may stand before the body says nothing of that
opening_still : (order : Order) (k : Kind) (b : List ℕ) → opening k ≡ true → acts (said_by order k b) ≡ false
opening_still order kind.Far b h = refl
opening_still order kind.Atr b h = refl
opening_still order kind.Mir b h = refl
opening_still order kind.Rdr b h = refl
opening_still order kind.Sdr b h = refl
opening_still order kind.Mrr b h = refl
opening_still order kind.Pcr b h = sym h
opening_still order kind.Hbr b h = refl
opening_still order kind.Sbr b h = refl
opening_still order kind.Pir b h = sym h
opening_still order kind.Prr b h = sym h
opening_still order kind.Wir b h = sym h
opening_still order kind.Wrr b h = sym h
opening_still order (kind.Remaining j) b h = refl
opening_still order kind.Custom b h = refl
opening_still order kind.Unknown b h = refl

-- a record in its place, of a kind that was named and a body that fits
module _ (order : Order) (p q : Place) (k : Kind) (b : List ℕ) (r : Record) (to : goes p k ≡ Some q)
    (fits : read_body order k b ≡ Some r) where
  still_before : before q ≡ true → acts r ≡ false
  still_before h = ap acts (said_by_lem order k b r fits) ∙ opening_still order k b (before_by_opening p q k to h)

  pub mrr_at_end : ended q ≡ true → r ≡ said.Mrr
  mrr_at_end h =
      said_by_lem order k b r fits ∙ ap (λ (j : Kind). said_by order j b) (ended_by_mrr p q k to h)

  -- what the house looks at in the body stands there
  pub in_body : (st : Standing) → acts r ≡ true → stands_right q st ≡ true
  in_body st act =
      stands_from q st
      (λ h. absurd (false≢true (sym (still_before h) ∙ act)))
      (λ h. absurd (false≢true (sym (ap acts (mrr_at_end h)) ∙ act)))

-- ---- what it counts

pub quiet_none : (r : Record) → quiet r ≡ true → result_in r ≡ None
quiet_none (said.Far f) h = refl
quiet_none said.Mir h = refl
quiet_none (said.Bin b) h = refl
quiet_none said.Unread h = refl
quiet_none said.Mrr h = refl
quiet_none (said.Pcr p) h = refl
quiet_none (said.Pir p) h = refl
quiet_none (said.Prr p) h = absurd (false≢true h)
quiet_none (said.Wir w) h = refl
quiet_none (said.Wrr w) h = refl

-- ---- the order of checks, as a list

-- a step moves the place alone, which no kind's own checks look at
pub later_number : LaterNumber
unfolding judge_later
later_number st cells rec =
    let kind = kind_of (rec_typ rec) (rec_sub rec) in
    let step = goes st.place kind in
    let reading = read_body st.order kind (body rec) in
    check_first verdict_number _ (is_record st.order rec) _ 3 _ refl (λ a.
    check_first verdict_number _ (known kind) _ 6 _ refl (λ b.
    check_first verdict_number _ (in_place step) _ 8 _ refl (λ c.
    check_first verdict_number _ (fitting reading) _ 7 _ refl (λ d.
    own_number_lem (at st (place_after step)) cells (said_of reading)))))
