-- Demand 1 and the first half of demand 2, proved (specs/Demands.antt): a refusal changes nothing, its number is the
-- first check that fails, and a record is accepted exactly if none does.
-- Assumes nothing.
use mathlib.Core.Path.{◌≡◌, refl, ap, sym, ◌∙◌}
use mathlib.Core.Bool.{Bool, true, false, ◌&&◌, false≢true}
use mathlib.Core.List.{[], ◌∷◌}
use Prim.Native.Nat.{ℕ}
use borrow.Author.Tests.{ne_eqb}
use lib.Dec.{ltb, eqb}
use lib.ListN.{length}
use Rattle.prelude.specs.Checks.{◌else◌, number_by}
use Rattle.prelude.proofs.Checks.{checked_by, checked_number}
use Rattle.answers.specs.declared.Answer.{Answer}
use Rattle.answers.specs.declared.Answer.TheVariants as answer
use Rattle.answers.specs.declared.Answer.TheVariants.{Done}
use Rattle.answers.specs.Numbers.{number_of}
use Rattle.rows.specs.Rows.{slot_count, row_key, held_by}
use Rattle.session.specs.declared.Verdict.{Verdict}
use Rattle.session.specs.declared.Verdict.TheVariants.{Refused, Taken, Wanted}
use Rattle.session.specs.Verdicts.{verdict_number, own_number}
use Rattle.judging.specs.Judge.{verdict_on}
use Rattle.judging.specs.Laws.{RefusesOwn}
use Rattle.judging.proofs.Laws.{judged_refusal}
use Rattle.house.specs.declared.House.{House}
use Rattle.house.specs.declared.Reported.{Reported}
use Rattle.house.specs.declared.Figures.{Figures}
use Rattle.house.specs.declared.Answered.{Answered}
use Rattle.house.specs.House.{keys_of, free, promised, sound}
use Rattle.house.specs.Deliver.{granted, row_taken, resulted_if, settled, delivered}
use Rattle.house.specs.Calls.{slot_at, open_slot, close_slot, room_of, core_of, settled_to, with_outcome, deliver}
use Rattle.house.specs.Calls.{refusal, open_checks, slot_checks, no_figures, figures_of}
use Rattle.house.specs.Report.{row_at, unreported, report_checks, reported}
use Rattle.house.specs.History.{Open, Deliver, Report, Close, Figured}
use Rattle.house.specs.Demands.{RefusedKeeps, RefusedWrites, ReportWrites, room_for, Accepted}
use Rattle.house.specs.Demands.{OpenNumber, DeliverNumber, ReportNumber, CloseNumber, FiguresNumber}
use Rattle.house.proofs.Calling.{same_slot}
use Rattle.house.proofs.Reporting.{few, filled_listed}

-- ---- a refusal changes nothing

-- a call that is refused gives back the house that it came with
abbrev Keeps : House → Answered → Type 0
Keeps h o = (o.answer ≡ Done → ⊥) → o.house ≡ h

settled_keeps : (h : House) (slot : ℕ) (v : Verdict) → Keeps h (with_outcome h slot (settled_to h slot v))
unfolding settled resulted_if row_taken
settled_keeps h slot (Refused a) refused = same_slot h slot
settled_keeps h slot (Taken change) refused = absurd (refused refl)
settled_keeps h slot (Wanted change key) refused =
    go (granted (room_of h slot) (keys_of h) (row_key slot key)) refl refused
  where
    go : (b : Bool) → granted (room_of h slot) (keys_of h) (row_key slot key) ≡ b
        → Keeps h (with_outcome h slot (resulted_if (room_of h slot) (core_of h slot) change key))
    go true got = rw got (λ refused. absurd (refused refl))
    go false got = rw got (λ refused. same_slot h slot)

pub refused_keeps : RefusedKeeps
unfolding open_slot deliver delivered close_slot
refused_keeps h (Open slot floor) =
    checked_by (refusal h) (Keeps h) (open_checks h slot floor) _ (λ a r. refl) (λ e refused. absurd (refused refl))
refused_keeps h (Deliver slot rec) =
    checked_by (refusal h) (Keeps h) (slot_checks h slot) _ (λ a r. refl)
    (λ e. settled_keeps h slot (verdict_on (slot_at h slot).session rec))
refused_keeps h (Report slot long) = λ refused. refl
refused_keeps h (Close slot) =
    checked_by (refusal h) (Keeps h) (slot_checks h slot) _ (λ a r. refl) (λ e refused. absurd (refused refl))
refused_keeps h Figured = λ refused. refl

-- a report that is refused has no rows
reported_none : (h : House) (slot long : ℕ) → ((reported h slot long).answer ≡ Done → ⊥) → (reported h slot long).rows ≡ 0
unfolding reported
reported_none h slot long =
    checked_by unreported (λ (r : Reported). (r.answer ≡ Done → ⊥) → r.rows ≡ 0) (report_checks h slot long)
    (record { answer = Done; rows = held_by slot (keys_of h) }) (λ a r. refl) (λ e refused. absurd (refused refl))

pub refused_writes : RefusedWrites
refused_writes h slot out refused = rw (reported_none h slot (length out) refused)

pub report_writes : ReportWrites
report_writes h slot out =
    filled_listed (row_at h slot) (reported h slot (length out)).rows out (few h slot (length out)).1

-- ---- the number of an answer

abbrev number : Answered → ℕ
number o = number_of o.answer

pub open_number : OpenNumber
unfolding open_slot
open_number h slot floor =
    checked_number (refusal h) number_of number (λ a. refl) (open_checks h slot floor) [] _ (λ e. refl)

-- a record by itself is never refused with 0
pub own_number_lem : (a : Answer) → own_number (number_of a) ≡ true → eqb (number_of a) 0 ≡ false
own_number_lem a own = ne_eqb (number_of a) 0 (λ none. false≢true (sym (ap own_number none) ∙ own))

-- a verdict's own number, then 13
settled_number : (h : House) (slot : ℕ) (v : Verdict)
    → RefusesOwn (slot_at h slot).session v
    → number (with_outcome h slot (settled_to h slot v))
    ≡ number_by ((eqb (verdict_number v) 0 else verdict_number v) ∷ (room_for h slot v else 13) ∷ [])
unfolding settled resulted_if row_taken
settled_number h slot (Refused a) own = rw (own_number_lem a (own a refl).0)
settled_number h slot (Taken change) own = refl
settled_number h slot (Wanted change key) own = go (granted (room_of h slot) (keys_of h) (row_key slot key)) refl
  where
    go : (b : Bool) → granted (room_of h slot) (keys_of h) (row_key slot key) ≡ b
        → number (with_outcome h slot (resulted_if (room_of h slot) (core_of h slot) change key))
        ≡ number_by ((granted (room_of h slot) (keys_of h) (row_key slot key) else 13) ∷ [])
    go true got = rw got
    go false got = rw got

pub deliver_number : DeliverNumber
unfolding deliver delivered
deliver_number h slot rec =
    let s = (slot_at h slot).session in
    let v = verdict_on s rec in
    checked_number (refusal h) number_of number (λ a. refl) (slot_checks h slot)
    ((eqb (verdict_number v) 0 else verdict_number v) ∷ (room_for h slot v else 13) ∷ []) _
    (λ e. settled_number h slot v (judged_refusal s rec))

pub report_number : ReportNumber
unfolding reported
report_number h slot long =
    checked_number unreported number_of (λ (r : Reported). number_of r.answer) (λ a. refl)
    (report_checks h slot long) [] (record { answer = Done; rows = held_by slot (keys_of h) }) (λ e. refl)

pub close_number : CloseNumber
unfolding close_slot
close_number h slot = checked_number (refusal h) number_of number (λ a. refl) (slot_checks h slot) [] _ (λ e. refl)

pub figures_number : FiguresNumber
unfolding figures_of
figures_number h =
    checked_number no_figures number_of (λ (f : Figures). number_of f.answer) (λ a. refl)
    ((sound h else answer.NotSound) ∷ []) []
    (record { answer = Done; free = free h; promised = promised h }) (λ e. refl)

-- ---- what is accepted

-- all checks hold exactly if the number is 0, where no check has that number
pub accepted : Accepted
accepted h slot rec =
    let v = verdict_on (slot_at h slot).session rec in
    ap (λ (n : ℕ). eqb n 0) (deliver_number h slot rec)
    ∙ all (sound h) (ltb slot slot_count) (slot_at h slot).taken (verdict_number v) (room_for h slot v)
  where
    last : (n : ℕ) (room : Bool) (t : Bool) → eqb n 0 ≡ t
        → eqb (number_by ((t else n) ∷ (room else 13) ∷ [])) 0 ≡ (t && room)
    last n true true is = refl
    last n false true is = refl
    last n room false is = is

    all : (fine inside opened : Bool) (n : ℕ) (room : Bool)
        → eqb
        (number_by ((fine else 15) ∷ (inside else 1) ∷ (opened else 2) ∷ (eqb n 0 else n) ∷ (room else 13) ∷ [])) 0
        ≡ (fine && (inside && (opened && (eqb n 0 && room))))
    all false inside opened n room = refl
    all true false opened n room = refl
    all true true false n room = refl
    all true true true n room = last n room (eqb n 0) refl
