-- A first record judged by itself is answered as one that is delivered to slot 0: nothing of the house decides but that
-- it is sound.
-- Assumes nothing.
use mathlib.Core.Path.{◌≡◌, refl, ap, ◌∙◌}
use mathlib.Core.Bool.{true, false}
use mathlib.Core.List.{List}
use Prim.Native.Nat.{ℕ}
use native.Mathlib.Omega.{arith}
use Rattle.answers.specs.declared.Answer.TheVariants.{NotSound}
use Rattle.session.specs.declared.Verdict.{Verdict}
use Rattle.session.specs.declared.Verdict.TheVariants.{Refused, Taken, Wanted}
use Rattle.session.specs.declared.Session.{Session}
use Rattle.session.specs.Session.{is_start}
use Rattle.session.specs.Verdicts.{verdict_answer}
use Rattle.first_record.specs.First.{judge_first}
use Rattle.judging.specs.Judge.{verdict_on}
use Rattle.judging.specs.Laws.{Begins}
use Rattle.judging.proofs.Laws.{judged_first, judged_begins}
use Rattle.house.specs.declared.House.{House}
use Rattle.house.specs.declared.Answered.{Answered}
use Rattle.house.specs.House.{sound}
use Rattle.house.specs.Deliver.{settled, delivered}
use Rattle.house.specs.Calls.{slot_at, settled_to, with_outcome, deliver}
use Rattle.house.proofs.Calling.{deliver_unsound, deliver_judged}

-- a first record asks for no row, so its verdict is its answer
settled_first : (h : House) (s : Session) (rec : List ℕ) (v : Verdict) → Begins s rec v
    → (with_outcome h 0 (settled_to h 0 v)).answer ≡ verdict_answer v
unfolding settled
settled_first h s rec (Refused a) b = refl
settled_first h s rec (Taken change) b = refl
settled_first h s rec (Wanted change key) b = absurd b

pub first_answer : (h : House) (rec : List ℕ) → sound h ≡ true → (slot_at h 0).taken ≡ true
    → is_start (slot_at h 0).session.standing.place ≡ true
    → (deliver h 0 rec).answer ≡ verdict_answer (judge_first (slot_at h 0).session.standing rec)
unfolding delivered
first_answer h rec fine opened start =
    let s = (slot_at h 0).session in
    ap (λ (o : Answered). o.answer) (deliver_judged h 0 rec fine (omega arith) opened)
    ∙ settled_first h s rec (verdict_on s rec) (judged_begins s rec start)
    ∙ ap verdict_answer (judged_first s.standing s.parts rec start)

pub unsound_answer : (h : House) (rec : List ℕ) → sound h ≡ false → (deliver h 0 rec).answer ≡ NotSound
unsound_answer h rec wrong = rw (deliver_unsound h 0 rec wrong)
