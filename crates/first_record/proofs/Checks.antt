-- The ways in which a first record is judged, as one law by which every other is shown; and its order of checks as a
-- list (specs/Laws.antt), proved.
-- Assumes nothing.
use Rattle.std.specs.Prelude.{Option, Some, None}
use mathlib.Core.Path.{◌≡◌, refl, ap}
use mathlib.Core.Bool.{◌&&◌}
use mathlib.Core.List.{List, [], ◌∷◌}
use Prim.Native.Nat.{ℕ}
use lib.Dec.{eqb, leb}
use lib.ListN.{length}
use Rattle.prelude.specs.Checks.{◌else◌, number_by}
use Rattle.prelude.proofs.Checks.{choice_by, check_first}
use Rattle.answers.specs.declared.Answer.{Answer}
use Rattle.answers.specs.declared.Answer.TheVariants as answer
use Rattle.numbers.specs.declared.Order.{Order}
use Rattle.numbers.specs.Orders.{order_of}
use Rattle.frames.specs.Frames.{header, rec_len, rec_typ, rec_sub, body}
use Rattle.fields.specs.Tables.{far}
use Rattle.bodies.specs.Bodies.{byte_of}
use Rattle.session.specs.declared.Standing.{Standing}
use Rattle.session.specs.declared.Verdict.{Verdict}
use Rattle.session.specs.declared.Verdict.TheVariants.{Refused, Taken}
use Rattle.session.specs.Verdicts.{stands, verdict_number, ByItself}
use Rattle.first_record.specs.First.{in_order, judge_in, judge_ordered, judge_first, order_told, order_in}
use Rattle.first_record.specs.Laws.{is_known, FirstNumber}

-- every verdict is a refusal with a record's own number, or the order is told
module _ (parts : List ℕ) (P : Verdict → Type 0) (refused : (a : Answer) → ByItself parts a → P (Refused a)) where
  pub first_cases : (st : Standing) (rec : List ℕ)
      → ((order : Order) → order_in rec ≡ order → P (Taken (stands (in_order st order))))
      → P (judge_first st rec)
  unfolding judge_first judge_in
  first_cases st rec taken =
      choice_by P _ (leb header (length rec)) _ (refused answer.NotOneRecord (refl, refl)) (λ _.
      choice_by P _ (eqb (rec_typ rec) 0 && eqb (rec_sub rec) 10) _ (refused answer.OutOfPlace (refl, refl)) (λ _.
      choice_by P _ (eqb (length rec) 6) _ (refused answer.NotOneRecord (refl, refl)) (λ _.
      by_order (order_of (byte_of far 0 (body rec))) refl)))
    where
      by_order : (o : Option Order) → order_of (byte_of far 0 (body rec)) ≡ o → P (judge_ordered st rec o)
      by_order None told = refused answer.UnknownOrder (refl, refl)
      by_order (Some order) told =
          choice_by P _ (eqb (rec_len order rec) 2) _ (refused answer.NotOneRecord (refl, refl)) (λ _.
          choice_by P _ (eqb (byte_of far 1 (body rec)) 4) _ (refused answer.WrongVersion (refl, refl)) (λ _.
          taken order (ap order_told told)))

-- ---- the order of checks, as a list

pub first_number : FirstNumber
unfolding judge_first judge_in
first_number st rec =
    check_first verdict_number _ (leb header (length rec)) _ 3 _ refl (λ a.
    check_first verdict_number _ (eqb (rec_typ rec) 0 && eqb (rec_sub rec) 10) _ 8 _ refl (λ b.
    check_first verdict_number _ (eqb (length rec) 6) _ 3 _ refl (λ c.
    by (order_of (byte_of far 0 (body rec))))))
  where
    by : (o : Option Order)
        → verdict_number (judge_ordered st rec o)
        ≡ number_by
        ((is_known o else 4)
        ∷ (eqb (rec_len (order_told o) rec) 2 else 3)
        ∷ (eqb (byte_of far 1 (body rec)) 4 else 5)
        ∷ [])
    by None = refl
    by (Some order) =
        check_first verdict_number _ (eqb (rec_len order rec) 2) _ 3 _ refl (λ a.
        check_first verdict_number _ (eqb (byte_of far 1 (body rec)) 4) _ 5 0 refl (λ b. refl))
