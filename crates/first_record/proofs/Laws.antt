-- Laws of the first record's judgement, as the functions' proofs cite them: one an answer, each under the tests before
-- it, in the order of the checks.
-- Assumes nothing.
use mathlib.Core.Path.{◌≡◌}
use mathlib.Core.List.{List}
use Prim.Native.Nat.{ℕ, ◌≤◌, ◌<◌}
use borrow.Author.Tests.{le-leb, lt-leb, eq-eqb, ne_eqb}
use lib.ListN.{length, get_or}
use lib.Seq.{get_or-drop}
use Rattle.answers.specs.declared.Answer.TheVariants as answer
use Rattle.numbers.specs.declared.Order.{Order}
use Rattle.numbers.specs.Orders.{order_of}
use Rattle.frames.specs.Frames.{rec_len}
use Rattle.session.specs.declared.Standing.{Standing}
use Rattle.session.specs.declared.Verdict.TheVariants.{Refused, Taken}
use Rattle.session.specs.Verdicts.{stands}
use Rattle.first_record.specs.First.{in_order, judge_in, judge_ordered, judge_first}

module _ (st : Standing) (rec : List ℕ) (order : Order) (n : ℕ) (is : n ≡ rec_len order rec) where
  pub in_length : (n ≡ 2 → ⊥) → judge_in st rec order ≡ Refused answer.NotOneRecord
  unfolding judge_in
  in_length e = rw (← is, ne_eqb n 2 e)

  module _ (two : n ≡ 2) where
    pub in_version : (get_or rec 5 0 ≡ 4 → ⊥) → judge_in st rec order ≡ Refused answer.WrongVersion
    unfolding judge_in
    in_version e = rw (← is, eq-eqb n 2 two, get_or-drop 4 rec 1 0, ne_eqb (get_or rec 5 0) 4 e)

    pub in_taken : get_or rec 5 0 ≡ 4 → judge_in st rec order ≡ Taken (stands (in_order st order))
    unfolding judge_in
    in_taken e = rw (← is, eq-eqb n 2 two, get_or-drop 4 rec 1 0, eq-eqb (get_or rec 5 0) 4 e)

module _ (st : Standing) (rec : List ℕ) where
  pub first_short : length rec < 4 → judge_first st rec ≡ Refused answer.NotOneRecord
  unfolding judge_first
  first_short h = rw (lt-leb 4 (length rec) h)

  module _ (h : 4 ≤ length rec) where
    pub first_type : (get_or rec 2 0 ≡ 0 → ⊥) → judge_first st rec ≡ Refused answer.OutOfPlace
    unfolding judge_first
    first_type e = rw (le-leb 4 (length rec) h, ne_eqb (get_or rec 2 0) 0 e)

    module _ (typ : get_or rec 2 0 ≡ 0) where
      pub first_sub : (get_or rec 3 0 ≡ 10 → ⊥) → judge_first st rec ≡ Refused answer.OutOfPlace
      unfolding judge_first
      first_sub e = rw (le-leb 4 (length rec) h, eq-eqb (get_or rec 2 0) 0 typ, ne_eqb (get_or rec 3 0) 10 e)

      module _ (sub : get_or rec 3 0 ≡ 10) where
        pub first_length_lem : (length rec ≡ 6 → ⊥) → judge_first st rec ≡ Refused answer.NotOneRecord
        unfolding judge_first
        first_length_lem e =
            rw (
              le-leb 4 (length rec) h,
              eq-eqb (get_or rec 2 0) 0 typ,
              eq-eqb (get_or rec 3 0) 10 sub,
              ne_eqb (length rec) 6 e,
            )

        pub first_framed : length rec ≡ 6 → judge_first st rec ≡ judge_ordered st rec (order_of (get_or rec 4 0))
        unfolding judge_first
        first_framed e =
            rw (
              le-leb 4 (length rec) h,
              eq-eqb (get_or rec 2 0) 0 typ,
              eq-eqb (get_or rec 3 0) 10 sub,
              eq-eqb (length rec) 6 e,
              get_or-drop 4 rec 0 0,
            )
