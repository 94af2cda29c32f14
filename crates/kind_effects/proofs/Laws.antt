-- Laws of what a kind does, as the functions' proofs cite them.
-- Assumes nothing.
use mathlib.Core.Path.{◌≡◌, ap, sym, ◌∙◌}
use mathlib.Core.Bool.{true, false}
use mathlib.Core.List.{List, map}
use Prim.Native.Nat.{ℕ, zero, suc, ◌*◌, ◌/◌, ◌≤◌, ◌<◌}
use native.Mathlib.Omega.{arith}
use borrow.Author.Tests.{ne_eqb}
use lib.Dec.{eqb}
use lib.ListN.{length, get_or, take, get_or-map, length-map}
use lib.Seq.{get_or-take, length-take-le}
use Rattle.rising.specs.Rising.{rising, rank, held}
use Rattle.rising.proofs.Laws.{held_at_lem, held_past}
use Rattle.session.specs.declared.Standing.{Standing}
use Rattle.session.specs.declared.Verdict.TheVariants.{Refused}
use Rattle.session.specs.Session.{wafer_number, wafer_head}
use Rattle.session.specs.Verdicts.{still_open}
use Rattle.session.proofs.Wafers.{head_rank}
use Rattle.kind_effects.specs.Effects.{judge_mrr}

-- a session that holds a part has one open
pub held_opened : (part opened : ℕ) (cells : List ℕ) → held part (take opened cells) ≡ true → 1 ≤ opened
unfolding held
held_opened part zero cells e = let never : ◌≡◌ {A = ℕ} 0 1 = cc in omega arith
held_opened part (suc n) cells e = omega arith

-- the smallest of the open parts is the first of the cells that they stand in
pub mrr_open : (st : Standing) (cells : List ℕ) → (st.opened ≡ 0 → ⊥)
    → judge_mrr st (take st.opened cells) ≡ Refused (still_open cells)
unfolding judge_mrr
mrr_open st cells e = rw (ne_eqb st.opened 0 e, get_or-take st.opened cells 0 0 (omega (arith, e)))

-- ---- wafers

-- as many heads are below a head as wafers are below its first, of site group 0
pub first_rank : (head first : ℕ) (ws : List ℕ) → first ≡ wafer_number head 0
    → rank first ws ≡ rank head (map wafer_head ws)
first_rank head first ws is =
    let low : first ≡ head * 256 = omega (arith, is) in
    rw low (head_rank head ws)

-- whether a head has an open wafer, by the one at its rank
module _ (head used at : ℕ) (cells : List ℕ) (within : used ≤ length cells)
    (rises : rising (map wafer_head (take used cells)) ≡ true)
    (is : at ≡ rank head (map wafer_head (take used cells))) where
  long : length (map wafer_head (take used cells)) ≡ used
  long = length-map (take used cells) wafer_head ∙ length-take-le used cells within

  pub head_past : used ≤ at → held head (map wafer_head (take used cells)) ≡ false
  head_past h = held_past head (map wafer_head (take used cells)) rises (omega (arith, long, is))

  pub head_at : at < used → held head (map wafer_head (take used cells)) ≡ eqb (get_or cells at 0 / 256) head
  head_at h =
      held_at_lem head (map wafer_head (take used cells)) rises (omega (arith, long, is))
      ∙ ap (λ (k : ℕ). eqb (get_or (map wafer_head (take used cells)) k 0) head) (sym is)
      ∙ ap (λ (k : ℕ). eqb k head)
      (get_or-map wafer_head (take used cells) at 0 ∙ ap wafer_head (get_or-take used cells at 0 h))
