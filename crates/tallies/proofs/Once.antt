-- TallyOnce of specs/Laws.antt, proved: of two lists of rows that rise and have the same rows, neither can begin with a
-- row that the other has not.
-- Assumes nothing.
use mathlib.Core.Path.{◌≡◌, refl, sym, ap, ◌∙◌}
use mathlib.Core.Bool.{Bool, true, false, or-false, true≢false, false≢true}
use mathlib.Core.List.{List, [], ◌∷◌}
use Prim.Native.Nat.{ℕ}
use borrow.Author.Tests.{eqb-true, eq-eqb}
use lib.Dec.{eqb}
use Rattle.prelude.proofs.Both.{both_left, both_right}
use Rattle.house.specs.declared.Row.{Row}
use Rattle.tallies.specs.Results.{PartResult, same, below, result_in, row, tally_of, has_row, before_all, rises}
use Rattle.tallies.specs.Laws.{TallyOnce}
use Rattle.tallies.proofs.Order.{Below, same_told, same_own, below_is, below_apart, placed, below_told, all_on}
use Rattle.tallies.proofs.Tally.{tally_rises, tally_counts}

-- ---- the first row, and the others

first_there : (w : Row) (ws : List Row) → has_row (result_in w) w.count (w ∷ ws) ≡ true
unfolding has_row
first_there w ws = rw (same_own (result_in w), eq-eqb w.count w.count refl)

not_first : (r : PartResult) (n : ℕ) (w : Row) (ws : List Row) → same r (result_in w) ≡ false
    → has_row r n (w ∷ ws) ≡ has_row r n ws
unfolding has_row
not_first r n w ws e = rw e

not_there : (r : PartResult) (n : ℕ) (ws : List Row) → before_all r ws ≡ true → has_row r n ws ≡ false
unfolding has_row
not_there r n [] e = refl
not_there r n (w ∷ ws) e =
    let first = below_told r (result_in w) (both_left (below r (result_in w)) (before_all r ws) e) in
    rw (below_apart r (result_in w) first)
    (not_there r n ws (both_right (below r (result_in w)) (before_all r ws) e))

-- ---- two lists with the same rows

-- no list begins before the other
never_before : {C : Type 0} (w v : Row) (ws vs : List Row) → Below (result_in w) (result_in v) → rises (v ∷ vs) ≡ true
    → has_row (result_in w) w.count (w ∷ ws) ≡ has_row (result_in w) w.count (v ∷ vs) → C
unfolding rises
never_before w v ws vs l e h =
    let later = all_on (result_in w) (result_in v) vs l (both_left (before_all (result_in v) vs) (rises vs) e) in
    absurd
    (true≢false
    (sym (first_there w ws)
    ∙ h
    ∙ not_there (result_in w) w.count (v ∷ vs) (rw (below_is (result_in w) (result_in v) l) later)))

-- where they begin alike, the first rows count as much ..
own_row : (n : ℕ) (v : Row) (vs : List Row) → before_all (result_in v) vs ≡ true
    → has_row (result_in v) n (v ∷ vs) ≡ eqb n v.count
unfolding has_row
own_row n v vs later =
    rw (same_own (result_in v), not_there (result_in v) n vs later) (or-false (eqb n v.count))

first_count : (w v : Row) (ws vs : List Row) → result_in w ≡ result_in v → before_all (result_in v) vs ≡ true
    → has_row (result_in w) w.count (w ∷ ws) ≡ has_row (result_in w) w.count (v ∷ vs) → w.count ≡ v.count
first_count w v ws vs is later h =
    eqb-true w.count v.count
    (sym (own_row w.count v vs later)
    ∙ ap (λ (r : PartResult). has_row r w.count (v ∷ vs)) (sym is)
    ∙ sym h
    ∙ first_there w ws)

-- .. and the others are the same
rest_same : (r : PartResult) (n : ℕ) (w v : Row) (ws vs : List Row) → result_in w ≡ result_in v
    → before_all (result_in w) ws ≡ true → before_all (result_in v) vs ≡ true
    → has_row r n (w ∷ ws) ≡ has_row r n (v ∷ vs) → has_row r n ws ≡ has_row r n vs
rest_same r n w v ws vs is e f h = go (same r (result_in w)) refl
  where
    go : (t : Bool) → same r (result_in w) ≡ t → has_row r n ws ≡ has_row r n vs
    go true t =
        let its = same_told r (result_in w) t in
        not_there r n ws (rw its e) ∙ sym (not_there r n vs (rw (its ∙ is) f))
    go false t =
        sym (not_first r n w ws t) ∙ h ∙ not_first r n v vs (ap (same r) (sym is) ∙ t)

rows_once : (ws vs : List Row) → rises ws ≡ true → rises vs ≡ true
    → ((r : PartResult) (n : ℕ) → has_row r n ws ≡ has_row r n vs) → ws ≡ vs
unfolding rises has_row
rows_once [] [] e f h = refl
rows_once [] (v ∷ vs) e f h = absurd (false≢true (h (result_in v) v.count ∙ first_there v vs))
rows_once (w ∷ ws) [] e f h = absurd (true≢false (sym (first_there w ws) ∙ h (result_in w) w.count))
rows_once (w ∷ ws) (v ∷ vs) e f h =
    let later = both_left (before_all (result_in w) ws) (rises ws) e in
    let later' = both_left (before_all (result_in v) vs) (rises vs) f in
    let rest = both_right (before_all (result_in w) ws) (rises ws) e in
    let rest' = both_right (before_all (result_in v) vs) (rises vs) f in
    placed (result_in w) (result_in v)
    (λ (l : Below (result_in w) (result_in v)). never_before w v ws vs l f (h (result_in w) w.count))
    (λ (is : result_in w ≡ result_in v).
    let counts = first_count w v ws vs is later' (h (result_in w) w.count) in
    let first : w ≡ v =
    ap (λ (r : PartResult). row r w.count) is ∙ ap (λ (n : ℕ). row (result_in v) n) counts in
    ap (λ (x : Row). x ∷ ws) first
    ∙ ap (λ (xs : List Row). v ∷ xs)
    (rows_once ws vs rest rest' (λ r n. rest_same r n w v ws vs is later later' (h r n))))
    (λ (l : Below (result_in v) (result_in w)). never_before v w vs ws l e (sym (h (result_in v) v.count)))

pub tally_once : TallyOnce
tally_once rs ws e h =
    rows_once ws (tally_of rs) e (tally_rises rs) (λ r n. h r n ∙ sym (tally_counts rs r n))
