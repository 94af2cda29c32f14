-- The statements of specs/Laws.antt on two lists in one row of cells, proved: by what is put in and taken out of a list
-- at the start of a longer one, and by recursion on the cells before the second list.
-- Assumes nothing.
use mathlib.Core.Path.{◌≡◌, ap, ◌∙◌}
use mathlib.Core.List.{List, [], ◌∷◌, ◌++◌}
use Prim.Native.Nat.{ℕ, zero, suc, ◌+◌, ◌-◌, ◌≤◌}
use native.Mathlib.Nat.{le_of_suc-le-suc, not-suc-le-zero, zero-add, suc-add}
use native.Mathlib.Omega.{arith}
use lib.ListN.{length, take, drop, length-append, length-drop}
use lib.Seq.{length-take-le, drop-drop, drop-append-add}
use Rattle.rising.specs.Rising.{inserted, removed, insert_at, remove_at}
use Rattle.rising.proofs.Laws.{insert_whole, remove_whole}
use Rattle.session.specs.Laws.{InsertBefore, RemoveBefore, InsertBehind, RemoveBehind}

-- ---- the first of two lists

-- a new start of a list, as long as the one that it replaces
behind : (m n : ℕ) (xs l : List ℕ) → length xs ≡ n → n ≤ m → drop m (xs ++ drop n l) ≡ drop m l
behind m n xs l long h =
    let past : m ≡ length xs + (m - n) = omega arith in
    let whole : n + (m - n) ≡ m = omega arith in
    ap (λ (k : ℕ). drop k (xs ++ drop n l)) past ∙ drop-append-add xs (drop n l) (m - n) ∙ drop-drop (m - n) n l
    ∙ ap (λ (k : ℕ). drop k l) whole

pub insert_before : InsertBefore
insert_before m l used at v h low long =
    let all : length (take used l) ≡ used = length-take-le used l (omega arith) in
    let front : length (take at (take used l)) ≡ at = length-take-le at (take used l) (omega arith) in
    let joined = length-append (take at (take used l)) (v ∷ drop at (take used l)) in
    rw (insert_whole l used at v h (omega arith))
    (behind m (suc used) (inserted (take used l) at v) l (omega (arith, joined, length-drop at (take used l))) low)

pub remove_before : RemoveBefore
remove_before m l used at n h low long =
    let all : length (take used l) ≡ used = length-take-le used l (omega arith) in
    let front : length (take at (take used l)) ≡ at = length-take-le at (take used l) (omega arith) in
    let joined = length-append (take at (take used l)) (drop (at + n) (take used l)) in
    rw (remove_whole l used at n h (omega arith))
    (behind m (used - n) (removed (take used l) at n) l (omega (arith, joined, length-drop (at + n) (take used l)))
    (omega arith))

-- ---- the second

insert_step : (x : ℕ) (xs : List ℕ) (used at v : ℕ)
    → insert_at (x ∷ xs) (suc used) (suc at) v ≡ x ∷ insert_at xs used at v
unfolding insert_at
insert_step x xs used at v =
    let less : suc used - suc at ≡ used - at = omega arith in
    rw less

pub insert_behind : InsertBehind
insert_behind zero l used at v long = rw (zero-add used, zero-add at)
insert_behind (suc m) [] used at v long = absurd (not-suc-le-zero long)
insert_behind (suc m) (x ∷ xs) used at v long =
    rw (suc-add m used, suc-add m at)
    (insert_step x xs (m + used) (m + at) v
    ∙ ap (λ (l : List ℕ). x ∷ l) (insert_behind m xs used at v (le_of_suc-le-suc long)))

remove_step : (x : ℕ) (xs : List ℕ) (used at n : ℕ) → n ≤ used
    → remove_at (x ∷ xs) (suc used) (suc at) n ≡ x ∷ remove_at xs used at n
unfolding remove_at
remove_step x xs used at n h =
    let less : suc used - suc (at + n) ≡ used - (at + n) = omega arith in
    let left : suc used - n ≡ suc (used - n) = omega arith in
    rw (suc-add at n, less, left)

pub remove_behind : RemoveBehind
remove_behind zero l used at n h long = rw (zero-add used, zero-add at)
remove_behind (suc m) [] used at n h long = absurd (not-suc-le-zero long)
remove_behind (suc m) (x ∷ xs) used at n h long =
    rw (suc-add m used, suc-add m at)
    (remove_step x xs (m + used) (m + at) n (omega arith)
    ∙ ap (λ (l : List ℕ). x ∷ l) (remove_behind m xs used at n h (le_of_suc-le-suc long)))
