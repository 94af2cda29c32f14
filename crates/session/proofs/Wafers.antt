-- The statements of specs/Laws.antt on wafers, proved: a wafer is its head times 256 and a byte, so wafers stand as
-- their heads do.
-- Assumes nothing.
use mathlib.Core.Path.{◌≡◌, refl, sym, ap, ◌∙◌}
use mathlib.Core.Bool.{Bool, true, false, ◌||◌, false≢true, or-true}
use mathlib.Core.List.{List, [], ◌∷◌, map, map-append}
use Prim.Native.Nat.{ℕ, zero, suc, ◌+◌, ◌*◌, ◌/◌, ◌≤◌, ◌<◌}
use native.Mathlib.Omega.{arith}
use borrow.Author.Tests.{lt-ltb, le-ltb, eq-eqb, eqb-true}
use lib.Dec.{eqb}
use lib.ListN.{get_or, take, drop, get_or-map, length-map}
use Rattle.std.proofs.lemmas.List.{take-map, drop-map}
use Rattle.rising.specs.Rising.{rising_from, rising, rank, held, inserted, removed}
use Rattle.rising.proofs.Laws.{side, rising_head, rising_rest, rising_cons, held_rank, rank_own}
use Rattle.session.specs.Session.{wafer_number, wafer_head}
use Rattle.session.specs.Laws.{HeadsRise, HeadRank, WaferOn, WaferRank}

-- ---- the heads of a list of wafers

pub map_inserted : (f : ℕ → ℕ) (xs : List ℕ) (at v : ℕ) → map f (inserted xs at v) ≡ inserted (map f xs) at (f v)
map_inserted f xs zero v = refl
map_inserted f [] (suc at) v = refl
map_inserted f (x ∷ xs) (suc at) v = ap (λ (l : List ℕ). f x ∷ l) (map_inserted f xs at v)

pub map_removed : (f : ℕ → ℕ) (xs : List ℕ) (at n : ℕ) → map f (removed xs at n) ≡ removed (map f xs) at n
map_removed f xs at n =
    map-append f (take at xs) (drop (at + n) xs) ∙ rw (take-map f at xs, drop-map f (at + n) xs)

-- ---- heads

heads_from : (b d : ℕ) (ws : List ℕ) → d ≤ b * 256 → rising_from b (map wafer_head ws) ≡ true → rising_from d ws ≡ true
unfolding rising_from
heads_from b d [] h e = refl
heads_from b d (w ∷ ws) h e =
    let up : b ≤ w / 256 = rising_head b (w / 256) (map wafer_head ws) e in
    rising_cons d w ws (omega arith)
    (heads_from (suc (w / 256)) (suc w) ws (omega arith) (rising_rest b (w / 256) (map wafer_head ws) e))

pub heads_rise_lem : HeadsRise
unfolding rising
heads_rise_lem ws e = heads_from 0 0 ws (omega arith) e

pub head_rank : HeadRank
unfolding rank
head_rank head [] = refl
head_rank head (w ∷ ws) =
    side (w / 256) head
    (λ (l : w / 256 < head). rw (lt-ltb (w / 256) head l, lt-ltb w (head * 256) (omega arith), head_rank head ws))
    (λ (h : head ≤ w / 256). rw (le-ltb (w / 256) head h, le-ltb w (head * 256) (omega arith)))

pub wafer_on : WaferOn
unfolding held
wafer_on head group [] low e = absurd (false≢true e)
wafer_on head group (w ∷ ws) low e =
    go (eqb w (wafer_number head group)) refl e (λ there. wafer_on head group ws low there)
  where
    go : (t : Bool) → eqb w (wafer_number head group) ≡ t → (t || held (wafer_number head group) ws) ≡ true
        → (held (wafer_number head group) ws ≡ true → held head (map wafer_head ws) ≡ true)
        → (eqb (w / 256) head || held head (map wafer_head ws)) ≡ true
    go true is there rest = rw (eq-eqb (w / 256) head (omega (arith, eqb-true w (wafer_number head group) is)))
    go false is there rest = rw (rest there) (or-true (eqb (w / 256) head))

pub wafer_rank : WaferRank
wafer_rank head group ws low rises there =
    let wafer = wafer_number head group in
    let at = held_rank wafer ws (heads_rise_lem ws rises) there in
    let r = rank wafer ws in
    let on : get_or (map wafer_head ws) r 0 ≡ head =
    get_or-map wafer_head ws r 0 ∙ omega (arith, at.1) in
    sym (rank_own (map wafer_head ws) r rises (omega (arith, at.0, length-map ws wafer_head)))
    ∙ ap (λ (k : ℕ). rank k (map wafer_head ws)) on
