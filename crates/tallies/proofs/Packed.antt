-- The statements of specs/Laws.antt on the rows of a house, proved by recursion on them: a result's number says its head,
-- site and bin, and rises as they do.
-- Assumes nothing.
use mathlib.Core.Path.{◌≡◌, refl, sym, ap, ◌∙◌}
use mathlib.Core.Bool.{Bool, true, false, cond}
use mathlib.Core.List.{List, [], ◌∷◌, map}
use Prim.Native.Nat.{ℕ, suc, ◌+◌, ◌<◌}
use native.Mathlib.Omega.{arith}
use borrow.Author.Tests.{eqb-true, ltb-true, lt-ltb, eq-eqb, ne_eqb}
use lib.Dec.{eqb, ltb}
use Rattle.prelude.specs.Each.{each}
use Rattle.prelude.proofs.Both.{both_left, both_right}
use Rattle.session.specs.Session.{key_of}
use Rattle.session.proofs.Keys.{key_same, key_rises}
use Rattle.rows.specs.Rows.{slot_span, head_of, site_of, bin_of}
use Rattle.rows.specs.Counts.{Count, count, plus, has}
use Rattle.rows.proofs.Laws.{same_or}
use Rattle.rows.proofs.Counts.{plus_has}
use Rattle.house.specs.declared.Row.{Row}
use Rattle.house.specs.Tally.{row_of}
use Rattle.tallies.specs.Results.{PartResult, same, below, result_in, row, counting, among, tally_of}
use Rattle.tallies.specs.Packed.{keyed, RightResult, AllRight, packed, parts_in}
use Rattle.tallies.specs.Laws.{KeyGives, TallyPacked, HasAmong, PackedSum}

-- ---- a number and its head, site and bin

-- a key within its slot is made of them
key_whole : (k : ℕ) → k < slot_span → key_of (head_of k) (site_of k) (bin_of k) ≡ k
key_whole k h = omega arith

-- .. and gives them back
pub key_gives : KeyGives
key_gives r n right =
    let head : head_of (keyed r) ≡ r.head = omega (arith, right.head, right.site, right.bin) in
    let site : site_of (keyed r) ≡ r.site = omega (arith, right.site, right.bin) in
    let bin : bin_of (keyed r) ≡ r.bin = omega (arith, right.bin) in
    rw (head, site, bin)

module _ (r : PartResult) (right : RightResult r) where
  row_own : (n : ℕ) → row r n ≡ row_of (count (keyed r) n)
  row_own n = sym (key_gives r n right)

  key_below : keyed r < slot_span
  key_below = omega (arith, right.head, right.site, right.bin)

  -- it is before a row, and is of a row, as its number is
  module _ (c : Count) (low : c.key < slot_span) where
    below_key : below r (result_in (row_of c)) ≡ ltb (keyed r) c.key
    below_key =
        let k = c.key in
        sym
        (key_rises r.head r.site r.bin (head_of k) (site_of k) (bin_of k) right.site (omega arith)
        (omega (arith, right.bin)) (omega arith))
        ∙ ap (ltb (keyed r)) (key_whole k low)

    same_key : same r (result_in (row_of c)) ≡ eqb (keyed r) c.key
    same_key =
        let k = c.key in
        sym
        (key_same r.head r.site r.bin (head_of k) (site_of k) (bin_of k) right.site (omega arith)
        (omega (arith, right.bin)) (omega arith))
        ∙ ap (eqb (keyed r)) (key_whole k low)

-- ---- the rows

abbrev in_slot : Count → Bool
in_slot c = ltb c.key slot_span

module _ (r : PartResult) (right : RightResult r) where
  -- one part more stays within the slot
  plus_in : (cs : List Count) → each in_slot cs ≡ true → each in_slot (plus (keyed r) cs) ≡ true
  unfolding plus
  plus_in [] e = rw (lt-ltb (keyed r) slot_span (key_below r right))
  plus_in (c ∷ cs) e =
      go (ltb (keyed r) c.key) (eqb (keyed r) c.key)
      (plus_in cs (both_right (in_slot c) (each in_slot cs) e))
    where
      go : (t u : Bool) → each in_slot (plus (keyed r) cs) ≡ true
          → each in_slot
          (cond t (count (keyed r) 1 ∷ (c ∷ cs)) (cond u (count c.key (c.count + 1) ∷ cs) (c ∷ plus (keyed r) cs)))
          ≡ true
      go true u ih = rw (lt-ltb (keyed r) slot_span (key_below r right)) e
      go false true ih = e
      go false false ih = rw (both_left (in_slot c) (each in_slot cs) e) ih

  -- .. and is one part more of the tally
  counting_packed : (cs : List Count) → each in_slot cs ≡ true
      → counting r (map row_of cs) ≡ map row_of (plus (keyed r) cs)
  unfolding counting plus
  counting_packed [] e = ap (λ (w : Row). w ∷ []) (row_own r right 1)
  counting_packed (c ∷ cs) e =
      let low = ltb-true c.key slot_span (both_left (in_slot c) (each in_slot cs) e) in
      rw (below_key r right c low, same_key r right c low)
      (go (ltb (keyed r) c.key) (eqb (keyed r) c.key) (eqb-true (keyed r) c.key)
      (counting_packed cs (both_right (in_slot c) (each in_slot cs) e)))
    where
      go : (t u : Bool) → (u ≡ true → keyed r ≡ c.key) → counting r (map row_of cs) ≡ map row_of (plus (keyed r) cs)
          → cond t (row r 1 ∷ (row_of c ∷ map row_of cs))
          (cond u (row r (c.count + 1) ∷ map row_of cs) (row_of c ∷ counting r (map row_of cs)))
          ≡ map row_of
          (cond t (count (keyed r) 1 ∷ (c ∷ cs)) (cond u (count c.key (c.count + 1) ∷ cs) (c ∷ plus (keyed r) cs)))
      go true u is ih = ap (λ (w : Row). w ∷ (row_of c ∷ map row_of cs)) (row_own r right 1)
      go false true is ih =
          ap (λ (w : Row). w ∷ map row_of cs)
          (row_own r right (c.count + 1) ∙ ap (λ (k : ℕ). row_of (count k (c.count + 1))) (is refl))
      go false false is ih = ap (λ (ws : List Row). row_of c ∷ ws) ih

packed_in : (rs : List PartResult) → AllRight rs → each in_slot (packed rs) ≡ true
unfolding packed
packed_in [] right = refl
packed_in (r ∷ rs) right = plus_in r right.0 (packed rs) (packed_in rs right.1)

pub tally_packed : TallyPacked
unfolding tally_of packed
tally_packed [] right = refl
tally_packed (r ∷ rs) right =
    ap (counting r) (tally_packed rs right.1)
    ∙ counting_packed r right.0 (packed rs) (packed_in rs right.1)

-- ---- what has a row, and how many parts there are

swapped : (a b : ℕ) → eqb a b ≡ eqb b a
swapped a b =
    same_or b a
    (λ (e : b ≡ a). rw (eq-eqb b a e) (eq-eqb a b (sym e)))
    (λ (e : b ≡ a → ⊥). rw (ne_eqb b a e) (ne_eqb a b (λ q. e (sym q))))

pub has_among : HasAmong
unfolding packed has among
has_among [] r all right = refl
has_among (q ∷ qs) r all right =
    let its = all.0 in
    plus_has (keyed r) (keyed q) (packed qs)
    ∙ rw (
      swapped (keyed q) (keyed r),
      key_same r.head r.site r.bin q.head q.site q.bin right.site its.site
          (omega (arith, right.bin)) (omega (arith, its.bin)),
      has_among qs r all.1 right,
    )

plus_parts : (key : ℕ) (cs : List Count) → parts_in (plus key cs) ≡ suc (parts_in cs)
unfolding plus parts_in
plus_parts key [] = refl
plus_parts key (c ∷ cs) = go (ltb key c.key) (eqb key c.key) (plus_parts key cs)
  where
    go : (t u : Bool) → parts_in (plus key cs) ≡ suc (parts_in cs)
        → parts_in (cond t (count key 1 ∷ (c ∷ cs)) (cond u (count c.key (c.count + 1) ∷ cs) (c ∷ plus key cs)))
        ≡ suc (c.count + parts_in cs)
    go true u ih = omega arith
    go false true ih = omega arith
    go false false ih = omega arith

pub packed_sum : PackedSum
unfolding packed parts_in
packed_sum [] = refl
packed_sum (r ∷ rs) = plus_parts (keyed r) (packed rs) ∙ ap suc (packed_sum rs)
