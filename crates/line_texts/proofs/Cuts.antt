-- Laws of text cut at separators: how a piece ends, what is left behind it, and how columns go on with the next one.
-- Assumes nothing.
use mathlib.Core.Path.{◌≡◌, refl, ap, ◌∙◌}
use mathlib.Core.Bool.{Bool, true, false, cond, not}
use mathlib.Core.List.{List, [], ◌∷◌}
use Prim.Native.Nat.{ℕ, zero, suc, ◌+◌, ◌-◌, ◌≤◌, ◌<◌}
use native.Mathlib.Numerals.{add-one, one-add}
use native.Mathlib.Omega.{arith}
use borrow.Author.Tests.{ltb-true, ltb-false, lt-ltb, le-ltb, lt-leb, le-leb}
use lib.Dec.{eqb, leb, ltb}
use lib.ListN.{length, get_or, take, drop, length-drop, drop_of_length-le}
use lib.Seq.{drop-cons, drop-drop, get_or-take}
use Rattle.std.specs.Prelude.{Option, Some, None}
use Rattle.std.specs.List.{position_or_len}
use Rattle.prelude.proofs.Never.{false_true}
use Rattle.prelude.proofs.Both.{both_left, both_right}
use Rattle.output.specs.Placed.{part}
use Rattle.output.proofs.Laws.{length_part}
use Rattle.values.specs.declared.Name.{Name}
use Rattle.line_layouts.specs.declared.Tag.{Tag}
use Rattle.line_layouts.specs.declared.Column.{Column}
use Rattle.line_layouts.specs.Columns.{columns, no_column}
use Rattle.line_texts.specs.Pieces.{onto, split, piece_fits, fields_fit}
use Rattle.line_texts.specs.Places.{no_place, places_from, places_of, left, places_left, next_from}
use Rattle.line_texts.specs.Places.{Ends, Next, CutInto}
use Rattle.line_texts.proofs.Joins.{split_some}

-- ---- the end of a piece

-- what the library tells of a place that it looks for
pub stop_is : (n k len : ℕ) → Some len ≡ cond (ltb n k) (Some n) None → n ≡ len
stop_is n k len e = go (ltb n k) e
  where
    go : (t : Bool) → Some len ≡ cond t (Some n) None → n ≡ len
    go true f = cc
    go false f = cc

pub stop_none : (n k : ℕ) → ◌≡◌ {A = Option ℕ} None (cond (ltb n k) (Some n) None) → k ≤ n
stop_none n k e = go (ltb n k) refl e
  where
    go : (t : Bool) → ltb n k ≡ t → ◌≡◌ {A = Option ℕ} None (cond t (Some n) None) → k ≤ n
    go true f g = absurd cc
    go false f g = ltb-false n k f

ltb_suc : (n k : ℕ) → ltb (suc n) (suc k) ≡ ltb n k
ltb_suc n k = go (ltb n k) refl
  where
    go : (t : Bool) → ltb n k ≡ t → ltb (suc n) (suc k) ≡ t
    go true e = let h = ltb-true n k e in lt-ltb (suc n) (suc k) (omega arith)
    go false e = let h = ltb-false n k e in le-ltb (suc n) (suc k) (omega arith)

module _ (sep : ℕ) where
  -- how many bytes stand before the first separator
  abbrev pub stop : List ℕ → ℕ
  stop s = position_or_len (λ (b : ℕ). eqb b sep) s

  stop_within : (s : List ℕ) → stop s ≤ length s
  stop_within [] = omega arith
  stop_within (b ∷ bs) = go (stop_within bs) (eqb b sep)
    where
      go : stop bs ≤ length bs → (t : Bool) → cond (not t) (1 + stop bs) 0 ≤ suc (length bs)
      go so_far true = omega arith
      go so_far false = omega arith

  cut_here : (s : List ℕ)
      → split sep s ≡ take (stop s) s ∷ cond (ltb (stop s) (length s)) (split sep (drop (suc (stop s)) s)) []
  unfolding split
  cut_here [] = refl
  cut_here (b ∷ bs) = go (cut_here bs) (eqb b sep)
    where
      go : split sep bs ≡ take (stop bs) bs ∷ cond (ltb (stop bs) (length bs)) (split sep (drop (suc (stop bs)) bs)) []
          → (t : Bool)
          → cond t ([] ∷ split sep bs) (onto b (split sep bs))
          ≡ take (cond (not t) (1 + stop bs) 0) (b ∷ bs)
          ∷ cond (ltb (cond (not t) (1 + stop bs) 0) (suc (length bs)))
          (split sep (drop (suc (cond (not t) (1 + stop bs) 0)) (b ∷ bs))) []
      go so_far true = rw (lt-ltb 0 (suc (length bs)) (omega arith))
      go so_far false = rw (one-add (stop bs), ltb_suc (stop bs) (length bs), so_far)

  module _ (s : List ℕ) (from n : ℕ) (h : from ≤ length s) (is : stop (drop from s) ≡ n) where
    pub piece_ends : Ends sep s from (from + n)
    piece_ends =
        let inside : n ≤ length (drop from s) = omega (arith, is, stop_within (drop from s)) in
        let size : from + n - from ≡ n = omega arith in
        let all = length-drop from s in
        record {
          low = omega arith;
          high = omega (arith, all);
          cut = rw (size, cut_here (drop from s), is) (go (ltb n (length (drop from s))) refl);
        }
      where
        go : (t : Bool) → ltb n (length (drop from s)) ≡ t
            → take n (drop from s) ∷ cond (ltb n (length (drop from s))) (split sep (drop (suc n) (drop from s))) []
            ≡ part from n s ∷ left sep (next_from (from + n) s) s
        go true e =
            let more : from + n < length s = omega (arith, ltb-true n (length (drop from s)) e, length-drop from s) in
            let place : from + suc n ≡ from + n + 1 = omega arith in
            rw (e, lt-ltb (from + n) (length s) more, drop-drop (suc n) from s, place)
        go false e =
            let last : length s ≤ from + n =
            omega (arith, ltb-false n (length (drop from s)) e, length-drop from s) in
            rw (e, le-ltb (from + n) (length s) last)

  pub piece_last : (s : List ℕ) (from : ℕ) → from ≤ length s → length (drop from s) ≤ stop (drop from s)
      → Ends sep s from (length s)
  piece_last s from h last =
      let size : stop (drop from s) ≡ length (drop from s) = omega (arith, stop_within (drop from s)) in
      let end : from + length (drop from s) ≡ length s = omega (arith, length-drop from s) in
      rw (← end) (piece_ends s from (length (drop from s)) h size)

-- ---- the next piece

module _ (sep : ℕ) (s : List ℕ) where
  pub next_none : Next sep s None (record { place = no_place; next = None })
  next_none = record { is = refl; on = tt; behind = refl }

  module _ (from to : ℕ) (ends : Ends sep s from to) where
    cut_left : places_left sep (Some from) s
        ≡ record { at = from; len = to - from } ∷ places_from (to + 1) (left sep (next_from to s) s)
    unfolding places_from
    cut_left =
        let size = length_part from (to - from) s (omega (arith, ends.low, ends.high)) in
        let place : from + (to - from) + 1 ≡ to + 1 = omega (arith, ends.low) in
        rw (ends.cut, size, place)

    pub next_more : to < length s
        → Next sep s (Some from) (record { place = record { at = from; len = to - from }; next = Some (to + 1) })
    next_more h = record { is = rw cut_left; on = omega arith; behind = rw (cut_left, lt-ltb to (length s) h) }

    pub next_last : length s ≤ to
        → Next sep s (Some from) (record { place = record { at = from; len = to - from }; next = None })
    unfolding places_from
    next_last h = record { is = rw cut_left; on = tt; behind = rw (cut_left, le-ltb to (length s) h) }

-- ---- how many there are

pub length_places : (at : ℕ) (ps : List (List ℕ)) → length (places_from at ps) ≡ length ps
unfolding places_from
length_places at [] = refl
length_places at (p ∷ ps) = ap suc (length_places (at + length p + 1) ps)

-- text has at least one piece, so what is left is none exactly where there are no more
module _ (sep n : ℕ) (s : List ℕ) where
  rest : length (drop n (places_of sep s)) ≡ length (split sep (drop 4 s)) - n
  rest =
      length-drop n (places_of sep s)
      ∙ ap (λ (i : ℕ). i - n) (length_places 4 (split sep (drop 4 s)))

  pub left_none : places_left sep None s ≡ drop n (places_of sep s) → leb (length (split sep (drop 4 s))) n ≡ true
  left_none f = le-leb (length (split sep (drop 4 s))) n (omega (arith, rest, ap length f))

  pub left_some : (k : ℕ) → places_left sep (Some k) s ≡ drop n (places_of sep s)
      → leb (length (split sep (drop 4 s))) n ≡ false
  left_some k f =
      lt-leb (length (split sep (drop 4 s))) n
      (omega (arith, rest, ap length f, length_places k (split sep (drop k s)), split_some sep (drop k s)))

-- places that are those of the first pieces, one for each column
pub cut_into : (sep : ℕ) (s : List ℕ) (tag : Tag) (places : List Name) (j : ℕ) → 4 ≤ length s → j ≡ length (columns tag)
    → ((i : ℕ) → get_or places i no_place ≡ get_or (take j (places_of sep s)) i no_place)
    → CutInto sep s tag places
cut_into sep s tag places j long end is =
    record {
      long = long;
      is = λ (i : ℕ) inside. is i ∙ get_or-take j (places_of sep s) i no_place (omega (arith, end, inside));
    }

-- ---- columns, at column j

module _ (sep : ℕ) (cs : List Column) (ps : List (List ℕ)) (j : ℕ) where
  module _ (h : j < length cs) (g : j < length ps) where
    pub fields_no : piece_fits sep (get_or cs j no_column) (get_or ps j []) ≡ false
        → fields_fit sep (drop j cs) (drop j ps) ≡ false
    unfolding fields_fit
    fields_no e = rw (drop-cons cs j no_column h, drop-cons ps j [] g, e)

    pub fields_on : piece_fits sep (get_or cs j no_column) (get_or ps j []) ≡ true
        → fields_fit sep (drop j cs) (drop j ps) ≡ fields_fit sep (drop (j + 1) cs) (drop (j + 1) ps)
    unfolding fields_fit
    fields_on e = rw (drop-cons cs j no_column h, drop-cons ps j [] g, e, add-one j)

  pub fields_end : length cs ≤ j → fields_fit sep (drop j cs) (drop j ps) ≡ true
  unfolding fields_fit
  fields_end h = rw (drop_of_length-le cs {i = j} h)

module _ (sep : ℕ) where
  pub fields_each : (cs : List Column) (ps : List (List ℕ)) (j : ℕ) → fields_fit sep cs ps ≡ true → j < length cs
      → piece_fits sep (get_or cs j no_column) (get_or ps j []) ≡ true
  unfolding fields_fit
  fields_each [] ps j e h = absurd (omega arith)
  fields_each (c ∷ cs) [] j e h = false_true e
  fields_each (c ∷ cs) (p ∷ ps) zero e h = both_left (piece_fits sep c p) (fields_fit sep cs ps) e
  fields_each (c ∷ cs) (p ∷ ps) (suc j) e h =
      fields_each cs ps j (both_right (piece_fits sep c p) (fields_fit sep cs ps) e) (omega arith)
