-- Laws of a session by itself: what soundness tells, as the functions' proofs and the judgement's laws cite it.
-- Assumes nothing.
use mathlib.Core.Path.{◌≡◌, refl, sym, ◌∙◌}
use mathlib.Core.Bool.{true, false, false≢true}
use mathlib.Core.List.{List, [], ◌∷◌}
use Prim.Native.Nat.{ℕ, suc, ◌-◌, ◌≤◌, ◌<◌}
use native.Mathlib.Omega.{arith}
use borrow.Author.Tests.{le-leb, leb-true, eq-eqb}
use lib.Dec.{leb, ltb}
use lib.ListN.{length, get_or, take, drop}
use lib.Seq.{get_or-take, length-take-le}
use Rattle.std.proofs.lemmas.List.{take-map}
use Rattle.prelude.proofs.All.{all_at}
use Rattle.order.specs.declared.Place.{Place}
use Rattle.order.specs.declared.Place.TheVariants.{Start, Header, Lot, Setup, Body, Ended}
use Rattle.order.specs.Laws.{before, ended}
use Rattle.rising.specs.Rising.{rising_from, rising, held, all_below}
use Rattle.rising.proofs.Laws.{side, rising_rest, rising_cons, held_low, below_last}
use Rattle.session.specs.declared.Session.{Session}
use Rattle.session.specs.declared.Standing.{Standing}
use Rattle.session.specs.Session.{most_open, most_wafers, past_parts, wafer_head, heads_in, wafers_of, is_start}
use Rattle.session.specs.Session.{nothing_yet, may_end, stands_right, kept_right, parts_right, head_cells, wafers_right}
use Rattle.session.specs.Session.{conditions, sound}
use Rattle.session.proofs.Wafers.{heads_rise_lem}
use Rattle.session.specs.Laws.{BegunSound, SoundLent, SmallestHeld, SmallestLeast}

-- ---- a list in the first of some cells

-- a list that rises is below a bound if its last element is
pub kept_last : (most bound used : ℕ) (cells : List ℕ) → used ≤ most → rising (take used cells) ≡ true
    → (used ≡ 0 → ⊥) → most ≤ length cells
    → kept_right most bound used cells ≡ ltb (get_or cells (used - 1) 0) bound
unfolding kept_right
kept_last most bound used cells few rises some long =
    let taken : length (take used cells) ≡ used = length-take-le used cells (omega arith) in
    let last : length (take used cells) ≡ suc (used - 1) = omega arith in
    rw (
      le-leb used most few,
      rises,
      below_last bound (take used cells) (used - 1) rises last,
      get_or-take used cells (used - 1) 0 (omega arith),
    )

-- ---- what soundness tells, and what tells it

pub record Kept (most bound used : ℕ) (cells : List ℕ) : Type 0 where
  pub few : used ≤ most
  pub rises : rising (take used cells) ≡ true
  pub below : all_below bound (take used cells) ≡ true

module _ (most bound used : ℕ) (cells : List ℕ) where
  pub kept_told : kept_right most bound used cells ≡ true → Kept most bound used cells
  unfolding kept_right
  kept_told e =
      let at = all_at (leb used most ∷ rising (take used cells) ∷ all_below bound (take used cells) ∷ []) e in
      record { few = leb-true used most (at 0); rises = at 1; below = at 2 }

  pub kept_right_lem : Kept most bound used cells → kept_right most bound used cells ≡ true
  unfolding kept_right
  kept_right_lem p = rw (le-leb used most p.few, p.rises, p.below)

module _ (s : Session) where
  pub sound_right : parts_right s.standing.opened s.parts ≡ true
      → wafers_right s.standing.wafers s.parts ≡ true
      → stands_right s.standing.place s.standing ≡ true
      → sound s ≡ true
  unfolding sound
  sound_right p w q = rw (p, w, q)

  module _ (e : sound s ≡ true) where
    pub sound_parts_told : Kept most_open past_parts s.standing.opened s.parts
    unfolding sound
    sound_parts_told = kept_told most_open past_parts s.standing.opened s.parts (all_at (conditions s) e 0)

    -- of the heads of the open wafers
    pub sound_wafers_told : Kept most_wafers 256 s.standing.wafers (head_cells s.parts)
    unfolding sound
    sound_wafers_told =
        kept_told most_wafers 256 s.standing.wafers (head_cells s.parts) (all_at (conditions s) e 1)

    pub sound_stands_told : stands_right s.standing.place s.standing ≡ true
    unfolding sound
    sound_stands_told = all_at (conditions s) e 2

    pub sound_heads_rise : rising (heads_in s.standing.wafers s.parts) ≡ true
    sound_heads_rise =
        rw (← take-map wafer_head s.standing.wafers (drop most_open s.parts)) sound_wafers_told.rises

    pub sound_wafers_rise : rising (wafers_of s) ≡ true
    sound_wafers_rise = heads_rise_lem (wafers_of s) sound_heads_rise

pub sound_lent : SoundLent
sound_lent s long e =
    let p = sound_parts_told s e in
    let w = sound_wafers_told s e in
    record {
      long = long;
      few = p.few;
      within = omega (arith, p.few);
      rises = p.rises;
      few_wafers = w.few;
      heads_rise = sound_heads_rise s e;
    }

pub begun_sound : BegunSound
unfolding sound kept_right rising rising_from all_below
begun_sound = refl

-- ---- the smallest part

pub smallest_held : SmallestHeld
unfolding held
smallest_held [] some = absurd (omega arith)
smallest_held (x ∷ xs) some = rw (eq-eqb x x refl)

pub smallest_least : SmallestLeast
unfolding rising held
smallest_least [] part rises there = absurd (false≢true there)
smallest_least (x ∷ xs) part rises there =
    let from : rising_from x (x ∷ xs) ≡ true = rising_cons x x xs (omega arith) (rising_rest 0 x xs rises) in
    side part x
    (λ (low : part < x). absurd (false≢true (sym (held_low x part (x ∷ xs) from low) ∙ there)))
    (λ (high : x ≤ part). high)

-- ---- what a place asks

-- .. as two questions
pub stands_from : (q : Place) (st : Standing) → (before q ≡ true → nothing_yet st ≡ true)
    → (ended q ≡ true → may_end st ≡ true) → stands_right q st ≡ true
stands_from Start st b e = b refl
stands_from Header st b e = b refl
stands_from Lot st b e = b refl
stands_from Setup st b e = b refl
stands_from Body st b e = refl
stands_from Ended st b e = e refl

pub stands_before : (p : Place) (st : Standing) → stands_right p st ≡ true → before p ≡ true → nothing_yet st ≡ true
stands_before Start st e h = e
stands_before Header st e h = e
stands_before Lot st e h = e
stands_before Setup st e h = e
stands_before Body st e h = let never : ◌≡◌ {A = ℕ} 0 1 = cc in absurd (omega arith)
stands_before Ended st e h = let never : ◌≡◌ {A = ℕ} 0 1 = cc in absurd (omega arith)

pub start_before : (p : Place) → is_start p ≡ true → before p ≡ true
start_before Start e = refl
start_before Header e = refl
start_before Lot e = refl
start_before Setup e = refl
start_before Body e = e
start_before Ended e = e

-- a place behind the start
pub past_start : (q : Place) → (q ≡ Start → ⊥) → is_start q ≡ false
past_start Start h = absurd (h refl)
past_start Header h = refl
past_start Lot h = refl
past_start Setup h = refl
past_start Body h = refl
past_start Ended h = refl
