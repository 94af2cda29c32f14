-- The statements of specs/Laws.antt on walks over any machine, proved.
-- Assumes nothing.
use mathlib.Core.Path.{◌≡◌, refl, ap, ap₂, sym, ◌∙◌}
use mathlib.Core.Bool.{Bool, true, false, cond, ◌&&◌, false≢true}
use mathlib.Core.List.{List, [], ◌∷◌, ◌++◌, append-nil, append_assoc}
use Prim.Native.Nat.{ℕ, zero, suc, ◌+◌, ◌≤◌, ◌<◌}
use native.Mathlib.Omega.{arith}
use lib.ListN.{length, length-append}
use lib.Seq.{append_snoc}
use Rattle.numbers.specs.Laws.{Bytes}
use Rattle.numbers.proofs.Laws.{bytes_append}
use Rattle.cutting.specs.Walk.{Heard, Kept, Turned, Machine, Walked, Waits, Stops, pushed, took, walked}
use Rattle.cutting.specs.Walk.{joined, records, kept_of, accepted_at, accepted, Run, Ran, Halted, heard_all, outcome}
use Rattle.cutting.specs.Walk.{left, behind, state_of, fits_at, all_fit}
use Rattle.cutting.specs.Laws.{WalkedAppend, WalkedStops, WalkedBehind, WalkedRecords, WalkedBytes, TurnedAt}
use Rattle.cutting.specs.Laws.{WalkedTurned, WalkedAgain, HeardIs, WalkedKeeps, AllBytes, RecordsBytes}
use Rattle.cutting.specs.Laws.{FitAppend, FitAgain, FitKeeps, HeardLike, WalkLike, Likeness, WalkedLike, always}
use Rattle.cutting.specs.Laws.{WalkedEver, AcceptedRuns, stopped, AcceptedStopped, AcceptedEver}

pub walked_append : WalkedAppend
unfolding walked
walked_append S F m w [] ys = refl
walked_append S F m w (x ∷ xs) ys = walked_append S F m (took m w x) xs ys

pub walked_stops : WalkedStops
unfolding walked
walked_stops S F m s r f rest [] = rw append-nil
walked_stops S F m s r f rest (y ∷ ys) =
    walked_stops S F m s r f (rest ++ y ∷ []) ys ∙ ap (λ (l : List ℕ). Stops s r f l) (append_snoc rest y ys)

took_behind : (S F : Type 0) (m : Machine S F) (w : Walked S F) (b : ℕ)
    → length (behind (took m w b)) ≤ length (behind w) + 1
took_behind S F m (Waits s part) b = go (m.whole s (part ++ b ∷ [])) (m.hear s (part ++ b ∷ []))
  where
    go : (a : Bool) (v : Heard S F) → length (behind (pushed a v s (part ++ b ∷ []))) ≤ 0 + 1
    go false v = omega arith
    go true (Kept t) = omega arith
    go true (Turned f) = omega arith
took_behind S F m (Stops s r f rest) b = omega (arith, length-append rest (b ∷ []))

pub walked_behind : WalkedBehind
unfolding walked
walked_behind S F m w [] = omega arith
walked_behind S F m w (b ∷ bs) =
    let ih = walked_behind S F m (took m w b) bs in
    let one = took_behind S F m w b in
    omega arith

took_turned : (S F : Type 0) (m : Machine S F) (w : Walked S F) (b : ℕ) → TurnedAt m w → TurnedAt m (took m w b)
took_turned S F m (Waits s part) b h = go (m.whole s (part ++ b ∷ [])) (m.hear s (part ++ b ∷ [])) refl
  where
    go : (a : Bool) (v : Heard S F) → m.hear s (part ++ b ∷ []) ≡ v → TurnedAt m (pushed a v s (part ++ b ∷ []))
    go false v e = tt
    go true (Kept t) e = tt
    go true (Turned f) e = e
took_turned S F m (Stops s r f rest) b h = h

pub walked_turned : WalkedTurned
unfolding walked
walked_turned S F m w [] h = h
walked_turned S F m w (b ∷ bs) h = walked_turned S F m (took m w b) bs (took_turned S F m w b h)

-- ---- records

abbrev beginning : {S F : Type 0} → Machine S F → Walked S F → List (List ℕ) → Run S F
beginning m (Waits s part) rs = heard_all m s rs
beginning m (Stops s r f rest) rs = Halted s f

from_records : (S F : Type 0) (m : Machine S F) (w : Walked S F) (bs : List ℕ)
    → outcome (walked m w bs) ≡ beginning m w (records m w bs)
unfolding walked
from_records S F m (Waits s part) [] = refl
from_records S F m (Stops s r f rest) [] = refl
from_records S F m (Stops s r f rest) (b ∷ bs) = rw (walked_stops S F m s r f (rest ++ b ∷ []) bs)
from_records S F m (Waits s part) (b ∷ bs) =
    go (m.whole s (part ++ b ∷ [])) (m.hear s (part ++ b ∷ [])) refl (λ (w : Walked S F). from_records S F m w bs)
  where
    go : (a : Bool) (v : Heard S F) → m.hear s (part ++ b ∷ []) ≡ v
        → ((w : Walked S F) → outcome (walked m w bs) ≡ beginning m w (records m w bs))
        → outcome (walked m (pushed a v s (part ++ b ∷ [])) bs)
        ≡ heard_all m s (cond a ((part ++ b ∷ []) ∷ []) [] ++ records m (pushed a v s (part ++ b ∷ [])) bs)
    go false v e ih = ih (Waits s (part ++ b ∷ []))
    go true (Kept t) e ih = rw e (ih (Waits t []))
    go true (Turned f) e ih = rw (e, walked_stops S F m s (part ++ b ∷ []) f [] bs)

pub walked_records : WalkedRecords
walked_records S F m s bs = from_records S F m (Waits s []) bs

pub walked_bytes : WalkedBytes
unfolding walked
walked_bytes S F m (Waits s part) [] = append-nil part
walked_bytes S F m (Stops s r f rest) [] = append-nil (r ++ rest)
walked_bytes S F m (Waits s part) (b ∷ bs) =
    sym (append_snoc part b bs)
    ∙ go (m.whole s (part ++ b ∷ [])) (m.hear s (part ++ b ∷ [])) (λ (w : Walked S F). walked_bytes S F m w bs)
  where
    go : (a : Bool) (v : Heard S F)
        → ((w : Walked S F) → left w ++ bs ≡ joined (accepted m w bs) ++ left (walked m w bs))
        → (part ++ b ∷ []) ++ bs
        ≡ joined (kept_of a v (part ++ b ∷ []) ++ accepted m (pushed a v s (part ++ b ∷ [])) bs)
        ++ left (walked m (pushed a v s (part ++ b ∷ [])) bs)
    go false v ih = ih (Waits s (part ++ b ∷ []))
    go true (Kept t) ih =
        ap (λ (l : List ℕ). (part ++ b ∷ []) ++ l) (ih (Waits t []))
        ∙ sym (append_assoc (part ++ b ∷ []) (joined (accepted m (Waits t []) bs)) (left (walked m (Waits t []) bs)))
    go true (Turned f) ih = rw (append-nil (part ++ b ∷ [])) at (ih (Stops s (part ++ b ∷ []) f []))
walked_bytes S F m (Stops s r f rest) (b ∷ bs) =
    sym (append_snoc (r ++ rest) b bs)
    ∙ ap (λ (l : List ℕ). l ++ bs) (append_assoc r rest (b ∷ []))
    ∙ walked_bytes S F m (Stops s r f (rest ++ b ∷ [])) bs

-- ---- bytes of a record

bytes_snoc : (xs : List ℕ) (b : ℕ) → Bytes xs → b < 256 → Bytes (xs ++ b ∷ [])
bytes_snoc xs b h g = bytes_append xs (b ∷ []) h one
  where
    one : Bytes (b ∷ [])
    one zero = g
    one (suc k) = omega arith

-- the bytes of a record that is not whole
abbrev PartBytes : {S F : Type 0} → Walked S F → Type 0
PartBytes (Waits s part) = Bytes part
PartBytes (Stops s r f rest) = Unit

took_bytes : (S F : Type 0) (m : Machine S F) (w : Walked S F) (b : ℕ) → PartBytes w → b < 256
    → PartBytes (took m w b)
took_bytes S F m (Waits s part) b h g = go (m.whole s (part ++ b ∷ [])) (m.hear s (part ++ b ∷ []))
  where
    go : (a : Bool) (v : Heard S F) → PartBytes (pushed a v s (part ++ b ∷ []))
    go false v = bytes_snoc part b h g
    go true (Kept t) = λ k. omega arith
    go true (Turned f) = tt
took_bytes S F m (Stops s r f rest) b h g = tt

module _ (S F : Type 0) (m : Machine S F) where
  all_bytes : (w : Walked S F) (bs : List ℕ) → PartBytes w → Bytes bs → AllBytes (records m w bs)
  all_bytes (Waits s part) [] h g = tt
  all_bytes (Stops s r f rest) [] h g = tt
  all_bytes (Stops s r f rest) (b ∷ bs) h g = all_bytes (Stops s r f (rest ++ b ∷ [])) bs tt (λ i. g (suc i))
  all_bytes (Waits s part) (b ∷ bs) h g =
      go (m.whole s (part ++ b ∷ [])) (took_bytes S F m (Waits s part) b h (g 0))
      (λ (w : Walked S F) (q : PartBytes w). all_bytes w bs q (λ i. g (suc i)))
    where
      go : (a : Bool) → PartBytes (pushed a (m.hear s (part ++ b ∷ [])) s (part ++ b ∷ []))
          → ((w : Walked S F) → PartBytes w → AllBytes (records m w bs))
          → AllBytes
          (cond a ((part ++ b ∷ []) ∷ []) []
          ++ records m (pushed a (m.hear s (part ++ b ∷ [])) s (part ++ b ∷ [])) bs)
      go false q ih = ih (Waits s (part ++ b ∷ [])) q
      go true q ih =
          (bytes_snoc part b h (g 0), ih (pushed true (m.hear s (part ++ b ∷ [])) s (part ++ b ∷ [])) q)

pub records_bytes : RecordsBytes
records_bytes S F m s bs g = all_bytes S F m (Waits s []) bs (λ i. omega arith) g

-- ---- what every record keeps

module _ (S F : Type 0) (m : Machine S F) (Fine : S → Type 0)
    (heard_keeps : (s : S) (r : List ℕ) → Bytes r → Fine s → HeardIs Fine (m.hear s r)) where
  took_keeps : (w : Walked S F) (b : ℕ) → PartBytes w → b < 256 → Fine (state_of w) → Fine (state_of (took m w b))
  took_keeps (Waits s part) b h g fine =
      go (m.whole s (part ++ b ∷ [])) (m.hear s (part ++ b ∷ []))
      (heard_keeps s (part ++ b ∷ []) (bytes_snoc part b h g) fine)
    where
      go : (a : Bool) (v : Heard S F) → HeardIs Fine v → Fine (state_of (pushed a v s (part ++ b ∷ [])))
      go false v q = fine
      go true (Kept t) q = q
      go true (Turned f) q = fine
  took_keeps (Stops s r f rest) b h g fine = fine

  keeps : (w : Walked S F) (bs : List ℕ) → PartBytes w → Bytes bs → Fine (state_of w) → Fine (state_of (walked m w bs))
  unfolding walked
  keeps w [] h g fine = fine
  keeps w (b ∷ bs) h g fine =
      keeps (took m w b) bs (took_bytes S F m w b h (g 0)) (λ i. g (suc i)) (took_keeps w b h (g 0) fine)

pub walked_keeps : WalkedKeeps
walked_keeps S F m Fine heard_keeps s bs g fine =
    keeps S F m Fine heard_keeps (Waits s []) bs (λ i. omega arith) g fine

-- ---- walks whose records pass a test

pub fit_append : FitAppend
unfolding walked all_fit
fit_append S F m fits w [] ys = refl
fit_append S F m fits w (x ∷ xs) ys = go (fits_at m fits w x) (fit_append S F m fits (took m w x) xs ys)
  where
    go : (a : Bool)
        → all_fit m fits (took m w x) (xs ++ ys)
        ≡ (all_fit m fits (took m w x) xs && all_fit m fits (walked m (took m w x) xs) ys)
        → (a && all_fit m fits (took m w x) (xs ++ ys))
        ≡ ((a && all_fit m fits (took m w x) xs) && all_fit m fits (walked m (took m w x) xs) ys)
    go true ih = ih
    go false ih = refl

module _ (S F : Type 0) (m : Machine S F) (fits : S → List ℕ → Bool) where
  -- what waits would wait again, and is not tested
  abbrev Untested : Walked S F → Type 0
  Untested (Waits s part) =
      (walked m (Waits s []) part ≡ Waits s part) × (all_fit m fits (Waits s []) part ≡ true)
  Untested (Stops s r f rest) = Unit

  took_untested : (w : Walked S F) (b : ℕ) → Untested w → Untested (took m w b)
  unfolding walked all_fit
  took_untested (Waits s part) b h = go (m.whole s (part ++ b ∷ [])) refl (m.hear s (part ++ b ∷ []))
    where
      go : (a : Bool) → m.whole s (part ++ b ∷ []) ≡ a → (v : Heard S F) → Untested (pushed a v s (part ++ b ∷ []))
      go false e v = (
        walked_append S F m (Waits s []) part (b ∷ []) ∙ ap (λ (w : Walked S F). took m w b) h.0 ∙ rw e,
        fit_append S F m fits (Waits s []) part (b ∷ []) ∙ rw (h.1, h.0, e),
      )
      go true e (Kept t) = (refl, refl)
      go true e (Turned f) = tt
  took_untested (Stops s r f rest) b h = tt

  untested : (w : Walked S F) (bs : List ℕ) → Untested w → Untested (walked m w bs)
  unfolding walked
  untested w [] h = h
  untested w (b ∷ bs) h = untested (took m w b) bs (took_untested w b h)

pub fit_again : FitAgain
unfolding walked all_fit
fit_again S F m fits s t xs part e = (rw e at (untested S F m fits (Waits s []) xs (refl, refl))).1

pub walked_again : WalkedAgain
unfolding walked all_fit
walked_again S F m s t xs part e = (rw e at (untested S F m always (Waits s []) xs (refl, refl))).0

module _ (S F : Type 0) (m : Machine S F) (fits : S → List ℕ → Bool) (Fine : S → Type 0)
    (heard_keeps : (s : S) (r : List ℕ) → fits s r ≡ true → Fine s → HeardIs Fine (m.hear s r)) where
  took_fit : (w : Walked S F) (b : ℕ) → fits_at m fits w b ≡ true → Fine (state_of w) → Fine (state_of (took m w b))
  took_fit (Waits s part) b is fine =
      go (m.whole s (part ++ b ∷ [])) (m.hear s (part ++ b ∷ [])) is (λ f. heard_keeps s (part ++ b ∷ []) f fine)
    where
      go : (a : Bool) (v : Heard S F) → cond a (fits s (part ++ b ∷ [])) true ≡ true
          → (fits s (part ++ b ∷ []) ≡ true → HeardIs Fine v) → Fine (state_of (pushed a v s (part ++ b ∷ [])))
      go false v f q = fine
      go true (Kept t) f q = q f
      go true (Turned x) f q = fine
  took_fit (Stops s r f rest) b is fine = fine

  fit_on : (w : Walked S F) (bs : List ℕ) → all_fit m fits w bs ≡ true → Fine (state_of w)
      → Fine (state_of (walked m w bs))
  unfolding walked all_fit
  fit_on w [] is fine = fine
  fit_on w (b ∷ bs) is fine = go (fits_at m fits w b) refl is (λ f x. fit_on (took m w b) bs f x)
    where
      go : (a : Bool) → fits_at m fits w b ≡ a → (a && all_fit m fits (took m w b) bs) ≡ true
          → (all_fit m fits (took m w b) bs ≡ true → Fine (state_of (took m w b))
          → Fine (state_of (walked m (took m w b) bs)))
          → Fine (state_of (walked m (took m w b) bs))
      go true e f ih = ih f (took_fit w b e fine)
      go false e f ih = absurd (false≢true f)

pub fit_keeps : FitKeeps
fit_keeps S F m fits Fine heard_keeps w bs is fine = fit_on S F m fits Fine heard_keeps w bs is fine

-- ---- walks that are alike

module _ (S T F G : Type 0) (m : Machine S F) (k : Machine T G) (fits : S → List ℕ → Bool)
    (suits : T → List ℕ → Bool) (Like : S → T → Type 0) (Why : F → G → Type 0)
    (l : Likeness S T F G m k fits suits Like Why) where
  same_part : (s : S) (t : T) (part : List ℕ) (b : ℕ) → Like s t → Bytes part → b < 256
      → fits_at k suits (Waits t part) b ≡ true
      → WalkLike Like Why (took m (Waits s part) b) (took k (Waits t part) b)
  same_part s t part b e h g =
      rw (l.whole_like s t (part ++ b ∷ []) e)
      (go (k.whole t (part ++ b ∷ [])) (m.hear s (part ++ b ∷ [])) (k.hear t (part ++ b ∷ []))
      (l.hear_like s t (part ++ b ∷ []) (bytes_snoc part b h g) e))
    where
      go : (a : Bool) (x : Heard S F) (y : Heard T G) → (suits t (part ++ b ∷ []) ≡ true → HeardLike Like Why x y)
          → cond a (suits t (part ++ b ∷ [])) true ≡ true
          → WalkLike Like Why (pushed a x s (part ++ b ∷ [])) (pushed a y t (part ++ b ∷ []))
      go false x y q f = (e, refl)
      go true (Kept u) (Kept v) q f = (q f, refl)
      go true (Kept u) (Turned o) q f = q f
      go true (Turned n) (Kept v) q f = q f
      go true (Turned n) (Turned o) q f = (e, refl, q f, refl)

  took_like : (w : Walked S F) (v : Walked T G) (b : ℕ) → WalkLike Like Why w v → PartBytes v → b < 256
      → fits_at k suits v b ≡ true → WalkLike Like Why (took m w b) (took k v b)
  took_like (Waits s part) (Waits t other) b e h g f = rw e.1 (same_part s t other b e.0 h g f)
  took_like (Waits s part) (Stops t r o rest) b e h g f = absurd e
  took_like (Stops s r o rest) (Waits t other) b e h g f = absurd e
  took_like (Stops s r n rest) (Stops t q o other) b e h g f =
      (e.0, e.1, e.2, ap (λ (x : List ℕ). x ++ b ∷ []) e.3)

  fits_at_lem : (w : Walked S F) (v : Walked T G) (b : ℕ) → WalkLike Like Why w v → PartBytes v → b < 256
      → fits_at m fits w b ≡ fits_at k suits v b
  fits_at_lem (Waits s part) (Waits t other) b e h g =
      rw (
        e.1,
        l.whole_like s t (other ++ b ∷ []) e.0,
        l.fits_like s t (other ++ b ∷ []) (bytes_snoc other b h g) e.0,
      )
  fits_at_lem (Waits s part) (Stops t r o rest) b e h g = absurd e
  fits_at_lem (Stops s r o rest) (Waits t other) b e h g = absurd e
  fits_at_lem (Stops s r n rest) (Stops t q o other) b e h g = refl

  -- both at once: the test is the same, and if it is passed so is the walk
  abbrev Alike : Walked S F → Walked T G → List ℕ → Type 0
  Alike w v bs =
      (all_fit m fits w bs ≡ all_fit k suits v bs)
      × (all_fit k suits v bs ≡ true → WalkLike Like Why (walked m w bs) (walked k v bs))

  like : (w : Walked S F) (v : Walked T G) (bs : List ℕ) → WalkLike Like Why w v → PartBytes v → Bytes bs
      → Alike w v bs
  unfolding walked all_fit
  like w v [] e h g = (refl, λ f. e)
  like w v (b ∷ bs) e h g =
      go (fits_at k suits v b) refl
      (λ (f : fits_at k suits v b ≡ true).
      like (took m w b) (took k v b) bs (took_like w v b e h (g 0) f) (took_bytes T G k v b h (g 0)) (λ i. g (suc i)))
    where
      go : (a : Bool) → fits_at k suits v b ≡ a
          → (fits_at k suits v b ≡ true → Alike (took m w b) (took k v b) bs)
          → ((fits_at m fits w b && all_fit m fits (took m w b) bs) ≡ (a && all_fit k suits (took k v b) bs))
          × ((a && all_fit k suits (took k v b) bs) ≡ true
          → WalkLike Like Why (walked m (took m w b) bs) (walked k (took k v b) bs))
      go true is ih =
          let on = ih is in
          (rw (fits_at_lem w v b e h (g 0), is) on.0, on.1)
      go false is ih = (rw (fits_at_lem w v b e h (g 0), is), λ f. absurd (false≢true f))

pub walked_like : WalkedLike
walked_like S T F G m k fits suits Like Why l s t bs g e =
    like S T F G m k fits suits Like Why l (Waits s []) (Waits t []) bs (e, refl) (λ i. omega arith) g

always_at : (S F : Type 0) (m : Machine S F) (w : Walked S F) (b : ℕ) → fits_at m always w b ≡ true
always_at S F m (Waits s part) b = go (m.whole s (part ++ b ∷ []))
  where
    go : (a : Bool) → cond a true true ≡ true
    go true = refl
    go false = refl
always_at S F m (Stops s r f rest) b = refl

always_fit : (S F : Type 0) (m : Machine S F) (w : Walked S F) (bs : List ℕ) → all_fit m always w bs ≡ true
unfolding all_fit
always_fit S F m w [] = refl
always_fit S F m w (b ∷ bs) = rw (always_at S F m w b) (always_fit S F m (took m w b) bs)

pub walked_ever : WalkedEver
walked_ever S T F G m k Like Why l s t bs g e =
    (walked_like S T F G m k always always Like Why l s t bs g e).1 (always_fit T G k (Waits t []) bs)

-- ---- the records that are accepted

module _ (S F : Type 0) (m : Machine S F) where
  runs : (w : Walked S F) (bs : List ℕ) → heard_all m (state_of w) (accepted m w bs) ≡ Ran (state_of (walked m w bs))
  unfolding walked
  runs (Waits s part) [] = refl
  runs (Stops s r f rest) [] = refl
  runs (Stops s r f rest) (b ∷ bs) = runs (Stops s r f (rest ++ b ∷ [])) bs
  runs (Waits s part) (b ∷ bs) =
      go (m.whole s (part ++ b ∷ [])) (m.hear s (part ++ b ∷ [])) refl (λ (w : Walked S F). runs w bs)
    where
      go : (a : Bool) (v : Heard S F) → m.hear s (part ++ b ∷ []) ≡ v
          → ((w : Walked S F) → heard_all m (state_of w) (accepted m w bs) ≡ Ran (state_of (walked m w bs)))
          → heard_all m s (kept_of a v (part ++ b ∷ []) ++ accepted m (pushed a v s (part ++ b ∷ [])) bs)
          ≡ Ran (state_of (walked m (pushed a v s (part ++ b ∷ [])) bs))
      go false v e ih = ih (Waits s (part ++ b ∷ []))
      go true (Kept t) e ih = rw e (ih (Waits t []))
      go true (Turned f) e ih = ih (Stops s (part ++ b ∷ []) f [])

  judges : (w : Walked S F) (bs : List ℕ) → stopped w ++ records m w bs ≡ accepted m w bs ++ stopped (walked m w bs)
  unfolding walked
  judges (Waits s part) [] = refl
  judges (Stops s r f rest) [] = refl
  judges (Stops s r f rest) (b ∷ bs) = judges (Stops s r f (rest ++ b ∷ [])) bs
  judges (Waits s part) (b ∷ bs) =
      go (m.whole s (part ++ b ∷ [])) (m.hear s (part ++ b ∷ [])) (λ (w : Walked S F). judges w bs)
    where
      go : (a : Bool) (v : Heard S F)
          → ((w : Walked S F) → stopped w ++ records m w bs ≡ accepted m w bs ++ stopped (walked m w bs))
          → cond a ((part ++ b ∷ []) ∷ []) [] ++ records m (pushed a v s (part ++ b ∷ [])) bs
          ≡ (kept_of a v (part ++ b ∷ []) ++ accepted m (pushed a v s (part ++ b ∷ [])) bs)
          ++ stopped (walked m (pushed a v s (part ++ b ∷ [])) bs)
      go false v ih = ih (Waits s (part ++ b ∷ []))
      go true (Kept t) ih = ap (λ (l : List (List ℕ)). (part ++ b ∷ []) ∷ l) (ih (Waits t []))
      go true (Turned f) ih = ih (Stops s (part ++ b ∷ []) f [])

pub accepted_runs : AcceptedRuns
accepted_runs S F m s bs = runs S F m (Waits s []) bs

pub accepted_stopped : AcceptedStopped
accepted_stopped S F m s bs = judges S F m (Waits s []) bs

module _ (S T F G : Type 0) (m : Machine S F) (k : Machine T G) (Like : S → T → Type 0) (Why : F → G → Type 0)
    (l : Likeness S T F G m k always always Like Why) where
  accepted_at_lem : (w : Walked S F) (v : Walked T G) (b : ℕ) → WalkLike Like Why w v → PartBytes v → b < 256
      → accepted_at m w b ≡ accepted_at k v b
  accepted_at_lem (Waits s part) (Waits t other) b e h g =
      rw (e.1, l.whole_like s t (other ++ b ∷ []) e.0)
      (go (k.whole t (other ++ b ∷ [])) (m.hear s (other ++ b ∷ [])) (k.hear t (other ++ b ∷ []))
      (l.hear_like s t (other ++ b ∷ []) (bytes_snoc other b h g) e.0 refl))
    where
      go : (a : Bool) (x : Heard S F) (y : Heard T G) → HeardLike Like Why x y
          → kept_of a x (other ++ b ∷ []) ≡ kept_of a y (other ++ b ∷ [])
      go false x y q = refl
      go true (Kept u) (Kept v) q = refl
      go true (Kept u) (Turned o) q = absurd q
      go true (Turned n) (Kept v) q = absurd q
      go true (Turned n) (Turned o) q = refl
  accepted_at_lem (Waits s part) (Stops t r o rest) b e h g = absurd e
  accepted_at_lem (Stops s r o rest) (Waits t other) b e h g = absurd e
  accepted_at_lem (Stops s r n rest) (Stops t q o other) b e h g = refl

  accepted_like : (w : Walked S F) (v : Walked T G) (bs : List ℕ) → WalkLike Like Why w v → PartBytes v → Bytes bs
      → accepted m w bs ≡ accepted k v bs
  accepted_like w v [] e h g = refl
  accepted_like w v (b ∷ bs) e h g =
      ap₂ ◌++◌ (accepted_at_lem w v b e h (g 0))
      (accepted_like (took m w b) (took k v b) bs
      (took_like S T F G m k always always Like Why l w v b e h (g 0) (always_at T G k v b))
      (took_bytes T G k v b h (g 0)) (λ i. g (suc i)))

pub accepted_ever : AcceptedEver
accepted_ever S T F G m k Like Why l s t bs g e =
    accepted_like S T F G m k Like Why l (Waits s []) (Waits t []) bs (e, refl) (λ i. omega arith) g
