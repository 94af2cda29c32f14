-- Laws of open parts, as a book lists them: what is open after one closes, how many there are, and which is the smallest.
-- Assumes nothing.
use mathlib.Core.Path.{◌≡◌, refl, ap, sym, ◌∙◌}
use mathlib.Core.Bool.{Bool, true, false, cond, not, ◌&&◌, ◌||◌, false≢true, true≢false, or-true}
use mathlib.Core.List.{List, [], ◌∷◌}
use Prim.Native.Nat.{ℕ, ◌+◌, ◌≤◌, ◌<◌}
use native.Mathlib.Omega.{arith}
use borrow.Author.Tests.{eq-eqb, eqb-true, ltb-true, ltb-false}
use lib.Dec.{eqb, ltb}
use lib.ListN.{length}
use Rattle.prelude.proofs.Both.{both_left, both_right}
use Rattle.session.specs.Session.{part_of}
use Rattle.session.proofs.Keys.{part_rises}
use Rattle.books.specs.Book.{Part, is_at, is_open, without, precedes, least_of}

-- ---- a part that closes

-- two that are at one place are at the same others
at_same : (x y head site h s : ℕ) → (eqb x head && eqb y site) ≡ true
    → (eqb x h && eqb y s) ≡ (eqb head h && eqb site s)
at_same x y head site h s e =
    rw (
      eqb-true x head (both_left (eqb x head) (eqb y site) e),
      eqb-true y site (both_right (eqb x head) (eqb y site) e),
    )

same_at : (x y head site h s : ℕ) → (eqb head h && eqb site s) ≡ true
    → (eqb x h && eqb y s) ≡ (eqb x head && eqb y site)
same_at x y head site h s e =
    rw (
      eqb-true head h (both_left (eqb head h) (eqb site s) e),
      eqb-true site s (both_right (eqb head h) (eqb site s) e),
    )

none : (a : Bool) → (a && false) ≡ false
none true = refl
none false = refl

-- .. is open no more, and all others are as before
pub open_without : (head site : ℕ) (ps : List Part) (h s : ℕ)
    → is_open (without head site ps) h s ≡ (not (eqb head h && eqb site s) && is_open ps h s)
unfolding is_open without
open_without head site [] h s = sym (none (not (eqb head h && eqb site s)))
open_without head site (p ∷ ps) h s =
    one (is_at head site p) ∙ rw (open_without head site ps h s)
    (step (is_at head site p) (eqb head h && eqb site s) (is_at h s p) (is_open ps h s)
    (at_same p.head p.site head site h s) (same_at p.head p.site head site h s))
  where
    one : (a : Bool)
        → is_open (cond a (without head site ps) (p ∷ without head site ps)) h s
        ≡ cond a (is_open (without head site ps) h s) (is_at h s p || is_open (without head site ps) h s)
    one true = refl
    one false = refl

    step : (a m c x : Bool) → (a ≡ true → c ≡ m) → (m ≡ true → c ≡ a)
        → cond a (not m && x) (c || (not m && x)) ≡ (not m && (c || x))
    step true true c x f g = refl
    step true false c x f g = rw (f refl)
    step false true c x f g = rw (g refl)
    step false false c x f g = refl

-- ---- no part is listed twice

abbrev pub Distinct : List Part → Type 0
Distinct [] = Unit
Distinct (p ∷ ps) = (is_open ps p.head p.site ≡ false) × Distinct ps

without_none : (head site : ℕ) (ps : List Part) → is_open ps head site ≡ false → without head site ps ≡ ps
unfolding is_open without
without_none head site [] e = refl
without_none head site (p ∷ ps) e = go (is_at head site p) refl e (λ f. without_none head site ps f)
  where
    go : (a : Bool) → is_at head site p ≡ a → (a || is_open ps head site) ≡ false
        → (is_open ps head site ≡ false → without head site ps ≡ ps)
        → cond a (without head site ps) (p ∷ without head site ps) ≡ p ∷ ps
    go true is f rest = absurd (true≢false f)
    go false is f rest = ap (λ (qs : List Part). p ∷ qs) (rest f)

pub length_without : (head site : ℕ) (ps : List Part) → Distinct ps → is_open ps head site ≡ true
    → length (without head site ps) + 1 ≡ length ps
unfolding is_open without
length_without head site [] d e = absurd (false≢true e)
length_without head site (p ∷ ps) d e =
    go (is_at head site p) refl e (λ f. length_without head site ps d.1 f)
  where
    here : is_at head site p ≡ true → is_open ps head site ≡ false
    here is =
        let a = both_left (eqb p.head head) (eqb p.site site) is in
        let b = both_right (eqb p.head head) (eqb p.site site) is in
        ap (λ (x : ℕ). is_open ps x site) (sym (eqb-true p.head head a))
        ∙ ap (λ (x : ℕ). is_open ps p.head x) (sym (eqb-true p.site site b))
        ∙ d.0

    go : (a : Bool) → is_at head site p ≡ a → (a || is_open ps head site) ≡ true
        → (is_open ps head site ≡ true → length (without head site ps) + 1 ≡ length ps)
        → length (cond a (without head site ps) (p ∷ without head site ps)) + 1 ≡ length (p ∷ ps)
    go true is f rest = omega (arith, ap length (without_none head site ps (here is)))
    go false is f rest = omega (arith, rest f)

pub distinct_without : (head site : ℕ) (ps : List Part) → Distinct ps → Distinct (without head site ps)
unfolding without
distinct_without head site [] d = tt
distinct_without head site (p ∷ ps) d = go (is_at head site p) (distinct_without head site ps d.1)
  where
    others : is_open (without head site ps) p.head p.site ≡ false
    others =
        open_without head site ps p.head p.site
        ∙ ap (λ (x : Bool). not (eqb head p.head && eqb site p.site) && x) d.0
        ∙ none (not (eqb head p.head && eqb site p.site))

    go : (a : Bool) → Distinct (without head site ps)
        → Distinct (cond a (without head site ps) (p ∷ without head site ps))
    go true rest = rest
    go false rest = (others, rest)

-- ---- a site is one byte

abbrev pub Low : List Part → Type 0
Low [] = Unit
Low (p ∷ ps) = (p.site < 256) × Low ps

pub low_without : (head site : ℕ) (ps : List Part) → Low ps → Low (without head site ps)
unfolding without
low_without head site [] low = tt
low_without head site (p ∷ ps) low = go (is_at head site p) (low_without head site ps low.1)
  where
    go : (a : Bool) → Low (without head site ps) → Low (cond a (without head site ps) (p ∷ without head site ps))
    go true rest = rest
    go false rest = (low.0, rest)

-- ---- the smallest

abbrev pub number : Part → ℕ
number p = part_of p.head p.site

-- one that is open is the first, or one of the others
pub open_by : {C : Type 0} (p : Part) (ps : List Part) (head site : ℕ) → is_open (p ∷ ps) head site ≡ true
    → (p.head ≡ head → p.site ≡ site → C) → (is_open ps head site ≡ true → C) → C
unfolding is_open
open_by {C = C} p ps head site e here there = go (is_at head site p) refl e
  where
    go : (a : Bool) → is_at head site p ≡ a → (a || is_open ps head site) ≡ true → C
    go true is f =
        here (eqb-true p.head head (both_left (eqb p.head head) (eqb p.site site) is))
        (eqb-true p.site site (both_right (eqb p.head head) (eqb p.site site) is))
    go false is f = there f

pub open_low : (ps : List Part) (head site : ℕ) → Low ps → is_open ps head site ≡ true → site < 256
unfolding is_open
open_low [] head site low e = absurd (false≢true e)
open_low (p ∷ ps) head site low e =
    open_by p ps head site e (λ is same. omega (arith, low.0, same)) (λ f. open_low ps head site low.1 f)

-- it is open
pub least_open : (p : Part) (ps : List Part) → is_open (p ∷ ps) (least_of p ps).head (least_of p ps).site ≡ true
unfolding is_open least_of
least_open p [] = rw (eq-eqb p.head p.head refl, eq-eqb p.site p.site refl)
least_open p (q ∷ qs) = go (precedes p (least_of q qs)) (least_open q qs)
  where
    go : (a : Bool) → is_open (q ∷ qs) (least_of q qs).head (least_of q qs).site ≡ true
        → is_open (p ∷ q ∷ qs) (cond a p (least_of q qs)).head (cond a p (least_of q qs)).site ≡ true
    go true rest = rw (eq-eqb p.head p.head refl, eq-eqb p.site p.site refl)
    go false rest =
        ap (λ (t : Bool). is_at (least_of q qs).head (least_of q qs).site p || t) rest
        ∙ or-true (is_at (least_of q qs).head (least_of q qs).site p)

pub least_low : (p : Part) (ps : List Part) → Low (p ∷ ps) → (least_of p ps).site < 256
least_low p ps low = open_low (p ∷ ps) (least_of p ps).head (least_of p ps).site low (least_open p ps)

-- .. and none that is open is below it
pub least_first : (p : Part) (ps : List Part) (head site : ℕ) → Low (p ∷ ps) → is_open (p ∷ ps) head site ≡ true
    → number (least_of p ps) ≤ part_of head site
unfolding is_open least_of
least_first p [] head site low e =
    open_by p [] head site e (λ is same. rw (is, same) (omega arith)) (λ f. absurd (false≢true f))
least_first p (q ∷ qs) head site low e =
    let least = least_of q qs in
    go (precedes p least)
    (sym (part_rises p.head p.site least.head least.site low.0 (least_low q qs low.1)))
    (λ f. least_first q qs head site low.1 f)
  where
    go : (a : Bool) → a ≡ ltb (number p) (number (least_of q qs))
        → (is_open (q ∷ qs) head site ≡ true → number (least_of q qs) ≤ part_of head site)
        → number (cond a p (least_of q qs)) ≤ part_of head site
    go true is rest =
        let below = ltb-true (number p) (number (least_of q qs)) (sym is) in
        open_by p (q ∷ qs) head site e (λ same also. rw (same, also) (omega arith))
        (λ f. omega (arith, below, rest f))
    go false is rest =
        let above = ltb-false (number p) (number (least_of q qs)) (sym is) in
        open_by p (q ∷ qs) head site e (λ same also. rw (← same, ← also) above) rest
