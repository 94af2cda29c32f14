-- The order of a report, as facts on heads, sites and bins.
--
--   Below    one result before another: by its head, by its site, or by its bin
--   placed   of two results one is before the other, or they are the same
-- Assumes nothing.
use mathlib.Core.Path.{◌≡◌, refl, sym, ap, ◌∙◌}
use mathlib.Core.Bool.{true, false, ◌&&◌, true≢false}
use mathlib.Core.List.{List, [], ◌∷◌}
use Prim.Native.Nat.{ℕ, ◌<◌}
use native.Mathlib.Omega.{arith}
use borrow.Author.Tests.{eqb-true, lt-ltb, le-ltb, eq-eqb, ne_eqb}
use lib.Dec.{eqb}
use Rattle.prelude.proofs.Both.{both_left, both_right}
use Rattle.session.proofs.Keys.{three_ways}
use Rattle.house.specs.declared.Row.{Row}
use Rattle.tallies.specs.Results.{PartResult, same, below, result_in, before_all}

pub data Below (r q : PartResult) : Type 0 where
  by_head : r.head < q.head → Below r q
  by_site : r.head ≡ q.head → r.site < q.site → Below r q
  by_bin : r.head ≡ q.head → r.site ≡ q.site → r.bin < q.bin → Below r q

-- ---- the same

abbrev result : ℕ → ℕ → ℕ → PartResult
result head site bin = record { head = head; site = site; bin = bin }

pub alike : (r q : PartResult) → r.head ≡ q.head → r.site ≡ q.site → r.bin ≡ q.bin → r ≡ q
alike r q h s b =
    ap (λ (x : ℕ). result x r.site r.bin) h
    ∙ ap (λ (x : ℕ). result q.head x r.bin) s
    ∙ ap (λ (x : ℕ). result q.head q.site x) b

pub same_told : (r q : PartResult) → same r q ≡ true → r ≡ q
same_told r q e =
    let sites = eqb r.site q.site in
    let bins = eqb r.bin q.bin in
    let rest = both_right (eqb r.head q.head) (sites && bins) e in
    alike r q (eqb-true r.head q.head (both_left (eqb r.head q.head) (sites && bins) e))
    (eqb-true r.site q.site (both_left sites bins rest))
    (eqb-true r.bin q.bin (both_right sites bins rest))

pub same_own : (r : PartResult) → same r r ≡ true
same_own r = rw (eq-eqb r.head r.head refl, eq-eqb r.site r.site refl, eq-eqb r.bin r.bin refl)

-- ---- before

module _ (r q : PartResult) where
  pub below_is : Below r q → below r q ≡ true
  below_is (by_head h) = rw (lt-ltb r.head q.head h)
  below_is (by_site e h) =
      rw (le-ltb r.head q.head (omega arith), eq-eqb r.head q.head e, lt-ltb r.site q.site h)
  below_is (by_bin e f h) =
      rw (
        le-ltb r.head q.head (omega arith),
        eq-eqb r.head q.head e,
        le-ltb r.site q.site (omega arith),
        eq-eqb r.site q.site f,
        lt-ltb r.bin q.bin h,
      )

  pub below_apart : Below r q → same r q ≡ false
  below_apart (by_head h) = rw (ne_eqb r.head q.head (omega arith))
  below_apart (by_site e h) = rw (eq-eqb r.head q.head e, ne_eqb r.site q.site (omega arith))
  below_apart (by_bin e f h) =
      rw (
        eq-eqb r.head q.head e,
        eq-eqb r.site q.site f,
        ne_eqb r.bin q.bin (omega arith),
      )

  -- one that is behind is not before, nor is one that is the same
  pub behind_not : Below q r → below r q ≡ false
  behind_not (by_head h) = rw (le-ltb r.head q.head (omega arith), ne_eqb r.head q.head (omega arith))
  behind_not (by_site e h) =
      rw (
        le-ltb r.head q.head (omega arith),
        eq-eqb r.head q.head (sym e),
        le-ltb r.site q.site (omega arith),
        ne_eqb r.site q.site (omega arith),
      )
  behind_not (by_bin e f h) =
      rw (
        le-ltb r.head q.head (omega arith),
        eq-eqb r.head q.head (sym e),
        le-ltb r.site q.site (omega arith),
        eq-eqb r.site q.site (sym f),
        le-ltb r.bin q.bin (omega arith),
      )

  pub behind_apart : Below q r → same r q ≡ false
  behind_apart (by_head h) = rw (ne_eqb r.head q.head (omega arith))
  behind_apart (by_site e h) = rw (eq-eqb r.head q.head (sym e), ne_eqb r.site q.site (omega arith))
  behind_apart (by_bin e f h) =
      rw (
        eq-eqb r.head q.head (sym e),
        eq-eqb r.site q.site (sym f),
        ne_eqb r.bin q.bin (omega arith),
      )

pub below_own : (r : PartResult) → below r r ≡ false
below_own r =
    rw (
      le-ltb r.head r.head (omega arith),
      eq-eqb r.head r.head refl,
      le-ltb r.site r.site (omega arith),
      eq-eqb r.site r.site refl,
      le-ltb r.bin r.bin (omega arith),
    )

-- the way every argument by the order goes
pub placed : {C : Type 0} (r q : PartResult) → (Below r q → C) → (r ≡ q → C) → (Below q r → C) → C
placed {C} r q low same high =
    three_ways r.head q.head
    (λ (h : r.head < q.head). low (by_head h))
    (λ (e : r.head ≡ q.head).
    three_ways r.site q.site
    (λ (h : r.site < q.site). low (by_site e h))
    (λ (f : r.site ≡ q.site).
    three_ways r.bin q.bin
    (λ (h : r.bin < q.bin). low (by_bin e f h))
    (λ (g : r.bin ≡ q.bin). same (alike r q e f g))
    (λ (h : q.bin < r.bin). high (by_bin (sym e) (sym f) h)))
    (λ (h : q.site < r.site). high (by_site (sym e) h)))
    (λ (h : q.head < r.head). high (by_head h))

pub below_told : (r q : PartResult) → below r q ≡ true → Below r q
below_told r q e =
    placed r q
    (λ (b : Below r q). b)
    (λ (s : r ≡ q). absurd (true≢false (sym e ∙ ap (below r) (sym s) ∙ below_own r)))
    (λ (b : Below q r). absurd (true≢false (sym e ∙ behind_not r q b)))

pub below_on : (r q p : PartResult) → Below r q → Below q p → Below r p
below_on r q p (by_head h) (by_head g) = by_head (omega arith)
below_on r q p (by_head h) (by_site e g) = by_head (omega arith)
below_on r q p (by_head h) (by_bin e f g) = by_head (omega arith)
below_on r q p (by_site d h) (by_head g) = by_head (omega arith)
below_on r q p (by_site d h) (by_site e g) = by_site (omega arith) (omega arith)
below_on r q p (by_site d h) (by_bin e f g) = by_site (omega arith) (omega arith)
below_on r q p (by_bin d c h) (by_head g) = by_head (omega arith)
below_on r q p (by_bin d c h) (by_site e g) = by_site (omega arith) (omega arith)
below_on r q p (by_bin d c h) (by_bin e f g) = by_bin (omega arith) (omega arith) (omega arith)

-- ---- before all rows of a list

-- what is before a result is before all that the result is before
pub all_on : (r q : PartResult) (ws : List Row) → Below r q → before_all q ws ≡ true → before_all r ws ≡ true
all_on r q [] b e = refl
all_on r q (w ∷ ws) b e =
    let first = both_left (below q (result_in w)) (before_all q ws) e in
    rw (below_is r (result_in w) (below_on r q (result_in w) b (below_told q (result_in w) first)))
    (all_on r q ws b (both_right (below q (result_in w)) (before_all q ws) e))
