-- What a book lists and what a session's cells hold, open parts and open wafers alike: a list of heads and sites, and
-- the numbers that these are.
-- Assumes nothing.
use mathlib.Core.Path.{◌≡◌, refl, ap, ap₂, sym, ◌∙◌}
use mathlib.Core.Bool.{Bool, true, false, not, ◌&&◌, ◌||◌, false≢true, or-true}
use mathlib.Core.List.{List, [], ◌∷◌, map}
use Prim.Native.Nat.{ℕ, ◌+◌, ◌-◌, ◌%◌, ◌<◌}
use native.Mathlib.Omega.{arith}
use borrow.Author.Tests.{eq-eqb, eqb-true}
use lib.Dec.{eqb}
use lib.ListN.{length}
use Rattle.rising.specs.Rising.{rising, rank, held, inserted, removed}
use Rattle.rising.proofs.Laws.{held_insert, held_remove}
use Rattle.session.specs.Session.{part_of, wafer_head}
use Rattle.session.proofs.Keys.{part_same}
use Rattle.session.proofs.Wafers.{wafer_on}
use Rattle.books.specs.Book.{Part, part, is_at, is_open, without, on_head}
use Rattle.books.proofs.Parts.{open_without, Distinct, length_without, distinct_without, Low, low_without}
use Rattle.books.proofs.Parts.{open_by}

pub record Lists (ps : List Part) (n : ℕ) (xs : List ℕ) : Type 0 where
  pub many : length ps ≡ n
  pub are : (head site : ℕ) → site < 256 → is_open ps head site ≡ held (part_of head site) xs
  pub distinct : Distinct ps
  pub low : Low ps

pub lists_none : Lists [] 0 []
unfolding is_open held
lists_none = record { many = refl; are = λ head site low. refl; distinct = tt; low = tt }

module _ (ps : List Part) (n : ℕ) (xs : List ℕ) (l : Lists ps n xs) (head site : ℕ) (small : site < 256) where
  abbrev number : ℕ
  number = part_of head site

  pub lists_opened : (at : ℕ) → held number xs ≡ false → Lists (part head site ∷ ps) (n + 1) (inserted xs at number)
  unfolding is_open
  lists_opened at new =
      record {
        many = omega (arith, l.many);
        are = λ h s low.
            ap₂ ◌||◌ (sym (part_same head site h s small low)) (l.are h s low)
            ∙ sym (held_insert (part_of h s) xs at number);
        distinct = (l.are head site small ∙ new, l.distinct);
        low = (small, l.low);
      }

  pub lists_closed : rising xs ≡ true → held number xs ≡ true
      → Lists (without head site ps) (n - 1) (removed xs (rank number xs) 1)
  lists_closed rises there =
      record {
        many = omega (arith, l.many, length_without head site ps l.distinct (l.are head site small ∙ there));
        are = λ h s low.
            open_without head site ps h s
            ∙ ap₂ (λ (a c : Bool). not a && c) (sym (part_same head site h s small low)) (l.are h s low)
            ∙ sym (held_remove (part_of h s) number xs rises there);
        distinct = distinct_without head site ps l.distinct;
        low = low_without head site ps l.low;
      }

-- ---- whether one is open on a head

-- a site, which is one byte, of which something is so
pub record Sited (P : ℕ → Type 0) : Type 0 where
  pub site : ℕ
  pub small : site < 256
  pub there : P site

on_open : (ps : List Part) (head site : ℕ) → is_open ps head site ≡ true → on_head ps head ≡ true
unfolding is_open on_head
on_open [] head site e = absurd (false≢true e)
on_open (p ∷ ps) head site e =
    open_by p ps head site e (λ is same. rw (eq-eqb p.head head is))
    (λ f. ap (λ (t : Bool). eqb p.head head || t) (on_open ps head site f) ∙ or-true (eqb p.head head))

open_on : (ps : List Part) (head : ℕ) → Low ps → on_head ps head ≡ true
    → Sited (λ (site : ℕ). is_open ps head site ≡ true)
unfolding is_open on_head
open_on [] head low e = absurd (false≢true e)
open_on (p ∷ ps) head low e = go (eqb p.head head) refl e (open_on ps head low.1)
  where
    go : (t : Bool) → eqb p.head head ≡ t → (t || on_head ps head) ≡ true
        → (on_head ps head ≡ true → Sited (λ (site : ℕ). is_open ps head site ≡ true))
        → Sited (λ (site : ℕ). is_open (p ∷ ps) head site ≡ true)
    go true is f more =
        record { site = p.site; small = low.0; there = rw (is, eq-eqb p.site p.site refl) }
    go false is f more =
        let rest = more f in
        record {
          site = rest.site;
          small = rest.small;
          there = ap (λ (t : Bool). is_at head rest.site p || t) rest.there ∙ or-true (is_at head rest.site p);
        }

held_head : (xs : List ℕ) (head : ℕ) → held head (map wafer_head xs) ≡ true
    → Sited (λ (site : ℕ). held (part_of head site) xs ≡ true)
unfolding held
held_head [] head e = absurd (false≢true e)
held_head (x ∷ xs) head e = go (eqb (wafer_head x) head) refl e (held_head xs head)
  where
    go : (t : Bool) → eqb (wafer_head x) head ≡ t → (t || held head (map wafer_head xs)) ≡ true
        → (held head (map wafer_head xs) ≡ true → Sited (λ (site : ℕ). held (part_of head site) xs ≡ true))
        → Sited (λ (site : ℕ). held (part_of head site) (x ∷ xs) ≡ true)
    go true is f more =
        let same = eqb-true (wafer_head x) head is in
        record {
          site = x % 256;
          small = omega arith;
          there = rw (eq-eqb x (part_of head (x % 256)) (omega (arith, same)));
        }
    go false is f more =
        let rest = more f in
        record {
          site = rest.site;
          small = rest.small;
          there =
              ap (λ (t : Bool). eqb x (part_of head rest.site) || t) rest.there
              ∙ or-true (eqb x (part_of head rest.site));
        }

-- tests of which each holds where the other does are the same
both_ways : (a b : Bool) → (a ≡ true → b ≡ true) → (b ≡ true → a ≡ true) → a ≡ b
both_ways true b f g = sym (f refl)
both_ways false true f g = g refl
both_ways false false f g = refl

pub lists_head : (ps : List Part) (n : ℕ) (xs : List ℕ) → Lists ps n xs → (head : ℕ)
    → on_head ps head ≡ held head (map wafer_head xs)
lists_head ps n xs l head =
    both_ways (on_head ps head) (held head (map wafer_head xs))
    (λ e. let is = open_on ps head l.low e in
    wafer_on head is.site xs is.small (sym (l.are head is.site is.small) ∙ is.there))
    (λ e. let is = held_head xs head e in
    on_open ps head is.site (l.are head is.site is.small ∙ is.there))
