-- What an accepted first record is (specs/Laws.antt, FirstAccepted and FirstInPlace), proved.
-- Assumes nothing.
use Rattle.std.specs.Prelude.{Option, Some, None}
use mathlib.Core.Path.{◌≡◌, refl, sym}
use mathlib.Core.Bool.{Bool, true, false, cond, not, ◌&&◌}
use mathlib.Core.List.{List, [], ◌∷◌}
use Prim.Native.Nat.{ℕ}
use native.Mathlib.Omega.{arith}
use borrow.Author.Tests.{eqb-true, eqb-false, eq-eqb, ne_eqb, not-true}
use lib.Dec.{eqb, leb}
use lib.ListN.{length, drop, length-drop}
use Rattle.prelude.specs.Each.{each}
use Rattle.prelude.proofs.Both.{both_left, both_right}
use Rattle.prelude.proofs.Checks.{choice_by}
use Rattle.numbers.specs.declared.Order.{Order}
use Rattle.numbers.specs.Orders.{order_of}
use Rattle.kinds.specs.declared.Pair.{Pair}
use Rattle.kinds.specs.declared.Kind.{Kind}
use Rattle.kinds.specs.declared.Kind.TheVariants.{Far, Custom, Unknown}
use Rattle.kinds.specs.Kinds.{pairs, named, has_type, custom, beyond_table, kind_of}
use Rattle.kinds.proofs.Laws.{named_cons}
use Rattle.frames.specs.Frames.{header, rec_len, rec_typ, rec_sub, body, is_record}
use Rattle.fields.specs.Tables.{far}
use Rattle.bodies.specs.Bodies.{byte_of, read_body, fitting}
use Rattle.order.specs.declared.Place.TheVariants.{Start}
use Rattle.order.specs.Order.{goes, in_place}
use Rattle.session.specs.declared.Standing.{Standing}
use Rattle.session.specs.declared.Verdict.{Verdict}
use Rattle.session.specs.Verdicts.{verdict_number}
use Rattle.first_record.specs.First.{judge_in, judge_ordered, judge_first, order_in}
use Rattle.first_record.specs.Laws.{FirstRight, FirstAccepted, FirstInPlace}

-- ---- its tests

-- two bytes behind the header are a FAR's body
far_fits : (order : Order) (b : List ℕ) → length b ≡ 2 → fitting (read_body order Far b) ≡ true
unfolding read_body
far_fits order [] e = absurd (omega arith)
far_fits order (x ∷ []) e = absurd (omega arith)
far_fits order (x ∷ y ∷ []) e = refl
far_fits order (x ∷ y ∷ z ∷ rest) e = absurd (omega arith)

far_kind : kind_of 0 10 ≡ Far
unfolding kind_of named beyond_table has_type
far_kind = refl

module _ (rec : List ℕ) (pair : (eqb (rec_typ rec) 0 && eqb (rec_sub rec) 10) ≡ true) (six : eqb (length rec) 6 ≡ true)
    (two : eqb (rec_len (order_in rec) rec) 2 ≡ true) where
  first_right : FirstRight rec
  unfolding is_record
  first_right =
      let long = eqb-true (length rec) 6 six in
      let typ = eqb-true (rec_typ rec) 0 (both_left (eqb (rec_typ rec) 0) (eqb (rec_sub rec) 10) pair) in
      let sub = eqb-true (rec_sub rec) 10 (both_right (eqb (rec_typ rec) 0) (eqb (rec_sub rec) 10) pair) in
      record {
        one = rw (long, eqb-true (rec_len (order_in rec) rec) 2 two);
        far = rw (typ, sub) far_kind;
        fits = far_fits (order_in rec) (body rec) (omega (arith, length-drop header rec));
      }

-- ---- its judgement

-- what is to be shown of every verdict
abbrev Accepts : List ℕ → Verdict → Type 0
Accepts rec v = verdict_number v ≡ 0 → FirstRight rec

by_order : (st : Standing) (rec : List ℕ) → (eqb (rec_typ rec) 0 && eqb (rec_sub rec) 10) ≡ true
    → eqb (length rec) 6 ≡ true → (o : Option Order) → order_of (byte_of far 0 (body rec)) ≡ o
    → Accepts rec (judge_ordered st rec o)
unfolding judge_in
by_order st rec pair six None told = λ e. absurd (omega arith)
by_order st rec pair six (Some order) told =
    choice_by (Accepts rec) _ (eqb (rec_len order rec) 2) _ (λ e. absurd (omega arith)) (λ two.
    choice_by (Accepts rec) _ (eqb (byte_of far 1 (body rec)) 4) _ (λ e. absurd (omega arith)) (λ version.
    λ e. first_right rec pair six (rw told two)))

pub first_accepted : FirstAccepted
unfolding judge_first
first_accepted st rec =
    choice_by (Accepts rec) _ (leb header (length rec)) _ (λ e. absurd (omega arith)) (λ long.
    choice_by (Accepts rec) _ (eqb (rec_typ rec) 0 && eqb (rec_sub rec) 10) _ (λ e. absurd (omega arith)) (λ pair.
    choice_by (Accepts rec) _ (eqb (length rec) 6) _ (λ e. absurd (omega arith)) (λ six.
    by_order st rec pair six (order_of (byte_of far 0 (body rec))) refl)))

-- ---- its kind

same_eqb : (a b : ℕ) → eqb a b ≡ eqb b a
same_eqb a b = go (eqb a b) refl
  where
    go : (t : Bool) → eqb a b ≡ t → t ≡ eqb b a
    go true e = sym (eq-eqb b a (sym (eqb-true a b e)))
    go false e = sym (ne_eqb b a (λ f. eqb-false a b e (sym f)))

-- a kind with which no stream begins
abbrev never : Kind → Bool
never k = not (in_place (goes Start k))

either : (t : Bool) (j k : Kind) → never j ≡ true → never k ≡ true → never (cond t j k) ≡ true
either true j k a b = a
either false j k a b = b

none_begins : (ps : List Pair) (typ sub : ℕ) (k : Kind) → each (λ (p : Pair). never p.kind) ps ≡ true
    → never k ≡ true → never (named ps typ sub k) ≡ true
unfolding named
none_begins [] typ sub k e last = last
none_begins (p ∷ ps) typ sub k e last =
    rw (named_cons p ps typ sub k)
    (either (eqb p.typ typ && eqb p.sub sub) p.kind (named ps typ sub k)
    (both_left (never p.kind) (each (λ (q : Pair). never q.kind) ps) e)
    (none_begins ps typ sub k (both_right (never p.kind) (each (λ (q : Pair). never q.kind) ps) e) last))

none_beyond : (typ sub : ℕ) → never (beyond_table typ sub) ≡ true
unfolding beyond_table
none_beyond typ sub = either (custom typ sub) Custom Unknown refl refl

-- FAR heads the table of pairs
kind_first : (typ sub : ℕ)
    → kind_of typ sub
    ≡ cond (eqb 0 typ && eqb 10 sub) Far (named (drop 1 pairs) typ sub (beyond_table typ sub))
unfolding kind_of
kind_first typ sub = named_cons _ (drop 1 pairs) typ sub (beyond_table typ sub)

pub first_in_place : FirstInPlace
first_in_place typ sub =
    rw (kind_first typ sub, same_eqb typ 0, same_eqb sub 10)
    (go (eqb 0 typ && eqb 10 sub) (named (drop 1 pairs) typ sub (beyond_table typ sub))
    (none_begins (drop 1 pairs) typ sub (beyond_table typ sub) refl (none_beyond typ sub)))
  where
    go : (t : Bool) (k : Kind) → never k ≡ true → in_place (goes Start (cond t Far k)) ≡ t
    go true k e = refl
    go false k e = not-true (in_place (goes Start k)) e
