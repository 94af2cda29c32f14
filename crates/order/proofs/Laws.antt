-- The statements of specs/Laws.antt, proved. Where a row or a column of the table leads to no place that meets a test
-- is computed, step by step.
-- Assumes nothing.
use Rattle.std.specs.Prelude.{Option, Some, None}
use mathlib.Core.Path.{◌≡◌, refl, ap, sym, ◌∙◌}
use mathlib.Core.Bool.{Bool, true, false, not, false≢true}
use Rattle.kinds.specs.declared.Kind.{Kind}
use Rattle.kinds.specs.declared.Kind.TheVariants.{Far, Atr, Mir, Mrr, Pcr, Hbr, Sbr, Rdr, Sdr, Wir, Wrr, Pir, Prr}
use Rattle.kinds.specs.declared.Kind.TheVariants.{Remaining, Custom, Unknown}
use Rattle.order.specs.declared.Place.{Place}
use Rattle.order.specs.declared.Place.TheVariants.{Start, Header, Lot, Setup, Body, Ended}
use Rattle.order.specs.Order.{by_kind, goes}
use Rattle.order.specs.Spelled.{word_of}
use Rattle.order.specs.Laws.{before, ended, opening, BeforeByOpening, EndedByMrr, NeverBack, NeverStart}
use Rattle.order.specs.Laws.{ByColumn}

-- ---- the kinds that the order tells apart

-- what the sentence and the table know of a kind that neither names
pub record Other (k : Kind) : Type 0 where
  pub word : word_of k ≡ 0
  pub alike : (p : Place) → goes p k ≡ goes p Pcr

other_by : (k : Kind) → word_of k ≡ 0 → ((a b c d e f g : Option Place) → by_kind a b c d e f g k ≡ g) → Other k
other_by k word last = record { word = word; alike = go }
  where
    go : (p : Place) → goes p k ≡ goes p Pcr
    go Start = last _ _ _ _ _ _ _
    go Header = last _ _ _ _ _ _ _
    go Lot = last _ _ _ _ _ _ _
    go Setup = last _ _ _ _ _ _ _
    go Body = last _ _ _ _ _ _ _
    go Ended = refl

-- a kind is one of the six that the order names, or any other
module _ (P : Kind → Type 0) (others : (k : Kind) → Other k → P k) where
  pub by_word : P Far → P Atr → P Mir → P Rdr → P Sdr → P Mrr → (k : Kind) → P k
  by_word far atr mir rdr sdr mrr Far = far
  by_word far atr mir rdr sdr mrr Atr = atr
  by_word far atr mir rdr sdr mrr Mir = mir
  by_word far atr mir rdr sdr mrr Rdr = rdr
  by_word far atr mir rdr sdr mrr Sdr = sdr
  by_word far atr mir rdr sdr mrr Mrr = mrr
  by_word far atr mir rdr sdr mrr Pcr = others Pcr (other_by Pcr refl (λ a b c d e f g. refl))
  by_word far atr mir rdr sdr mrr Hbr = others Hbr (other_by Hbr refl (λ a b c d e f g. refl))
  by_word far atr mir rdr sdr mrr Sbr = others Sbr (other_by Sbr refl (λ a b c d e f g. refl))
  by_word far atr mir rdr sdr mrr Pir = others Pir (other_by Pir refl (λ a b c d e f g. refl))
  by_word far atr mir rdr sdr mrr Prr = others Prr (other_by Prr refl (λ a b c d e f g. refl))
  by_word far atr mir rdr sdr mrr Wir = others Wir (other_by Wir refl (λ a b c d e f g. refl))
  by_word far atr mir rdr sdr mrr Wrr = others Wrr (other_by Wrr refl (λ a b c d e f g. refl))
  by_word far atr mir rdr sdr mrr (Remaining k) =
      others (Remaining k) (other_by (Remaining k) refl (λ a b c d e f g. refl))
  by_word far atr mir rdr sdr mrr Custom = others Custom (other_by Custom refl (λ a b c d e f g. refl))
  by_word far atr mir rdr sdr mrr Unknown = others Unknown (other_by Unknown refl (λ a b c d e f g. refl))

-- ---- steps that miss

-- a step that leads nowhere, or to a place that fails a test
abbrev misses : (Place → Bool) → Option Place → Bool
misses test (Some p) = not (test p)
misses test None = true

missed : (test : Place → Bool) (s : Option Place) (q : Place) → misses test s ≡ true → s ≡ Some q → test q ≡ true → ⊥
missed test s q m e h =
    let fails : not (test q) ≡ true = rw e at m in
    false≢true (rw h at fails)

module _ (test : Place → Bool) where
  -- a column: one kind, from every place
  column : (k : Kind) → misses test (goes Start k) ≡ true → misses test (goes Header k) ≡ true
      → misses test (goes Lot k) ≡ true → misses test (goes Setup k) ≡ true → misses test (goes Body k) ≡ true
      → (p q : Place) → goes p k ≡ Some q → test q ≡ true → ⊥
  column k start header lot setup body Start q = missed test (goes Start k) q start
  column k start header lot setup body Header q = missed test (goes Header k) q header
  column k start header lot setup body Lot q = missed test (goes Lot k) q lot
  column k start header lot setup body Setup q = missed test (goes Setup k) q setup
  column k start header lot setup body Body q = missed test (goes Body k) q body
  column k start header lot setup body Ended q = missed test None q refl

  -- a row: one place, by every kind
  row : (p : Place) → misses test (goes p Far) ≡ true → misses test (goes p Atr) ≡ true
      → misses test (goes p Mir) ≡ true → misses test (goes p Rdr) ≡ true → misses test (goes p Sdr) ≡ true
      → misses test (goes p Mrr) ≡ true → misses test (goes p Pcr) ≡ true
      → (q : Place) (k : Kind) → goes p k ≡ Some q → test q ≡ true → ⊥
  row p far atr mir rdr sdr mrr rest q k =
      missed test (goes p k) q
      (by_word (λ (j : Kind). misses test (goes p j) ≡ true) (λ j o. rw (o.alike p) rest)
      far atr mir rdr sdr mrr k)

-- ---- the laws

pub before_by_opening : BeforeByOpening
before_by_opening p q =
    by_word (λ (j : Kind). goes p j ≡ Some q → before q ≡ true → opening j ≡ true)
    (λ j o e h. absurd (column before Pcr refl refl refl refl refl p q (sym (o.alike p) ∙ e) h))
    (λ e h. refl) (λ e h. refl) (λ e h. refl) (λ e h. refl) (λ e h. refl)
    (λ e h. absurd (column before Mrr refl refl refl refl refl p q e h))

pub ended_by_mrr : EndedByMrr
ended_by_mrr p q =
    by_word (λ (j : Kind). goes p j ≡ Some q → ended q ≡ true → j ≡ Mrr)
    (λ j o e h. absurd (column ended Pcr refl refl refl refl refl p q (sym (o.alike p) ∙ e) h))
    (λ e h. absurd (column ended Far refl refl refl refl refl p q e h))
    (λ e h. absurd (column ended Atr refl refl refl refl refl p q e h))
    (λ e h. absurd (column ended Mir refl refl refl refl refl p q e h))
    (λ e h. absurd (column ended Rdr refl refl refl refl refl p q e h))
    (λ e h. absurd (column ended Sdr refl refl refl refl refl p q e h))
    (λ e h. refl)

pub never_back : NeverBack
never_back Start q k e h = refl
never_back Header q k e h = refl
never_back Lot q k e h = refl
never_back Setup q k e h = refl
never_back Body q k e h = absurd (row before Body refl refl refl refl refl refl refl q k e h)
never_back Ended q k e h = absurd (missed before None q refl e h)

abbrev start : Place → Bool
start Start = true
start Header = false
start Lot = false
start Setup = false
start Body = false
start Ended = false

never_start_at : (p q : Place) (k : Kind) → goes p k ≡ Some q → start q ≡ true → ⊥
never_start_at Start q k = row start Start refl refl refl refl refl refl refl q k
never_start_at Header q k = row start Header refl refl refl refl refl refl refl q k
never_start_at Lot q k = row start Lot refl refl refl refl refl refl refl q k
never_start_at Setup q k = row start Setup refl refl refl refl refl refl refl q k
never_start_at Body q k = row start Body refl refl refl refl refl refl refl q k
never_start_at Ended q k = missed start None q refl

pub never_start : NeverStart
never_start p q k e h = never_start_at p q k e (ap start h)

-- ---- the columns

pub by_column : ByColumn
by_column Start k = refl
by_column Header k = refl
by_column Lot k = refl
by_column Setup k = refl
by_column Body k = refl
by_column Ended k = refl
