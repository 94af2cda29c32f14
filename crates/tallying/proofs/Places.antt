-- Where an accepted record leaves a stream: in the byte order that was told, and at its end exactly if it is an MRR.
-- Assumes nothing.
use Rattle.std.specs.Prelude.{Some, None}
use mathlib.Core.Path.{◌≡◌, refl, ap, sym, subst, ◌∙◌}
use mathlib.Core.Bool.{Bool, true, false, false≢true}
use mathlib.Core.List.{List}
use Prim.Native.Nat.{ℕ, ◌+◌, ◌-◌}
use native.Mathlib.Omega.{arith}
use Rattle.numbers.specs.declared.Order.{Order}
use Rattle.kinds.specs.declared.Kind.{Kind}
use Rattle.kinds.specs.declared.Kind.TheVariants.{Mrr}
use Rattle.kinds.specs.Kinds.{kind_of}
use Rattle.frames.specs.Frames.{rec_typ, rec_sub}
use Rattle.order.specs.declared.Place.{Place}
use Rattle.order.specs.declared.Place.TheVariants.{Start, Header, Lot, Setup, Body, Ended}
use Rattle.order.specs.Order.{goes}
use Rattle.order.specs.Laws.{ended as is_ended}
use Rattle.order.proofs.Laws.{by_word, ended_by_mrr, never_start}
use Rattle.session.specs.declared.Session.{Session}
use Rattle.session.specs.declared.Standing.{Standing}
use Rattle.session.specs.declared.Verdict.{Verdict}
use Rattle.session.specs.declared.Verdict.TheVariants.{Refused, Taken, Wanted}
use Rattle.session.specs.Session.{is_start, Follows, parts_of}
use Rattle.session.proofs.Laws.{past_start}
use Rattle.settling.specs.Settling.{changed}
use Rattle.first_record.specs.First.{order_in}
use Rattle.first_record.proofs.Checks.{first_cases}
use Rattle.kind_effects.specs.Effects.{with_pcr, with_part, with_result, with_wafers}
use Rattle.kind_effects.proofs.Cases.{said_cases}
use Rattle.later_records.specs.Later.{at}
use Rattle.later_records.proofs.Checks.{later_cases}
use Rattle.judging.specs.Judge.{verdict_on}
use Rattle.judging.proofs.Laws.{judged_first, judged_later}
use Rattle.tallying.specs.Told.{is_mrr}

-- ---- MRR and the end

mrr_kind : (k : Kind) → is_mrr k ≡ true → k ≡ Mrr
mrr_kind =
    by_word (λ (j : Kind). is_mrr j ≡ true → j ≡ Mrr)
    (λ j o e. absurd (false≢true (rw o.word at e)))
    (λ e. absurd (false≢true e)) (λ e. absurd (false≢true e)) (λ e. absurd (false≢true e))
    (λ e. absurd (false≢true e)) (λ e. absurd (false≢true e))
    (λ e. refl)

nowhere : (q : Place) → None ≡ Some q → is_ended q ≡ true
nowhere q e = let never : ◌≡◌ {A = ℕ} 0 1 = cc in absurd (omega arith)

there : (q : Place) → Some Ended ≡ Some q → is_ended q ≡ true
there q e = let same : Ended ≡ q = cc in subst (λ (p : Place). is_ended p ≡ true) same refl

mrr_ends : (p q : Place) → goes p Mrr ≡ Some q → is_ended q ≡ true
mrr_ends Start q e = nowhere q e
mrr_ends Header q e = nowhere q e
mrr_ends Lot q e = there q e
mrr_ends Setup q e = there q e
mrr_ends Body q e = there q e
mrr_ends Ended q e = nowhere q e

ended_mrr : (p q : Place) (k : Kind) → goes p k ≡ Some q → is_ended q ≡ is_mrr k
ended_mrr p q k to = go (is_ended q) refl (is_mrr k) refl
  where
    go : (a : Bool) → is_ended q ≡ a → (b : Bool) → is_mrr k ≡ b → a ≡ b
    go true e true f = refl
    go false e false f = refl
    go true e false f = absurd (false≢true (sym f ∙ ap is_mrr (ended_by_mrr p q k to e)))
    go false e true f =
        absurd (false≢true (sym e ∙ mrr_ends p q (ap (λ (j : Kind). goes p j) (sym (mrr_kind k f)) ∙ to)))

-- ---- what a verdict tells

abbrev pub kind_in : List ℕ → Kind
kind_in rec = kind_of (rec_typ rec) (rec_sub rec)

pub record Stands (order : Order) (rec : List ℕ) (st : Standing) : Type 0 where
  pub follows : Follows order st
  pub ended : is_ended st.place ≡ is_mrr (kind_in rec)

abbrev pub Leads : Order → Session → List ℕ → Verdict → Type 0
Leads order s rec (Refused a) = Unit
Leads order s rec (Taken change) = Stands order rec (changed s change).standing
Leads order s rec (Wanted change key) = Stands order rec (changed s change).standing

module _ (s : Session) (rec : List ℕ) where
  pub first_leads : is_start s.standing.place ≡ true → is_mrr (kind_in rec) ≡ false
      → Leads (order_in rec) s rec (verdict_on s rec)
  unfolding changed
  first_leads starts other =
      subst (Leads (order_in rec) s rec) (sym (judged_first s.standing s.parts rec starts))
      (first_cases (parts_of s) (Leads (order_in rec) s rec) (λ a own. tt) s.standing rec
      (λ order is. record { follows = (refl, sym is); ended = sym other }))

  pub later_leads : is_start s.standing.place ≡ false → Leads s.standing.order s rec (verdict_on s rec)
  unfolding changed
  later_leads further =
      let st = s.standing in
      let P = Leads st.order s rec in
      subst P (sym (judged_later st s.parts rec further))
      (later_cases st s.parts P (λ a own. tt) rec (λ k q r named to fits.
      let next : Stands st.order rec (at st q) = record {
        follows = (past_start q (never_start st.place q k to), refl);
        ended = ended_mrr st.place q k to ∙ ap is_mrr (sym named);
      } in
      let moved : (t : Standing) → t.place ≡ q → t.order ≡ st.order → Stands st.order rec t
      = λ t is same. record {
        follows = (ap is_start is ∙ next.follows.0, same);
        ended = ap is_ended is ∙ next.ended;
      } in
      said_cases (at st q) s.parts P (λ a own. tt) r (λ quieted. next)
      (λ p is. moved (with_pcr (at st q)) refl refl) (λ p is new few. moved (with_part (at st q)) refl refl)
      (λ p is there few. moved (with_result (at st q)) refl refl) (λ is done. next)
      (λ w is new few. moved (with_wafers (at st q) (st.wafers + 1)) refl refl)
      (λ w is there. moved (with_wafers (at st q) (st.wafers - 1)) refl refl)))
