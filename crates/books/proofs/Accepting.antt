-- What holds of the accepted records of a slot, over calls from a fresh house, by induction: it is enough that it holds
-- of none, and is kept by a record that is accepted.
-- Assumes nothing.
use mathlib.Core.Path.{◌≡◌, refl, ap, sym, subst, ◌∙◌}
use mathlib.Core.Bool.{Bool, true, false, cond, ◌&&◌}
use mathlib.Core.List.{List, [], ◌∷◌, ◌++◌, append_assoc, append-nil}
use Prim.Native.Nat.{ℕ}
use borrow.Author.Tests.{eqb-true}
use lib.Dec.{ltb}
use Rattle.prelude.specs.Checks.{◌else◌, number_by}
use Rattle.prelude.proofs.Both.{both_left, both_right}
use Rattle.numbers.specs.Laws.{Bytes}
use Rattle.rows.specs.Rows.{slot_count}
use Rattle.house.specs.declared.House.{House}
use Rattle.house.specs.House.{fresh}
use Rattle.house.specs.History.{Call, Open, Deliver, Report, Close, Figured, Said, said, reply, after, reached, history}
use Rattle.house.specs.History.{names, Sent, AllSent}
use Rattle.house.proofs.Counting.{holds}
use Rattle.house.specs.Tally.{is_done}
use Rattle.books.specs.Book.{book_of}
use Rattle.books.specs.Told.{number_told, record_checks, room_to}
use Rattle.books.specs.Meaning.{taken_by, taken, accepted_from, accepted}
use Rattle.books.proofs.Told.{deliver_told}

-- a record that is accepted has passed its checks
pub done_checks : (calls : List Call) (slot : ℕ) (rec : List ℕ) → AllSent calls → Bytes rec
    → number_told calls (Deliver slot rec) ≡ 0
    → let es = history fresh calls in
    let b = book_of slot es in
    number_by (record_checks b rec ++ ((room_to es b rec else 13) ∷ [])) ≡ 0
done_checks calls slot rec sent bytes done =
    let inside = holds (ltb slot slot_count) _ 0 (sym (deliver_told calls slot rec sent bytes) ∙ done) in
    (holds (book_of slot (history fresh calls)).opened _ 1 inside.1).1

-- ---- one call more

history_on : (h : House) (calls : List Call) (c : Call)
    → history h (calls ++ c ∷ []) ≡ history h calls ++ said c (reply (reached h calls) c) ∷ []
history_on h [] c = refl
history_on h (d ∷ calls) c = ap (λ (es : List Said). said d (reply h d) ∷ es) (history_on (after h d) calls c)

accepted_on : (slot : ℕ) (es : List Said) (e : Said) (recs : List (List ℕ))
    → accepted_from slot (es ++ e ∷ []) recs ≡ taken slot e (accepted_from slot es recs)
accepted_on slot [] e recs = refl
accepted_on slot (d ∷ es) e recs = accepted_on slot es e (taken slot d recs)

sent_first : (past rest : List Call) → AllSent (past ++ rest) → AllSent past
sent_first [] rest sent = tt
sent_first (c ∷ past) rest sent = (sent.0, sent_first past rest sent.1)

sent_next : (past rest : List Call) (c : Call) → AllSent (past ++ c ∷ rest) → Sent c
sent_next [] rest c sent = sent.0
sent_next (d ∷ past) rest c sent = sent_next past rest c sent.1

-- ---- all calls

abbrev recs_of : ℕ → List Call → List (List ℕ)
recs_of slot calls = accepted slot (history fresh calls)

module _ (P : List (List ℕ) → Type 0) (slot : ℕ) (start : P [])
    (one : (calls : List Call) (rec : List ℕ) → AllSent calls → Bytes rec → number_told calls (Deliver slot rec) ≡ 0
    → P (accepted slot (history fresh calls)) → P (rec ∷ accepted slot (history fresh calls))) where
  by_done : (calls : List Call) (c : Call) → AllSent calls → Sent c → names slot c ≡ true → number_told calls c ≡ 0
      → P (recs_of slot calls) → P (taken_by c (recs_of slot calls))
  by_done calls (Open i floor) sent bytes own done p = start
  by_done calls (Deliver i rec) sent bytes own done p =
      let same = eqb-true i slot own in
      one calls rec sent bytes (rw same at done) p
  by_done calls (Report i long) sent bytes own done p = p
  by_done calls (Close i) sent bytes own done p = start
  by_done calls Figured sent bytes own done p = p

  by_call : (calls : List Call) (c : Call) → AllSent calls → Sent c → P (recs_of slot calls)
      → P (recs_of slot (calls ++ c ∷ []))
  by_call calls c sent bytes p =
      subst P (sym (ap (accepted slot) (history_on fresh calls c) ∙ accepted_on slot (history fresh calls) e []))
      (go (names slot c && is_done e) refl)
    where
      e : Said
      e = said c (reply (reached fresh calls) c)

      go : (t : Bool) → (names slot c && is_done e) ≡ t → P (cond t (taken_by c (recs_of slot calls)) (recs_of slot calls))
      go false is = p
      go true is =
          by_done calls c sent bytes (both_left (names slot c) (is_done e) is)
          (eqb-true (number_told calls c) 0 (both_right (names slot c) (is_done e) is)) p

  by_rest : (past rest : List Call) → AllSent (past ++ rest) → P (recs_of slot past) → P (recs_of slot (past ++ rest))
  by_rest past [] sent p = subst (λ (calls : List Call). P (recs_of slot calls)) (sym (append-nil past)) p
  by_rest past (c ∷ rest) sent p =
      let next : (past ++ c ∷ []) ++ rest ≡ past ++ c ∷ rest = append_assoc past (c ∷ []) rest in
      subst (λ (calls : List Call). P (recs_of slot calls)) next
      (by_rest (past ++ c ∷ []) rest (subst AllSent (sym next) sent)
      (by_call past c (sent_first past (c ∷ rest) sent) (sent_next past rest c sent) p))

  pub by_accepted : (calls : List Call) → AllSent calls → P (accepted slot (history fresh calls))
  by_accepted calls sent = by_rest [] calls sent start
