-- The statements of specs/Plays.antt, proved; and a report by value as the rows that a sequence of calls lists.
-- Assumes nothing.
use mathlib.Core.Path.{◌≡◌, refl, ap}
use mathlib.Core.Bool.{Bool, true, false}
use mathlib.Core.List.{List, [], ◌∷◌}
use Prim.Native.Nat.{ℕ, ◌≤◌}
use native.Mathlib.Omega.{arith}
use lib.ListN.{length}
use lib.Seq.{take-append_seam}
use Rattle.prelude.specs.Choice.{◌unless◌then◌}
use Rattle.prelude.specs.Checks.{Check, checked}
use Rattle.house.specs.declared.House.{House}
use Rattle.house.specs.House.{row_count}
use Rattle.house.specs.Report.{row_at, reported, listed, no_rows, listing}
use Rattle.house.specs.History as history
use Rattle.house.proofs.Reporting.{listing_few, length_listed, filled_listed}
use Rattle.house.specs.declared.Answered.{Answered}
use Rattle.house.specs.declared.Fed.{Fed}
use Rattle.house.specs.declared.Figures as house_figures
use Rattle.house.specs.declared.Listing.{Listing}
use Rattle.house.specs.declared.Row.{Row}
use Rattle.house.specs.Calls.{open_slot, close_slot, deliver, figures_of}
use Rattle.house.specs.Feeding as feeding
use Rattle.house.specs.Feeding.{held_in, fed_with, unfed, fed_to, feed_checks, feed, end_feed}
use Rattle.house.specs.History.{Told, Read}
use Rattle.nights.specs.Night as night
use Rattle.nights.specs.Night.{Night, held_at, Asked, Replied, Took, Next, next_as, feed_done, feed_next}
use Rattle.answers.specs.declared.Answer.{Answer}
use Rattle.asked_calls.specs.declared.Call.{Call}
use Rattle.asked_calls.specs.declared.Call.TheVariants.{Open, Deliver, Report, Close, Figures, Feed, End}
use Rattle.plays.specs.Plays.{asks, holds, listed_as, fed_as, took, played, held_by, leaves}
use Rattle.plays.specs.Plays.{RepliedPlayed, AfterPlayed, PlayedFew}

module _ (h : House) (slot long : ℕ) where
  few : (reported h slot long).rows ≤ row_count
  unfolding listing
  few = listing_few h slot long

  pub listing_played : (carry : List ℕ)
      → listed_as (listing h slot long) h ≡ played h carry (Asked (history.Report slot long))
  unfolding listing played
  listing_played carry =
      let n = (reported h slot long).rows in
      rw (length_listed (row_at h slot) n, filled_listed (row_at h slot) n no_rows few)

-- ---- a night's feed, by what is lent

-- what holds of two refusals, and of what is done, holds of two calls with the same checks
checked_both : {A O Q : Type 0} (P : O → Q → Type 0) (r : A → O) (q : A → Q) (cs : List (Check A)) (d : O) (f : Q)
    → ((a : A) → P (r a) (q a)) → P d f → P (checked r cs d) (checked q cs f)
checked_both P r q [] d f refused done = done
checked_both P r q (c ∷ cs) d f refused done = go c.holds (checked_both P r q cs d f refused done)
  where
    go : (t : Bool) → P (checked r cs d) (checked q cs f)
        → P (r c.answer unless t then checked r cs d) (q c.answer unless t then checked q cs f)
    go true next = next
    go false next = refused c.answer

module _ (n : Night) (slot long : ℕ) (carry chunk : List ℕ) (is : long ≡ length carry)
    (same : held_in n.house slot carry ≡ held_at n slot) where
  feed_both : (P : feeding.Feed → Next → Type 0)
      → ((a : Answer) → P (unfed n.house (held_at n slot) a) (next_as (Took a 0) n))
      → P (fed_to n.house slot (held_at n slot) chunk) (feed_done n slot chunk)
      → P (feed n.house slot carry chunk) (feed_next n slot long chunk)
  unfolding feed feed_next
  feed_both P refused done =
      rw (same, is)
      (checked_both P (unfed n.house (held_at n slot)) (λ (a : Answer). next_as (Took a 0) n)
      (feed_checks n.house slot (length carry)) (fed_to n.house slot (held_at n slot) chunk)
      (feed_done n slot chunk) refused done)

  feed_replies : Took (feed n.house slot carry chunk).answer (feed n.house slot carry chunk).taken
      ≡ (feed_next n slot long chunk).reply
  feed_replies =
      feed_both (λ (f : feeding.Feed) (x : Next). Took f.answer f.taken ≡ x.reply) (λ a. refl) refl

  feed_after : (feed n.house slot carry chunk).house ≡ (feed_next n slot long chunk).night.house
  feed_after = feed_both (λ (f : feeding.Feed) (x : Next). f.house ≡ x.night.house) (λ a. refl) refl

-- ---- each call played, where its answer is known

module _ (h : House) (carry : List ℕ) (call : Call) (bytes : List ℕ) where
  pub open_played : {slot floor : ℕ} (d : Answered) → call ≡ Open slot floor → d ≡ open_slot h slot floor
      → holds (Told d.answer) d.house ≡ played h carry (asks call bytes)
  unfolding played
  open_played d is e = rw (is, e)

  pub deliver_played : {slot : ℕ} (d : Answered) → call ≡ Deliver slot → d ≡ deliver h slot bytes
      → holds (Told d.answer) d.house ≡ played h carry (asks call bytes)
  unfolding played
  deliver_played d is e = rw (is, e)

  pub report_played : {slot long : ℕ} (list : Listing) → call ≡ Report slot long → list ≡ listing h slot long
      → listed_as list h ≡ played h carry (asks call bytes)
  report_played {slot} {long} list is e = rw (is, e) (listing_played h slot long carry)

  pub close_played : {slot : ℕ} (d : Answered) → call ≡ Close slot → d ≡ close_slot h slot
      → holds (Told d.answer) d.house ≡ played h carry (asks call bytes)
  unfolding played
  close_played d is e = rw (is, e)

  pub figures_played : (found : house_figures.Figures) → call ≡ Figures → found ≡ figures_of h
      → holds (Read found) h ≡ played h carry (asks call bytes)
  unfolding played
  figures_played found is e = rw (is, e)

  pub feed_played : {slot long : ℕ} (f : Fed) (held : List ℕ) → call ≡ Feed slot long
      → fed_with f held ≡ feed h slot carry bytes → fed_as f ≡ played h carry (asks call bytes)
  unfolding played
  feed_played f held is e = rw is (ap took e)

  pub feed_leaves : {slot long : ℕ} (f : Fed) (p : House) (after : List ℕ) → call ≡ Feed slot long → p ≡ f.house
      → fed_with f (held_in f.house slot after) ≡ feed h slot carry bytes
      → held_by call p after ≡ leaves h carry call bytes
  feed_leaves f p after is same e = rw (is, same) (ap (λ (x : feeding.Feed). x.held) e)

  pub end_played : {slot : ℕ} (d : Answered) (a : Answer) → call ≡ End slot → d ≡ record { answer = a; house = h }
      → a ≡ end_feed h slot → holds (Told d.answer) d.house ≡ played h carry (asks call bytes)
  unfolding played
  end_played d a is e f = rw (is, e, f)

-- ---- the reply and the house that stand in what comes back

pub after_played : AfterPlayed
unfolding played
after_played n (Asked (history.Open slot floor)) carry lent = refl
after_played n (Asked (history.Deliver slot rec)) carry lent = refl
after_played n (Asked (history.Report slot long)) carry lent = refl
after_played n (Asked (history.Close slot)) carry lent = refl
after_played n (Asked history.Figured) carry lent = refl
after_played n (night.Feed slot long chunk) carry lent = feed_after n slot long carry chunk lent.0 lent.1
after_played n (night.End slot) carry lent = refl

pub replied_played : RepliedPlayed
unfolding played
replied_played n (Asked (history.Open slot floor)) carry lent = refl
replied_played n (Asked (history.Deliver slot rec)) carry lent = refl
replied_played n (Asked (history.Report slot long)) carry lent =
    ap (λ (rows : List Row). Replied (history.Listed (reported n.house slot long).answer rows))
    (take-append_seam (listed (row_at n.house slot) (reported n.house slot long).rows) _)
replied_played n (Asked (history.Close slot)) carry lent = refl
replied_played n (Asked history.Figured) carry lent = refl
replied_played n (night.Feed slot long chunk) carry lent = feed_replies n slot long carry chunk lent.0 lent.1
replied_played n (night.End slot) carry lent = refl

pub played_few : PlayedFew
unfolding played
played_few h carry (Asked (history.Open slot floor)) = omega arith
played_few h carry (Asked (history.Deliver slot rec)) = omega arith
played_few h carry (Asked (history.Report slot long)) =
    omega (arith, length_listed (row_at h slot) (reported h slot long).rows, few h slot long)
played_few h carry (Asked (history.Close slot)) = omega arith
played_few h carry (Asked history.Figured) = omega arith
played_few h carry (night.Feed slot long chunk) = omega arith
played_few h carry (night.End slot) = omega arith
