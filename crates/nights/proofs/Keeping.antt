-- A night stays fine (specs/Laws.antt): its house sound, and of each carry the bytes that are held.
-- Assumes nothing.
use mathlib.Core.Path.{◌≡◌, refl, ap, subst, sym, ◌∙◌}
use mathlib.Core.Bool.{Bool, true, not, false≢true}
use mathlib.Core.List.{List, [], ◌∷◌, ◌++◌}
use Prim.Native.Nat.{ℕ, zero, suc, ◌≤◌, ◌<◌}
use native.Mathlib.Omega.{arith}
use lib.Dec.{eqb}
use lib.ListN.{length, get_or, set, drop, replicate, length-set}
use lib.Seq.{get_or-set_same, get_or-set_other, length-take-le}
use Rattle.prelude.specs.All.{all}
use Rattle.prelude.specs.Checks.{Check, ◌else◌, tests, checked}
use Rattle.prelude.proofs.Checks.{checked_by, checked_where, checked_number}
use Rattle.numbers.specs.Laws.{Bytes}
use Rattle.numbers.proofs.Laws.{part_bytes, bytes_append}
use Rattle.answers.specs.declared.Answer.{Answer}
use Rattle.answers.specs.declared.Answer.TheVariants.{Done, NotOneRecord, NotSound}
use Rattle.answers.specs.Numbers.{number_of}
use Rattle.rows.specs.Rows.{slot_count}
use Rattle.rows.proofs.Laws.{same_or}
use Rattle.cutting.specs.Walk.{Walked, Waits, Stops, walked, state_of}
use Rattle.cutting.specs.Laws.{TurnedAt}
use Rattle.cutting.proofs.Walks.{walked_turned}
use Rattle.house.specs.declared.House.{House}
use Rattle.house.specs.House.{carry_length, no_slot, closed_slot, sound}
use Rattle.house.specs.Calls.{slot_at}
use Rattle.house.specs.Feeding.{hearing, poured, fed_to, feed_checks, end_checks, end_feed}
use Rattle.house.specs.History as calls
use Rattle.house.proofs.Calling.{slot_told}
use Rattle.house.proofs.Keeping.{fresh_sound, fresh_shaped, after_keeps, after_shaped}
use Rattle.house.proofs.Feeding as house
use Rattle.house.proofs.Feeding.{itself, can_feed, turned_by, going_from, walk_going, held_less, fed_keeps}
use Rattle.house.proofs.Refusing.{refused_keeps}
use Rattle.house.proofs.Rooms.{sound_other}
use Rattle.nights.specs.Night.{Night, night, fresh, carry_at, held_at, Call, Asked, Feed, End, Took, answer_of, Next}
use Rattle.nights.specs.Night.{next_as, feed_done, feed_next, reply, after, reached, Sent, AllSent}
use Rattle.nights.specs.Laws.{Fine, FreshFine, AfterFine, ReachedFine, NeverUnsound, taken_of, AskedRefused}
use Rattle.nights.specs.Laws.{FeedRefused, FeedNumber, EndNumber, EndKeeps}

-- ---- a fresh night

pub fresh_fine : FreshFine
fresh_fine =
    record {
      shaped = fresh_shaped;
      sound = fresh_sound;
      carries = refl;
      bytes = λ i. rw (none_lent slot_count i) (λ k. omega arith);
      lent = λ i inside. omega (arith, none_held slot_count i);
    }
  where
    none_lent : (n i : ℕ) → ◌≡◌ {A = List ℕ} (get_or (replicate n []) i []) []
    none_lent zero i = refl
    none_lent (suc n) zero = refl
    none_lent (suc n) (suc i) = none_lent n i

    none_held : (n i : ℕ) → (get_or (replicate n closed_slot) i no_slot).held ≡ 0
    none_held zero i = refl
    none_held (suc n) zero = refl
    none_held (suc n) (suc i) = none_held n i

-- ---- what is held

module _ (n : Night) (fine : Fine n) (slot : ℕ) where
  pub held_bytes : Bytes (held_at n slot)
  held_bytes = part_bytes (carry_at n slot) 0 (slot_at n.house slot).held (fine.bytes slot)

  module _ (inside : slot < slot_count) where
    pub held_count : length (held_at n slot) ≡ (slot_at n.house slot).held
    held_count = length-take-le (slot_at n.house slot).held (carry_at n slot) (fine.lent slot inside)

    pub held_short : (slot_at n.house slot).taken ≡ true → length (held_at n slot) ≤ carry_length
    held_short t =
        omega (
          arith,
          held_count,
          (slot_told n.house slot fine.sound (omega (arith, fine.shaped.slots)) t).carry,
        )

  -- a feed that passes its checks
  pub feed_fine : (long : ℕ) (chunk : List ℕ) → Bytes chunk → all (tests (feed_checks n.house slot long)) ≡ true
      → Fine (feed_done n slot chunk).night
  feed_fine long chunk bytes e =
      let ok = can_feed n.house slot long e in
      let held = held_at n slot in
      let f = fed_to n.house slot held chunk in
      let kept = fed_keeps n.house slot held chunk fine.shaped fine.sound ok.inside ok.opened
      held_bytes bytes (held_short ok.inside ok.opened) in
      let own : get_or (set n.carries slot f.held) slot [] ≡ f.held =
      get_or-set_same n.carries slot f.held [] (omega (arith, ok.inside, fine.carries)) in
      record {
        shaped = kept.shaped;
        sound = kept.sound;
        carries = length-set n.carries slot f.held ∙ fine.carries;
        bytes = λ i.
            same_or i slot (λ q. rw (q, own) kept.bytes)
            (λ ne. rw (get_or-set_other n.carries slot i f.held [] ne) (fine.bytes i));
        lent = λ i inside.
            same_or i slot (λ q. rw (q, own) (omega (arith, kept.count)))
            (λ ne.
            rw (get_or-set_other n.carries slot i f.held [] ne)
            (omega (arith, kept.less i ne, fine.lent i inside)));
      }

-- ---- any call

pub after_fine : AfterFine
unfolding feed_next
after_fine n (Asked c) sent fine =
    record {
      shaped = after_shaped n.house c sent fine.shaped;
      sound = after_keeps n.house c sent fine.shaped fine.sound;
      carries = fine.carries;
      bytes = fine.bytes;
      lent = λ i inside. omega (arith, held_less n.house c i, fine.lent i inside);
    }
after_fine n (Feed slot long chunk) sent fine =
    checked_by (λ a. next_as (Took a 0) n) (λ (x : Next). Fine x.night) (feed_checks n.house slot long)
    (feed_done n slot chunk) (λ a. fine) (λ e. feed_fine n fine slot long chunk sent e)
after_fine n (End slot) sent fine = fine

on_fine : (n : Night) (calls : List Call) → AllSent calls → Fine n → Fine (reached n calls)
on_fine n [] sent fine = fine
on_fine n (c ∷ cs) sent fine = on_fine (after n c) cs sent.1 (after_fine n c sent.0 fine)

pub reached_fine : ReachedFine
reached_fine calls sent = on_fine fresh calls sent fresh_fine

-- ---- 15 is never given

abbrev Other : Answer → Type 0
Other a = a ≡ NotSound → ⊥

abbrev another : Answer → Bool
another a = not (eqb (number_of a) 15)

another_other : (a : Answer) → another a ≡ true → Other a
another_other a e is = false≢true (sym (ap another is) ∙ e)

-- a record is refused by a house that is sound
stopped_other : (slot n : ℕ) (w : Walked House Answer) → sound (state_of w) ≡ true → TurnedAt (hearing slot) w
    → Other (poured n w).answer
stopped_other slot n (Waits h part) e is = another_other Done refl
stopped_other slot n (Stops h r a rest) e is =
    turned_by Other slot h r a is (another_other NotOneRecord refl) (λ ne. sound_other h e (calls.Deliver slot r))

-- a house that is sound passes the first check
first_holds : {O : Type 0} (refuse : Answer → O) (h : House) (cs : List (Check Answer)) (done : O) → sound h ≡ true
    → checked refuse ((sound h else NotSound) ∷ cs) done ≡ checked refuse cs done
first_holds refuse h cs done e = rw e

reply_other : (n : Night) (c : Call) → Fine n → Sent c → Other (answer_of (reply n c))
unfolding feed_next end_feed
reply_other n (Asked c) fine sent = sound_other n.house fine.sound c
reply_other n (Feed slot long chunk) fine sent =
    let rest = drop 1 (feed_checks n.house slot long) in
    let refuse : Answer → Next = λ a. next_as (Took a 0) n in
    subst (λ (x : Next). Other (answer_of x.reply))
    (sym (first_holds refuse n.house rest (feed_done n slot chunk) fine.sound))
    (checked_where refuse (λ (x : Next). Other (answer_of x.reply)) another rest (feed_done n slot chunk) refl
    another_other (λ e.
    let ok = can_feed n.house slot long (rw fine.sound e) in
    let bs = held_at n slot ++ chunk in
    let bytes = bytes_append (held_at n slot) chunk (held_bytes n fine slot) sent in
    stopped_other slot (length chunk) (walked (hearing slot) (Waits n.house []) bs)
    (walk_going n.house slot ok.inside n.house bs bytes
    (going_from n.house slot fine.shaped fine.sound ok.opened)).sound
    (walked_turned House Answer (hearing slot) (Waits n.house []) bs tt)))
reply_other n (End slot) fine sent =
    rw fine.sound
    (checked_where (λ (a : Answer). a) Other another (drop 1 (end_checks n.house slot)) Done refl another_other
    (λ e. another_other Done refl))

pub never_unsound : NeverUnsound
never_unsound calls c sent own = reply_other (reached fresh calls) c (reached_fine calls sent) own

-- ---- refusals

pub asked_refused : AskedRefused
asked_refused n c refused = ap (λ (h : House). night h n.carries) (refused_keeps n.house c refused)

pub feed_refused : FeedRefused
unfolding feed_next
feed_refused n slot long chunk fails =
    checked_by (λ a. next_as (Took a 0) n) (λ (x : Next). (x.night ≡ n) × (taken_of x.reply ≡ 0))
    (feed_checks n.house slot long) (feed_done n slot chunk) (λ a. (refl, refl))
    (λ e. absurd (false≢true (sym fails ∙ e)))

pub feed_number : FeedNumber
unfolding feed_next
feed_number n slot long chunk =
    let number = number_of (fed_to n.house slot (held_at n slot) chunk).answer in
    checked_number (λ a. next_as (Took a 0) n) number_of (λ (x : Next). number_of (answer_of x.reply)) (λ a. refl)
    (feed_checks n.house slot long) ((eqb number 0 else number) ∷ []) (feed_done n slot chunk) (λ e. itself number)

pub end_number : EndNumber
end_number n slot = house.end_number n.house slot

pub end_keeps : EndKeeps
end_keeps n slot = refl
