-- Laws of a feed by value: its answers in the order of the checks, what its slot lends of the house, and the house that
-- is laid anew.
-- Assumes nothing.
use mathlib.Core.Path.{◌≡◌, refl, ap, sym, subst, ◌∙◌}
use mathlib.Core.Bool.{true, false, true≢false}
use mathlib.Core.List.{List, [], ◌++◌}
use Prim.Native.Nat.{ℕ, ◌≤◌, ◌<◌}
use native.Mathlib.Omega.{arith}
use borrow.Author.Tests.{lt-ltb, eq-eqb, ne_eqb}
use lib.ListN.{length, set, take}
use lib.Seq.{get_or-set_same, set-set, length-take-le}
use Rattle.prelude.specs.All.{all}
use Rattle.prelude.specs.Checks.{tests}
use Rattle.answers.specs.declared.Answer.{Answer}
use Rattle.answers.specs.declared.Answer.TheVariants as answer
use Rattle.numbers.specs.Laws.{Bytes}
use Rattle.rows.specs.Rows.{slot_count}
use Rattle.house.specs.declared.House.{House}
use Rattle.house.specs.declared.Slot.{Slot}
use Rattle.house.specs.declared.Room.{Room}
use Rattle.house.specs.declared.Fed.{Fed}
use Rattle.house.specs.House.{row_count, carry_length, no_slot, sound}
use Rattle.house.specs.Deliver.{Core, core}
use Rattle.house.specs.Calls.{slot_at, room_of, laid}
use Rattle.house.specs.Feeding.{hearing, Poured, poured, held_in, with_held, Feed, fed_with, fed_to, unfed, feed_checks, feed}
use Rattle.house.specs.Feeding.{end_feed}
use Rattle.house.specs.Laws.{Shaped, Laid}
use Rattle.house.proofs.Calling.{lent_to, same_slot}
use Rattle.house.proofs.Laying.{laid_slot}
use Rattle.cutting.specs.Walk.{Walked, Waits, Stops, walked, state_of}
use Rattle.cutting.specs.Laws.{WalkLike, Same}
use Rattle.pouring.specs.declared.Pour.{Pour}
use Rattle.pouring.specs.Pouring.{pouring, LentAt, Lends, answer_of, poured_as, Pours}
use Rattle.feeding.specs.Door.{Feedable, Unfed}
use Rattle.feeding.proofs.Alike.{Like, house_alike}

-- ---- refused before a record is judged

pub unfed_told : (h : House) (slot : ℕ) (carry : List ℕ) {f : Fed} {a : Answer}
    → f ≡ record { answer = a; taken = 0; house = h }
    → fed_with f (held_in f.house slot carry) ≡ unfed h (held_in h slot carry) a
unfed_told h slot carry is = ap (λ (f : Fed). fed_with f (held_in f.house slot carry)) is

module _ (h : House) (slot : ℕ) (carry chunk : List ℕ) (e : sound h ≡ true) (inside : slot < slot_count)
    (t : (slot_at h slot).taken ≡ true) where
  pub feed_other : (length carry ≡ carry_length → ⊥)
      → unfed h (held_in h slot carry) answer.OutputTooShort ≡ feed h slot carry chunk
  unfolding feed
  feed_other g = rw (e, lt-ltb slot slot_count inside, t, ne_eqb (length carry) carry_length g)

  -- .. and where all checks hold
  pub feed_done_lem : length carry ≡ carry_length
      → fed_to h slot (held_in h slot carry) chunk ≡ feed h slot carry chunk
  unfolding feed
  feed_done_lem g = rw (e, lt-ltb slot slot_count inside, t, eq-eqb (length carry) carry_length g)

  pub feed_touched : length carry ≡ carry_length → (new : List ℕ) → Unfed h slot carry new
  feed_touched g new failed =
      let all_hold : all (tests (feed_checks h slot (length carry))) ≡ true
      = rw (e, lt-ltb slot slot_count inside, t, eq-eqb (length carry) carry_length g) in
      absurd (true≢false (sym all_hold ∙ failed))

-- ---- the end of feeding

module _ (h : House) (slot : ℕ) (e : sound h ≡ true) (inside : slot < slot_count) (t : (slot_at h slot).taken ≡ true)
  where
    pub end_held : ((slot_at h slot).held ≡ 0 → ⊥) → answer.NotOneRecord ≡ end_feed h slot
    unfolding end_feed
    end_held g = rw (e, lt-ltb slot slot_count inside, t, ne_eqb (slot_at h slot).held 0 g)

    pub end_done : (slot_at h slot).held ≡ 0 → answer.Done ≡ end_feed h slot
    unfolding end_feed
    end_done g = rw (e, lt-ltb slot slot_count inside, t, eq-eqb (slot_at h slot).held 0 g)

-- ---- what the slot lends

module _ (h : House) (owed slot : ℕ) (s : Slot) (carry : List ℕ) (f : Feedable h owed slot s carry)
    (keys_long : length h.keys ≡ row_count) (paired : length h.counts ≡ row_count) where
  open_there : (slot_at h slot).taken ≡ true
  open_there = ap (λ (x : Slot). x.taken) (sym f.is) ∙ f.taken

  abbrev lent : Core
  lent = core h.keys h.counts h.used s.session.standing s.session.parts

  laid_same : laid h slot lent ≡ h
  laid_same = rw f.is (same_slot h slot)

  first : Laid h slot lent
  first =
      let shape : Shaped h = record { keys = keys_long; counts = paired; slots = f.slots; parts = f.cells } in
      record {
        shape = subst Shaped (sym laid_same) shape;
        fine = subst (λ (x : House). sound x ≡ true) (sym laid_same) f.fine;
        sees = ap (λ (x : House). room_of x slot) laid_same;
      }

  lent_laid : (c : Core) → Laid h slot c → LentAt (room_of h slot) c
  lent_laid c l =
      let own = laid_slot h slot c f.slots f.inside in
      let cells : length c.parts ≡ 40
      = ap (λ (x : Slot). length x.session.parts) (sym own) ∙ l.shape.parts slot f.inside in
      lent_to (laid h slot c) slot (sym own) (sym l.sees) l.fine l.shape.keys l.shape.counts
      l.shape.slots f.inside open_there cells

  abbrev Alike : Core → House → Type 0
  Alike c g = Like h slot f.slots f.inside open_there c g

  alike : (bytes : List ℕ) → Bytes bytes
      → WalkLike Alike Same (walked (pouring (room_of h slot)) (Waits lent []) bytes)
      (walked (hearing slot) (Waits h []) bytes)
  alike bytes low =
      subst
      (λ (x : House).
      WalkLike Alike Same (walked (pouring (room_of h slot)) (Waits lent []) bytes)
      (walked (hearing slot) (Waits x []) bytes)) laid_same
      (house_alike h slot f.slots f.inside open_there lent first bytes low)

  lends : Lends (room_of h slot) lent
  lends bytes low =
      go (walked (pouring (room_of h slot)) (Waits lent []) bytes) (walked (hearing slot) (Waits h []) bytes)
      (alike bytes low)
    where
      go : (w : Walked Core Answer) (v : Walked House Answer) → WalkLike Alike Same w v
          → LentAt (room_of h slot) (state_of w)
      go (Waits c part) (Waits g other) l = lent_laid c l.0.fits
      go (Waits c part) (Stops g r a rest) l = absurd l
      go (Stops c r a rest) (Waits g other) l = absurd l
      go (Stops c r a rest) (Stops g q b other) l = lent_laid c l.0.fits

  pub lends_to : {room : Room} → room ≡ room_of h slot → Lends room lent
  lends_to seen = rw seen lends

  -- ---- what is poured over what is lent is poured into the house

  record PouredAlike (p : Poured Core) (q : Poured House) : Type 0 where
    state : q.state ≡ laid h slot p.state
    answer : q.answer ≡ p.answer
    held : q.held ≡ p.held
    taken : q.taken ≡ p.taken

  poured_alike : (n : ℕ) (w : Walked Core Answer) (v : Walked House Answer) → WalkLike Alike Same w v
      → PouredAlike (poured n w) (poured n v)
  poured_alike n (Waits c part) (Waits g other) l =
      record { state = l.0.is; answer = refl; held = sym l.1; taken = refl }
  poured_alike n (Waits c part) (Stops g r a rest) l = absurd l
  poured_alike n (Stops c r a rest) (Waits g other) l = absurd l
  poured_alike n (Stops c r a rest) (Stops g q b other) l =
      record {
        state = l.0.is;
        answer = sym l.2;
        held = rw (l.1, l.3);
        taken = rw l.3;
      }

  -- the slot with what was made of it, and with as many bytes held
  module _ (chunk : List ℕ) (range : Bytes (take s.held carry ++ chunk)) {room : Room} (seen : room ≡ room_of h slot)
      (ks cs ps : List ℕ) (r : Pour) (new : List ℕ) (same_long : length new ≡ length carry)
      (p : Pours (walked (pouring room) (Waits lent []) (take s.held carry ++ chunk)) chunk
      (core ks cs r.used r.standing ps) r new) where
    abbrev made : Core
    made = core ks cs r.used r.standing ps

    abbrev next : Slot
    next =
        record {
          taken = s.taken;
          floor = s.floor;
          session = record { standing = r.standing; parts = ps };
          held = r.held;
        }

    abbrev after : House
    after = record { keys = ks; counts = cs; used = r.used; slots = set h.slots slot next }

    held_laid : with_held (laid h slot made) slot r.held ≡ after
    held_laid = rw (laid_slot h slot made f.slots f.inside, set-set h.slots slot, f.is)

    front : held_in after slot new ≡ take r.held new
    front =
        ap (λ (x : Slot). take x.held new)
        (get_or-set_same h.slots slot next no_slot (omega (arith, f.slots, f.inside)))

    poured_is : poured_as made r new
        ≡ poured (length chunk) (walked (pouring (room_of h slot)) (Waits lent []) (take s.held carry ++ chunk))
    poured_is =
        p.is
        ∙ ap
        (λ (x : Room).
        poured (length chunk) (walked (pouring x) (Waits lent []) (take s.held carry ++ chunk))) seen

    abbrev told : Answer → ℕ → House → List ℕ → Feed
    told a taken house held = record { answer = a; taken = taken; house = house; held = held }

    pub feed_laid : {x : Fed} {a : Answer} → a ≡ answer_of r.fate
        → x ≡ record { answer = a; taken = r.at; house = after }
        → fed_with x (held_in x.house slot new) ≡ fed_to h slot (held_in h slot carry) chunk
    feed_laid {x} {a} answered is =
        let bytes = take s.held carry ++ chunk in
        let n = length chunk in
        let w = walked (pouring (room_of h slot)) (Waits lent []) bytes in
        let v = walked (hearing slot) (Waits h []) bytes in
        let same = poured_alike n w v (alike bytes range) in
        let q = poured n v in
        let state : q.state ≡ laid h slot made
        = same.state ∙ ap (λ (y : Poured Core). laid h slot y.state) (sym poured_is) in
        let held : q.held ≡ take r.held new
        = same.held ∙ ap (λ (y : Poured Core). y.held) (sym poured_is) in
        let count : length q.held ≡ r.held
        = ap length held ∙ length-take-le r.held new (omega (arith, p.within, same_long, f.long)) in
        let house : with_held q.state slot (length q.held) ≡ after
        = ap (λ (y : House). with_held y slot (length q.held)) state
        ∙ ap (λ (k : ℕ). with_held (laid h slot made) slot k) count
        ∙ held_laid in
        let fed : fed_to h slot (take s.held carry) chunk ≡ told (answer_of r.fate) r.at after (take r.held new)
        = ap (λ (y : House). told q.answer q.taken y q.held) house
        ∙ ap (λ (y : List ℕ). told q.answer q.taken after y) held
        ∙ ap (λ (y : Answer). told y q.taken after (take r.held new))
        (same.answer ∙ ap (λ (y : Poured Core). y.answer) (sym poured_is))
        ∙ ap (λ (k : ℕ). told (answer_of r.fate) k after (take r.held new))
        (same.taken ∙ ap (λ (y : Poured Core). y.taken) (sym poured_is)) in
        ap (λ (y : Fed). fed_with y (held_in y.house slot new)) is
        ∙ ap (λ (y : List ℕ). told a r.at after y) front
        ∙ ap (λ (y : Answer). told y r.at after (take r.held new)) answered
        ∙ sym fed
        ∙ ap (λ (y : Slot). fed_to h slot (take y.held carry) chunk) f.is
