-- Feeding two chunks is feeding both at once, so cutting does not matter; and a feed on a lent carry is the night's
-- (specs/Laws.antt).
-- Assumes nothing.
use mathlib.Core.Path.{◌≡◌, refl, ap, subst, sym, ◌∙◌}
use mathlib.Core.Bool.{Bool, true, false, not, false≢true}
use mathlib.Core.List.{List, [], ◌∷◌, ◌++◌, append-nil, append_assoc}
use Prim.Native.Nat.{ℕ, ◌+◌, ◌-◌, ◌≤◌, ◌<◌}
use native.Mathlib.Omega.{arith}
use borrow.Author.Tests.{ne_eqb, eqb-false, not-true}
use lib.Dec.{eqb}
use lib.ListN.{length, take, set, length-append}
use lib.Seq.{get_or-set_same, set-set, take-length, take-append-le}
use Rattle.prelude.specs.All.{all}
use Rattle.prelude.specs.Checks.{tests, checked}
use Rattle.prelude.proofs.Checks.{checked_where}
use Rattle.numbers.specs.Laws.{Bytes}
use Rattle.numbers.proofs.Laws.{bytes_append}
use Rattle.answers.specs.declared.Answer.{Answer}
use Rattle.answers.specs.declared.Answer.TheVariants.{Done}
use Rattle.answers.specs.Numbers.{number_of}
use Rattle.rows.specs.Rows.{slot_count}
use Rattle.cutting.specs.Needed.{longest}
use Rattle.cutting.specs.Walk.{Walked, Waits, Stops, walked, behind, state_of, joined}
use Rattle.cutting.specs.Laws.{TurnedAt, WalkLike, Same, Framed, AllBytes}
use Rattle.cutting.proofs.Walks.{walked_append, walked_stops, walked_behind, walked_turned, walked_again}
use Rattle.cutting.proofs.Cuts.{cut_most, cut_framed}
use Rattle.house.specs.declared.House.{House}
use Rattle.house.specs.House.{carry_length}
use Rattle.house.specs.Feeding as feeding
use Rattle.house.specs.Feeding.{standing_at, hearing, Poured, poured, poured_to, with_held, fed_to, unfed, feed_checks, feed}
use Rattle.house.specs.Laws.{FedSound}
use Rattle.house.proofs.Feeding.{held_at_lem, held_twice, withheld_sound, can_feed, feeds, fed_long}
use Rattle.house.proofs.Feeding.{turned_some, Going, going_from, walk_going, poured_state, fed_keeps, Reheld, walk_held_lem}
use Rattle.nights.specs.Night.{Night, night, held_at, Feed, Took, answer_of, Next, next_as, feed_done, feed_next, next}
use Rattle.nights.specs.Night.{after}
use Rattle.nights.specs.Laws.{Fine, FeedLent, besides, onward, FeedJoined, AnyCutting}
use Rattle.nights.proofs.Checks.{checked_both, checked_done, checked_fails}
use Rattle.nights.proofs.Keeping.{held_bytes, held_short, after_fine}

-- ---- a feed, by its checks

-- what is answered where a check fails
abbrev pub refused_with : Night → ℕ → ℕ → Answer
refused_with n slot long = checked (λ (a : Answer). a) (feed_checks n.house slot long) Done

module _ (n : Night) (slot long : ℕ) where
  pub feed_passes : (chunk : List ℕ) → all (tests (feed_checks n.house slot long)) ≡ true
      → next n (Feed slot long chunk) ≡ feed_done n slot chunk
  unfolding feed_next
  feed_passes chunk e =
      checked_done (λ (a : Answer). next_as (Took a 0) n) (feed_checks n.house slot long) (feed_done n slot chunk) e

  module _ (fails : all (tests (feed_checks n.house slot long)) ≡ false) where
    pub feed_fails : (chunk : List ℕ) → next n (Feed slot long chunk) ≡ next_as (Took (refused_with n slot long) 0) n
    unfolding feed_next
    feed_fails chunk =
        checked_fails (λ (a : Answer). next_as (Took a 0) n) (feed_checks n.house slot long) (feed_done n slot chunk)
        Done fails

    -- it is not 0
    pub fails_some : number_of (refused_with n slot long) ≡ 0 → ⊥
    fails_some =
        checked_where (λ (a : Answer). a) (λ (a : Answer). number_of a ≡ 0 → ⊥)
        (λ (a : Answer). not (eqb (number_of a) 0)) (feed_checks n.house slot long) Done refl
        (λ a e. eqb-false (number_of a) 0 (not-true (eqb (number_of a) 0) e))
        (λ e. absurd (false≢true (sym fails ∙ e)))

-- what a feed that passes its checks makes of what is poured
abbrev pub fed_next : Night → ℕ → Poured House → Next
fed_next n slot p =
    next_as (Took p.answer p.taken)
    (night (with_held p.state slot (length p.held)) (set n.carries slot p.held))

-- the bytes that it holds
pub held_after : (n : Night) (slot : ℕ) (p : Poured House) → length n.carries ≡ slot_count → slot < slot_count
    → Going n.house slot p.state → held_at (fed_next n slot p).night slot ≡ p.held
held_after n slot p long inside going =
    rw (
      held_at_lem p.state slot going.shaped inside (length p.held),
      get_or-set_same n.carries slot p.held [] (omega (arith, long, inside)),
      take-length p.held,
    )

-- ---- two chunks

-- what is not done is not gone on from
stays : (x y : Next) → (number_of (answer_of x.reply) ≡ 0 → ⊥) → x ≡ onward x y
stays x y some = rw (ne_eqb (number_of (answer_of x.reply)) 0 some)

-- the chunk before counts as taken
poured_after : (a b : List ℕ) (w : Walked House Answer) → length (behind w) ≤ length b
    → poured (length (a ++ b)) w
    ≡ record {
      state = (poured (length b) w).state;
      answer = (poured (length b) w).answer;
      held = (poured (length b) w).held;
      taken = length a + (poured (length b) w).taken;
    }
poured_after a b (Waits h part) l = rw (length-append a b)
poured_after a b (Stops h r x rest) l =
    let none : length rest - length (a ++ b) ≡ length rest - length b = omega (arith, length-append a b) in
    let some : length (a ++ b) - length rest ≡ length a + (length b - length rest) =
    omega (arith, length-append a b) in
    rw (none, some)

-- what is refused is refused with more bytes behind it
pub poured_before : (a b : List ℕ) (h : House) (r : List ℕ) (x : Answer) (rest : List ℕ)
    → poured (length (a ++ b)) (Stops h r x (rest ++ b)) ≡ poured (length a) (Stops h r x rest)
poured_before a b h r x rest =
    let la = length-append a b in
    let lr = length-append rest b in
    let some : length (rest ++ b) - length (a ++ b) ≡ length rest - length a = omega arith in
    let none : length (a ++ b) - length (rest ++ b) ≡ length a - length rest = omega arith in
    rw (some, none, take-append-le (length rest - length a) rest b (omega arith))

-- walks of houses that differ in what is held come to the same
fed_like : (n : Night) (was : House) (slot k j : ℕ) (old : List ℕ) (w v : Walked House Answer) → slot < slot_count
    → WalkLike (Reheld was slot k) Same w v
    → fed_next (night n.house (set n.carries slot old)) slot (poured j v) ≡ fed_next n slot (poured j w)
fed_like n was slot k j old (Waits h part) (Waits g other) inside e =
    rw (
      e.0.is,
      ← e.1,
      held_twice h slot e.0.going.shaped inside k (length part),
      set-set n.carries slot old part,
    )
fed_like n was slot k j old (Waits h part) (Stops g r x rest) inside e = absurd e
fed_like n was slot k j old (Stops h r x rest) (Waits g other) inside e = absurd e
fed_like n was slot k j old (Stops h r x rest) (Stops g q y other) inside e =
    let held = r ++ take (length rest - j) rest in
    rw (
      e.0.is,
      ← e.1,
      ← e.2,
      ← e.3,
      held_twice h slot e.0.going.shaped inside k (length held),
      set-set n.carries slot old held,
    )

-- the walk of a feed that passes its checks
abbrev pub feed_walk : Night → ℕ → List ℕ → Walked House Answer
feed_walk n slot chunk = walked (hearing slot) (Waits n.house []) (held_at n slot ++ chunk)

module _ (n : Night) (slot : ℕ) (chunk : List ℕ) where
  pub walk_framed : Framed (standing_at slot) longest (feed_walk n slot chunk)
  walk_framed =
      cut_framed House Answer (standing_at slot) longest _ _ n.house (held_at n slot ++ chunk) (omega arith)

  pub walk_turned : TurnedAt (hearing slot) (feed_walk n slot chunk)
  walk_turned = walked_turned House Answer (hearing slot) (Waits n.house []) (held_at n slot ++ chunk) tt

module _ (n : Night) (slot long : ℕ) (fine : Fine n) (e : all (tests (feed_checks n.house slot long)) ≡ true) where
  inside : slot < slot_count
  inside = (can_feed n.house slot long e).inside

  pub walk_fine : (chunk : List ℕ) → Bytes chunk → Going n.house slot (state_of (feed_walk n slot chunk))
  walk_fine chunk bytes =
      let ok = can_feed n.house slot long e in
      walk_going n.house slot inside n.house (held_at n slot ++ chunk)
      (bytes_append (held_at n slot) chunk (held_bytes n fine slot) bytes)
      (going_from n.house slot fine.shaped fine.sound ok.opened)

  -- a night whose slot holds other bytes, as a feed left them, is fed
  next_passes : (t : House) (held : List ℕ) → Going n.house slot t → length held ≤ carry_length
      → all (tests (feed_checks (with_held t slot (length held)) slot long)) ≡ true
  next_passes t held going low =
      let at = held_at_lem t slot going.shaped inside (length held) in
      feeds (with_held t slot (length held)) slot long
      (record {
        fine = withheld_sound t slot (length held) going.shaped going.sound inside going.taken low;
        inside = inside;
        opened = rw at going.taken;
      })
      (fed_long n.house slot long e)

  -- .. as the house without them would be
  pub next_fed : (t : House) (held chunk : List ℕ) → Going n.house slot t → length held ≤ carry_length
      → Bytes held → Bytes chunk
      → next (night (with_held t slot (length held)) (set n.carries slot held)) (Feed slot long chunk)
      ≡ fed_next n slot (poured (length chunk) (walked (hearing slot) (Waits t []) (held ++ chunk)))
  next_fed t held chunk going low old new =
      let k = length held in
      let m = night (with_held t slot k) (set n.carries slot held) in
      let is : held_at m slot ≡ held =
      rw (
        held_at_lem t slot going.shaped inside k,
        get_or-set_same n.carries slot held [] (omega (arith, fine.carries, inside)),
        take-length held,
      ) in
      feed_passes m slot long chunk (next_passes t held going low)
      ∙ ap
      (λ (bs : List ℕ).
      fed_next m slot (poured (length chunk) (walked (hearing slot) (Waits (with_held t slot k) []) (bs ++ chunk)))) is
      ∙ fed_like n n.house slot k (length chunk) held (walked (hearing slot) (Waits t []) (held ++ chunk))
      (walked (hearing slot) (Waits (with_held t slot k) []) (held ++ chunk)) inside
      (walk_held_lem n.house slot k inside low t (held ++ chunk) (bytes_append held chunk old new) going)

  -- what waits waits again
  abbrev Waiting : Walked House Answer → Type 0
  Waiting (Waits t part) = walked (hearing slot) (Waits t []) part ≡ Waits t part
  Waiting (Stops t r x rest) = Unit

  waiting : (chunk : List ℕ) (w : Walked House Answer) → feed_walk n slot chunk ≡ w → Waiting w
  waiting chunk (Waits t part) is =
      walked_again House Answer (hearing slot) n.house t (held_at n slot ++ chunk) part is
  waiting chunk (Stops t r x rest) is = tt

  joined_on : (a b : List ℕ) (w : Walked House Answer) → Bytes b → Bytes (poured (length a) w).held
      → Going n.house slot (state_of w) → Framed (standing_at slot) longest w → TurnedAt (hearing slot) w → Waiting w
      → let x = fed_next n slot (poured (length a) w) in
      fed_next n slot (poured (length (a ++ b)) (walked (hearing slot) w b))
      ≡ onward x (next x.night (Feed slot long b))
  joined_on a b (Waits t part) new old going framed turned again =
      let m = hearing slot in
      let v = walked m (Waits t part) b in
      let low : length part ≤ carry_length =
      omega (arith, framed, cut_most longest (standing_at slot t) (omega arith) part) in
      let same : walked m (Waits t []) (part ++ b) ≡ v =
      walked_append House Answer m (Waits t []) part b ∙ ap (λ (w : Walked House Answer). walked m w b) again in
      ap (fed_next n slot)
      (poured_after a b v (omega (arith, walked_behind House Answer m (Waits t part) b)))
      ∙ ap (λ (y : Next). next_as (besides (length a) y.reply) y.night)
      (sym
      (next_fed t part b going low old new
      ∙ ap (λ (w : Walked House Answer). fed_next n slot (poured (length b) w)) same))
  joined_on a b (Stops t r x rest) new old going framed turned again =
      let p = poured (length a) (Stops t r x rest) in
      let y = next (fed_next n slot p).night (Feed slot long b) in
      ap (λ (w : Walked House Answer). fed_next n slot (poured (length (a ++ b)) w))
      (walked_stops House Answer (hearing slot) t r x rest b)
      ∙ ap (fed_next n slot) (poured_before a b t r x rest)
      ∙ stays (fed_next n slot p) y (turned_some slot t r x turned)

  -- what a feed leaves in the carry
  pub fed_sound : (chunk : List ℕ) → Bytes chunk
      → FedSound n.house slot (fed_to n.house slot (held_at n slot) chunk)
  fed_sound chunk bytes =
      let ok = can_feed n.house slot long e in
      fed_keeps n.house slot (held_at n slot) chunk fine.shaped fine.sound inside ok.opened
      (held_bytes n fine slot) bytes (held_short n fine slot inside ok.opened)

  passes_joined : (a b : List ℕ) → Bytes a → Bytes b
      → next n (Feed slot long (a ++ b))
      ≡ onward (next n (Feed slot long a)) (next (after n (Feed slot long a)) (Feed slot long b))
  passes_joined a b old new =
      let m = hearing slot in
      let held = held_at n slot in
      let w = feed_walk n slot a in
      let parts : feed_walk n slot (a ++ b) ≡ walked m w b =
      ap (walked m (Waits n.house [])) (sym (append_assoc held a b))
      ∙ walked_append House Answer m (Waits n.house []) (held ++ a) b in
      subst
      (λ (x : Next). next n (Feed slot long (a ++ b)) ≡ onward x (next x.night (Feed slot long b)))
      (sym (feed_passes n slot long a e))
      (feed_passes n slot long (a ++ b) e
      ∙ ap (λ (w : Walked House Answer). fed_next n slot (poured (length (a ++ b)) w)) parts
      ∙ joined_on a b w new (fed_sound a old).bytes (walk_fine a old) (walk_framed n slot a) (walk_turned n slot a)
      (waiting a w refl))

pub feed_joined : FeedJoined
feed_joined n slot long a b fine old new = go (all (tests (feed_checks n.house slot long))) refl
  where
    go : (t : Bool) → all (tests (feed_checks n.house slot long)) ≡ t
        → next n (Feed slot long (a ++ b))
        ≡ onward (next n (Feed slot long a)) (next (after n (Feed slot long a)) (Feed slot long b))
    go true e = passes_joined n slot long fine e a b old new
    go false e =
        subst
        (λ (x : Next). next n (Feed slot long (a ++ b)) ≡ onward x (next x.night (Feed slot long b)))
        (sym (feed_fails n slot long e a))
        (feed_fails n slot long e (a ++ b)
        ∙ stays (next_as (Took (refused_with n slot long) 0) n) (next n (Feed slot long b))
        (fails_some n slot long e))

pub joined_bytes : (cs : List (List ℕ)) → AllBytes cs → Bytes (joined cs)
joined_bytes [] bytes = λ k. omega arith
joined_bytes (c ∷ cs) bytes = bytes_append c (joined cs) bytes.0 (joined_bytes cs bytes.1)

pub any_cutting : AnyCutting
any_cutting n slot long c [] fine old new =
    ap (λ (bs : List ℕ). next n (Feed slot long bs)) (sym (append-nil c))
any_cutting n slot long c (d ∷ ds) fine old new =
    ap (onward (next n (Feed slot long c)))
    (any_cutting (after n (Feed slot long c)) slot long d ds (after_fine n (Feed slot long c) old fine) new.0
    new.1)
    ∙ sym (feed_joined n slot long c (d ++ joined ds) fine old (joined_bytes (d ∷ ds) new))

-- ---- what is lent

abbrev LentAs : ℕ → Next → feeding.Feed → Type 0
LentAs slot x f =
    (x.reply ≡ Took f.answer f.taken) × (x.night.house ≡ f.house) × (held_at x.night slot ≡ f.held)

pub feed_lent : FeedLent
unfolding feed_next feed
feed_lent n slot carry chunk fine bytes same =
    rw same
    (checked_both (λ (t : Bool). LentAs slot) (λ (a : Answer). next_as (Took a 0) n) (unfed n.house (held_at n slot))
    (feed_checks n.house slot (length carry)) (feed_done n slot chunk)
    (fed_to n.house slot (held_at n slot) chunk) (λ a. (refl, refl, refl)) (λ e. (
      refl,
      refl,
      held_after n slot (poured_to n.house slot (held_at n slot) chunk) fine.carries
          (can_feed n.house slot (length carry) e).inside
          (rw (poured_state (length chunk) (feed_walk n slot chunk))
          (walk_fine n slot (length carry) fine e chunk bytes)),
    )))
