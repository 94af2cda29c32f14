-- Calls and answers tell what feeds are spelled out as and what is held (specs/Telling.antt), proved call by call.
-- Assumes nothing.
use mathlib.Core.Path.{◌≡◌, refl, ap, ap₂, sym, subst, ◌∙◌}
use mathlib.Core.Bool.{Bool, true, false, cond, not, false≢true}
use mathlib.Core.List.{List, [], ◌∷◌, ◌++◌, append-nil, append_assoc}
use Prim.Native.Nat.{ℕ, zero, suc, ◌<◌}
use native.Mathlib.Omega.{arith}
use borrow.Author.Tests.{eqb-true}
use lib.Dec.{eqb}
use lib.ListN.{length, take, get_or, set, replicate, length-set, get_or-map}
use lib.Seq.{get_or-set_same, get_or-set_other, map-set_same, take-length}
use Rattle.prelude.specs.All.{all}
use Rattle.prelude.specs.Checks.{tests}
use Rattle.prelude.proofs.Checks.{checked_by, checked_where}
use Rattle.answers.specs.declared.Answer.{Answer}
use Rattle.answers.specs.declared.Answer.TheVariants.{Done}
use Rattle.answers.specs.declared.Saying.{Saying}
use Rattle.answers.specs.Numbers.{number_of}
use Rattle.numbers.specs.Laws.{Bytes}
use Rattle.rows.specs.Rows.{slot_count}
use Rattle.rows.proofs.Laws.{same_or}
use Rattle.cutting.specs.Walk.{Heard, Kept, Turned, Walked, Waits, Stops, walked, accepted, Run, Ran, heard_on}
use Rattle.cutting.specs.Walk.{heard_all, state_of}
use Rattle.cutting.specs.Laws.{TurnedAt, AllBytes, WalkLike, stopped}
use Rattle.cutting.proofs.Walks.{walked_turned, records_bytes, walked_ever, accepted_runs, accepted_stopped}
use Rattle.cutting.proofs.Walks.{accepted_ever}
use Rattle.house.specs.declared.Slot.{Slot}
use Rattle.house.specs.declared.House.{House}
use Rattle.house.specs.declared.Answered.{Answered}
use Rattle.house.specs.House as house
use Rattle.house.specs.House.{no_slot, closed_slot, opened_slot}
use Rattle.house.specs.Calls.{slot_at, refusal, open_checks, open_slot, slot_checks, close_slot, deliver}
use Rattle.house.specs.Feeding.{hearing, poured, feed_checks}
use Rattle.house.specs.History as asked
use Rattle.house.specs.History.{Open, Deliver, Report, Close, Figured, Told, said}
use Rattle.house.specs.Laws.{Shaped, bare}
use Rattle.house.specs.Tally.{is_done}
use Rattle.house.proofs.Calling.{can_open, is_open_lem}
use Rattle.house.proofs.Refusing.{refused_keeps}
use Rattle.house.proofs.Feeding.{can_feed, poured_state, fed_keeps}
use Rattle.house.proofs.Bare.{bare_fresh, bare_at, bare_reply, bare_history}
use Rattle.books.specs.Book.{book_of}
use Rattle.books.specs.Told.{carried_by}
use Rattle.books.proofs.Booked.{book_agrees}
use Rattle.nights.specs.Night.{Night, Next, fresh, carry_at, held_at, Call, Asked, Feed, End, Took, answer_of}
use Rattle.nights.specs.Night.{next_as, feed_done, feed_next, reply, after, reached, history, Sent, AllSent}
use Rattle.nights.specs.Laws.{Fine}
use Rattle.nights.specs.Spelled.{delivers, judged_in, spelled_by, spelled}
use Rattle.nights.specs.Told.{record_number, hearing_by}
use Rattle.nights.specs.Telling.{Telling, nothing_told, held_of, emptied, asked_by, walk_past, walk_held, fed_by}
use Rattle.nights.specs.Telling.{judges, told_by, telling_from, ToldAlone}
use Rattle.nights.proofs.Checks.{checked_told}
use Rattle.nights.proofs.Keeping.{fresh_fine, held_bytes, held_short, after_fine}
use Rattle.nights.proofs.Spelled.{dones, delivers_sent, turned_answer, bytes_both, delivers_append}
use Rattle.nights.proofs.Spelled.{reached_append, Walking, walking, fed_bytes, spell_call}
use Rattle.nights.proofs.Spelled.{sent_append}
use Rattle.nights.proofs.Feeds.{history_append, Tells, Answers, hears_by, alike}

-- ---- what is held for a slot after a call of the house

abbrev some : Answer → Bool
some a = not (eqb (number_of a) 0)

-- a refusal is not 0
never_none : (a : Answer) → some a ≡ true → number_of a ≡ 0 → ⊥
never_none a other none = false≢true (sym (ap (λ (k : ℕ). not (eqb k 0)) none) ∙ other)

-- a slot set to one that holds as many
same_held : (slots : List Slot) (i : ℕ) (s : Slot) (j : ℕ) → s.held ≡ (get_or slots i no_slot).held
    → (get_or (set slots i s) j no_slot).held ≡ (get_or slots j no_slot).held
same_held slots i s j is =
    let count : Slot → ℕ = λ x. x.held in
    sym (get_or-map count (set slots i s) j no_slot)
    ∙ ap (λ (l : List ℕ). get_or l j 0) (map-set_same count slots i s no_slot is)
    ∙ get_or-map count slots j no_slot

deliver_keeps_held : (h : House) (slot : ℕ) (rec : List ℕ) (i : ℕ)
    → (slot_at (deliver h slot rec).house i).held ≡ (slot_at h i).held
unfolding deliver
deliver_keeps_held h slot rec i =
    checked_by (refusal h) (λ (o : Answered). (slot_at o.house i).held ≡ (slot_at h i).held) (slot_checks h slot) _
    (λ a. refl) (λ e. same_held h.slots slot _ i refl)

delivers_keep_held : (h : House) (slot : ℕ) (recs : List (List ℕ)) (i : ℕ)
    → (slot_at (asked.reached h (delivers slot recs)) i).held ≡ (slot_at h i).held
delivers_keep_held h slot [] i = refl
delivers_keep_held h slot (rec ∷ recs) i =
    delivers_keep_held (deliver h slot rec).house slot recs i ∙ deliver_keeps_held h slot rec i

-- what is told to be held, and what a house says is held of each carry
abbrev Holds : List (List ℕ) → (ℕ → List ℕ) → House → Type 0
Holds held carry h = (i : ℕ) → i < slot_count → get_or held i [] ≡ take (slot_at h i).held (carry i)

module _ (held : List (List ℕ)) (many : length held ≡ slot_count) (carry : ℕ → List ℕ) (h : House) (shape : Shaped h)
    (is : Holds held carry h) where
  -- a slot that holds none
  empties : (slot : ℕ) (s : Slot) → s.held ≡ 0 → slot < slot_count → (i : ℕ) → i < slot_count
      → get_or (set held slot []) i [] ≡ take (get_or (set h.slots slot s) i no_slot).held (carry i)
  empties slot s none inside i there =
      same_or i slot
      (λ (q : i ≡ slot).
      rw (
        q,
        get_or-set_same held slot [] [] (omega (arith, inside, many)),
        get_or-set_same h.slots slot s no_slot (omega (arith, inside, shape.slots)),
        none,
      ))
      (λ (ne : i ≡ slot → ⊥).
      rw (get_or-set_other held slot i [] [] ne, get_or-set_other h.slots slot i s no_slot ne) (is i there))

  abbrev Empties : ℕ → Answered → Type 0
  Empties slot o = number_of o.answer ≡ 0 → Holds (set held slot []) carry o.house

  open_empties : (slot floor : ℕ) → Empties slot (open_slot h slot floor)
  unfolding open_slot
  open_empties slot floor =
      checked_where (refusal h) (Empties slot) some (open_checks h slot floor) _ refl
      (λ a other none. absurd (never_none a other none))
      (λ e none. empties slot (opened_slot floor) refl (can_open h slot floor e).inside)

  close_empties : (slot : ℕ) → Empties slot (close_slot h slot)
  unfolding close_slot
  close_empties slot =
      checked_where (refusal h) (Empties slot) some (slot_checks h slot) _ refl
      (λ a other none. absurd (never_none a other none))
      (λ e none. empties slot closed_slot refl (is_open_lem h slot e).inside)

  done_holds : (c : asked.Call) → number_of (asked.answer_of (asked.reply h c)) ≡ 0
      → Holds (emptied c held) carry (asked.after h c)
  done_holds (Open slot floor) none = open_empties slot floor none
  done_holds (Deliver slot rec) none =
      λ i there. is i there ∙ ap (λ (k : ℕ). take k (carry i)) (sym (deliver_keeps_held h slot rec i))
  done_holds (Report slot long) none = is
  done_holds (Close slot) none = close_empties slot none
  done_holds Figured none = is

  asked_holds : (c : asked.Call) → let e = said c (asked.reply h c) in
      Holds (cond (is_done e) (emptied c held) held) carry (asked.after h c)
  asked_holds c = go (is_done (said c (asked.reply h c))) refl
    where
      go : (t : Bool) → is_done (said c (asked.reply h c)) ≡ t
          → Holds (cond t (emptied c held) held) carry (asked.after h c)
      go true done = done_holds c (eqb-true (number_of (asked.answer_of (asked.reply h c))) 0 done)
      go false refused =
          subst (Holds held carry)
          (sym (refused_keeps h c
          (λ done. false≢true (sym refused ∙ ap (λ (a : Answer). eqb (number_of a) 0) done)))) is

-- ---- a feed

-- records that are all accepted, by what was told
books_run : (slot : ℕ) (es fs : List asked.Said) (recs : List (List ℕ)) → AllBytes recs
    → heard_all (hearing_by slot) es recs ≡ Ran fs → fs ≡ es ++ dones slot recs
books_run slot es fs [] bytes ran = let is : fs ≡ es = cc in is ∙ sym (append-nil es)
books_run slot es fs (rec ∷ recs) bytes ran =
    go (eqb (record_number es slot rec) 0)
    (ap (λ (v : Heard (List asked.Said) Saying). heard_on v es next) (sym (hears_by slot es rec bytes.0)) ∙ ran)
    (λ e. books_run slot (es ++ (one ∷ [])) fs recs bytes.1 e)
  where
    one : asked.Said
    one = said (Deliver slot rec) (Told Done)

    next : List asked.Said → Run (List asked.Said) Saying
    next t = heard_all (hearing_by slot) t recs

    go : (b : Bool)
        → heard_on
        (cond b (Kept (es ++ (one ∷ [])))
        (Turned (record_number es slot rec, carried_by es (record_number es slot rec) (Deliver slot rec)))) es next
        ≡ Ran fs
        → (next (es ++ (one ∷ [])) ≡ Ran fs → fs ≡ (es ++ (one ∷ [])) ++ dones slot recs)
        → fs ≡ es ++ (one ∷ dones slot recs)
    go true e on = on e ∙ append_assoc es (one ∷ []) (dones slot recs)
    go false e on = let never : ◌≡◌ {A = ℕ} 0 1 = cc in absurd (omega arith)

-- the refused record is told behind them
walk_past_lem : (slot k : ℕ) (w : Walked House Answer) (v : Walked (List asked.Said) Saying) → WalkLike Tells Answers w v
    → TurnedAt (hearing slot) w → AllBytes (stopped w)
    → walk_past slot (poured k w).answer v ≡ state_of v ++ asked.history (state_of w) (delivers slot (stopped w))
walk_past_lem slot k (Waits h part) (Waits es other) like turned bytes = sym (append-nil es)
walk_past_lem slot k (Waits h part) (Stops es q s other) like turned bytes = absurd like
walk_past_lem slot k (Stops h rec a rest) (Waits es other) like turned bytes = absurd like
walk_past_lem slot k (Stops h rec a rest) (Stops es q s other) like turned bytes =
    ap₂ (λ (r : List ℕ) (b : Answer). es ++ (said (Deliver slot r) (Told b) ∷ [])) (sym like.1)
    (sym (turned_answer slot h rec a bytes.0 turned))

walk_held_lem : (k : ℕ) (w : Walked House Answer) (v : Walked (List asked.Said) Saying) → WalkLike Tells Answers w v
    → walk_held k v ≡ (poured k w).held
walk_held_lem k (Waits h part) (Waits es other) like = sym like.1
walk_held_lem k (Waits h part) (Stops es q s other) like = absurd like
walk_held_lem k (Stops h rec a rest) (Waits es other) like = absurd like
walk_held_lem k (Stops h rec a rest) (Stops es q s other) like = rw (like.1, like.3)

-- ---- a night, and what is told of it

record Follows (n : Night) (past : List asked.Call) (t : Telling) : Type 0 where
  fine : Fine n
  sent : asked.AllSent past
  made : bare n.house ≡ asked.reached house.fresh past
  is : t.past ≡ asked.history house.fresh past
  many : length t.held ≡ slot_count
  held : Holds t.held (carry_at n) n.house

module _ (n : Night) (past : List asked.Call) (t : Telling) (f : Follows n past t) where
  tells : Tells n.house t.past
  tells =
      record {
        shaped = f.fine.shaped;
        sound = f.fine.sound;
        calls = past;
        sent = f.sent;
        is = f.is;
        made = f.made;
      }

  -- the same feeds judge records
  judges_same : (slot long : ℕ) → judges t slot long ≡ all (tests (feed_checks n.house slot long))
  judges_same slot long =
      let opens : (book_of slot t.past).opened ≡ (slot_at n.house slot).taken =
      ap (λ (es : List asked.Said). (book_of slot es).opened) f.is
      ∙ (book_agrees slot past f.sent).opened
      ∙ ap (λ (g : House). (slot_at g slot).taken) (sym f.made)
      ∙ ap (λ (s : Slot). s.taken) (bare_at n.house slot) in
      rw (opens, f.fine.sound)

  -- a feed that does
  module _ (slot long : ℕ) (chunk : List ℕ) (chunk_bytes_lem : Bytes chunk)
      (ok : all (tests (feed_checks n.house slot long)) ≡ true) where
    abbrev h : House
    h = n.house

    abbrev bs : List ℕ
    bs = held_at n slot ++ chunk

    abbrev w : Walked House Answer
    w = walked (hearing slot) (Waits h []) bs

    abbrev v : Walked (List asked.Said) Saying
    v = walked (hearing_by slot) (Waits t.past []) bs

    abbrev kept : List (List ℕ)
    kept = accepted (hearing slot) (Waits h []) bs

    inside : slot < slot_count
    inside = (can_feed h slot long ok).inside

    bs_bytes : Bytes bs
    bs_bytes = fed_bytes n f.fine slot chunk chunk_bytes_lem

    abbrev walks : Walking slot h bs
    walks = walking slot h bs bs_bytes

    like : WalkLike Tells Answers w v
    like =
        walked_ever House (List asked.Said) Answer Saying (hearing slot) (hearing_by slot) Tells Answers (alike slot) h
        t.past bs bs_bytes tells

    -- what is told of its records: those accepted, and the one that stopped it
    past_records : asked.history house.fresh (past ++ delivers slot (judged_in n slot chunk))
        ≡ t.past ++ (dones slot kept ++ asked.history (state_of w) (delivers slot (stopped w)))
    past_records =
        let all_sent = delivers_sent slot (judged_in n slot chunk)
        (records_bytes House Answer (hearing slot) h bs bs_bytes) in
        history_append house.fresh past (delivers slot (judged_in n slot chunk))
        ∙ ap₂ ◌++◌ (sym f.is)
        (ap (λ (g : House). asked.history g (delivers slot (judged_in n slot chunk))) (sym f.made)
        ∙ bare_history h (delivers slot (judged_in n slot chunk)) all_sent f.fine.shaped f.fine.sound
        ∙ ap (asked.history h)
        (ap (delivers slot) (accepted_stopped House Answer (hearing slot) h bs)
        ∙ delivers_append slot kept (stopped w))
        ∙ history_append h (delivers slot kept) (delivers slot (stopped w))
        ∙ ap₂ (λ (es : List asked.Said) (g : House). es ++ asked.history g (delivers slot (stopped w)))
        walks.made.says (sym walks.made.is))

    state_told : state_of v ≡ t.past ++ dones slot kept
    state_told =
        let same : kept ≡ accepted (hearing_by slot) (Waits t.past []) bs =
        accepted_ever House (List asked.Said) Answer Saying (hearing slot) (hearing_by slot) Tells Answers (alike slot) h
        t.past bs bs_bytes tells in
        books_run slot t.past (state_of v) kept (bytes_both kept (stopped w) walks.bytes).0
        (ap (heard_all (hearing_by slot) t.past) same
        ∙ accepted_runs (List asked.Said) Saying (hearing_by slot) t.past bs)

    -- the walk is over what is told to be held
    fed_walk : walked (hearing_by slot) (Waits t.past []) (held_of t slot ++ chunk) ≡ v
    fed_walk =
        ap (λ (xs : List ℕ). walked (hearing_by slot) (Waits t.past []) (xs ++ chunk)) (f.held slot inside)

    stopped_bytes : AllBytes (stopped w)
    stopped_bytes = (bytes_both kept (stopped w) walks.bytes).1

    fed_past : (fed_by slot chunk (poured (length chunk) w).answer t).past
        ≡ asked.history house.fresh (past ++ delivers slot (judged_in n slot chunk))
    fed_past =
        let last = asked.history (state_of w) (delivers slot (stopped w)) in
        ap (walk_past slot (poured (length chunk) w).answer) fed_walk
        ∙ walk_past_lem slot (length chunk) w v like (walked_turned House Answer (hearing slot) (Waits h []) bs tt)
        stopped_bytes
        ∙ ap (λ (es : List asked.Said). es ++ last) state_told
        ∙ append_assoc t.past (dones slot kept) last
        ∙ sym past_records

    abbrev held_now : List ℕ
    held_now = (poured (length chunk) w).held

    -- what is held in its slot
    own_held : (slot_at (feed_done n slot chunk).night.house slot).held ≡ length held_now
    own_held =
        let opened = (can_feed h slot long ok).opened in
        (fed_keeps h slot (held_at n slot) chunk f.fine.shaped f.fine.sound inside opened
        (held_bytes n f.fine slot) chunk_bytes_lem (held_short n f.fine slot inside opened)).count

    -- .. and in another
    else_held : (i : ℕ) → (i ≡ slot → ⊥) → (slot_at (feed_done n slot chunk).night.house i).held ≡ (slot_at h i).held
    else_held i ne =
        let g = (poured (length chunk) w).state in
        ap (λ (s : Slot). s.held) (get_or-set_other g.slots slot i _ no_slot ne)
        ∙ ap (λ (x : House). (slot_at x i).held) (poured_state (length chunk) w ∙ walks.made.is)
        ∙ delivers_keep_held h slot kept i

    fed_held : (a : Answer)
        → let next = (feed_done n slot chunk).night in Holds (fed_by slot chunk a t).held (carry_at next) next.house
    fed_held a i there =
        let told : walk_held (length chunk) (walked (hearing_by slot) (Waits t.past []) (held_of t slot ++ chunk))
        ≡ held_now = ap (walk_held (length chunk)) fed_walk ∙ walk_held_lem (length chunk) w v like in
        ap (λ (xs : List ℕ). get_or (set t.held slot xs) i []) told
        ∙ same_or i slot
        (λ (q : i ≡ slot).
        rw (
          q,
          own_held,
          get_or-set_same t.held slot held_now [] (omega (arith, inside, f.many)),
          get_or-set_same n.carries slot held_now [] (omega (arith, inside, f.fine.carries)),
        )
        (sym (take-length held_now)))
        (λ (ne : i ≡ slot → ⊥).
        rw (
          else_held i ne,
          get_or-set_other t.held slot i held_now [] ne,
          get_or-set_other n.carries slot i held_now [] ne,
        )
        (f.held i there))

-- ---- one call more

-- what is told after a call, of the night after it
record Step (past : List asked.Call) (more : List asked.Call) (t : Telling) (n : Night) : Type 0 where
  is : t.past ≡ asked.history house.fresh (past ++ more)
  many : length t.held ≡ slot_count
  held : Holds t.held (carry_at n) n.house

module _ (n : Night) (past : List asked.Call) (t : Telling) (f : Follows n past t) where
  unchanged : Step past [] t n
  unchanged =
      record { is = f.is ∙ ap (asked.history house.fresh) (sym (append-nil past)); many = f.many; held = f.held }

  feed_step : (slot long : ℕ) (chunk : List ℕ) → Bytes chunk
      → Step past (spelled_by n (Feed slot long chunk))
      (told_by (Feed slot long chunk) (reply n (Feed slot long chunk)) t) (after n (Feed slot long chunk))
  unfolding feed_next
  feed_step slot long chunk bytes =
      subst
      (λ (b : Bool). Told-by b (all (tests (feed_checks n.house slot long))) (feed_next n slot long chunk))
      (sym (judges_same n past t f slot long))
      (checked_told (λ (a : Answer). next_as (Took a 0) n) (feed_checks n.house slot long) (feed_done n slot chunk)
      (λ (b : Bool) (x : Next). Told-by b b x) (λ a. unchanged)
      (λ ok.
      record {
        is = fed_past n past t f slot long chunk bytes ok;
        many = length-set t.held slot _ ∙ f.many;
        held = fed_held n past t f slot long chunk bytes ok (answer_of (feed_done n slot chunk).reply);
      }))
    where
      Told-by : Bool → Bool → Next → Type 0
      Told-by told judged x =
          Step past (cond judged (delivers slot (judged_in n slot chunk)) [])
          (cond told (fed_by slot chunk (answer_of x.reply) t) t) x.night

  asked_step : (c : asked.Call)
      → Step past (c ∷ []) (asked_by (said c (asked.reply n.house c)) t) (after n (Asked c))
  asked_step c =
      record {
        is =
            ap₂ (λ (es : List asked.Said) (r : asked.Reply). es ++ (said c r ∷ [])) f.is
            (sym (bare_reply n.house c f.fine.sound) ∙ ap (λ (g : House). asked.reply g c) f.made)
            ∙ sym (history_append house.fresh past (c ∷ []));
        many = asked_many (is_done (said c (asked.reply n.house c))) c;
        held = asked_holds t.held f.many (carry_at n) n.house f.fine.shaped f.held c;
      }
    where
      asked_many : (b : Bool) (c : asked.Call) → length (cond b (emptied c t.held) t.held) ≡ slot_count
      asked_many false c = f.many
      asked_many true (Open slot floor) = length-set t.held slot [] ∙ f.many
      asked_many true (Deliver slot rec) = f.many
      asked_many true (Report slot long) = f.many
      asked_many true (Close slot) = length-set t.held slot [] ∙ f.many
      asked_many true Figured = f.many

  step : (c : Call) → Sent c → Step past (spelled_by n c) (told_by c (reply n c) t) (after n c)
  step (Asked c) sent = asked_step c
  step (Feed slot long chunk) sent = feed_step slot long chunk sent
  step (End slot) sent = unchanged

  follows_on : (c : Call) → Sent c → Follows (after n c) (past ++ spelled_by n c) (told_by c (reply n c) t)
  follows_on c sent =
      let now = step c sent in
      let spells = spell_call n c sent f.fine in
      record {
        fine = after_fine n c sent f.fine;
        sent = sent_append past (spelled_by n c) f.sent spells.sent;
        made =
            spells.makes
            ∙ ap (λ (g : House). asked.reached g (spelled_by n c)) f.made
            ∙ sym (reached_append house.fresh past (spelled_by n c));
        is = now.is;
        many = now.many;
        held = now.held;
      }

-- ---- all calls

follows_all : (n : Night) (past : List asked.Call) (t : Telling) (calls : List Call) → AllSent calls → Follows n past t
    → Follows (reached n calls) (past ++ spelled n calls) (telling_from (history n calls) t)
follows_all n past t [] sent f = subst (λ (cs : List asked.Call). Follows n cs t) (sym (append-nil past)) f
follows_all n past t (c ∷ cs) sent f =
    subst
    (λ (l : List asked.Call).
    Follows (reached (after n c) cs) l (telling_from (history (after n c) cs) (told_by c (reply n c) t)))
    (append_assoc past (spelled_by n c) (spelled (after n c) cs))
    (follows_all (after n c) (past ++ spelled_by n c) (told_by c (reply n c) t) cs sent.1
    (follows_on n past t f c sent.0))

none_held : (k i : ℕ) (carry : List ℕ)
    → get_or (replicate k []) i [] ≡ take (get_or (replicate k closed_slot) i no_slot).held carry
none_held zero i carry = refl
none_held (suc k) zero carry = refl
none_held (suc k) (suc i) carry = none_held k i carry

pub told_alone : ToldAlone
told_alone calls sent =
    let f = follows_all fresh [] nothing_told calls sent
    (record {
      fine = fresh_fine;
      sent = tt;
      made = bare_fresh;
      is = refl;
      many = refl;
      held = λ i there. none_held slot_count i (carry_at fresh i);
    }) in
    (f.is, f.held)
