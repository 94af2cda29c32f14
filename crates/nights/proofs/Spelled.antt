-- The statements of specs/Spelled.antt, proved: a walk over the held bytes and the chunk makes the house that its
-- records make, delivered one after the other, and no call reads what is held.
-- Assumes nothing.
use mathlib.Core.Path.{◌≡◌, refl, ap, ap₂, sym, subst, ◌∙◌}
use mathlib.Core.Bool.{Bool, cond}
use mathlib.Core.List.{List, [], ◌∷◌, ◌++◌, map}
use Prim.Native.Nat.{ℕ}
use native.Mathlib.Omega.{arith}
use lib.ListN.{length}
use Rattle.answers.specs.declared.Answer.{Answer}
use Rattle.answers.specs.declared.Answer.TheVariants.{Done}
use Rattle.answers.specs.Numbers.{number_of}
use Rattle.numbers.specs.Laws.{Bytes}
use Rattle.numbers.proofs.Laws.{bytes_append}
use Rattle.cutting.specs.Walk.{Heard, Turned, Walked, Waits, Stops, walked, records, accepted, Run, Ran, heard_on}
use Rattle.cutting.specs.Walk.{heard_all, state_of}
use Rattle.cutting.specs.Laws.{TurnedAt, AllBytes, stopped}
use Rattle.cutting.proofs.Walks.{walked_turned, records_bytes, accepted_runs, accepted_stopped}
use Rattle.house.specs.declared.House.{House}
use Rattle.house.specs.Calls.{deliver}
use Rattle.house.specs.Feeding.{hearing, poured, feed_checks}
use Rattle.house.specs.History as asked
use Rattle.house.specs.Laws.{bare}
use Rattle.house.proofs.Refusing.{refused_keeps}
use Rattle.house.proofs.Feeding.{hears, heard_by_lem, turned_some, poured_state}
use Rattle.house.proofs.Bare.{bare_fresh, bare_held, bare_reply, bare_after, bare_reached}
use Rattle.nights.specs.Night.{Night, Next, fresh, held_at, Call, Asked, Feed, End, Took, Replied, next_as}
use Rattle.nights.specs.Night.{feed_done, feed_next, after, reached, Sent, AllSent}
use Rattle.nights.specs.Laws.{Fine}
use Rattle.nights.specs.Spelled.{delivers, judged_in, spelled_by, spelled, SpelledSent, SpelledOut, AskedTold}
use Rattle.nights.proofs.Checks.{checked_told, zero_done}
use Rattle.nights.proofs.Keeping.{held_bytes, fresh_fine, after_fine, reached_fine}

-- ---- records heard, and delivered

-- records that are all accepted
abbrev pub dones : ℕ → List (List ℕ) → List asked.Said
dones slot recs = map (λ (rec : List ℕ). asked.said (asked.Deliver slot rec) (asked.Told Done)) recs

-- one after the other they make a house, and each is answered 0
pub record Made (slot : ℕ) (h : House) (recs : List (List ℕ)) (g : House) : Type 0 where
  pub is : g ≡ asked.reached h (delivers slot recs)
  pub says : asked.history h (delivers slot recs) ≡ dones slot recs

-- as they do where they are heard
runs_delivers : (slot : ℕ) (h g : House) (recs : List (List ℕ)) → AllBytes recs
    → heard_all (hearing slot) h recs ≡ Ran g → Made slot h recs g
runs_delivers slot h g [] bytes ran = record { is = cc; says = refl }
runs_delivers slot h g (rec ∷ recs) bytes ran =
    let next : House → Run House Answer = λ t. heard_all (hearing slot) t recs in
    heard_by_lem (λ (v : Heard House Answer). heard_on v h next ≡ Ran g → Made slot h (rec ∷ recs) g) (deliver h slot rec)
    (λ zero e.
    let on = runs_delivers slot (deliver h slot rec).house g recs bytes.1 e in
    record {
      is = on.is;
      says =
          ap₂
          (λ (a : Answer) (es : List asked.Said). asked.said (asked.Deliver slot rec) (asked.Told a) ∷ es)
          (zero_done (deliver h slot rec).answer zero) on.says;
    })
    (λ refused e. let never : ◌≡◌ {A = ℕ} 0 1 = cc in absurd (omega arith))
    (ap (λ (v : Heard House Answer). heard_on v h next) (sym (hears slot h rec bytes.0)) ∙ ran)

pub delivers_sent : (slot : ℕ) (recs : List (List ℕ)) → AllBytes recs → asked.AllSent (delivers slot recs)
delivers_sent slot [] bytes = tt
delivers_sent slot (rec ∷ recs) bytes = (bytes.0, delivers_sent slot recs bytes.1)

-- a record that stops a feed is answered so, and changes nothing
pub turned_answer : (slot : ℕ) (h : House) (rec : List ℕ) (a : Answer) → Bytes rec → (hearing slot).hear h rec ≡ Turned a
    → (deliver h slot rec).answer ≡ a
turned_answer slot h rec a bytes is =
    heard_by_lem (λ (v : Heard House Answer). v ≡ Turned a → (deliver h slot rec).answer ≡ a) (deliver h slot rec)
    (λ done e. let never : ◌≡◌ {A = ℕ} 0 1 = cc in absurd (omega arith)) (λ refused e. cc)
    (sym (hears slot h rec bytes) ∙ is)

stopped_keeps : (slot : ℕ) (w : Walked House Answer) → TurnedAt (hearing slot) w → AllBytes (stopped w)
    → asked.reached (state_of w) (delivers slot (stopped w)) ≡ state_of w
stopped_keeps slot (Waits h part) is bytes = refl
stopped_keeps slot (Stops h rec a rest) is bytes =
    refused_keeps h (asked.Deliver slot rec)
    (λ done. turned_some slot h rec a is (ap number_of (sym (turned_answer slot h rec a bytes.0 is) ∙ done)))

pub bytes_both : (xs ys : List (List ℕ)) → AllBytes (xs ++ ys) → AllBytes xs × AllBytes ys
bytes_both [] ys bytes = (tt, bytes)
bytes_both (x ∷ xs) ys bytes = let rest = bytes_both xs ys bytes.1 in ((bytes.0, rest.0), rest.1)

pub delivers_append : (slot : ℕ) (xs ys : List (List ℕ))
    → delivers slot (xs ++ ys) ≡ delivers slot xs ++ delivers slot ys
delivers_append slot [] ys = refl
delivers_append slot (x ∷ xs) ys =
    ap (λ (cs : List asked.Call). asked.Deliver slot x ∷ cs) (delivers_append slot xs ys)

pub reached_append : (h : House) (cs ds : List asked.Call)
    → asked.reached h (cs ++ ds) ≡ asked.reached (asked.reached h cs) ds
reached_append h [] ds = refl
reached_append h (c ∷ cs) ds = reached_append (asked.after h c) cs ds

-- what a walk over bytes is, told by deliveries: of the records accepted, and of the one that stopped it
pub record Walking (slot : ℕ) (h : House) (bs : List ℕ) : Type 0 where
  pub bytes : AllBytes (accepted (hearing slot) (Waits h []) bs ++ stopped (walked (hearing slot) (Waits h []) bs))
  pub made : Made slot h (accepted (hearing slot) (Waits h []) bs) (state_of (walked (hearing slot) (Waits h []) bs))

pub walking : (slot : ℕ) (h : House) (bs : List ℕ) → Bytes bs → Walking slot h bs
walking slot h bs bytes =
    let m = hearing slot in
    let kept = accepted m (Waits h []) bs in
    let w = walked m (Waits h []) bs in
    let all_bytes = subst AllBytes (accepted_stopped House Answer m h bs) (records_bytes House Answer m h bs bytes) in
    record {
      bytes = all_bytes;
      made =
          runs_delivers slot h (state_of w) kept (bytes_both kept (stopped w) all_bytes).0
          (accepted_runs House Answer m h bs);
    }

-- so it makes the house that its records make, delivered one after the other
pub walk_delivers : (slot : ℕ) (h : House) (bs : List ℕ) → Bytes bs
    → state_of (walked (hearing slot) (Waits h []) bs)
    ≡ asked.reached h (delivers slot (records (hearing slot) (Waits h []) bs))
walk_delivers slot h bs bytes =
    let m = hearing slot in
    let kept = accepted m (Waits h []) bs in
    let w = walked m (Waits h []) bs in
    let told = walking slot h bs bytes in
    let last = delivers slot (stopped w) in
    sym (stopped_keeps slot w (walked_turned House Answer m (Waits h []) bs tt)
    (bytes_both kept (stopped w) told.bytes).1)
    ∙ ap (λ (g : House). asked.reached g last) told.made.is
    ∙ sym (reached_append h (delivers slot kept) last)
    ∙ ap (asked.reached h)
    (sym (ap (delivers slot) (accepted_stopped House Answer m h bs) ∙ delivers_append slot kept (stopped w)))

-- ---- calls

-- bytes are sent, and the house is made but for what is held
pub record Spells (n m : Night) (cs : List asked.Call) : Type 0 where
  pub sent : asked.AllSent cs
  pub makes : bare m.house ≡ asked.reached (bare n.house) cs

pub fed_bytes : (n : Night) → Fine n → (slot : ℕ) (chunk : List ℕ) → Bytes chunk → Bytes (held_at n slot ++ chunk)
fed_bytes n fine slot chunk bytes = bytes_append (held_at n slot) chunk (held_bytes n fine slot) bytes

pub spell_call : (n : Night) (c : Call) → Sent c → Fine n → Spells n (after n c) (spelled_by n c)
unfolding feed_next
spell_call n (Asked c) sent fine =
    record { sent = (sent, tt); makes = sym (bare_after n.house c fine.sound) }
spell_call n (Feed slot long chunk) sent fine =
    checked_told (λ (a : Answer). next_as (Took a 0) n) (feed_checks n.house slot long) (feed_done n slot chunk)
    (λ (t : Bool) (x : Next). Spells n x.night (cond t (delivers slot (judged_in n slot chunk)) []))
    (λ a. record { sent = tt; makes = refl })
    (λ ok.
    let h = n.house in
    let bytes = held_at n slot ++ chunk in
    let w = walked (hearing slot) (Waits h []) bytes in
    let recs = judged_in n slot chunk in
    let all_bytes = fed_bytes n fine slot chunk sent in
    let all_sent = delivers_sent slot recs (records_bytes House Answer (hearing slot) h bytes all_bytes) in
    record {
      sent = all_sent;
      makes =
          bare_held (poured (length chunk) w).state slot _
          ∙ ap bare (poured_state (length chunk) w ∙ walk_delivers slot h bytes all_bytes)
          ∙ sym (bare_reached h (delivers slot recs) all_sent fine.shaped fine.sound);
    })
spell_call n (End slot) sent fine = record { sent = tt; makes = refl }

pub sent_append : (cs ds : List asked.Call) → asked.AllSent cs → asked.AllSent ds → asked.AllSent (cs ++ ds)
sent_append [] ds p q = q
sent_append (c ∷ cs) ds p q = (p.0, sent_append cs ds p.1 q)

spell_all : (n : Night) (calls : List Call) → AllSent calls → Fine n → Spells n (reached n calls) (spelled n calls)
spell_all n [] sent fine = record { sent = tt; makes = refl }
spell_all n (c ∷ cs) sent fine =
    let one = spell_call n c sent.0 fine in
    let rest = spell_all (after n c) cs sent.1 (after_fine n c sent.0 fine) in
    record {
      sent = sent_append (spelled_by n c) (spelled (after n c) cs) one.sent rest.sent;
      makes =
          rest.makes
          ∙ ap (λ (g : House). asked.reached g (spelled (after n c) cs)) one.makes
          ∙ sym (reached_append (bare n.house) (spelled_by n c) (spelled (after n c) cs));
    }

pub spelled_sent : SpelledSent
spelled_sent calls sent = (spell_all fresh calls sent fresh_fine).sent

pub spelled_out : SpelledOut
spelled_out calls sent =
    (spell_all fresh calls sent fresh_fine).makes
    ∙ ap (λ (g : House). asked.reached g (spelled fresh calls)) bare_fresh

pub asked_told : AskedTold
asked_told calls c sent =
    ap Replied
    (sym (bare_reply (reached fresh calls).house c (reached_fine calls sent).sound)
    ∙ ap (λ (g : House). asked.reply g c) (spelled_out calls sent))
