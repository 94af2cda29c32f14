-- Laws of the carry and the chunk: what a walk over either comes to, how bytes move, and what is held and taken at the
-- end.
-- Assumes nothing.
use Rattle.std.specs.Prelude.{Option, Some, None, min}
use mathlib.Core.Path.{◌≡◌, refl, ap, sym, subst, ◌∙◌}
use mathlib.Core.Bool.{Bool, true, false, not, ◌&&◌, false≢true}
use mathlib.Core.List.{List, [], ◌++◌, append_assoc, append-nil}
use Prim.Native.Nat.{ℕ, ◌+◌, ◌-◌, ◌≤◌, ◌<◌}
use native.Mathlib.Omega.{arith}
use borrow.Author.Tests.{ltb-true, ltb-false, ne_eqb}
use lib.Dec.{ltb, eqb}
use lib.ListN.{length, take, drop, length-append, length-drop, take-append-drop, drop_of_length-le}
use Rattle.std.proofs.lemmas.List.{take_min, take-take, take-append-le}
use lib.Seq.{get_or-drop, drop-drop, length-take-le, take_all, take-add, take-append_seam}
use Rattle.prelude.proofs.Both.{both_right}
use Rattle.numbers.specs.Laws.{Bytes}
use Rattle.numbers.proofs.Laws.{part_bytes}
use Rattle.answers.specs.declared.Answer.{Answer}
use Rattle.session.specs.declared.Standing.{Standing}
use Rattle.house.specs.declared.Room.{Room}
use Rattle.house.specs.House.{carry_length}
use Rattle.house.specs.Deliver.{Core, core}
use Rattle.house.specs.Feeding.{Poured, poured}
use Rattle.cutting.specs.Needed.{longest, needed, cut}
use Rattle.cutting.specs.Walk.{Walked, Waits, Stops, walked}
use Rattle.cutting.proofs.Walks.{walked_append, walked_stops, walked_again}
use Rattle.cutting.proofs.Cuts.{needed_most, cut_record}
use Rattle.cutting.proofs.Moves.{drop_take}
use Rattle.walking.specs.declared.Stop.{Stop}
use Rattle.walking.specs.declared.Stage.{Stage}
use Rattle.walking.specs.Walking.{stage, stage_standing, stage_progress}
use Rattle.walking.specs.Lent.{past_count, Walkable, Arrived}
use Rattle.output.specs.Placed.{part, Put}
use Rattle.output.proofs.Laws.{length_part}
use Rattle.pouring.specs.declared.Pour.{Pour}
use Rattle.pouring.specs.Pouring.{pouring, Lends, reason, answer_of, ends_in, pour_core, is_going, goes_on}
use Rattle.pouring.specs.Pouring.{halted, held_to, Carried, Flows, Tops, Pours}
use Rattle.pouring.proofs.Alike.{lendable, lends_back, ends_told}

abbrev made : Core → Answer → List ℕ → ℕ → Poured Core
made c a held taken = record { state = c; answer = a; held = held; taken = taken }

-- ---- parts of lists

bytes_drop : (at : ℕ) (l : List ℕ) → Bytes l → Bytes (drop at l)
bytes_drop at l low k = rw (get_or-drop at l k 0) (low (at + k))

-- a part of a chunk and what is behind it
drop_part : (at n : ℕ) (l : List ℕ) → drop at l ≡ take n (drop at l) ++ drop (at + n) l
drop_part at n l =
    sym (take-append-drop n (drop at l)) ∙ ap (λ (r : List ℕ). take n (drop at l) ++ r) (drop-drop n at l)

-- ---- a walk

module _ (room : Room) (keys counts parts : List ℕ) (used : ℕ) (st : Standing) (at : ℕ) (bytes : List ℕ) where
  pub walk_begins : Lends room (core keys counts used st parts) → at ≤ length bytes → length bytes ≤ past_count
      → {s : Stage} → s ≡ stage used st 0 None at true
      → Walkable room longest keys counts parts s bytes × (s.more ≡ true)
  walk_begins lends within few is =
      rw is (
        record {
          takes = omega arith;
          lendable = lendable room (core keys counts used st parts) 0 lends;
          within = within;
          countable = omega (arith, few);
        },
        refl,
      )

  -- .. and what it comes to
  module _ (range : Bytes bytes) {s : Stage} (first : s ≡ stage used st 0 None at true) (ks cs ps : List ℕ) (w : Stage)
      (a : Arrived room longest keys counts parts s ks cs ps w bytes) {next : Standing}
      (stands : next ≡ stage_standing w) where
    told : Arrived room longest keys counts parts (stage used st 0 None at true) ks cs ps w bytes
    told = subst (λ (x : Stage). Arrived room longest keys counts parts x ks cs ps w bytes) first a

    pub walk_ends : ends_in w.fate (core ks cs w.used next ps) (drop w.at bytes)
        ≡ walked (pouring room) (Waits (core keys counts used st parts) []) (drop at bytes)
    walk_ends =
        rw stands
        (ends_told room (core keys counts used st parts) 0 w.fate (stage_progress ks cs ps w) (drop w.at bytes)
        (drop at bytes) (bytes_drop at bytes range) told.is)

    pub walk_lends : Lends room (core ks cs w.used next ps)
    walk_lends = rw stands (lends_back room (stage_progress ks cs ps w).core w.accepted told.lends)

-- ---- the carry, walked

module _ (room : Room) (keys counts parts : List ℕ) (p : Pour) (carry : List ℕ)
    (c : Carried room keys counts parts p carry) where
  abbrev front : List ℕ
  front = take p.held carry

  size : length front ≡ p.held
  size = length-take-le p.held carry (omega (arith, c.within, c.long))

  pub carry_begins : {s : Stage} → s ≡ stage p.used p.standing 0 None 0 true
      → Walkable room longest keys counts parts s front × (s.more ≡ true)
  carry_begins is =
      walk_begins room keys counts parts p.used p.standing 0 front c.lends (omega arith)
      (omega (arith, size, c.within)) is

  module _ {s : Stage} (first : s ≡ stage p.used p.standing 0 None 0 true) (ks cs ps : List ℕ) (w : Stage)
      (a : Arrived room longest keys counts parts s ks cs ps w front) where
    pub carry_flows : Bytes front → {next : Standing} → next ≡ stage_standing w → (held : ℕ) (new : List ℕ)
        → held ≡ p.held - w.at → take held new ≡ take held (drop w.at carry)
        → Flows room keys counts parts p carry ks cs ps
        (record { used = w.used; standing = next; fate = w.fate; held = held; at = p.at }) new
    carry_flows range {next} stands held new count moved =
        let left : take held new ≡ drop w.at front
        = moved
        ∙ ap (λ (n : ℕ). take n (drop w.at carry)) count
        ∙ sym (drop_take w.at p.held carry) in
        record {
          is =
              ap (λ (l : List ℕ). ends_in w.fate (core ks cs w.used next ps) l) left
              ∙ walk_ends room keys counts parts p.used p.standing 0 front range first ks cs ps w a stands;
          lends = walk_lends room keys counts parts p.used p.standing 0 front range first ks cs ps w a stands;
          within = omega (arith, count);
          few = λ goes. omega (arith, count, size, length-drop w.at front, a.few goes);
          same = refl;
        }

-- ---- the carry, topped up

pub topped : (held at n : ℕ) (carry chunk old rest : List ℕ) (r : ℕ) (new : List ℕ) → held ≤ length carry
    → at + n ≤ length chunk → Put (part at n chunk) old r new
    → (r ≡ n)
    × (take (held + r) (take held carry ++ (new ++ rest)) ≡ take held carry ++ take r (drop at chunk))
topped held at n carry chunk old rest r new within there put =
    let d = take n (drop at chunk) in
    let x = drop (length d) old in
    let count : r ≡ n = put.count ∙ length_part at n chunk there in
    let front = take held carry in
    let long : length (front ++ d) ≡ held + r
    = length-append front d ∙ omega (arith, length-take-le held carry within, put.count) in
    let all : front ++ (new ++ rest) ≡ (front ++ d) ++ (x ++ rest)
    = ap (λ (l : List ℕ). front ++ (l ++ rest)) put.laid
    ∙ ap (λ (l : List ℕ). front ++ l) (append_assoc d x rest)
    ∙ sym (append_assoc front d (x ++ rest)) in (
      count,
      ap (λ (l : List ℕ). take (held + r) l) all
          ∙ ap (λ (k : ℕ). take k ((front ++ d) ++ (x ++ rest))) (sym long)
          ∙ take-append_seam (front ++ d) (x ++ rest)
          ∙ ap (λ (k : ℕ). front ++ take k (drop at chunk)) (sym count),
    )

pub tops : (room : Room) (keys counts parts : List ℕ) (p : Pour) (carry chunk : List ℕ) (n : ℕ) (mid : List ℕ)
    (ks cs ps : List ℕ) (r : Pour) (new : List ℕ) → length carry ≡ carry_length → 1 ≤ n → p.at + n ≤ length chunk
    → p.held + n ≤ length carry
    → take (p.held + n) mid ≡ take p.held carry ++ take n (drop p.at chunk)
    → Flows room keys counts parts
    (record { used = p.used; standing = p.standing; fate = None; held = p.held + n; at = p.at + n }) mid ks cs ps
    r new
    → Tops room (pour_core keys counts parts p) p carry chunk (pour_core ks cs ps r) r new
tops room keys counts parts p carry chunk n mid ks cs ps r new long some there fits top f =
    let moved : n ≡ r.at - p.at = omega (arith, f.same) in
    record {
      is =
          f.is
          ∙ ap (λ (l : List ℕ). walked (pouring room) (Waits (pour_core keys counts parts p) []) l)
          (top ∙ ap (λ (k : ℕ). take p.held carry ++ take k (drop p.at chunk)) moved);
      lends = f.lends;
      within = omega (arith, f.within, fits, long);
      few = f.few;
      further = omega (arith, f.same, some);
      upto = omega (arith, f.same, there);
    }

-- ---- the chunk, where it lies

-- what is held of it has room in a carry
pub part_fits : (fate : Option Stop) (st : Standing) (chunk : List ℕ) (from : ℕ) → from ≤ length chunk → Bytes chunk
    → (fate ≡ None → length (drop from chunk) < longest) → (end : ℕ) → end ≡ held_to fate st chunk from
    → (from ≤ end) × (end ≤ length chunk) × (end - from ≤ carry_length)
part_fits None st chunk from within range few end is =
    let size = length-drop from chunk in
    (omega (arith, is), omega (arith, is), omega (arith, is, size, few refl))
part_fits (Some why) st chunk from within range few end is =
    let most = needed_most st (drop from chunk) (bytes_drop from chunk range) in
    (omega (arith, is), omega (arith, is, within), omega (arith, is, most))

pub chunk_pours : (fate : Option Stop) (c : Core) (chunk carry new : List ℕ) (from end n : ℕ) → from ≤ length chunk
    → Bytes chunk → end ≡ held_to fate c.standing chunk from → Put (part from (end - from) chunk) carry n new
    → made c (answer_of fate) (take n new) end ≡ poured (length chunk) (ends_in fate c (drop from chunk))
chunk_pours fate c chunk carry new from end n within range is put = go fate is
  where
    size : length (drop from chunk) ≡ length chunk - from
    size = length-drop from chunk

    front : take n new ≡ take (end - from) (drop from chunk)
    front =
        let d = take (end - from) (drop from chunk) in
        ap (λ (l : List ℕ). take n l) put.laid
        ∙ ap (λ (k : ℕ). take k (d ++ drop (length d) carry)) put.count
        ∙ take-append_seam d (drop (length d) carry)

    go : (f : Option Stop) → end ≡ held_to f c.standing chunk from
        → made c (answer_of f) (take n new) end ≡ poured (length chunk) (ends_in f c (drop from chunk))
    go None e =
        let all : take (end - from) (drop from chunk) ≡ drop from chunk
        = take_all (end - from) (drop from chunk) (omega (arith, e, size)) in
        rw (front, all, e)
    go (Some why) e =
        let most = needed_most c.standing (drop from chunk) (bytes_drop from chunk range) in
        let whole = cut_record longest c.standing (drop from chunk) most in
        let m = needed c.standing (drop from chunk) in
        let rest = drop m (drop from chunk) in
        let short : length rest - length chunk ≡ 0
        = omega (arith, length-drop m (drop from chunk), size) in
        let held : take (end - from) (drop from chunk) ≡ take m (drop from chunk)
        = ap (λ (k : ℕ). take k (drop from chunk)) (sized e)
        ∙ take_min m (drop from chunk) in
        rw (whole, front, held, short, append-nil)
        (ap (λ (k : ℕ). made c (reason why) (take m (drop from chunk)) k) (taken e))
      where
        sized : end ≡ held_to (Some why) c.standing chunk from
            → end - from ≡ min (needed c.standing (drop from chunk)) (length (drop from chunk))
        sized e = rw size (omega (arith, e))

        taken : end ≡ held_to (Some why) c.standing chunk from
            → end ≡ length chunk - length (drop (needed c.standing (drop from chunk)) (drop from chunk))
        taken e =
            omega (arith, e, within, size, length-drop (needed c.standing (drop from chunk)) (drop from chunk))

-- ---- what is left once the carry asks for no more

-- a refused record in the carry: n is its length, and `left` what is behind all that is in the carry
module _ (n at : ℕ) (carry left : List ℕ) (held : ℕ) (within : held ≤ length carry) (all : ℕ)
    (most : at + length left ≡ all) where
  abbrev bytes : List ℕ
  bytes = take held carry

  abbrev rest : List ℕ
  rest = drop n bytes ++ left

  long : length bytes ≡ held
  long = length-take-le held carry within

  rest_long : length rest ≡ (held - n) + length left
  rest_long = length-append (drop n bytes) left ∙ omega (arith, length-drop n bytes, long)

  behind : take (length rest - all) rest ≡ take (held - n - at) (drop n bytes)
  behind =
      let size : length rest - all ≡ held - n - at = omega (arith, rest_long) in
      ap (λ (k : ℕ). take k rest) size
      ∙ take-append-le (held - n - at) (drop n bytes) left (omega (arith, length-drop n bytes, long))

  held_halted : take (min n held + (held - min n held - at)) carry ≡ take n bytes ++ take (length rest - all) rest
  held_halted =
      let more = n + (held - n - at) in
      let front : min more held ≡ min n held + (held - min n held - at) = omega arith in
      sym
      (ap (λ (l : List ℕ). take n bytes ++ l) behind
      ∙ sym (take-add n (held - n - at) bytes)
      ∙ sym (take_min more bytes)
      ∙ ap (λ (k : ℕ). take (min more k) bytes) long
      ∙ take-take (min more held) held carry (omega arith)
      ∙ ap (λ (k : ℕ). take k carry) front)

  taken_halted : at - (held - min n held) ≡ all - length rest
  taken_halted = omega (arith, rest_long, most)

  few_halted : min n held + (held - min n held - at) ≤ held
  few_halted = omega arith

pub stop_pours : (room : Room) (why : Stop) (keys counts parts : List ℕ) (p : Pour) (carry chunk : List ℕ)
    → p.at ≤ length chunk → p.held ≤ carry_length → length carry ≡ carry_length → Bytes carry → p.fate ≡ Some why
    → {r : Pour} → r ≡ halted p (needed p.standing (take p.held carry))
    → Pours
    (walked (pouring room) (ends_in p.fate (pour_core keys counts parts p) (take p.held carry))
    (drop p.at chunk)) chunk (pour_core keys counts parts r) r carry
stop_pours room why keys counts parts p carry chunk upto within long range stopped is =
    let m = pouring room in
    let c = pour_core keys counts parts p in
    let bytes = take p.held carry in
    let n = needed p.standing bytes in
    let left = drop p.at chunk in
    let inside : p.held ≤ length carry = omega (arith, within, long) in
    let size : p.at + length left ≡ length chunk = omega (arith, length-drop p.at chunk, upto) in
    let most = needed_most p.standing bytes (part_bytes carry 0 p.held range) in
    let whole : cut longest c.standing bytes ≡ n
    = cut_record longest p.standing bytes most in
    let walk : walked m (ends_in p.fate c bytes) left ≡ Stops c (take n bytes) (reason why) (drop n bytes ++ left)
    = ap (λ (f : Option Stop). walked m (ends_in f c bytes) left) stopped
    ∙ ap (λ (k : ℕ). walked m (Stops c (take k bytes) (reason why) (drop k bytes)) left) whole
    ∙ walked_stops Core Answer m c (take n bytes) (reason why) (drop n bytes) left in
    rw is
    (record {
      is =
          ap (λ (f : Option Stop). made c (answer_of f) (take (halted p n).held carry) (halted p n).at) stopped
          ∙ ap (λ (l : List ℕ). made c (reason why) l (halted p n).at)
          (held_halted n p.at carry left p.held inside (length chunk) size)
          ∙ ap
          (λ (k : ℕ).
          made c (reason why)
          (take n bytes ++ take (length (drop n bytes ++ left) - length chunk) (drop n bytes ++ left)) k)
          (taken_halted n p.at carry left p.held inside (length chunk) size)
          ∙ sym (ap (λ (w : Walked Core Answer). poured (length chunk) w) walk);
      within =
          omega (arith, within, few_halted n p.at carry left p.held inside (length chunk) size);
    })

-- part of a record in the carry, and no more of the chunk
pub rest_pours : (room : Room) (c : Core) (p : Pour) (carry chunk : List ℕ) → p.at ≤ length chunk
    → p.held ≤ carry_length → p.fate ≡ None → (p.held ≡ 0 → ⊥) → goes_on p (length chunk) ≡ false
    → Pours (walked (pouring room) (ends_in p.fate c (take p.held carry)) (drop p.at chunk)) chunk c p carry
unfolding walked
rest_pours room c p carry chunk upto within goes some done =
    let stays : (true && (true && ltb p.at (length chunk))) ≡ false
    = rw (goes, ne_eqb p.held 0 some) at done in
    let all = ltb-false p.at (length chunk) stays in
    let same : p.at ≡ length chunk = omega (arith, all, upto) in
    record {
      is = rw (goes, drop_of_length-le chunk {i = p.at} all, same);
      within = within;
    }

-- ---- from one walk over the carry to the next

pub pours_by : {w v : Walked Core Answer} {chunk : List ℕ} {c : Core} {r : Pour} {carry : List ℕ} → w ≡ v
    → Pours w chunk c r carry → Pours v chunk c r carry
pours_by {chunk = chunk} same p =
    record { is = p.is ∙ ap (λ (x : Walked Core Answer). poured (length chunk) x) same; within = p.within }

-- the bytes in the carry and those left of the chunk lead to one end
pub record Flowing (room : Room) (w : Walked Core Answer) (c : Core) (q : Pour) (carry chunk : List ℕ) : Type 0 where
  pub is : walked (pouring room) (ends_in q.fate c (take q.held carry)) (drop q.at chunk) ≡ w
  pub again : q.fate ≡ None
      → walked (pouring room) (Waits c []) (take q.held carry) ≡ Waits c (take q.held carry)
  pub lends : Lends room c
  pub within : q.held ≤ carry_length
  pub few : q.fate ≡ None → q.held < carry_length
  pub upto : q.at ≤ length chunk

module _ (room : Room) (keys counts parts : List ℕ) (p : Pour) (carry ks cs ps : List ℕ) (r : Pour)
    (new chunk : List ℕ) (c : Carried room keys counts parts p carry) (none : p.at ≡ 0)
    (f : Flows room keys counts parts p carry ks cs ps r new) where
  abbrev ending : Walked Core Answer
  ending =
      walked (pouring room) (ends_in r.fate (pour_core ks cs ps r) (take r.held new)) (drop r.at chunk)

  pub flow_begins : Flowing room ending (pour_core ks cs ps r) r new chunk
  flow_begins =
      record {
        is = refl;
        again = λ goes.
            walked_again Core Answer (pouring room) (pour_core keys counts parts p) (pour_core ks cs ps r)
            (take p.held carry) (take r.held new)
            (sym f.is ∙ ap (λ (x : Option Stop). ends_in x (pour_core ks cs ps r) (take r.held new)) goes);
        lends = f.lends;
        within = omega (arith, f.within, c.within);
        few = f.few;
        upto = omega (arith, f.same, none);
      }

  pub flow_first : ending
      ≡ walked (pouring room) (Waits (pour_core keys counts parts p) []) (take p.held carry ++ chunk)
  flow_first =
      let m = pouring room in
      ap
      (λ (k : ℕ). walked m (ends_in r.fate (pour_core ks cs ps r) (take r.held new)) (drop k chunk))
      (f.same ∙ none)
      ∙ ap (λ (w : Walked Core Answer). walked m w chunk) f.is
      ∙ sym (walked_append Core Answer m (Waits (pour_core keys counts parts p) []) (take p.held carry) chunk)

pub goes_on_lem : (p : Pour) (end : ℕ) → goes_on p end ≡ true → (p.fate ≡ None) × (p.at < end)
goes_on_lem p end e =
    let told = go p.fate (not (eqb p.held 0) && ltb p.at end) e in
    (told.0, ltb-true p.at end (both_right (not (eqb p.held 0)) (ltb p.at end) told.1))
  where
    go : (f : Option Stop) (a : Bool) → (is_going f && a) ≡ true → (f ≡ None) × (a ≡ true)
    go None a e = (refl, e)
    go (Some why) a e = absurd (false≢true e)

pub flow_on : (room : Room) (w : Walked Core Answer) (c : Core) (q : Pour) (carry chunk : List ℕ) (d : Core) (r : Pour)
    (new : List ℕ) → q.fate ≡ None → Flowing room w c q carry chunk → Tops room c q carry chunk d r new
    → Flowing room w d r new chunk
flow_on room w c q carry chunk d r new goes f t =
    let m = pouring room in
    let part = take q.held carry in
    let n = r.at - q.at in
    let more = take n (drop q.at chunk) in
    let next : q.at + n ≡ r.at = omega (arith, t.further) in
    record {
      is =
          ap (λ (x : Walked Core Answer). walked m x (drop r.at chunk))
          (t.is
          ∙ walked_append Core Answer m (Waits c []) part more
          ∙ ap (λ (x : Walked Core Answer). walked m x more) (f.again goes))
          ∙ sym (walked_append Core Answer m (Waits c part) more (drop r.at chunk))
          ∙ ap (λ (k : ℕ). walked m (Waits c part) (more ++ drop k chunk)) (sym next)
          ∙ ap (λ (l : List ℕ). walked m (Waits c part) l) (sym (drop_part q.at n chunk))
          ∙ ap (λ (x : Option Stop). walked m (ends_in x c part) (drop q.at chunk)) (sym goes)
          ∙ f.is;
      again = λ on.
          walked_again Core Answer m c d (part ++ more) (take r.held new)
          (sym t.is ∙ ap (λ (x : Option Stop). ends_in x d (take r.held new)) on);
      lends = t.lends;
      within = t.within;
      few = t.few;
      upto = t.upto;
    }
