-- The statements of specs/Laws.antt, proved. Every verdict is a refusal, or one of eight ways to be accepted: `judge-
-- cases` and kind_effects' `said_cases` say so once, and each law is shown of the eight.
-- Assumes nothing.
use Rattle.std.specs.Prelude.{Some}
use mathlib.Core.Path.{◌≡◌, refl, ap, sym, subst, ◌∙◌}
use mathlib.Core.Bool.{Bool, true, false, cond}
use mathlib.Core.List.{List, map, ◌++◌}
use Prim.Native.Nat.{ℕ, ◌+◌, ◌-◌, ◌≤◌, ◌<◌}
use native.Mathlib.Numerals.{add-one}
use native.Mathlib.Omega.{arith}
use lib.ListN.{length, take, drop, length-map, length-drop}
use lib.Seq.{length-take-le, take-append-le, take-take, drop_at}
use Rattle.std.proofs.lemmas.List.{take-map}
use Rattle.answers.specs.declared.Answer.{Answer}
use Rattle.numbers.specs.declared.Order.{Order}
use Rattle.numbers.proofs.Laws.{bytes_drop}
use Rattle.kinds.specs.declared.Kind.{Kind}
use Rattle.kinds.specs.Kinds.{kind_of}
use Rattle.frames.specs.Frames.{header, rec_typ, rec_sub, body}
use Rattle.bodies.specs.declared.Record.{Record}
use Rattle.bodies.specs.declared.Record.TheVariants as said
use Rattle.bodies.specs.Bodies.{read_body}
use Rattle.bodies.specs.Laws.{Right}
use Rattle.bodies.proofs.Said.{said_right}
use Rattle.order.specs.declared.Place.{Place}
use Rattle.order.specs.Order.{goes}
use Rattle.order.specs.Laws.{before}
use Rattle.order.proofs.Laws.{never_back, never_start}
use Rattle.rising.specs.Rising.{rising, rank, held, all_below, inserted, removed, insert_at, remove_at}
use Rattle.rising.proofs.Laws.{rank_within, held_rank, rising_insert, rising_remove, below_insert, below_remove}
use Rattle.rising.proofs.Laws.{insert_taken, insert_length, remove_taken, remove_length}
use Rattle.session.specs.declared.Session.{Session}
use Rattle.session.specs.declared.Standing.{Standing}
use Rattle.session.specs.declared.Verdict.{Verdict}
use Rattle.session.specs.declared.Verdict.TheVariants.{Refused, Taken, Wanted}
use Rattle.session.specs.Session.{most_open, most_wafers, cell_count, most_results, part_of, key_of, past_parts, parts_of}
use Rattle.session.specs.Session.{wafer_number, wafer_head, wafers_in, heads_in, wafers_of, is_start, nothing_yet, stands_right}
use Rattle.session.specs.Session.{parts_right, head_cells, wafers_right, sound}
use Rattle.session.specs.Verdicts.{stands, ByItself}
use Rattle.session.proofs.Laws.{kept_right_lem, sound_right, sound_parts_told, sound_wafers_told, sound_heads_rise}
use Rattle.session.proofs.Laws.{sound_wafers_rise, sound_stands_told, stands_from, stands_before, start_before}
use Rattle.session.proofs.Laws.{past_start}
use Rattle.session.proofs.Wafers.{heads_rise_lem, map_inserted, map_removed}
use Rattle.session.proofs.Cells.{insert_before, remove_before, insert_behind, remove_behind}
use Rattle.settling.specs.Settling.{changed, after, counted_parts, Settles}
use Rattle.first_record.specs.First.{in_order, judge_first, order_in}
use Rattle.first_record.proofs.Checks.{first_cases}
use Rattle.kind_effects.specs.Effects.{with_pcr, with_part, with_result, with_wafers, opens, closes, wafer_opens}
use Rattle.kind_effects.specs.Effects.{wafer_closes, judge_said}
use Rattle.kind_effects.proofs.Cases.{quiet, said_cases}
use Rattle.later_records.specs.Later.{at, judge_later}
use Rattle.later_records.specs.Results.{result_in, result_read, result_of}
use Rattle.later_records.proofs.Checks.{later_cases, acts, mrr_at_end, in_body, quiet_none}
use Rattle.judging.specs.Judge.{judge}
use Rattle.judging.specs.Laws.{JudgedFirst, JudgedLater, JudgedSettles, JudgedSound, JudgedCounts, JudgedFew}
use Rattle.judging.specs.Laws.{JudgedLong, KeyRight, JudgedKey, Begins, Tells, JudgedBegins, JudgedTells}
use Rattle.judging.specs.Laws.{JudgedRefusal}

-- ---- which rules

pub judged_first : JudgedFirst
unfolding judge
judged_first st cells rec e = rw e

pub judged_later : JudgedLater
unfolding judge
judged_later st cells rec e = rw e

-- ---- the ways to be accepted

module _ (st : Standing) (cells : List ℕ) (P : Verdict → Type 0)
    (refused : (a : Answer) → ByItself (take st.opened cells) a → P (Refused a)) where
  judge_cases : (rec : List ℕ)
      → ((order : Order) → is_start st.place ≡ true → order_in rec ≡ order → P (Taken (stands (in_order st order))))
      → ((k : Kind) (q : Place) (r : Record) → kind_of (rec_typ rec) (rec_sub rec) ≡ k → goes st.place k ≡ Some q
      → read_body st.order k (body rec) ≡ Some r → P (judge_said (at st q) cells r))
      → P (judge st cells rec)
  unfolding judge
  judge_cases rec first later = go (is_start st.place) refl
    where
      go : (t : Bool) → is_start st.place ≡ t → P (cond t (judge_first st rec) (judge_later st cells rec))
      go true e = first_cases (take st.opened cells) P refused st rec (λ order. first order e)
      go false e = later_cases st cells P refused rec later

-- ---- a part or a wafer opens and closes among the open ones

-- as many wafers are open as are said to be
wafers_long : (n : ℕ) (cells : List ℕ) → length cells ≡ cell_count → n ≤ most_wafers
    → (length (wafers_in n cells) ≡ n) × (length (heads_in n cells) ≡ n)
wafers_long n cells long few =
    let is : length (wafers_in n cells) ≡ n =
    length-take-le n (drop most_open cells) (omega (arith, length-drop most_open cells)) in
    (is, length-map (wafers_in n cells) wafer_head ∙ is)

pub opened_long : (s : Session) → length s.parts ≡ cell_count → sound s ≡ true
    → length (parts_of s) ≡ s.standing.opened
opened_long s long e = length-take-le s.standing.opened s.parts (omega (arith, (sound_parts_told s e).few))

pub judged_settles : JudgedSettles
judged_settles st cells rec k =
    judge_cases st cells (Settles st) (λ a own. tt) rec (λ order h is. tt)
    (λ kind q r is h f.
    said_cases (at st q) cells (Settles st) (λ a own. tt) r (λ t. tt) (λ p t. tt)
    (λ p t new few. (omega (arith, rank_within (part_of p.head p.site) parts, long), few))
    (λ p t there few.
    (omega (arith, (held_rank (part_of p.head p.site) parts k.rises there).0, long), k.few))
    (λ t done. tt)
    (λ w t new few. (omega (arith, rank_within w.head (heads_in st.wafers cells), wafers.1), few))
    (λ w t there.
    let inside = (held_rank (wafer_number w.head w.group) (wafers_in st.wafers cells) rises there).0 in
    (omega (arith, inside, wafers.0), k.few_wafers)))
  where
    parts : List ℕ
    parts = take st.opened cells

    long : length parts ≡ st.opened
    long = length-take-le st.opened cells k.within

    wafers : (length (wafers_in st.wafers cells) ≡ st.wafers) × (length (heads_in st.wafers cells) ≡ st.wafers)
    wafers = wafers_long st.wafers cells k.long k.few_wafers

    rises : rising (wafers_in st.wafers cells) ≡ true
    rises = heads_rise_lem (wafers_in st.wafers cells) k.heads_rise

-- ---- how many part results are counted

pub judged_counts : JudgedCounts
unfolding after changed
judged_counts s rec =
    judge_cases s.standing s.parts Counts (λ a own. omega arith) rec (λ order h is. omega arith)
    (λ k q r is h f.
    said_cases (at s.standing q) s.parts Counts (λ a own. omega arith) r (λ t. omega arith) (λ p t. omega arith)
    (λ p t new few. omega arith) (λ p t there few. refl) (λ t done. omega arith) (λ w t new few. omega arith)
    (λ w t there. omega arith))
  where
    Counts : Verdict → Type 0
    Counts v = (after s v).standing.results ≡ s.standing.results + counted_parts v

pub judged_few : JudgedFew
unfolding after changed
judged_few s rec low =
    judge_cases s.standing s.parts Few (λ a own. low) rec (λ order h is. low)
    (λ k q r is h f.
    said_cases (at s.standing q) s.parts Few (λ a own. low) r (λ t. low) (λ p t. low) (λ p t new few. low)
    (λ p t there few. omega (arith, few)) (λ t done. low) (λ w t new few. low) (λ w t there. low))
  where
    Few : Verdict → Type 0
    Few v = (after s v).standing.results ≤ most_results

-- ---- the key of a row that is asked for

pub judged_key : JudgedKey
judged_key s rec bytes =
    judge_cases s.standing s.parts KeyRight (λ a own. tt) rec (λ order h is. tt)
    (λ k q r is h f.
    said_cases (at s.standing q) s.parts KeyRight (λ a own. tt) r (λ t. tt) (λ p t. tt) (λ p t new few. tt)
    (λ p t there few.
    let told = said_right s.standing.order k (body rec) r (bytes_drop header rec bytes) f in
    let right : Right (said.Prr p) = subst Right t told in
    (omega (arith, right.0, right.1, right.2), omega (arith, right.0, right.1, right.2)))
    (λ t done. tt) (λ w t new few. tt) (λ w t there. tt))

-- ---- the cells stay as many

pub judged_long : JudgedLong
unfolding after changed
judged_long s rec long e =
    judge_cases s.standing s.parts Long (λ a own. long) rec (λ order h is. long)
    (λ k q r is h f.
    said_cases (at s.standing q) s.parts Long (λ a own. long) r (λ t. long) (λ p t. long)
    (λ p t new few.
    let part = part_of p.head p.site in
    insert_length s.parts s.standing.opened (rank part (parts_of s)) part
    (omega (arith, rank_within part (parts_of s), opened_long s long e)) (omega arith)
    ∙ long)
    (λ p t there few.
    let part = part_of p.head p.site in
    let inside = (held_rank part (parts_of s) (sound_parts_told s e).rises there).0 in
    remove_length s.parts s.standing.opened (rank part (parts_of s)) 1
    (omega (arith, inside, opened_long s long e)) (omega (arith, (sound_parts_told s e).few))
    ∙ long)
    (λ t done. long)
    (λ w t new few.
    let wafer = wafer_number w.head w.group in
    insert_length s.parts (most_open + n) (most_open + rank w.head (heads_in n s.parts)) wafer
    (omega (arith, rank_within w.head (heads_in n s.parts), wafers.1)) (omega arith)
    ∙ long)
    (λ w t there.
    let wafer = wafer_number w.head w.group in
    let inside = (held_rank wafer (wafers_of s) (sound_wafers_rise s e) there).0 in
    remove_length s.parts (most_open + n) (most_open + rank wafer (wafers_of s)) 1 (omega (arith, inside, wafers.0))
    (omega (arith, (sound_wafers_told s e).few))
    ∙ long))
  where
    Long : Verdict → Type 0
    Long v = length (after s v).parts ≡ cell_count

    n : ℕ
    n = s.standing.wafers

    wafers : (length (wafers_of s) ≡ n) × (length (heads_in n s.parts) ≡ n)
    wafers = wafers_long n s.parts long (sound_wafers_told s e).few

-- ---- a sound session stays sound

module _ (s : Session) (long : length s.parts ≡ cell_count) (e : sound s ≡ true) where
  abbrev st : Standing
  st = s.standing

  abbrev heads : List ℕ
  heads = heads_in st.wafers s.parts

  -- cells whose parts, or whose wafers, are the session's
  parts_same : (cells : List ℕ) → take st.opened cells ≡ parts_of s → parts_right st.opened cells ≡ true
  parts_same cells same =
      let p = sound_parts_told s e in
      kept_right_lem most_open past_parts st.opened cells
      (record { few = p.few; rises = rw same p.rises; below = rw same p.below })

  wafers_same : (cells : List ℕ) → drop most_open cells ≡ drop most_open s.parts
      → wafers_right st.wafers cells ≡ true
  wafers_same cells same =
      rw same (kept_right_lem most_wafers 256 st.wafers (head_cells s.parts) (sound_wafers_told s e))

  -- the first cells, and the ones behind them, of a row that is made of both
  first_cells : (xs : List ℕ) → take st.opened (take most_open s.parts ++ xs) ≡ parts_of s
  first_cells xs =
      let p = sound_parts_told s e in
      let all : length (take most_open s.parts) ≡ most_open = length-take-le most_open s.parts (omega arith) in
      take-append-le st.opened (take most_open s.parts) xs (omega (arith, p.few))
      ∙ take-take st.opened most_open s.parts p.few

  last_cells : (xs : List ℕ) → drop most_open (take most_open s.parts ++ xs) ≡ xs
  last_cells xs =
      drop_at (take most_open s.parts) xs most_open (length-take-le most_open s.parts (omega arith))

  long_wafers : (length (wafers_of s) ≡ st.wafers) × (length heads ≡ st.wafers)
  long_wafers = wafers_long st.wafers s.parts long (sound_wafers_told s e).few

  -- the open parts after one more, and after one less; the open wafers stay
  pub parts_opened : (part : ℕ) → st.opened < most_open
      → take (st.opened + 1) (insert_at s.parts st.opened (rank part (parts_of s)) part)
      ≡ inserted (parts_of s) (rank part (parts_of s)) part
  parts_opened part few =
      rw (add-one st.opened)
      (insert_taken s.parts st.opened (rank part (parts_of s)) part
      (omega (arith, rank_within part (parts_of s), opened_long s long e)) (omega arith))

  pub parts_closed : (part : ℕ) → held part (parts_of s) ≡ true
      → take (st.opened - 1) (remove_at s.parts st.opened (rank part (parts_of s)) 1)
      ≡ removed (parts_of s) (rank part (parts_of s)) 1
  parts_closed part there =
      let p = sound_parts_told s e in
      let inside = (held_rank part (parts_of s) p.rises there).0 in
      remove_taken s.parts st.opened (rank part (parts_of s)) 1 (omega (arith, inside, opened_long s long e))
      (omega (arith, p.few))

  pub opened_beside : (part : ℕ) → st.opened < most_open
      → drop most_open (insert_at s.parts st.opened (rank part (parts_of s)) part) ≡ drop most_open s.parts
  opened_beside part few =
      insert_before most_open s.parts st.opened (rank part (parts_of s)) part
      (omega (arith, rank_within part (parts_of s), opened_long s long e)) few (omega arith)

  pub closed_beside : (part : ℕ) → held part (parts_of s) ≡ true
      → drop most_open (remove_at s.parts st.opened (rank part (parts_of s)) 1) ≡ drop most_open s.parts
  closed_beside part there =
      let p = sound_parts_told s e in
      let inside = (held_rank part (parts_of s) p.rises there).0 in
      remove_before most_open s.parts st.opened (rank part (parts_of s)) 1
      (omega (arith, inside, opened_long s long e)) p.few (omega arith)

  opened_right : (part : ℕ) → part < past_parts → held part (parts_of s) ≡ false → st.opened < most_open
      → parts_right (st.opened + 1) (insert_at s.parts st.opened (rank part (parts_of s)) part) ≡ true
  opened_right part low new few =
      let p = sound_parts_told s e in
      let at = rank part (parts_of s) in
      kept_right_lem most_open past_parts (st.opened + 1) (insert_at s.parts st.opened at part)
      (record {
        few = omega arith;
        rises = rw (parts_opened part few) (rising_insert part (parts_of s) p.rises new);
        below = rw (parts_opened part few) (below_insert past_parts (parts_of s) at part p.below low);
      })

  closed_right : (part : ℕ) → held part (parts_of s) ≡ true
      → parts_right (st.opened - 1) (remove_at s.parts st.opened (rank part (parts_of s)) 1) ≡ true
  closed_right part there =
      let p = sound_parts_told s e in
      let at = rank part (parts_of s) in
      kept_right_lem most_open past_parts (st.opened - 1) (remove_at s.parts st.opened at 1)
      (record {
        few = omega (arith, p.few);
        rises = rw (parts_closed part there) (rising_remove (parts_of s) at 1 p.rises);
        below = rw (parts_closed part there) (below_remove past_parts (parts_of s) at 1 p.below);
      })

  -- the open wafers after one more, and after one less; the open parts stay
  abbrev pub cells_opened : ℕ → ℕ → List ℕ
  cells_opened head wafer = insert_at s.parts (most_open + st.wafers) (most_open + rank head heads) wafer

  abbrev pub cells_closed : ℕ → List ℕ
  cells_closed wafer = remove_at s.parts (most_open + st.wafers) (most_open + rank wafer (wafers_of s)) 1

  pub wafers_opened : (head wafer : ℕ) → st.wafers < most_wafers
      → (take st.opened (cells_opened head wafer) ≡ parts_of s)
      × (wafers_in (st.wafers + 1) (cells_opened head wafer) ≡ inserted (wafers_of s) (rank head heads) wafer)
  wafers_opened head wafer few =
      let at = rank head heads in
      let behind = drop most_open s.parts in
      let inside : at ≤ st.wafers = omega (arith, rank_within head heads, long_wafers.1) in
      let xs = insert_at behind st.wafers at wafer in
      rw (
        insert_behind most_open s.parts st.wafers at wafer (omega arith),
        last_cells xs,
        add-one st.wafers,
      ) (
        first_cells xs,
        insert_taken behind st.wafers at wafer inside (omega (arith, length-drop most_open s.parts)),
      )

  pub wafers_closed : (wafer : ℕ) → held wafer (wafers_of s) ≡ true
      → (take st.opened (cells_closed wafer) ≡ parts_of s)
      × (wafers_in (st.wafers - 1) (cells_closed wafer) ≡ removed (wafers_of s) (rank wafer (wafers_of s)) 1)
  wafers_closed wafer there =
      let at = rank wafer (wafers_of s) in
      let behind = drop most_open s.parts in
      let inside : at + 1 ≤ st.wafers =
      omega (arith, (held_rank wafer (wafers_of s) (sound_wafers_rise s e) there).0, long_wafers.0) in
      let xs = remove_at behind st.wafers at 1 in
      rw (remove_behind most_open s.parts st.wafers at 1 (omega arith) (omega arith), last_cells xs) (
        first_cells xs,
        remove_taken behind st.wafers at 1 inside
            (omega (arith, (sound_wafers_told s e).few, length-drop most_open s.parts)),
      )

  -- wafers are right by their heads
  by_heads : (n : ℕ) (cells hs : List ℕ) → heads_in n cells ≡ hs → n ≤ most_wafers → rising hs ≡ true
      → all_below 256 hs ≡ true → wafers_right n cells ≡ true
  by_heads n cells hs is few rises below =
      let same = take-map wafer_head n (drop most_open cells) ∙ is in
      kept_right_lem most_wafers 256 n (head_cells cells)
      (record { few = few; rises = rw same rises; below = rw same below })

  heads_below : all_below 256 heads ≡ true
  heads_below =
      rw (← take-map wafer_head st.wafers (drop most_open s.parts)) (sound_wafers_told s e).below

  wafer_opened_right : (head group : ℕ) → head < 256 → group < 256 → held head heads ≡ false → st.wafers < most_wafers
      → wafers_right (st.wafers + 1) (cells_opened head (wafer_number head group)) ≡ true
  wafer_opened_right head group low byte new few =
      let wafer = wafer_number head group in
      let at = rank head heads in
      let on : wafer_head wafer ≡ head = omega arith in
      by_heads (st.wafers + 1) (cells_opened head wafer) (inserted heads at head)
      (ap (map wafer_head) (wafers_opened head wafer few).1 ∙ map_inserted wafer_head (wafers_of s) at wafer
      ∙ ap (inserted heads at) on)
      (omega arith) (rising_insert head heads (sound_heads_rise s e) new)
      (below_insert 256 heads at head heads_below low)

  wafer_closed_right : (wafer : ℕ) → held wafer (wafers_of s) ≡ true
      → wafers_right (st.wafers - 1) (cells_closed wafer) ≡ true
  wafer_closed_right wafer there =
      let at = rank wafer (wafers_of s) in
      by_heads (st.wafers - 1) (cells_closed wafer) (removed heads at 1)
      (ap (map wafer_head) (wafers_closed wafer there).1 ∙ map_removed wafer_head (wafers_of s) at 1)
      (omega (arith, (sound_wafers_told s e).few)) (rising_remove heads at 1 (sound_heads_rise s e))
      (below_remove 256 heads at 1 heads_below)

pub judged_sound : JudgedSound
unfolding after changed
judged_sound s rec bytes long e =
    judge_cases s.standing s.parts Sound (λ a own. e) rec
    (λ order h is. stood (in_order s.standing order) refl refl (yet (start_before s.standing.place h)))
    (λ k q r named to fits.
    let order = s.standing.order in
    let place = s.standing.place in
    let next = at s.standing q in
    let b = body rec in
    let said_part : Right r = said_right order k b r (bytes_drop header rec bytes) fits in
    said_cases next s.parts Sound (λ a own. e) r
    (λ quieted.
    stood next refl refl
    (stands_from q next (λ h. yet (never_back place q k to h))
    (λ h.
    let is = mrr_at_end order place q k b r to fits h in
    let loud : quiet said.Mrr ≡ true = subst (λ (x : Record). quiet x ≡ true) is quieted in
    let never : ◌≡◌ {A = ℕ} 0 1 = cc in
    absurd (omega arith))))
    (λ p is. stood (with_pcr next) refl refl (in_body order place q k b r to fits (with_pcr next) (ap acts is)))
    (λ p is new few.
    let part = part_of p.head p.site in
    let told : Right (said.Pir p) = subst Right is said_part in
    let then = after s (Taken (opens next (rank part (parts_of s)) part)) in
    sound_right then (opened_right s long e part (omega (arith, told.0, told.1)) new few)
    (wafers_same s long e then.parts (opened_beside s long e part few))
    (in_body order place q k b r to fits (with_part next) (ap acts is)))
    (λ p is there few.
    let part = part_of p.head p.site in
    let key = key_of p.head p.site p.bin in
    let then = after s (Wanted (closes next (rank part (parts_of s))) key) in
    sound_right then (closed_right s long e part there)
    (wafers_same s long e then.parts (closed_beside s long e part there))
    (in_body order place q k b r to fits (with_result next) (ap acts is)))
    (λ is done. stood next refl refl (stands_from q next (λ h. yet (never_back place q k to h)) (λ h. done)))
    (λ w is new few.
    let wafer = wafer_number w.head w.group in
    let told : Right (said.Wir w) = subst Right is said_part in
    let then = after s (Taken (wafer_opens next (rank w.head (heads_in s.standing.wafers s.parts)) wafer)) in
    sound_right then (parts_same s long e then.parts (wafers_opened s long e w.head wafer few).0)
    (wafer_opened_right s long e w.head w.group told.0 told.1 new few)
    (in_body order place q k b r to fits (with_wafers next (s.standing.wafers + 1)) (ap acts is)))
    (λ w is there.
    let wafer = wafer_number w.head w.group in
    let then = after s (Taken (wafer_closes next (rank wafer (wafers_of s)))) in
    sound_right then (parts_same s long e then.parts (wafers_closed s long e wafer there).0)
    (wafer_closed_right s long e wafer there)
    (in_body order place q k b r to fits (with_wafers next (s.standing.wafers - 1)) (ap acts is))))
  where
    Sound : Verdict → Type 0
    Sound v = sound (after s v) ≡ true

    yet : before s.standing.place ≡ true → nothing_yet s.standing ≡ true
    yet h = stands_before s.standing.place s.standing (sound_stands_told s e) h

    -- the parts and the wafers stay
    stood : (next : Standing) → next.opened ≡ s.standing.opened → next.wafers ≡ s.standing.wafers
        → stands_right next.place next ≡ true → Sound (Taken (stands next))
    stood next parts wafers right =
        sound_right (after s (Taken (stands next))) (rw parts (parts_same s long e s.parts refl))
        (rw wafers (wafers_same s long e s.parts refl)) right

-- ---- what a verdict tells of a record

pub judged_begins : JudgedBegins
unfolding changed
judged_begins s rec start =
    subst (Begins s rec) (sym (judged_first s.standing s.parts rec start))
    (first_cases (parts_of s) (Begins s rec) (λ a own. tt) s.standing rec (λ order is. (refl, sym is)))

pub judged_tells : JudgedTells
unfolding changed
judged_tells s rec further =
    let st = s.standing in
    subst (Tells s rec) (sym (judged_later st s.parts rec further))
    (later_cases st s.parts (Tells s rec) (λ a own. tt) rec (λ k q r named to fits.
    let past = past_start q (never_start st.place q k to) in
    let result : result_of st.order rec ≡ result_in r =
    ap (λ (j : Kind). result_read (read_body st.order j (body rec))) named ∙ ap result_read fits in
    said_cases (at st q) s.parts (Tells s rec) (λ a own. tt) r
    (λ quieted. (result ∙ quiet_none r quieted, (past, refl)))
    (λ p is. (result ∙ ap result_in is, (past, refl)))
    (λ p is new few. (result ∙ ap result_in is, (past, refl)))
    (λ p is there few. (result ∙ ap result_in is, (past, refl)))
    (λ is done. (result ∙ ap result_in is, (past, refl)))
    (λ w is new few. (result ∙ ap result_in is, (past, refl)))
    (λ w is there. (result ∙ ap result_in is, (past, refl)))))

-- a verdict that is a refusal is one with a record's own number
abbrev Own : List ℕ → Verdict → Type 0
Own parts (Refused a) = ByItself parts a
Own parts (Taken change) = Unit
Own parts (Wanted change key) = Unit

pub judged_refusal : JudgedRefusal
judged_refusal s rec a e =
    let own = Own (parts_of s) in
    subst own e
    (judge_cases s.standing s.parts own (λ b by. by) rec (λ order h is. tt)
    (λ k q r named to fits.
    said_cases (at s.standing q) s.parts own (λ b by. by) r (λ quieted. tt) (λ p is. tt)
    (λ p is new few. tt) (λ p is there few. tt) (λ is done. tt) (λ w is new few. tt) (λ w is there. tt)))
