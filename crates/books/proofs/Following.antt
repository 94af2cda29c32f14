-- A book and a session: what a book says is what the session holds, record by record. So the book tells the number of
-- every record, and what it asks for.
-- Assumes nothing.
use Rattle.std.specs.Prelude.{Option, Some, None}
use mathlib.Core.Path.{◌≡◌, refl, ap, ap₂, sym, subst, subst₂, ◌∙◌}
use mathlib.Core.Bool.{Bool, true, false, cond, not, ◌||◌, false≢true}
use mathlib.Core.List.{List, [], ◌∷◌, ◌++◌, map}
use Prim.Native.Nat.{ℕ, ◌+◌, ◌-◌, ◌<◌}
use native.Mathlib.Omega.{arith}
use lib.Dec.{eqb}
use lib.ListN.{length, take}
use Rattle.prelude.specs.Checks.{Check, number_by}
use Rattle.prelude.specs.Each.{each}
use Rattle.numbers.specs.declared.Order.{Order}
use Rattle.numbers.specs.Laws.{Bytes}
use Rattle.numbers.proofs.Laws.{bytes_drop}
use Rattle.kinds.specs.declared.Kind.{Kind}
use Rattle.kinds.specs.declared.Kind.TheVariants as kind
use Rattle.kinds.specs.Kinds.{named}
use Rattle.frames.specs.Frames.{header, body}
use Rattle.count_bodies.specs.declared.Pcr.{Pcr}
use Rattle.part_bodies.specs.declared.Pir.{Pir}
use Rattle.part_bodies.specs.declared.Prr.{Prr}
use Rattle.part_bodies.specs.Laws.{PrrRight}
use Rattle.bodies.specs.declared.Wafer.{Wafer}
use Rattle.bodies.specs.declared.Record.{Record}
use Rattle.bodies.specs.declared.Record.TheVariants as said
use Rattle.bodies.specs.Bodies.{read_body, said_of}
use Rattle.bodies.specs.Laws.{Right}
use Rattle.bodies.proofs.Said.{said_right}
use Rattle.order.specs.declared.Place.{Place}
use Rattle.order.specs.declared.Place.TheVariants.{Start, Header, Lot, Setup, Body, Ended}
use Rattle.order.specs.Order.{goes, place_after}
use Rattle.rising.specs.Rising.{rank, held}
use Rattle.session.specs.declared.Session.{Session}
use Rattle.session.specs.declared.Standing.{Standing}
use Rattle.session.specs.declared.Verdict.{Verdict}
use Rattle.session.specs.declared.Verdict.TheVariants.{Refused, Taken, Wanted}
use Rattle.session.specs.Session.{most_open, most_wafers, cell_count, part_of, key_of, parts_of, wafer_number, wafer_head}
use Rattle.session.specs.Session.{wafers_of, is_start, begun, sound}
use Rattle.session.specs.Verdicts.{stands, verdict_number}
use Rattle.session.proofs.Laws.{sound_parts_told, sound_wafers_rise}
use Rattle.session.proofs.Wafers.{wafer_on}
use Rattle.settling.specs.Settling.{lent_session, changed}
use Rattle.first_record.specs.First.{in_order, judge_first, order_in}
use Rattle.first_record.specs.Laws.{first_checks}
use Rattle.first_record.proofs.Accepted.{first_accepted}
use Rattle.first_record.proofs.Checks.{first_cases, first_number}
use Rattle.kind_effects.specs.Effects.{with_pcr, opens, closes, wafer_opens, wafer_closes, judge_said}
use Rattle.kind_effects.specs.Laws.{Seen, seen_of, own_checks}
use Rattle.kind_effects.proofs.Cases.{quiet, said_cases}
use Rattle.later_records.specs.Later.{at, judge_later}
use Rattle.later_records.specs.Laws.{later_checks}
use Rattle.later_records.proofs.Checks.{later_cases, later_number}
use Rattle.judging.specs.Judge.{verdict_on}
use Rattle.judging.proofs.Laws.{judged_first, judged_later, parts_opened, parts_closed, opened_beside, closed_beside}
use Rattle.judging.proofs.Laws.{wafers_opened, wafers_closed}
use Rattle.tallies.specs.Results.{PartResult}
use Rattle.tallies.specs.Packed.{keyed, RightResult, AllRight}
use Rattle.books.specs.Book.{part, without, Book, book, kind_in, said_in, as_result, results_in, Neither, on_parts}
use Rattle.books.specs.Book.{on_wafers, open_after, is_pcr, noted}
use Rattle.books.specs.Told.{seen_in, record_checks}
use Rattle.books.proofs.Listed.{Lists, lists_none, lists_opened, lists_closed, lists_head}

-- ---- what a book says of a session

result_right : (x : Prr) → PrrRight x → RightResult (as_result x)
result_right x told = record { head = omega (arith, told.0); site = told.1; bin = told.2 }

pub record Says (b : Book) (s : Session) : Type 0 where
  pub place : b.place ≡ s.standing.place
  pub order : b.order ≡ s.standing.order
  pub parts : Lists b.parts s.standing.opened (parts_of s)
  pub pcr : b.pcr ≡ s.standing.pcr
  pub results : length b.results ≡ s.standing.results
  pub right : AllRight b.results
  pub wafers : Lists b.wafers s.standing.wafers (wafers_of s)

-- a session that has followed nothing, whatever its cells hold
pub says_anew : (taken : Bool) (floor : ℕ) (cells : List ℕ)
    → Says (book taken floor) (lent_session begun.standing cells)
says_anew taken floor cells =
    record {
      place = refl;
      order = refl;
      parts = lists_none;
      pcr = refl;
      results = refl;
      right = tt;
      wafers = lists_none;
    }

-- ---- the number of a record

-- a record's own checks ask for its part or its wafer alone, and a site, or a site group, is one byte
record Alike (x y : Seen) : Type 0 where
  is_open : (head site : ℕ) → site < 256 → x.is_open head site ≡ y.is_open head site
  opened : x.opened ≡ y.opened
  results : x.results ≡ y.results
  pcr : x.pcr ≡ y.pcr
  on_head : (head : ℕ) → x.on_head head ≡ y.on_head head
  is_wafer : (head group : ℕ) → group < 256 → x.is_wafer head group ≡ y.is_wafer head group
  wafers : x.wafers ≡ y.wafers

module _ (x y : Seen) (alike : Alike x y) where
  own_alike : (r : Record) → Right r → number_by (own_checks x r) ≡ number_by (own_checks y r)
  own_alike (said.Pir p) right = rw (alike.is_open p.head p.site right.1, alike.opened)
  own_alike (said.Prr p) right = rw (alike.is_open p.head p.site right.1, alike.results)
  own_alike (said.Wir w) right = rw (alike.on_head w.head, alike.wafers)
  own_alike (said.Wrr w) right = rw (alike.is_wafer w.head w.group right.1)
  own_alike said.Mrr right = rw (alike.opened, alike.wafers, alike.pcr)
  own_alike (said.Pcr p) right = refl
  own_alike (said.Far f) right = refl
  own_alike said.Mir right = refl
  own_alike (said.Bin b) right = refl
  own_alike said.Unread right = refl

  later_alike : (order : Order) (place : Place) (rec : List ℕ) → Bytes rec
      → number_by (later_checks order place x rec) ≡ number_by (later_checks order place y rec)
  later_alike order place rec bytes =
      rw (by (read_body order (kind_in rec) (body rec))
      (λ r is. said_right order (kind_in rec) (body rec) r (bytes_drop header rec bytes) is))
    where
      by : (reading : Option Record) → ((r : Record) → reading ≡ Some r → Right r)
          → number_by (own_checks x (said_of reading)) ≡ number_by (own_checks y (said_of reading))
      by (Some r) right = own_alike r (right r refl)
      by None right = refl

-- what a session has of a stream is what its book has
seen_alike : (b : Book) (s : Session) → Says b s → Alike (seen_of s.standing s.parts) (seen_in b)
seen_alike b s p =
    record {
      is_open = λ head site low. sym (p.parts.are head site low);
      opened = sym p.parts.many;
      results = sym p.results;
      pcr = sym p.pcr;
      on_head = λ head. sym (lists_head b.wafers s.standing.wafers (wafers_of s) p.wafers head);
      is_wafer = λ head group low. sym (p.wafers.are head group low);
      wafers = sym p.wafers.many;
    }

pub says_number : (b : Book) (s : Session) (rec : List ℕ) → Bytes rec → Says b s
    → verdict_number (verdict_on s rec) ≡ number_by (record_checks b rec)
says_number b s rec bytes p = go (is_start b.place) refl
  where
    st : Standing
    st = s.standing

    go : (t : Bool) → is_start b.place ≡ t
        → verdict_number (verdict_on s rec)
        ≡ number_by (cond t (first_checks rec) (later_checks b.order b.place (seen_in b) rec))
    go true e =
        ap verdict_number (judged_first st s.parts rec (ap is_start (sym p.place) ∙ e)) ∙ first_number st rec
    go false e =
        ap verdict_number (judged_later st s.parts rec (ap is_start (sym p.place) ∙ e))
        ∙ later_number st s.parts rec
        ∙ later_alike (seen_of st s.parts) (seen_in b) (seen_alike b s p) st.order st.place rec bytes
        ∙ rw (p.place, p.order)

-- no check of a record has the number 0
abbrev pub numbers : Check ℕ → Bool
numbers c = not (eqb c.answer 0)

pub checks_number : (b : Book) (rec : List ℕ) → each numbers (record_checks b rec) ≡ true
checks_number b rec = go (is_start b.place)
  where
    own : (r : Record) → each numbers (own_checks (seen_in b) r) ≡ true
    own (said.Pir p) = refl
    own (said.Prr p) = refl
    own (said.Wir w) = refl
    own (said.Wrr w) = refl
    own said.Mrr = refl
    own (said.Pcr p) = refl
    own (said.Far g) = refl
    own said.Mir = refl
    own (said.Bin c) = refl
    own said.Unread = refl

    go : (t : Bool)
        → each numbers (cond t (first_checks rec) (later_checks b.order b.place (seen_in b) rec)) ≡ true
    go true = refl
    go false = own (said_of (read_body b.order (kind_in rec) (body rec)))

-- ---- a record that is accepted

-- the part result that it is
pub record Asks (results : List PartResult) (key : ℕ) : Type 0 where
  pub result : PartResult
  pub right : RightResult result
  pub under : key ≡ keyed result
  pub only : results ≡ result ∷ []

-- the book after it says what the session holds after it
abbrev pub BookedAs : Session → Book → Record → Verdict → Type 0
BookedAs s b r (Refused a) = Unit
BookedAs s b r (Taken change) = Says b (changed s change) × (results_in r ≡ [])
BookedAs s b r (Wanted change key) = Says b (changed s change) × Asks (results_in r) key

abbrev pub Booked : Book → Session → List ℕ → Verdict → Type 0
Booked b s rec v = BookedAs s (noted rec b) (said_in b rec) v

-- the first of a stream is a FAR
first_place : (p : Place) → is_start p ≡ true → place_after (goes p kind.Far) ≡ Header
first_place Start e = refl
first_place Header e = absurd (false≢true e)
first_place Lot e = absurd (false≢true e)
first_place Setup e = absurd (false≢true e)
first_place Body e = absurd (false≢true e)
first_place Ended e = absurd (false≢true e)

-- a record, of the byte order, of where it leads and of what it says
abbrev entered : Book → Order → Place → Record → Book
entered b order place r =
    record {
      opened = b.opened;
      floor = b.floor;
      place = place;
      order = order;
      parts = open_after (on_parts r) b.parts;
      pcr = is_pcr r || b.pcr;
      results = results_in r ++ b.results;
      wafers = open_after (on_wafers r) b.wafers;
    }

-- a later one goes on in its stream's order
abbrev onward : Book → Place → Record → Book
onward b place r = entered b b.order place r

noted_later : (b : Book) (rec : List ℕ) (k : Kind) (q : Place) (r : Record) → is_start b.place ≡ false
    → kind_in rec ≡ k → goes b.place k ≡ Some q → read_body b.order k (body rec) ≡ Some r
    → (noted rec b ≡ onward b q r) × (said_in b rec ≡ r)
noted_later b rec k q r further of_kind to fits =
    let leads : place_after (goes b.place (kind_in rec)) ≡ q = rw (of_kind, to) in
    let ordered : cond (is_start b.place) (order_in rec) b.order ≡ b.order = rw further in
    let reads : said_in b rec ≡ r = rw (further, of_kind, fits) in (
      ap (λ (o : Order). entered b o (place_after (goes b.place (kind_in rec))) (said_in b rec)) ordered
          ∙ ap₂ (onward b) leads reads,
      reads,
    )

-- one that moves the place alone says nothing of parts, wafers and counts
pub record Quiet (r : Record) : Type 0 where
  pub parts : on_parts r ≡ Neither
  pub pcr : is_pcr r ≡ false
  pub results : results_in r ≡ []
  pub wafers : on_wafers r ≡ Neither

quieted : (r : Record) → quiet r ≡ true → Quiet r
quieted (said.Far f) h = record { parts = refl; pcr = refl; results = refl; wafers = refl }
quieted said.Mir h = record { parts = refl; pcr = refl; results = refl; wafers = refl }
quieted (said.Bin b) h = record { parts = refl; pcr = refl; results = refl; wafers = refl }
quieted said.Unread h = record { parts = refl; pcr = refl; results = refl; wafers = refl }
quieted said.Mrr h = absurd (false≢true h)
quieted (said.Pcr p) h = absurd (false≢true h)
quieted (said.Pir p) h = absurd (false≢true h)
quieted (said.Prr p) h = absurd (false≢true h)
quieted (said.Wir w) h = absurd (false≢true h)
quieted (said.Wrr w) h = absurd (false≢true h)

mrr_quiet : Quiet said.Mrr
mrr_quiet = record { parts = refl; pcr = refl; results = refl; wafers = refl }

-- what would tell of something else is not there where that is not
not_there : (t : Bool) {u : Bool} → (t ≡ true → u ≡ true) → u ≡ false → t ≡ false
not_there true f e = absurd (false≢true (sym e ∙ f refl))
not_there false f e = refl

module _ (b : Book) (s : Session) (p : Says b s) where
  abbrev st : Standing
  st = s.standing

  says_first : (rec : List ℕ) (order : Order) → is_start b.place ≡ true → kind_in rec ≡ kind.Far → order_in rec ≡ order
      → Booked b s rec (Taken (stands (in_order st order)))
  unfolding changed
  says_first rec order start far is =
      rw start (
        record {
          place = ap (λ (k : Kind). place_after (goes b.place k)) far ∙ first_place b.place start;
          order = is;
          parts = p.parts;
          pcr = p.pcr;
          results = p.results;
          right = p.right;
          wafers = p.wafers;
        },
        refl,
      )

  says_on : (q : Place) (r : Record) → Quiet r → Says (onward b q r) (changed s (stands (at st q)))
  unfolding changed
  says_on q r none =
      rw (none.pcr, none.results, none.parts, none.wafers)
      (record {
        place = refl;
        order = p.order;
        parts = p.parts;
        pcr = p.pcr;
        results = p.results;
        right = p.right;
        wafers = p.wafers;
      })

  says_pcr : (q : Place) (x : Pcr) → Says (onward b q (said.Pcr x)) (changed s (stands (with_pcr (at st q))))
  unfolding changed
  says_pcr q x =
      record {
        place = refl;
        order = p.order;
        parts = p.parts;
        pcr = refl;
        results = p.results;
        right = p.right;
        wafers = p.wafers;
      }

  -- the wafers, by the cells that they are in
  abbrev Behind : List ℕ → Type 0
  Behind cells = Lists b.wafers st.wafers (take st.wafers cells)

  module _ (long : length s.parts ≡ cell_count) (e : sound s ≡ true) (q : Place) where
    -- a part opens
    says_pir : (x : Pir) → x.site < 256 → held (part_of x.head x.site) (parts_of s) ≡ false → st.opened < most_open
        → Says (onward b q (said.Pir x))
        (changed s (opens (at st q) (rank (part_of x.head x.site) (parts_of s)) (part_of x.head x.site)))
    unfolding changed
    says_pir x small new few =
        let number = part_of x.head x.site in
        record {
          place = refl;
          order = p.order;
          parts =
              subst (Lists (part x.head x.site ∷ b.parts) (st.opened + 1))
              (sym (parts_opened s long e number few))
              (lists_opened b.parts st.opened (parts_of s) p.parts x.head x.site small
              (rank number (parts_of s)) new);
          pcr = p.pcr;
          results = p.results;
          right = p.right;
          wafers = subst Behind (sym (opened_beside s long e number few)) p.wafers;
        }

    -- a part closes, with its result
    says_prr : (x : Prr) → PrrRight x → held (part_of x.head x.site) (parts_of s) ≡ true
        → Says (onward b q (said.Prr x)) (changed s (closes (at st q) (rank (part_of x.head x.site) (parts_of s))))
    unfolding changed
    says_prr x told there =
        let number = part_of x.head x.site in
        record {
          place = refl;
          order = p.order;
          parts =
              subst (Lists (without x.head x.site b.parts) (st.opened - 1))
              (sym (parts_closed s long e number there))
              (lists_closed b.parts st.opened (parts_of s) p.parts x.head x.site told.1
              (sound_parts_told s e).rises there);
          pcr = p.pcr;
          results = omega (arith, p.results);
          right = (result_right x told, p.right);
          wafers = subst Behind (sym (closed_beside s long e number there)) p.wafers;
        }

    -- a wafer opens
    says_wir : (w : Wafer) → w.group < 256 → held w.head (map wafer_head (wafers_of s)) ≡ false
        → st.wafers < most_wafers
        → Says (onward b q (said.Wir w))
        (changed s
        (wafer_opens (at st q) (rank w.head (map wafer_head (wafers_of s))) (wafer_number w.head w.group)))
    unfolding changed
    says_wir w small new few =
        let number = wafer_number w.head w.group in
        let then = wafers_opened s long e w.head number few in
        let none : held number (wafers_of s) ≡ false =
        not_there (held number (wafers_of s)) (wafer_on w.head w.group (wafers_of s) small) new in
        record {
          place = refl;
          order = p.order;
          parts = subst (Lists b.parts st.opened) (sym then.0) p.parts;
          pcr = p.pcr;
          results = p.results;
          right = p.right;
          wafers =
              subst (Lists (part w.head w.group ∷ b.wafers) (st.wafers + 1))
              (sym then.1)
              (lists_opened b.wafers st.wafers (wafers_of s) p.wafers w.head w.group small
              (rank w.head (map wafer_head (wafers_of s))) none);
        }

    -- a wafer closes
    says_wrr : (w : Wafer) → w.group < 256 → held (wafer_number w.head w.group) (wafers_of s) ≡ true
        → Says (onward b q (said.Wrr w))
        (changed s (wafer_closes (at st q) (rank (wafer_number w.head w.group) (wafers_of s))))
    unfolding changed
    says_wrr w small there =
        let then = wafers_closed s long e (wafer_number w.head w.group) there in
        record {
          place = refl;
          order = p.order;
          parts = subst (Lists b.parts st.opened) (sym then.0) p.parts;
          pcr = p.pcr;
          results = p.results;
          right = p.right;
          wafers =
              subst (Lists (without w.head w.group b.wafers) (st.wafers - 1))
              (sym then.1)
              (lists_closed b.wafers st.wafers (wafers_of s) p.wafers w.head w.group small
              (sound_wafers_rise s e) there);
        }

  -- any record
  module _ (rec : List ℕ) (bytes : Bytes rec) (long : length s.parts ≡ cell_count) (e : sound s ≡ true) where
    booked_first : is_start b.place ≡ true → Booked b s rec (judge_first st rec)
    booked_first start =
        first_cases (parts_of s) First (λ a own far. tt) st rec
        (λ order is far. says_first rec order start (far refl) is)
        (λ zero. (first_accepted st rec zero).far)
      where
        First : Verdict → Type 0
        First v = (verdict_number v ≡ 0 → kind_in rec ≡ kind.Far) → Booked b s rec v

    booked_said : (q : Place) (r : Record) → Right r → BookedAs s (onward b q r) r (judge_said (at st q) s.parts r)
    booked_said q r told =
        said_cases (at st q) s.parts (BookedAs s (onward b q r) r) (λ a own. tt) r
        (λ h. (says_on q r (quieted r h), (quieted r h).results))
        (λ x is. by (Taken (stands (with_pcr (at st q)))) (said.Pcr x) is (says_pcr q x, refl))
        (λ x is new few.
        let part_told : Right (said.Pir x) = subst Right is told in
        by (Taken (opens (at st q) (rank (part_of x.head x.site) (parts_of s)) (part_of x.head x.site)))
        (said.Pir x) is (says_pir long e q x part_told.1 new few, refl))
        (λ x is there few.
        let result_told : Right (said.Prr x) = subst Right is told in
        by
        (Wanted (closes (at st q) (rank (part_of x.head x.site) (parts_of s)))
        (key_of x.head x.site x.bin))
        (said.Prr x) is (
          says_prr long e q x result_told there,
          record { result = as_result x; right = result_right x result_told; under = refl; only = refl },
        ))
        (λ is done. by (Taken (stands (at st q))) said.Mrr is (says_on q said.Mrr mrr_quiet, refl))
        (λ w is new few.
        let wafer_told : Right (said.Wir w) = subst Right is told in
        by
        (Taken
        (wafer_opens (at st q) (rank w.head (map wafer_head (wafers_of s))) (wafer_number w.head w.group)))
        (said.Wir w) is (says_wir long e q w wafer_told.1 new few, refl))
        (λ w is there.
        let wafer_told : Right (said.Wrr w) = subst Right is told in
        by (Taken (wafer_closes (at st q) (rank (wafer_number w.head w.group) (wafers_of s)))) (said.Wrr w) is
        (says_wrr long e q w wafer_told.1 there, refl))
      where
        by : (v : Verdict) (y : Record) → r ≡ y → BookedAs s (onward b q y) y v → BookedAs s (onward b q r) r v
        by v y is h = subst (λ (x : Record). BookedAs s (onward b q x) x v) (sym is) h

    booked_later : is_start b.place ≡ false → Booked b s rec (judge_later st s.parts rec)
    booked_later further =
        later_cases st s.parts (Booked b s rec) (λ a own. tt) rec (λ k q r named to fits.
        let to_next : goes b.place k ≡ Some q = ap (λ (x : Place). goes x k) p.place ∙ to in
        let reads : read_body b.order k (body rec) ≡ Some r =
        ap (λ (o : Order). read_body o k (body rec)) p.order ∙ fits in
        let is = noted_later b rec k q r further named to_next reads in
        subst₂ (λ (c : Book) (x : Record). BookedAs s c x (judge_said (at st q) s.parts r)) (sym is.0)
        (sym is.1)
        (booked_said q r (said_right st.order k (body rec) r (bytes_drop header rec bytes) fits)))

    pub booked : Booked b s rec (verdict_on s rec)
    booked = go (is_start b.place) refl
      where
        go : (t : Bool) → is_start b.place ≡ t → Booked b s rec (verdict_on s rec)
        go true start =
            subst (Booked b s rec) (sym (judged_first st s.parts rec (ap is_start (sym p.place) ∙ start)))
            (booked_first start)
        go false further =
            subst (Booked b s rec) (sym (judged_later st s.parts rec (ap is_start (sym p.place) ∙ further)))
            (booked_later further)
