-- Laws of a PTR, MPR or FTR in the body: its body is not read, so it is accepted and changes nothing.
-- Assumes nothing.
use Rattle.std.specs.Prelude.{Some, None}
use mathlib.Core.Path.{◌≡◌, refl, ap, sym, subst, ◌∙◌}
use mathlib.Core.Bool.{Bool, true, false, ◌&&◌, ◌||◌, false≢true}
use mathlib.Core.List.{List}
use Prim.Native.Nat.{ℕ, ◌+◌, ◌-◌, ◌≤◌, ◌<◌}
use native.Mathlib.Omega.{arith}
use borrow.Author.Tests.{eqb-true, eq-eqb}
use lib.Dec.{eqb}
use lib.ListN.{length, get_or, take, drop, length-drop, take-append-drop}
use lib.Seq.{length-take-le, get_or-take, get_or-drop}
use Rattle.prelude.proofs.Both.{both_left, both_right}
use Rattle.answers.specs.declared.Answer.TheVariants.{Done}
use Rattle.numbers.specs.Laws.{Bytes}
use Rattle.kinds.specs.declared.Kind.TheVariants as kind
use Rattle.kinds.specs.declared.Remaining.{Remaining}
use Rattle.kinds.specs.declared.Remaining.TheVariants.{Ptr, Mpr, Ftr}
use Rattle.kinds.specs.Kinds.{named, kind_of}
use Rattle.frames.specs.Frames.{header, rec_len, rec_typ, rec_sub, is_record}
use Rattle.frames.proofs.Laws.{record_framed}
use Rattle.bodies.specs.declared.Record.TheVariants as said
use Rattle.bodies.specs.Bodies.{read_body}
use Rattle.order.specs.declared.Place.{Place}
use Rattle.order.specs.declared.Place.TheVariants.{Start, Header, Lot, Setup, Body, Ended}
use Rattle.order.specs.Order.{goes}
use Rattle.session.specs.declared.Standing.{Standing}
use Rattle.session.specs.declared.Verdict.TheVariants.{Taken}
use Rattle.session.specs.Session.{is_start}
use Rattle.session.specs.Verdicts.{stands}
use Rattle.later_records.specs.Later.{at}
use Rattle.later_records.proofs.Laws.{later_said}
use Rattle.judging.specs.Judge.{judge}
use Rattle.judging.proofs.Laws.{judged_later}
use Rattle.house.specs.declared.Room.{Room}
use Rattle.house.specs.Deliver.{outcome, core, delivered}
use Rattle.house.proofs.Delivering.{delivered_stands}
use Rattle.cutting.specs.Needed.{needed}
use Rattle.cutting.proofs.Cuts.{needed_later, needed_some, whole_needed}
use Rattle.walking.specs.declared.Stage.{Stage}
use Rattle.walking.specs.Walking.{stage, stage_standing, rest}
use Rattle.walking.specs.Passing.{is_body, is_test}
use Rattle.walking.specs.Lent.{Walkable, Stepped}
use Rattle.walking.proofs.Stepping.{step_accepted}

-- ---- what the test tells

body_told : (p : Place) → is_body p ≡ true → p ≡ Body
body_told Start e = absurd (false≢true e)
body_told Header e = absurd (false≢true e)
body_told Lot e = absurd (false≢true e)
body_told Setup e = absurd (false≢true e)
body_told Body e = refl
body_told Ended e = absurd (false≢true e)

-- ---- a kind whose body is not read

module _ (st : Standing) (parts rec : List ℕ) (inside : st.place ≡ Body) (framed : is_record st.order rec ≡ true)
  where
    same : at st Body ≡ st
    same = ap (λ (p : Place). at st p) (sym inside)

    passed : (k : Remaining) → kind.Remaining k ≡ kind_of (rec_typ rec) (rec_sub rec)
        → judge st parts rec ≡ Taken (stands st)
    unfolding read_body
    passed k is =
        let further : is_start st.place ≡ false = rw inside in
        let to : goes st.place (kind.Remaining k) ≡ Some Body = rw inside in
        judged_later st parts rec further
        ∙ later_said st parts rec framed (kind.Remaining k) is refl Body to said.Unread refl
        ∙ ap (λ (s : Standing). Taken (stands s)) same

    module _ (typ : rec_typ rec ≡ 15) where
      named_by : (k : Remaining) (sub : ℕ) → rec_sub rec ≡ sub → kind.Remaining k ≡ kind_of 15 sub
          → judge st parts rec ≡ Taken (stands st)
      named_by k sub e is = passed k (rw (typ, e) is)

      pub test_taken : (eqb (rec_sub rec) 10 || (eqb (rec_sub rec) 15 || eqb (rec_sub rec) 20)) ≡ true
          → judge st parts rec ≡ Taken (stands st)
      unfolding kind_of named
      test_taken = go (eqb (rec_sub rec) 10) refl (eqb (rec_sub rec) 15) refl
        where
          go : (a : Bool) → eqb (rec_sub rec) 10 ≡ a → (b : Bool) → eqb (rec_sub rec) 15 ≡ b
              → (a || (b || eqb (rec_sub rec) 20)) ≡ true → judge st parts rec ≡ Taken (stands st)
          go true e b f g = named_by Ptr 10 (eqb-true (rec_sub rec) 10 e) refl
          go false e true f g = named_by Mpr 15 (eqb-true (rec_sub rec) 15 f) refl
          go false e false f g = named_by Ftr 20 (eqb-true (rec_sub rec) 20 g) refl

-- ---- the bytes of a record that is there are one record

module _ (st : Standing) (n : ℕ) (bytes : List ℕ) (later : is_start st.place ≡ false) (is : n ≡ needed st bytes)
    (there : n ≤ length bytes) where
  long : length (take n bytes) ≡ n
  long = length-take-le n bytes there

  pub one_framed : is_record st.order (take n bytes) ≡ true
  one_framed =
      let rec = take n bytes in
      let all = take-append-drop n bytes in
      let whole = whole_needed st rec (drop n bytes) (long ∙ is ∙ ap (λ (l : List ℕ). needed st l) (sym all)) in
      let some : header ≤ length rec = omega (arith, long, is, needed_some st bytes) in
      record_framed st.order rec some (rec_len st.order rec) refl
      ∙ eq-eqb (length rec - header) (rec_len st.order rec)
      (omega (arith, whole, needed_later st rec later some))

-- ---- a step over a test

module _ (room : Room) (most : ℕ) (keys counts parts : List ℕ) (s : Stage) (bytes : List ℕ)
    (w : Walkable room most keys counts parts s bytes) (looking : s.more ≡ true) (n : ℕ)
    (is : n ≡ needed (stage_standing s) (rest s bytes)) (low : n ≤ most) (there : s.at + n ≤ length bytes)
    (range : Bytes bytes) where
  -- a byte of the record's header
  header_byte : (k : ℕ) → k < header → get_or (take n (rest s bytes)) k 0 ≡ get_or bytes (s.at + k) 0
  header_byte k h =
      get_or-take n (rest s bytes) k 0 (omega (arith, h, is, needed_some (stage_standing s) (rest s bytes)))
      ∙ get_or-drop s.at bytes k 0

  module _ (test : is_test s.place (get_or bytes (s.at + 2) 0) (get_or bytes (s.at + 3) 0) ≡ true) where
    abbrev typ : ℕ
    typ = get_or bytes (s.at + 2) 0

    abbrev sub : ℕ
    sub = get_or bytes (s.at + 3) 0

    behind : ((eqb sub 10 || (eqb sub 15 || eqb sub 20)) && is_body s.place) ≡ true
    unfolding is_test
    behind = both_right (eqb typ 15) ((eqb sub 10 || (eqb sub 15 || eqb sub 20)) && is_body s.place) test

    inside : s.place ≡ Body
    inside =
        body_told s.place (both_right (eqb sub 10 || (eqb sub 15 || eqb sub 20)) (is_body s.place) behind)

    judged : judge (stage_standing s) parts (take n (rest s bytes)) ≡ Taken (stands (stage_standing s))
    unfolding is_test
    judged =
        let rec = take n (rest s bytes) in
        let st = stage_standing s in
        let later : is_start s.place ≡ false = rw inside in
        let framed = one_framed st n (rest s bytes) later is (omega (arith, there, length-drop s.at bytes)) in
        test_taken st parts rec inside framed
        (header_byte 2 (omega arith)
        ∙ eqb-true typ 15
        (both_left (eqb typ 15) ((eqb sub 10 || (eqb sub 15 || eqb sub 20)) && is_body s.place) test))
        (rw (header_byte 3 (omega arith))
        (both_left (eqb sub 10 || (eqb sub 15 || eqb sub 20)) (is_body s.place) behind))

    pub step_test : Stepped room most keys counts parts s keys counts parts
        (stage s.used (stage_standing s) (s.accepted + 1) None (s.at + n) s.more) bytes
    step_test =
        let st = stage_standing s in
        let size : s.at + n - s.at ≡ n = omega arith in
        let did : outcome Done keys counts s.used st parts
        ≡ delivered room (core keys counts s.used st parts) (take (s.at + n - s.at) (drop s.at bytes))
        = delivered_stands room (core keys counts s.used st parts) (take (s.at + n - s.at) (drop s.at bytes)) st
        (rw size judged) in
        subst
        (λ (b : Bool).
        Stepped room most keys counts parts s keys counts parts
        (stage s.used st (s.accepted + 1) None (s.at + n) b) bytes)
        (sym looking)
        (step_accepted room most keys counts parts s bytes w looking n is low there range refl Done keys counts
        s.used st parts did refl)
