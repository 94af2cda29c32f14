-- Laws of how long a record is, and the statements of specs/Laws.antt on records cut by their headers, proved.
-- Assumes nothing.
use mathlib.Core.Path.{◌≡◌, refl, ap, sym, subst, ◌∙◌}
use mathlib.Core.Bool.{Bool, true, false, ◌&&◌}
use mathlib.Core.List.{List, [], ◌∷◌, ◌++◌, append_assoc, append-nil}
use Prim.Native.Nat.{ℕ, zero, suc, ◌+◌, ◌≤◌, ◌<◌}
use native.Mathlib.Omega.{arith}
use borrow.Author.Tests.{lt-ltb, le-ltb, ltb-true, ltb-false, le-leb, lt-leb, leb-true, leb-false}
use lib.Dec.{leb, ltb}
use lib.ListN.{length, get_or, take, drop, length-append, take-append-drop, get_or-append}
use lib.Seq.{take-suc, take-length, length-take-le}
use Rattle.numbers.specs.declared.Order.{Order}
use Rattle.numbers.specs.Laws.{Bytes}
use Rattle.numbers.specs.Numbers.{front}
use Rattle.numbers.proofs.Laws.{number_below}
use Rattle.frames.specs.Frames.{header, rec_len}
use Rattle.session.specs.declared.Standing.{Standing}
use Rattle.session.specs.Session.{is_start}
use Rattle.cutting.specs.Needed.{first_length, longest, needed, cut}
use Rattle.cutting.specs.Walk.{Heard, Kept, Turned, Machine, Walked, Waits, Stops, judged, pushed, took, walked}
use Rattle.cutting.specs.Walk.{cutting, all_fit}
use Rattle.cutting.specs.Laws.{CutWaits, CutAlone, CutHeard, CutFits, CutLong, Framed, CutFramed, NeededMost}
use Rattle.cutting.proofs.Walks.{walked_append, walked_stops, fit_append, fit_again}

-- ---- how long a record is

module _ (st : Standing) (bytes : List ℕ) where
  pub needed_first : is_start st.place ≡ true → needed st bytes ≡ first_length
  unfolding needed
  needed_first e = rw e

  module _ (later : is_start st.place ≡ false) where
    pub needed_header : length bytes < header → needed st bytes ≡ header
    unfolding needed
    needed_header h = rw (later, lt-ltb (length bytes) header h)

    pub needed_later : header ≤ length bytes → needed st bytes ≡ header + rec_len st.order bytes
    unfolding needed
    needed_later h = rw (later, le-ltb (length bytes) header h)

    -- .. as a U*2 that was read tells it
    pub needed_told : header ≤ length bytes → (n : ℕ) → n ≡ rec_len st.order bytes
        → header + n ≡ needed st bytes
    needed_told h n is = ap (λ (x : ℕ). header + x) is ∙ sym (needed_later h)

-- REC_LEN is told by the first two bytes
len_front : (order : Order) (ys ts : List ℕ) → header ≤ length ys → rec_len order (ys ++ ts) ≡ rec_len order ys
len_front order ys ts h =
    rw (get_or-append ys ts 0 0 (omega arith), get_or-append ys ts 0 1 (omega arith))

-- .. so bytes that hold the header tell what they begin
same_needed : (st : Standing) (ys ts : List ℕ) → is_start st.place ≡ false → header ≤ length ys
    → needed st (ys ++ ts) ≡ needed st ys
same_needed st ys ts later h =
    needed_later st (ys ++ ts) later (omega (arith, length-append ys ts))
    ∙ ap (λ (n : ℕ). header + n) (len_front st.order ys ts h)
    ∙ sym (needed_later st ys later h)

-- a record has its header
pub needed_some : (st : Standing) (bytes : List ℕ) → header ≤ needed st bytes
needed_some st bytes = go (is_start st.place) refl (ltb (length bytes) header) refl
  where
    go : (a : Bool) → is_start st.place ≡ a → (b : Bool) → ltb (length bytes) header ≡ b
        → header ≤ needed st bytes
    go true e b f = omega (arith, needed_first st bytes e)
    go false e true f = omega (arith, needed_header st bytes e (ltb-true (length bytes) header f))
    go false e false f = omega (arith, needed_later st bytes e (ltb-false (length bytes) header f))

pub needed_most : NeededMost
needed_most st bytes low = go (is_start st.place) refl (ltb (length bytes) header) refl
  where
    two : Bytes (front 2 0 bytes)
    two zero = low 0
    two (suc zero) = low 1
    two (suc (suc k)) = omega arith

    go : (a : Bool) → is_start st.place ≡ a → (b : Bool) → ltb (length bytes) header ≡ b
        → needed st bytes ≤ longest
    go true e b f = omega (arith, needed_first st bytes e)
    go false e true f = omega (arith, needed_header st bytes e (ltb-true (length bytes) header f))
    go false e false f =
        omega (
          arith,
          needed_later st bytes e (ltb-false (length bytes) header f),
          number_below st.order (front 2 0 bytes) two,
        )

-- the front of a record needs as much as the record, once it holds all of it
pub whole_needed : (st : Standing) (ys ts : List ℕ) → length ys ≡ needed st (ys ++ ts) → needed st ys ≡ length ys
whole_needed st ys ts is = go (is_start st.place) refl
  where
    go : (a : Bool) → is_start st.place ≡ a → needed st ys ≡ length ys
    go true e = needed_first st ys e ∙ sym (needed_first st (ys ++ ts) e) ∙ sym is
    go false e =
        sym (same_needed st ys ts e (omega (arith, is, needed_some st (ys ++ ts)))) ∙ sym is

-- ---- how much of it is judged at once

module _ (most : ℕ) (st : Standing) (bytes : List ℕ) where
  pub cut_record : needed st bytes ≤ most → cut most st bytes ≡ needed st bytes
  unfolding cut
  cut_record low = rw (le-ltb most (needed st bytes) low)

  pub cut_header : most < needed st bytes → cut most st bytes ≡ header
  unfolding cut
  cut_header long = rw (lt-ltb most (needed st bytes) long)

  -- a header, and no more than is taken
  cut_some : header ≤ cut most st bytes
  cut_some = go (ltb most (needed st bytes)) refl
    where
      go : (a : Bool) → ltb most (needed st bytes) ≡ a → header ≤ cut most st bytes
      go true e = omega (arith, cut_header (ltb-true most (needed st bytes) e))
      go false e = omega (arith, cut_record (ltb-false most (needed st bytes) e), needed_some st bytes)

module _ (most : ℕ) (st : Standing) (takes : first_length ≤ most) where
  pub cut_most : (bytes : List ℕ) → cut most st bytes ≤ most
  cut_most bytes = go (ltb most (needed st bytes)) refl
    where
      go : (a : Bool) → ltb most (needed st bytes) ≡ a → cut most st bytes ≤ most
      go true e = omega (arith, cut_header most st bytes (ltb-true most (needed st bytes) e), takes)
      go false e =
          omega (
            arith,
            cut_record most st bytes (ltb-false most (needed st bytes) e),
            ltb-false most (needed st bytes) e,
          )

  cut_first : (bytes : List ℕ) → is_start st.place ≡ true → cut most st bytes ≡ first_length
  cut_first bytes e =
      let first = needed_first st bytes e in
      cut_record most st bytes (omega (arith, first)) ∙ first

  cut_short_lem : (bytes : List ℕ) → is_start st.place ≡ false → length bytes < header → cut most st bytes ≡ header
  cut_short_lem bytes e h =
      let head = needed_header st bytes e h in
      cut_record most st bytes (omega (arith, head)) ∙ head

  cut_same : (ys ts : List ℕ) → is_start st.place ≡ false → header ≤ length ys
      → cut most st (ys ++ ts) ≡ cut most st ys
  unfolding cut
  cut_same ys ts e h = rw (same_needed st ys ts e h)

  -- bytes too few for what they begin are too few for what they tell
  front_short : (ys ts : List ℕ) → length ys < cut most st (ys ++ ts) → length ys < cut most st ys
  front_short ys ts short = go (is_start st.place) refl (ltb (length ys) header) refl
    where
      go : (a : Bool) → is_start st.place ≡ a → (b : Bool) → ltb (length ys) header ≡ b
          → length ys < cut most st ys
      go true e b f = omega (arith, cut_first ys e, cut_first (ys ++ ts) e, short)
      go false e true f =
          omega (arith, cut_short_lem ys e (ltb-true (length ys) header f), ltb-true (length ys) header f)
      go false e false f = omega (arith, cut_same ys ts e (ltb-false (length ys) header f), short)

  -- .. and bytes that are all of it tell so
  whole_cut : (ys ts : List ℕ) → length ys ≡ cut most st (ys ++ ts) → cut most st ys ≡ length ys
  whole_cut ys ts is = go (is_start st.place) refl
    where
      go : (a : Bool) → is_start st.place ≡ a → cut most st ys ≡ length ys
      go true e = cut_first ys e ∙ sym (cut_first (ys ++ ts) e) ∙ sym is
      go false e =
          sym (cut_same ys ts e (omega (arith, is, cut_some most st (ys ++ ts)))) ∙ sym is

  -- bytes too few for what they tell are too few for what they begin
  front_grows : (ys ts : List ℕ) → length ys < cut most st ys → length ys < cut most st (ys ++ ts)
  front_grows ys ts short = go (is_start st.place) refl (ltb (length ys) header) refl
    where
      go : (a : Bool) → is_start st.place ≡ a → (b : Bool) → ltb (length ys) header ≡ b
          → length ys < cut most st (ys ++ ts)
      go true e b f = omega (arith, cut_first ys e, cut_first (ys ++ ts) e, short)
      go false e true f = omega (arith, cut_some most st (ys ++ ts), ltb-true (length ys) header f)
      go false e false f = omega (arith, cut_same ys ts e (ltb-false (length ys) header f), short)

-- ---- the walk over records cut so

module _ (S F : Type 0) (stand : S → Standing) (most : ℕ) (long : F) (hear : S → List ℕ → Heard S F) (s : S)
    (takes : first_length ≤ most) where
  abbrev m : Machine S F
  m = cutting stand most long hear

  took_short : (part : List ℕ) (b : ℕ) → length (part ++ b ∷ []) < cut most (stand s) (part ++ b ∷ [])
      → took m (Waits s part) b ≡ Waits s (part ++ b ∷ [])
  took_short part b short =
      rw (lt-leb (cut most (stand s) (part ++ b ∷ [])) (length (part ++ b ∷ [])) short)

  took_whole : (part : List ℕ) (b : ℕ) → cut most (stand s) (part ++ b ∷ []) ≡ length (part ++ b ∷ [])
      → took m (Waits s part) b ≡ judged (m.hear s (part ++ b ∷ [])) s (part ++ b ∷ [])
  took_whole part b is =
      rw (le-leb (cut most (stand s) (part ++ b ∷ [])) (length (part ++ b ∷ [])) (omega (arith, is)))

  waits : (ys zs ts : List ℕ) → length ys + length zs < cut most (stand s) ((ys ++ zs) ++ ts)
      → walked m (Waits s ys) zs ≡ Waits s (ys ++ zs)
  unfolding walked
  waits ys [] ts short = rw append-nil
  waits ys (z ∷ zs) ts short =
      let on : (ys ++ z ∷ zs) ++ ts ≡ (ys ++ z ∷ []) ++ (zs ++ ts) = simp append_assoc in
      let again : ((ys ++ z ∷ []) ++ zs) ++ ts ≡ (ys ++ z ∷ zs) ++ ts = simp append_assoc in
      let size = length-append ys (z ∷ []) in
      let front = front_short most (stand s) takes (ys ++ z ∷ []) (zs ++ ts) (rw (← on) (omega (arith, size, short))) in
      ap (λ (w : Walked S F). walked m w zs) (took_short ys z front)
      ∙ waits (ys ++ z ∷ []) zs ts (rw again (omega (arith, size, short)))
      ∙ ap (λ (part : List ℕ). Waits s part) (append_assoc ys (z ∷ []) zs)

  one_record : (ys : List ℕ) (z : ℕ) (ts : List ℕ)
      → length (ys ++ z ∷ []) ≡ cut most (stand s) ((ys ++ z ∷ []) ++ ts)
      → walked m (Waits s []) (ys ++ z ∷ []) ≡ judged (m.hear s (ys ++ z ∷ [])) s (ys ++ z ∷ [])
  unfolding walked
  one_record ys z ts is =
      let on : (ys ++ z ∷ []) ++ ts ≡ ys ++ (z ∷ ts) = append_assoc ys (z ∷ []) ts in
      walked_append S F m (Waits s []) ys (z ∷ [])
      ∙ ap (λ (w : Walked S F). took m w z)
      (waits [] ys (z ∷ ts) (rw (← on) (omega (arith, is, length-append ys (z ∷ [])))))
      ∙ took_whole ys z (whole_cut most (stand s) takes (ys ++ z ∷ []) ts is)

  -- .. and it is tested when it is whole, and not before
  one_fits : (fits : S → List ℕ → Bool) (ys : List ℕ) (z : ℕ)
      → length (ys ++ z ∷ []) ≡ cut most (stand s) (ys ++ z ∷ [])
      → all_fit m fits (Waits s []) (ys ++ z ∷ []) ≡ fits s (ys ++ z ∷ [])
  unfolding all_fit
  one_fits fits ys z is =
      let front : walked m (Waits s []) ys ≡ Waits s ys =
      waits [] ys (z ∷ []) (omega (arith, is, length-append ys (z ∷ []))) in
      let whole = le-leb (cut most (stand s) (ys ++ z ∷ [])) (length (ys ++ z ∷ [])) (omega (arith, is)) in
      fit_append S F m fits (Waits s []) ys (z ∷ [])
      ∙ rw (fit_again S F m fits s s ys ys front, front, whole) (and_true (fits s (ys ++ z ∷ [])))
    where
      and_true : (b : Bool) → (b && true) ≡ b
      and_true true = refl
      and_true false = refl

  -- what is judged at once is heard
  cut_one : (bytes : List ℕ) (n : ℕ) → n ≡ cut most (stand s) bytes → n ≤ length bytes
      → walked m (Waits s []) (take n bytes) ≡ judged (m.hear s (take n bytes)) s (take n bytes)
  cut_one bytes n is there = go n refl
    where
      go : (i : ℕ) → n ≡ i → walked m (Waits s []) (take n bytes) ≡ judged (m.hear s (take n bytes)) s (take n bytes)
      go zero e = absurd (omega (arith, e, is, cut_some most (stand s) bytes))
      go (suc i) e =
          let ys = take i bytes in
          let z = get_or bytes i 0 in
          let front : take n bytes ≡ ys ++ z ∷ [] = ap (λ (k : ℕ). take k bytes) e ∙ take-suc bytes i 0
          (omega (arith, e, there)) in
          let both : (ys ++ z ∷ []) ++ drop n bytes ≡ bytes = ap (λ (x : List ℕ). x ++ drop n bytes) (sym front)
          ∙ take-append-drop n bytes in
          let size : length (ys ++ z ∷ []) ≡ n = ap length (sym front) ∙ length-take-le n bytes there in
          ap (λ (x : List ℕ). walked m (Waits s []) x) front
          ∙ one_record ys z (drop n bytes) (size ∙ is ∙ ap (λ (x : List ℕ). cut most (stand s) x) (sym both))
          ∙ ap (λ (x : List ℕ). judged (m.hear s x) s x) (sym front)

  -- .. and the walk goes on behind it
  behind : (bytes : List ℕ) (n : ℕ) (v : Heard S F)
      → walked m (Waits s []) (take n bytes) ≡ judged v s (take n bytes)
      → walked m (Waits s []) bytes ≡ walked m (judged v s (take n bytes)) (drop n bytes)
  behind bytes n v one =
      ap (λ (x : List ℕ). walked m (Waits s []) x) (sym (take-append-drop n bytes))
      ∙ walked_append S F m (Waits s []) (take n bytes) (drop n bytes)
      ∙ ap (λ (w : Walked S F). walked m w (drop n bytes)) one

  module _ (bytes : List ℕ) where
    -- the record that is there tells its own length
    record_needed : needed (stand s) bytes ≤ length bytes
        → needed (stand s) (take (needed (stand s) bytes) bytes) ≡ needed (stand s) bytes
    record_needed there =
        let n = needed (stand s) bytes in
        let size = length-take-le n bytes there in
        let all = take-append-drop n bytes in
        whole_needed (stand s) (take n bytes) (drop n bytes) (size ∙ ap (λ (l : List ℕ). needed (stand s) l) (sym all))
        ∙ size

    heard_record : needed (stand s) bytes ≤ most → needed (stand s) bytes ≤ length bytes
        → m.hear s (take (needed (stand s) bytes) bytes) ≡ hear s (take (needed (stand s) bytes) bytes)
    heard_record low there =
        rw (
          record_needed there,
          le-ltb most (needed (stand s) bytes) low,
        )

    long_later : most < needed (stand s) bytes → is_start (stand s).place ≡ false
    long_later over = go (is_start (stand s).place) refl
      where
        go : (a : Bool) → is_start (stand s).place ≡ a → a ≡ false
        go true e = absurd (omega (arith, needed_first (stand s) bytes e))
        go false e = refl

    long_there : most < needed (stand s) bytes → header ≤ length bytes
    long_there over = go (ltb (length bytes) header) refl
      where
        go : (a : Bool) → ltb (length bytes) header ≡ a → header ≤ length bytes
        go true e =
            absurd
            (omega (arith, needed_header (stand s) bytes (long_later over) (ltb-true (length bytes) header e)))
        go false e = ltb-false (length bytes) header e

    heard_long : most < needed (stand s) bytes → m.hear s (take header bytes) ≡ Turned long
    heard_long over =
        let size = length-take-le header bytes (long_there over) in
        let same : needed (stand s) bytes ≡ needed (stand s) (take header bytes)
        = ap (λ (l : List ℕ). needed (stand s) l) (sym (take-append-drop header bytes))
        ∙ same_needed (stand s) (take header bytes) (drop header bytes) (long_later over) (omega (arith, size)) in
        rw (lt-ltb most (needed (stand s) (take header bytes)) (omega (arith, same, over)))

pub cut_waits : CutWaits
cut_waits S F stand most long hear s bytes takes short =
    waits S F stand most long hear s takes [] bytes [] (rw append-nil (omega (arith, short)))

pub cut_alone : CutAlone
cut_alone S F stand most long hear s bytes takes low there =
    let n = needed (stand s) bytes in
    cut_one S F stand most long hear s takes bytes n (sym (cut_record most (stand s) bytes low)) there
    ∙ ap (λ (v : Heard S F). judged v s (take n bytes)) (heard_record S F stand most long hear s takes bytes low there)

pub cut_fits : CutFits
cut_fits S F stand most long hear fits s r takes low is = go (length r) refl
  where
    go : (n : ℕ) → length r ≡ n → all_fit (cutting stand most long hear) fits (Waits s []) r ≡ fits s r
    go zero e = absurd (omega (arith, e, is, needed_some (stand s) r))
    go (suc i) e =
        let front : r ≡ take i r ++ get_or r i 0 ∷ [] =
        sym (take-length r) ∙ ap (λ (k : ℕ). take k r) e ∙ take-suc r i 0 (omega (arith, e)) in
        let whole : length r ≡ cut most (stand s) r =
        sym is ∙ sym (cut_record most (stand s) r (omega (arith, is, low))) in
        subst (λ (x : List ℕ). all_fit (cutting stand most long hear) fits (Waits s []) x ≡ fits s x) (sym front)
        (one_fits S F stand most long hear s takes fits (take i r) (get_or r i 0)
        (subst (λ (x : List ℕ). length x ≡ cut most (stand s) x) front whole))

pub cut_heard : CutHeard
cut_heard S F stand most long hear s bytes takes low there =
    behind S F stand most long hear s takes bytes (needed (stand s) bytes)
    (hear s (take (needed (stand s) bytes) bytes))
    (cut_alone S F stand most long hear s bytes takes low there)

pub cut_long : CutLong
cut_long S F stand most long hear s bytes takes over =
    let n = cut most (stand s) bytes in
    let m = cutting stand most long hear in
    let head = cut_header most (stand s) bytes over in
    behind S F stand most long hear s takes bytes n (Turned long)
    (cut_one S F stand most long hear s takes bytes n refl
    (omega (arith, head, long_there S F stand most long hear s takes bytes over))
    ∙ ap (λ (v : Heard S F). judged v s (take n bytes))
    (ap (λ (k : ℕ). m.hear s (take k bytes)) head ∙ heard_long S F stand most long hear s takes bytes over))
    ∙ walked_stops S F m s (take n bytes) long [] (drop n bytes)

-- ---- what waits, and what stops a walk

module _ (S F : Type 0) (stand : S → Standing) (most : ℕ) (long : F) (hear : S → List ℕ → Heard S F)
    (takes : first_length ≤ most) where
  took_framed : (w : Walked S F) (b : ℕ) → Framed stand most w
      → Framed stand most (took (cutting stand most long hear) w b)
  took_framed (Waits s part) b h =
      let r = part ++ b ∷ [] in
      go (leb (cut most (stand s) r) (length r)) refl ((cutting stand most long hear).hear s r)
    where
      go : (a : Bool) → leb (cut most (stand s) (part ++ b ∷ [])) (length (part ++ b ∷ [])) ≡ a → (v : Heard S F)
          → Framed stand most (pushed a v s (part ++ b ∷ []))
      go false e v = leb-false (cut most (stand s) (part ++ b ∷ [])) (length (part ++ b ∷ [])) e
      go true e (Kept t) = omega (arith, cut_some most (stand t) [])
      go true e (Turned f) =
          omega (
            arith,
            front_grows most (stand s) takes part (b ∷ []) h,
            leb-true (cut most (stand s) (part ++ b ∷ [])) (length (part ++ b ∷ [])) e,
            length-append part (b ∷ []),
          )
  took_framed (Stops s r f rest) b h = h

  framed : (w : Walked S F) (bs : List ℕ) → Framed stand most w
      → Framed stand most (walked (cutting stand most long hear) w bs)
  unfolding walked
  framed w [] h = h
  framed w (b ∷ bs) h = framed (took (cutting stand most long hear) w b) bs (took_framed w b h)

pub cut_framed : CutFramed
cut_framed S F stand most long hear s bytes takes =
    framed S F stand most long hear takes (Waits s []) bytes (omega (arith, cut_some most (stand s) []))
