-- Laws of bytes placed: one writer after another, and the outcome at an offset.
-- Assumes nothing.
use Rattle.std.specs.Prelude.{Ok, Err}
use mathlib.Core.Path.{◌≡◌, refl, ap, sym, ◌∙◌}
use mathlib.Core.Bool.{Bool, true, false}
use mathlib.Core.List.{List, [], ◌∷◌, ◌++◌, append_assoc, append-nil}
use Prim.Native.Nat.{ℕ, suc, ◌+◌, ◌-◌, ◌≤◌, ◌<◌}
use native.Mathlib.Numerals.{add-one}
use native.Mathlib.Omega.{arith}
use borrow.Author.Tests.{le-leb, lt-leb, leb-true}
use lib.Dec.{leb}
use lib.ListN.{length, get_or, take, drop, set, length-append, length-take, length-drop, drop_of_length-le}
use lib.Seq.{take_all, take-suc, drop-cons, drop-drop, drop-append_seam, take-append_seam, set_at}
use lib.Seq.{length-take-le, take_at, drop_at}
use Rattle.answers.specs.declared.Answer.{Answer}
use Rattle.answers.specs.declared.Answer.TheVariants.{OutputTooShort}
use Rattle.numbers.specs.Numbers.{over}
use Rattle.output.specs.Placed.{part, Room, Put, Outcome, outcome, refused, placed_at}

-- ---- one byte more

pub put_end : (d old : List ℕ) (b n : ℕ) → length d ≡ n → n < length old
    → set (over d old) n b ≡ over (d ++ b ∷ []) old
put_end d old b n e h =
    rw (length-append, drop-cons old (length d) 0 (omega arith), add-one)
    (set_at d (get_or old (length d) 0) (drop (suc (length d)) old) b n e
    ∙ sym (append_assoc d (b ∷ []) (drop (suc (length d)) old)))

-- ---- bytes, then others in the part behind them

module _ (d t old : List ℕ) (h : Room (d ++ t) old) where
  sum : length d + length t ≤ length old
  sum = rw length-append at h

  pub first : Room d old
  first = omega (arith, sum)

  pub length_over : length (over d old) ≡ length old
  length_over = simp (length-append, length-drop) (omega (arith, sum))

  module _ (mid : List ℕ) (n : ℕ) (e : Put d old n mid) where
    same : length mid ≡ length old
    same = ap length e.laid ∙ length_over

    pub inside : n ≤ length mid
    inside = omega (arith, sum, same, e.count)

    pub behind : Room t (take (length mid - n) (drop n mid))
    behind = simp (length-take, length-drop) (omega (arith, sum, same, e.count))

    pub both : (new : List ℕ) (m : ℕ) → Put t (take (length mid - n) (drop n mid)) m new
        → Put (d ++ t) old (n + m) (take n mid ++ (new ++ drop (length mid - n) (drop n mid)))
    both new m f =
        let all : take (length mid - n) (drop n mid) ≡ drop n mid =
        take_all (length mid - n) (drop n mid) (omega (arith, length-drop n mid)) in
        let none : drop (length mid - n) (drop n mid) ≡ [] =
        drop_of_length-le (drop n mid) {i = length mid - n} (omega (arith, length-drop n mid)) in
        record {
          count = omega (arith, length-append d t, e.count, f.count);
          laid =
              rw (
                f.laid,
                all,
                none,
                append-nil,
                e.count,
                e.laid,
                take-append_seam d (drop (length d) old),
                drop-append_seam d (drop (length d) old),
                drop-drop (length t) (length d) old,
                length-append d t,
              )
              (sym (append_assoc d t (drop (length d + length t) old)));
        }

-- ---- byte after byte

pub laid_more : (bytes old : List ℕ) (i : ℕ) → i < length bytes → length bytes ≤ length old
    → set (over (take i bytes) old) i (get_or bytes i 0) ≡ over (take (i + 1) bytes) old
laid_more bytes old i k g =
    let is : length (take i bytes) ≡ i = length-take-le i bytes (omega arith) in
    rw (add-one i, take-suc bytes i 0 k) (put_end (take i bytes) old (get_or bytes i 0) i is (omega arith))

module _ (at len : ℕ) (source : List ℕ) (h : at + len ≤ length source) where
  pub length_part : length (part at len source) ≡ len
  length_part = simp (length-take, length-drop) (omega arith)

-- ---- at an offset

-- bytes put at the start of the part behind an offset are laid at the offset
pub put_behind : (bytes old : List ℕ) (at n : ℕ) (new : List ℕ) → at ≤ length old
    → Put bytes (take (length old - at) (drop at old)) n new
    → take at old ++ (new ++ drop (length old - at) (drop at old))
    ≡ take at old ++ (bytes ++ drop (at + length bytes) old)
put_behind bytes old at n new h e =
    let all : take (length old - at) (drop at old) ≡ drop at old =
    take_all (length old - at) (drop at old) (omega (arith, length-drop at old)) in
    let none : drop (length old - at) (drop at old) ≡ [] =
    drop_of_length-le (drop at old) {i = length old - at} (omega (arith, length-drop at old)) in
    rw (e.laid, all, none, append-nil, drop-drop (length bytes) at old)

module _ (bytes old : List ℕ) (at : ℕ) where
  pub place_short : length old < at + length bytes → refused OutputTooShort old ≡ placed_at bytes old at
  unfolding placed_at
  place_short h = rw (lt-leb (at + length bytes) (length old) h)

  module _ (h : at + length bytes ≤ length old) where
    pub place_room : Room bytes (take (length old - at) (drop at old))
    place_room = simp (length-take, length-drop) (omega arith)

    pub place_done : (n : ℕ) (new : List ℕ) → Put bytes (take (length old - at) (drop at old)) n new
        → outcome (Ok n) (take at old ++ (new ++ drop (length old - at) (drop at old))) ≡ placed_at bytes old at
    unfolding placed_at
    place_done n new e =
        rw (
          le-leb (at + length bytes) (length old) h,
          put_behind bytes old at n new (omega arith) e,
          e.count,
        )

-- ---- bytes that were placed stand at their offset

pub refused_bytes : {A : Type 0} (answer : Answer) (old : List ℕ) (n : ℕ) (new : List ℕ)
    → refused answer old ≡ outcome (Ok n) new → A
refused_bytes answer old n new e =
    let apart : Err answer ≡ Ok n = ap (λ (o : Outcome). o.answer) e in
    let never : ◌≡◌ {A = ℕ} 0 1 = cc in absurd (omega arith)

pub placed_part : (bytes old : List ℕ) (at n : ℕ) (new : List ℕ) → placed_at bytes old at ≡ outcome (Ok n) new
    → part at n new ≡ bytes
unfolding placed_at
placed_part bytes old at n new e = go (leb (at + length bytes) (length old)) refl
  where
    go : (t : Bool) → leb (at + length bytes) (length old) ≡ t → part at n new ≡ bytes
    go false f = refused_bytes OutputTooShort old n new (rw f at e)
    go true f =
        let room = leb-true (at + length bytes) (length old) f in
        let rest = drop (at + length bytes) old in
        let done : outcome (Ok (length bytes)) (take at old ++ (bytes ++ rest)) ≡ outcome (Ok n) new =
        rw f at e in
        let answers : Ok (length bytes) ≡ Ok n = ap (λ (o : Outcome). o.answer) done in
        let size : length bytes ≡ n = cc in
        let all : take at old ++ (bytes ++ rest) ≡ new = ap (λ (o : Outcome). o.output) done in
        let front = length-take-le at old (omega arith) in
        rw (← all, ← size, drop_at (take at old) (bytes ++ rest) at front) (take_at bytes rest (length bytes) refl)
