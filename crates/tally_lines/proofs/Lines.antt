-- Laws of the lines that end a stream: how long they are, and how a row's line is put together.
-- Assumes nothing.
use Rattle.std.specs.Prelude.{Option, Some, None}
use mathlib.Core.Path.{◌≡◌, refl, ap}
use mathlib.Core.List.{List, ◌++◌, append_assoc, append-nil}
use Prim.Native.Nat.{ℕ, ◌+◌, ◌-◌, ◌≤◌, ◌<◌}
use native.Mathlib.Omega.{arith}
use lib.ListN.{length, take, drop, length-append}
use Rattle.answers.specs.Numbers.{OfBytes}
use Rattle.house.specs.declared.Row.{Row}
use Rattle.output.specs.Placed.{Room, Put}
use Rattle.output.proofs.Laws.{put_behind}
use Rattle.digits.proofs.Laws.{digits_most, digits_long}
use Rattle.line_layouts.specs.declared.Tag.TheVariants.{Hbr}
use Rattle.line_layouts.specs.Columns.{separator, line_feed, tag_text}
use Rattle.line_layouts.specs.Layouts.{laid}
use Rattle.line_laying.proofs.Sofar.{Sofar}
use Rattle.tally_lines.specs.Lines.{row_line, refused_word, numbered, ending, at_ending, refusal, too_long_line}
use Rattle.tally_lines.specs.Lines.{unfinished_line}
use Rattle.tally_lines.specs.Writing.{cell, hbr_line, most_line, most_refused, PutLine, LaidAt}

-- ---- how long a line is

module _ (k : ℕ) (fits : k < 18_446_744_073_709_551_616) where
  ending_most : (v : Option (ℕ × ℕ)) → OfBytes v → length (ending v) ≤ 34
  ending_most None low = omega arith
  ending_most (Some (head, site)) low =
      simp length-append
      (omega (
        arith,
        digits_most head (omega (arith, low.0)),
        digits_most site (omega (arith, low.1)),
      ))

  pub refused_most : (n : ℕ) (v : Option (ℕ × ℕ)) → n < 256 → OfBytes v → length (refusal n v k) ≤ most_refused
  refused_most n v low bytes =
      simp length-append
      (omega (arith, digits_long k fits, digits_most n (omega (arith, low)), ending_most v bytes))

  pub too_long_most : length (too_long_line k) ≤ 64
  too_long_most = simp length-append (omega (arith, digits_long k fits))

  pub unfinished_most : length (unfinished_line k) ≤ 64
  unfinished_most = simp length-append (omega (arith, digits_long k fits))

pub line_most : (head site bin count : ℕ) → head < 256 → site < 256 → bin < 65_536 → count < 4_294_967_296
    → length (hbr_line head site bin count) ≤ most_line
line_most head site bin count h s b c =
    simp length-append
    (omega (
      arith,
      digits_most head (omega (arith, h)),
      digits_most site (omega (arith, s)),
      digits_most bin (omega (arith, b)),
      digits_most count (omega (arith, c)),
    ))

-- ---- a line's parts, one after the other

abbrev pub after_bin : ℕ → List ℕ
after_bin count = cell count line_feed

abbrev pub after_site : ℕ → ℕ → List ℕ
after_site bin count = cell bin separator ++ after_bin count

abbrev pub after_head : ℕ → ℕ → ℕ → List ℕ
after_head site bin count = cell site separator ++ after_site bin count

pub line_first : (head site bin count : ℕ) (old : List ℕ) → Room (hbr_line head site bin count) old
    → (n : ℕ) (mid : List ℕ) → Put (tag_text Hbr) old n mid
    → Sofar (hbr_line head site bin count) (tag_text Hbr) (cell head separator ++ after_head site bin count) old n mid
line_first head site bin count old room n mid e =
    record {
      is =
          ap (λ (l : List ℕ). tag_text Hbr ++ l)
          (append_assoc (cell head separator) (cell site separator) (after_site bin count));
      room = room;
      put = e;
    }

pub refused_first : (n : ℕ) (v : Option (ℕ × ℕ)) (k : ℕ) (old : List ℕ) → Room (refusal n v k) old
    → (m : ℕ) (mid : List ℕ) → Put (numbered refused_word n) old m mid
    → Sofar (refusal n v k) (numbered refused_word n) (at_ending k v) old m mid
refused_first n v k old room m mid e = record { is = refl; room = room; put = e }

-- ---- what was put

-- what was put, under another name
pub put_as : {text text' : List ℕ} → text ≡ text' → {old : List ℕ} {r : ℕ} {new : List ℕ} → Put text old r new
    → Put text' old r new
put_as e p = rw (← e) p

-- a text ends within its output
pub put_within : (text old : List ℕ) (n : ℕ) (new : List ℕ) → Put text old n new → n ≤ length new
put_within text old n new p =
    omega (arith, p.count, ap length p.laid, length-append text (drop (length text) old))

-- ---- a row's line

-- its numbers are in order, and the fields behind them are missing
row_line_lem : (r : Row) → hbr_line r.head r.site r.bin r.count ≡ row_line r
unfolding row_line laid
row_line_lem r =
    let head = cell r.head separator in
    let site = cell r.site separator in
    let bin = cell r.bin separator in
    let count = cell r.count line_feed in
    rw (append-nil count, append_assoc head site (bin ++ count))

pub row_laid : (r : Row) (old : List ℕ) (at : ℕ) → at + most_line ≤ length old → (n : ℕ) (new : List ℕ)
    → PutLine (hbr_line r.head r.site r.bin r.count) (take (length old - at) (drop at old)) n new
    → LaidAt (row_line r) old at n (take at old ++ (new ++ drop (length old - at) (drop at old)))
row_laid r old at room n new e =
    let put : Put (row_line r) (take (length old - at) (drop at old)) n new = put_as (row_line_lem r) e.put in
    record { count = put.count; few = e.few; laid = put_behind (row_line r) old at n new (omega (arith, room)) put }
