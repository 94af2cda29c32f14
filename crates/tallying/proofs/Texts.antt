-- Laws of the text that ends a stream: that the rows' lines follow each other, and what each ending is.
-- Assumes nothing.
use Rattle.std.specs.Prelude.{Some, None}
use mathlib.Core.Path.{◌≡◌, refl, ap, sym, subst, ◌∙◌}
use mathlib.Core.Bool.{Bool}
use mathlib.Core.List.{List, [], ◌∷◌, ◌++◌}
use Prim.Native.Nat.{ℕ, zero, suc, ◌+◌, ◌≤◌, ◌<◌}
use native.Mathlib.Omega.{arith}
use lib.ListN.{length, get_or, take, length-take}
use Rattle.answers.specs.declared.Answer.{Answer}
use Rattle.house.specs.declared.House.{House}
use Rattle.house.specs.declared.Row.{Row}
use Rattle.house.specs.declared.Listing.{Listing}
use Rattle.house.specs.declared.Reported.{Reported}
use Rattle.house.specs.Report.{row_at, listing}
use Rattle.house.proofs.Reporting.{listing_reported, listing_few, listing_at}
use Rattle.order.specs.Laws.{ended as is_ended}
use Rattle.tally_lines.specs.Lines.{row_line, lines_of, refused_line, too_long_line}
use Rattle.tally_lines.proofs.Rows.{lines_more}
use Rattle.walking.specs.declared.Stop.{Stop}
use Rattle.walking.specs.declared.Stop.TheVariants.{Refused, TooLong}
use Rattle.following.specs.declared.Stream.{Stream}
use Rattle.following.specs.Following.{standing}
use Rattle.tallying.specs.Text.{row_lines, report_lines, stopped_line, left_over, closing, ended_with, ended}
use Rattle.following.specs.Lent.{stream_house, progress_of}

-- ---- the rows

-- the lines of the first rows, where they are those of a house
lines_rows : (h : House) (rows : List Row) (d : Row) (n : ℕ) → n ≤ length rows
    → ((i : ℕ) → i < n → get_or rows i d ≡ row_at h 0 i) → lines_of (take n rows) ≡ row_lines h n
unfolding row_lines
lines_rows h rows d zero few are = refl
lines_rows h rows d (suc n) few are =
    lines_more rows n d (omega (arith, few))
    ∙ ap (λ (r : Row). lines_of (take n rows) ++ row_line r) (are n (omega arith))
    ∙ ap (λ (l : List ℕ). l ++ row_line (row_at h 0 n))
    (lines_rows h rows d n (omega (arith, few)) (λ i low. are i (omega (arith, low))))

-- .. and those of a listing
pub lines_listed : (h : House) (d : Row) {list : Listing} → list ≡ listing h 0 1024 → length list.rows ≡ 1024
    → lines_of (take list.reported.rows list.rows) ≡ report_lines h
lines_listed h d {list} is =
    subst
    (λ (l : Listing). length l.rows ≡ 1024 → lines_of (take l.reported.rows l.rows) ≡ report_lines h) (sym is)
    (λ long.
    lines_rows h (listing h 0 1024).rows d (listing h 0 1024).reported.rows
    (omega (arith, long, listing_few h 0 1024)) (λ i low. listing_at h 0 1024 i d low)
    ∙ ap (λ (r : Reported). row_lines h r.rows) (listing_reported h 0 1024))

-- ---- bytes left over

pub ended_left : (h : House) (k : ℕ) (bytes : List ℕ) → 0 < length bytes
    → ended_with h k bytes ≡ refused_line (left_over h bytes) (k + 1)
ended_left h k [] some = absurd (omega arith)
ended_left h k (b ∷ bs) some = refl

module _ (h : House) (k held : ℕ) (buf : List ℕ) where
  pub put_left : 0 < held → held ≤ length buf → (a : Answer) → a ≡ left_over h (take held buf)
      → refused_line a (k + 1) ≡ ended_with h k (take held buf)
  put_left some there a is =
      ap (λ (x : Answer). refused_line x (k + 1)) is
      ∙ sym (ended_left h k (take held buf) (omega (arith, length-take held buf, some, there)))

  none_held : held ≤ 0 → take held buf ≡ []
  none_held e = let none : held ≡ 0 = omega arith in ap (λ (n : ℕ). take n buf) none

  -- after an accepted MRR, the rows; else unfinished
  pub put_closing : held ≤ 0 → (t : Bool) → t ≡ is_ended (standing h).place
      → closing h k t ≡ ended_with h k (take held buf)
  put_closing e t is = rw (none_held e, is)

-- ---- what stopped a stream

module _ (why : Stop) (k : ℕ) where
  pub stopped_refused : (a : Answer) → why ≡ Refused a → refused_line a k ≡ stopped_line why k
  stopped_refused a e = rw e

  pub stopped_long : why ≡ TooLong → too_long_line k ≡ stopped_line why k
  stopped_long e = rw e

module _ (s : Stream) (buf : List ℕ) where
  pub ended_going : s.fate ≡ None
      → ended_with (stream_house s) s.accepted (take s.held buf) ≡ ended (progress_of s buf)
  unfolding ended
  ended_going e = rw e

  pub ended_stopped : (why : Stop) → s.fate ≡ Some why
      → stopped_line why (s.accepted + 1) ≡ ended (progress_of s buf)
  unfolding ended
  ended_stopped why e = rw e
