-- Laws of the lines of rows, laid one behind another.
-- Assumes nothing.
use mathlib.Core.Path.{◌≡◌, refl, ap, ◌∙◌}
use mathlib.Core.List.{List, [], ◌∷◌, ◌++◌, append_assoc, append-nil}
use Prim.Native.Nat.{ℕ, suc, ◌+◌, ◌*◌, ◌≤◌, ◌<◌}
use native.Mathlib.Numerals.{add-one}
use native.Mathlib.Omega.{arith}
use lib.ListN.{length, get_or, take, drop, length-append}
use lib.Seq.{take_all, take-append_seam, drop-append-add, drop-drop}
use Rattle.std.proofs.Math.Seq.{take-suc}
use Rattle.std.proofs.lemmas.Grind.{flat_map-append}
use Rattle.house.specs.declared.Row.{Row}
use Rattle.output.specs.Placed.{Put}
use Rattle.tally_lines.specs.Lines.{row_line, lines_of}
use Rattle.tally_lines.specs.Writing.{most_line, LaidAt}

-- one row more
pub lines_more : (rows : List Row) (i : ℕ) (d : Row) → i < length rows
    → lines_of (take (suc i) rows) ≡ lines_of (take i rows) ++ row_line (get_or rows i d)
lines_more rows i d inside =
    ap lines_of (take-suc rows i d inside)
    ∙ flat_map-append row_line (take i rows) (get_or rows i d ∷ [])
    ∙ ap (λ (l : List ℕ). lines_of (take i rows) ++ l) (append-nil (row_line (get_or rows i d)))

-- the lines of the first rows are laid over an output
pub record Laid (rows : List Row) (old : List ℕ) (i : ℕ) (new : List ℕ) (at : ℕ) : Type 0 where
  pub long : length new ≡ length old
  pub count : at ≡ length (lines_of (take i rows))
  pub few : at ≤ most_line * i
  pub laid : new ≡ lines_of (take i rows) ++ drop (length (lines_of (take i rows))) old

pub laid_none : (rows : List Row) (old : List ℕ) → Laid rows old 0 old 0
laid_none rows old = record { long = refl; count = refl; few = omega arith; laid = refl }

pub laid_on : (rows : List Row) (old : List ℕ) (i : ℕ) (mid : List ℕ) (at : ℕ) (d : Row) (n : ℕ) (new : List ℕ)
    → i < length rows → length new ≡ length mid → Laid rows old i mid at
    → LaidAt (row_line (get_or rows i d)) mid at n new → Laid rows old (i + 1) new (at + n)
laid_on rows old i mid at d n new inside same l m =
    let t = lines_of (take i rows) in
    let line = row_line (get_or rows i d) in
    let here : at ≡ length t = l.count in
    let more : lines_of (take (i + 1) rows) ≡ t ++ line
    = ap (λ (k : ℕ). lines_of (take k rows)) (add-one i) ∙ lines_more rows i d inside in
    record {
      long = same ∙ l.long;
      count = rw (more, length-append t line) (omega (arith, here, m.count));
      few = omega (arith, l.few, m.few);
      laid =
          m.laid
          ∙ rw (
            more,
            l.laid,
            here,
            take-append_seam t (drop (length t) old),
            drop-append-add t (drop (length t) old) (length line),
            drop-drop (length line) (length t) old,
            length-append t line,
            append_assoc t line (drop (length t + length line) old),
          );
    }

pub laid_all : (rows : List Row) (old : List ℕ) (i : ℕ) (new : List ℕ) (at : ℕ) → length rows ≤ i
    → Laid rows old i new at → Put (lines_of rows) old at new
laid_all rows old i new at all l =
    let whole : lines_of (take i rows) ≡ lines_of rows = ap lines_of (take_all i rows all) in
    rw (← whole) (record { count = l.count; laid = l.laid })
