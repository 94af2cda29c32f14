-- Laws of a change and of a verdict, as other crates' proofs cite them, and of the cells behind the parts, lent by
-- themselves: what is put in there or taken out, put back.
-- Assumes nothing.
use mathlib.Core.Path.{◌≡◌, subst, sym, ◌∙◌}
use mathlib.Core.List.{List, ◌++◌, append-nil}
use Prim.Native.Nat.{ℕ, ◌+◌, ◌-◌, ◌≤◌}
use native.Mathlib.Omega.{arith}
use borrow.Rule.Slice.PartMut.{mid_of, put_mid}
use lib.ListN.{length, take, drop, drop_of_length-le, length-drop}
use Rattle.prelude.proofs.Parts.{part_from}
use Rattle.rising.specs.Rising.{insert_at, remove_at}
use Rattle.session.specs.declared.Standing.{Standing}
use Rattle.session.specs.declared.Change.{Change}
use Rattle.session.specs.declared.Change.TheVariants.{Stands}
use Rattle.session.specs.declared.Verdict.{Verdict}
use Rattle.session.specs.declared.Verdict.TheVariants.{Taken, Wanted}
use Rattle.session.specs.Session.{most_open}
use Rattle.settling.specs.Settling.{lent_session, changed, Within, Settles}
use Rattle.session.proofs.Cells.{insert_behind, remove_behind}

module _ (cells : List ℕ) (long : most_open ≤ length cells) (used at : ℕ) where
  abbrev count : ℕ
  count = length cells - most_open

  put_behind : (xs : List ℕ) → put_mid most_open count cells xs ≡ take most_open cells ++ xs
  put_behind xs =
      rw (
        drop_of_length-le (drop most_open cells) {i = count} (omega (arith, length-drop most_open cells)),
        append-nil xs,
      )

  pub insert_wafer : (wafer : ℕ)
      → put_mid most_open count cells (insert_at (mid_of most_open count cells) used at wafer)
      ≡ insert_at cells (most_open + used) (most_open + at) wafer
  insert_wafer wafer =
      rw (part_from cells most_open) (put_behind _ ∙ sym (insert_behind most_open cells used at wafer long))

  pub remove_wafer : at + 1 ≤ used
      → put_mid most_open count cells (remove_at (mid_of most_open count cells) used at 1)
      ≡ remove_at cells (most_open + used) (most_open + at) 1
  remove_wafer low =
      rw (part_from cells most_open) (put_behind _ ∙ sym (remove_behind most_open cells used at 1 (omega (arith, low)) long))

module _ (st : Standing) (cells : List ℕ) {change : Change} {next : Standing} where
  pub changed_stands : change ≡ Stands next → lent_session next cells ≡ changed (lent_session st cells) change
  unfolding changed
  changed_stands e = rw e

-- what is known of a verdict is known of its change
module _ (st : Standing) {v : Verdict} (fits : Settles st v) where
  pub settles_taken : {change : Change} → v ≡ Taken change → Within st change
  settles_taken e = subst (Settles st) e fits

  pub settles_wanted : {change : Change} {key : ℕ} → v ≡ Wanted change key → Within st change
  settles_wanted e = subst (Settles st) e fits
