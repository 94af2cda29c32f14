-- `tally_lines::put_line` meets its contract: the tag, then the four numbers; numbers of such widths have room.
-- Assumes nothing.
use Prim.Native.Nat.{◌≤◌}
use native.Mathlib.Omega.{arith}
use lib.ListN.{length}
use Rattle.output.specs.Placed.{Room}
use Rattle.line_layouts.specs.Columns.{separator}
use Rattle.line_laying.proofs.Sofar.{sofar_room, sofar_on, sofar_last_room, sofar_last}
use Rattle.tally_lines.specs.Writing.{cell, hbr_line, most_line}
use Rattle.tally_lines.proofs.Lines.{line_most, line_first, after_head, after_site, after_bin}
use Rattle.tally_lines.proofs.put_line.Goals as goal

pub put_cell-n-requires : goal.put_cell-n-requires
put_cell-n-requires c =
    let a = c.args in
    let most : length (hbr_line a.head a.site a.bin a.count) ≤ most_line =
    line_most a.head a.site a.bin a.count (omega arith) (omega arith) (omega arith) (omega arith) in
    let room : Room (hbr_line a.head a.site a.bin a.count) a.out.now = omega arith in
    let s1 = line_first a.head a.site a.bin a.count a.out.now room _ _ c.put_tag-n.ensures in
    rw c.from.ensures (sofar_room _ _ (cell a.head separator) (after_head a.site a.bin a.count) _ _ _ s1)

pub put_cell-n-requires-2 : goal.put_cell-n-requires-2
put_cell-n-requires-2 c =
    let a = c.args in
    let most : length (hbr_line a.head a.site a.bin a.count) ≤ most_line =
    line_most a.head a.site a.bin a.count (omega arith) (omega arith) (omega arith) (omega arith) in
    let room : Room (hbr_line a.head a.site a.bin a.count) a.out.now = omega arith in
    let s1 = line_first a.head a.site a.bin a.count a.out.now room _ _ c.put_tag-n.ensures in
    let s2 = sofar_on _ _ (cell a.head separator) (after_head a.site a.bin a.count) _ _ _ s1 _ _
    (rw c.from.ensures at c.put_cell-n.ensures) in
    rw c.from-2.ensures (sofar_room _ _ (cell a.site separator) (after_site a.bin a.count) _ _ _ s2)

pub put_cell-n-requires-3 : goal.put_cell-n-requires-3
put_cell-n-requires-3 c =
    let a = c.args in
    let most : length (hbr_line a.head a.site a.bin a.count) ≤ most_line =
    line_most a.head a.site a.bin a.count (omega arith) (omega arith) (omega arith) (omega arith) in
    let room : Room (hbr_line a.head a.site a.bin a.count) a.out.now = omega arith in
    let s1 = line_first a.head a.site a.bin a.count a.out.now room _ _ c.put_tag-n.ensures in
    let s2 = sofar_on _ _ (cell a.head separator) (after_head a.site a.bin a.count) _ _ _ s1 _ _
    (rw c.from.ensures at c.put_cell-n.ensures) in
    let s3 = sofar_on _ _ (cell a.site separator) (after_site a.bin a.count) _ _ _ s2 _ _
    (rw c.from-2.ensures at c.put_cell-n-2.ensures) in
    rw c.from-3.ensures (sofar_room _ _ (cell a.bin separator) (after_bin a.count) _ _ _ s3)

pub put_cell-requires : goal.put_cell-requires
put_cell-requires c =
    let a = c.args in
    let most : length (hbr_line a.head a.site a.bin a.count) ≤ most_line =
    line_most a.head a.site a.bin a.count (omega arith) (omega arith) (omega arith) (omega arith) in
    let room : Room (hbr_line a.head a.site a.bin a.count) a.out.now = omega arith in
    let s1 = line_first a.head a.site a.bin a.count a.out.now room _ _ c.put_tag-n.ensures in
    let s2 = sofar_on _ _ (cell a.head separator) (after_head a.site a.bin a.count) _ _ _ s1 _ _
    (rw c.from.ensures at c.put_cell-n.ensures) in
    let s3 = sofar_on _ _ (cell a.site separator) (after_site a.bin a.count) _ _ _ s2 _ _
    (rw c.from-2.ensures at c.put_cell-n-2.ensures) in
    let s4 = sofar_on _ _ (cell a.bin separator) (after_bin a.count) _ _ _ s3 _ _
    (rw c.from-3.ensures at c.put_cell-n-3.ensures) in
    rw c.from-4.ensures (sofar_last_room _ _ _ _ _ _ s4)

pub returns : goal.returns
returns c =
    let a = c.args in
    let most : length (hbr_line a.head a.site a.bin a.count) ≤ most_line =
    line_most a.head a.site a.bin a.count (omega arith) (omega arith) (omega arith) (omega arith) in
    let room : Room (hbr_line a.head a.site a.bin a.count) a.out.now = omega arith in
    let s1 = line_first a.head a.site a.bin a.count a.out.now room _ _ c.put_tag-n.ensures in
    let s2 = sofar_on _ _ (cell a.head separator) (after_head a.site a.bin a.count) _ _ _ s1 _ _
    (rw c.from.ensures at c.put_cell-n.ensures) in
    let s3 = sofar_on _ _ (cell a.site separator) (after_site a.bin a.count) _ _ _ s2 _ _
    (rw c.from-2.ensures at c.put_cell-n-2.ensures) in
    let s4 = sofar_on _ _ (cell a.bin separator) (after_bin a.count) _ _ _ s3 _ _
    (rw c.from-3.ensures at c.put_cell-n-3.ensures) in
    let all = sofar_last _ _ _ _ _ _ s4 _ _ (rw c.from-4.ensures at c.put_cell.ensures) in
    record { put = all; few = omega (arith, all.count, most) }
