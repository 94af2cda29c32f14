-- `line_laying::put_fields` meets its contract: the fields passed are put, and the rest is to come.
-- Assumes nothing.
use mathlib.Core.List.{[], ◌++◌}
use Prim.Native.Nat.{◌+◌}
use native.Mathlib.Omega.{arith}
use Rattle.line_layouts.specs.Layouts.{nth_bytes, rest_of}
use Rattle.line_layouts.proofs.Laid.{rest_on, rest_ends}
use Rattle.line_laying.proofs.Sofar.{sofar_first, sofar_room, sofar_on, sofar_done}
use Rattle.line_laying.proofs.put_fields.Goals as goal

pub loop-j-init : goal.loop-j-init
loop-j-init c = ([], sofar_first _ _ c.requires.2)

pub put_nth-k-requires : goal.put_nth-k-requires
put_nth-k-requires c =
    let a = c.args in
    let on = rest_on a.source.now a.line c.requires.0.full a.layout c.loop-j.j a.n (omega arith) c.requires.1 in (
      record { there = c.requires.0; before = omega arith; few = c.requires.1 },
      sofar_room _ c.loop-j.invariant.0 (nth_bytes a.layout a.source.now a.line c.loop-j.j a.n)
          (rest_of a.layout a.source.now a.line (c.loop-j.j + 1) a.n) _ _ _ (rw on at c.loop-j.invariant.1),
    )

pub loop-j-preserved : goal.loop-j-preserved
loop-j-preserved c =
    let a = c.args in
    let nth = nth_bytes a.layout a.source.now a.line c.loop-j.j a.n in
    let on = rest_on a.source.now a.line c.requires.0.full a.layout c.loop-j.j a.n (omega arith) c.requires.1 in (
      c.loop-j.invariant.0 ++ nth,
      sofar_on _ c.loop-j.invariant.0 nth (rest_of a.layout a.source.now a.line (c.loop-j.j + 1) a.n) _ _ _
          (rw on at c.loop-j.invariant.1) _ _ c.put_nth-k.ensures,
    )

pub returns : goal.returns
returns c =
    let a = c.args in
    let none = rest_ends a.source.now a.line c.requires.0.full a.layout c.loop-j.j a.n (omega arith) in
    sofar_done _ c.loop-j.invariant.0 _ _ _ (rw none at c.loop-j.invariant.1)
