-- `pouring::pour_all` meets its contract: every walk over the carry leads to the same end, with fewer bytes of the chunk ahead.
-- Assumes nothing.
use mathlib.Core.Path.{refl, sym, ◌∙◌}
use native.Mathlib.Omega.{arith}
use lib.ListN.{length}
use Rattle.pouring.proofs.Pours.{pours_by, flow_begins, flow_first, goes_on_lem, flow_on}
use Rattle.pouring.proofs.pour_all.Goals as goal

pub pour_carry-q-requires : goal.pour_carry-q-requires
pour_carry-q-requires c = c.requires.0

pub loop-keys-init : goal.loop-keys-init
loop-keys-init c = (
  flow_begins _ _ _ _ _ _ _ _ _ _ _ c.args.chunk.now c.requires.0 c.requires.1 c.pour_carry-q.ensures,
  c.pour_carry-q.auto.carry ∙ c.requires.0.long,
  refl,
  refl,
  refl,
  refl,
  refl,
)

pub pour_more-q-requires : goal.pour_more-q-requires
pour_more-q-requires c =
    let inv = c.loop-keys.invariant in
    let on = goes_on_lem c.loop-keys.q (length c.args.chunk.now) (sym c.goes_on.ensures ∙ c.loop-keys-test.true) in
    (inv.0.lends, inv.0.few on.0, on.1, inv.1)

pub loop-keys-smaller : goal.loop-keys-smaller
loop-keys-smaller c =
    let t = c.pour_more-q.ensures in
    omega (arith, t.further, t.upto)

pub loop-keys-preserved : goal.loop-keys-preserved
loop-keys-preserved c =
    let inv = c.loop-keys.invariant in
    let on = goes_on_lem c.loop-keys.q (length c.args.chunk.now) (sym c.goes_on.ensures ∙ c.loop-keys-test.true) in (
      flow_on _ _ _ _ _ _ _ _ _ on.0 inv.0 c.pour_more-q.ensures,
      c.pour_more-q.auto.carry ∙ inv.1,
      c.pour_more-q.auto.keys ∙ inv.2,
      c.pour_more-q.auto.counts ∙ inv.3,
      c.pour_more-q.auto.guesses ∙ inv.4,
      c.pour_more-q.auto.parts ∙ inv.5,
      c.pour_more-q.auto.carry ∙ inv.6,
    )

pub pour_rest-requires : goal.pour_rest-requires
pour_rest-requires c =
    let inv = c.loop-keys.invariant in
    (inv.0.lends, inv.0.upto, inv.1, inv.0.within, sym c.goes_on.ensures ∙ c.loop-keys-test.false)

pub returns : goal.returns
returns c =
    pours_by
    (c.loop-keys.invariant.0.is
    ∙ flow_first _ _ _ _ _ _ _ _ _ _ _ c.args.chunk.now c.requires.0 c.requires.1 c.pour_carry-q.ensures)
    c.pour_rest.ensures
