-- `numerals::hex::unhex` meets its contract: at each turn the first bytes are laid over the line, and what is still
-- to be read stands behind them.
-- Assumes nothing.
use mathlib.Core.Path.{◌≡◌, ◌∙◌}
use Prim.Native.Nat.{◌-◌, ◌/◌}
use native.Mathlib.Omega.{arith}
use lib.ListN.{length, drop, length-drop}
use Rattle.numerals.proofs.HexLaws.{bytes_half, laid_byte, laid_all}
use Rattle.numerals.proofs.hex.unhex.Goals as goal

pub loop-i-preserved : goal.loop-i-preserved
loop-i-preserved c =
    laid_byte c.args.line.now c.args.from c.requires c.loop-i.i c.loop-i-test.true c.loop-i.line c.byte_of.result
    c.loop-i.invariant c.byte_of.ensures

pub returns : goal.returns
returns c =
    let line = c.args.line.now in
    let from = c.args.from in
    let all : c.loop-i.i ≡ (length line - from) / 2 = omega arith in (
      record {
        count = omega (arith, bytes_half (drop from line), length-drop from line);
        laid = c.loop-i.invariant ∙ laid_all line from c.requires c.loop-i.i all;
      },
      omega arith,
    )
