-- `requests::cutting::cut_fourth` meets its contract: behind a fourth word there is no other.
-- Assumes nothing.
use mathlib.Core.Path.{refl}
use mathlib.Core.List.{List, ◌∷◌}
use Prim.Native.Nat.{◌-◌, ◌+◌}
use native.Mathlib.Omega.{arith}
use lib.ListN.{take, drop}
use Rattle.asking.specs.Asks.{Word}
use Rattle.script.proofs.WordLaws.{cut_more}
use Rattle.asking.proofs.Laws.{five_none}
use Rattle.requests.proofs.CutLaws.{found_none, found_last}
use Rattle.requests.proofs.cutting.cut_fourth.Goals as goal

pub returns-then-e-line : goal.returns-then-e-line
returns-then-e-line c =
    let a = c.args in
    let line = a.line.now in
    let e = c.word_end-e.result in
    found_none line _ _ _ _ c.no_call.ensures.0 c.no_call.ensures.1
    (rw (cut_more line a.from e (omega arith) c.word_end-e.ensures.0 c.if-e-line.true)
    (five_none a.verb a.order.now a.at.now a.long.now (take (e - a.from) (drop a.from line))
    (drop (e + 1) line)))

pub returns : goal.returns
returns c =
    let a = c.args in
    let line = a.line.now in
    found_last line a.from c.word_end-e.result (omega arith) c.word_end-e.ensures.0 a.verb
    (λ (ws : List Word). a.order.now ∷ a.at.now ∷ a.long.now ∷ ws) c.ask_four-asked.result
    c.if-e-line.false refl c.ask_four-asked.ensures
