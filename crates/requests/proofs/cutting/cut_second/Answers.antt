-- `requests::cutting::cut_second` meets its contract: a second word is the last, or the third follows.
-- Assumes nothing.
use mathlib.Core.Path.{refl}
use mathlib.Core.List.{List, ◌∷◌}
use native.Mathlib.Omega.{arith}
use Rattle.asking.specs.Asks.{Word}
use Rattle.requests.proofs.CutLaws.{found_last, found_more}
use Rattle.requests.proofs.cutting.cut_second.Goals as goal

pub returns-then-e-line : goal.returns-then-e-line
returns-then-e-line c =
    let a = c.args in
    let line = a.line.now in
    found_more line a.from c.word_end-e.result (omega arith) c.word_end-e.ensures.0 a.verb
    (λ (ws : List Word). a.first.now ∷ ws) _ _ c.if-e-line.true c.cut_third.ensures

pub returns : goal.returns
returns c =
    let a = c.args in
    let line = a.line.now in
    found_last line a.from c.word_end-e.result (omega arith) c.word_end-e.ensures.0 a.verb
    (λ (ws : List Word). a.first.now ∷ ws) c.ask_two-asked.result
    c.if-e-line.false refl c.ask_two-asked.ensures
