-- `line_texts::pieces::piece_end` meets its contract: what `position` answers is where the first separator stands.
-- Assumes nothing.
use Rattle.std.proofs.Common.{ℕ, drop, eqb, rules, tests}
use Rattle.std.proofs.lemmas.Iterator.{YieldsList-from_slice}
use Rattle.std.proofs.lemmas.Iterator.Search.{position_from_yields_List}
use Rattle.prelude.proofs.Parts.{part_from}
use Rattle.line_texts.proofs.Cuts.{stop_is, stop_none, piece_ends, piece_last}
use Rattle.line_texts.proofs.pieces.piece_end.Goals as goal

pub returns-in-Some : goal.returns-in-Some
returns-in-Some c =
    let a = c.args in
    let s = a.text.now in
    let told = position_from_yields_List (λ (b : ℕ). eqb b a.sep) _ _ _ c.in-Some.ensures.ran
    (YieldsList-from_slice (drop a.from s) (cc (part_from s a.from))) (λ x b q k. search (rules, tests)) in
    piece_ends a.sep s a.from c.in-Some.len c.requires (stop_is _ _ c.in-Some.len told)

pub returns-in-None : goal.returns-in-None
returns-in-None c =
    let a = c.args in
    let s = a.text.now in
    let told = position_from_yields_List (λ (b : ℕ). eqb b a.sep) _ _ _ c.in-None.ensures.ran
    (YieldsList-from_slice (drop a.from s) (cc (part_from s a.from))) (λ x b q k. search (rules, tests)) in
    piece_last a.sep s a.from c.requires (stop_none _ _ told)
