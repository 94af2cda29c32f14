-- `line_texts::contents::is_unbroken` meets its contract: what `all` answers is the test of each byte.
-- Assumes nothing.
use Rattle.std.proofs.Common.{ℕ, Bool, ◌&&◌, not, ◌∙◌, refl, rules, tests}
use Rattle.std.specs.List.{list_all}
use Rattle.std.proofs.lemmas.Iterator.{YieldsList-from_slice}
use Rattle.std.proofs.lemmas.Iterator.Search.{all_from_yields_List}
use Rattle.std.proofs.lemmas.List.Recursion.{same_from_clauses}
use Rattle.line_texts.specs.Texts.{is_break, unbroken}
use Rattle.line_texts.proofs.contents.is_unbroken.Goals as goal

pub returns : goal.returns
returns c =
    let s = c.args.s.now in
    let passes = λ (b : ℕ). not (is_break b) in
    all_from_yields_List passes _ _ _ c.all.ensures.ran (YieldsList-from_slice s cc) (λ x b q k. search (rules, tests))
    ∙ same_from_clauses (list_all passes) unbroken (λ b (r : Bool). passes b && r) refl (λ _ _. refl) (λ _ _. refl) s
