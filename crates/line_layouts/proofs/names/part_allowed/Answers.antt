-- `line_layouts::names::part_allowed` meets its contract: what `all` answers is the test of each byte.
-- Assumes nothing.
use Rattle.std.proofs.Common.{◌∙◌, refl, rules, tests, ◌&&◌}
use Rattle.std.proofs.lemmas.Iterator.{YieldsList-from_slice}
use Rattle.std.proofs.lemmas.Iterator.Search.{all_from_yields_List}
use Rattle.std.proofs.lemmas.List.Recursion.{same_from_clauses}
use Rattle.std.specs.List.{list_all}
use Rattle.prelude.specs.Each.{each}
use Rattle.line_layouts.specs.Names.{allowed}
use Rattle.line_layouts.proofs.names.part_allowed.Goals as goal

pub returns : goal.returns
returns c =
    let passes = allowed c.args.sep in
    all_from_yields_List passes _ _ _ c.all.ensures.ran (YieldsList-from_slice c.args.part.now cc) (λ x b q k. search (rules, tests))
    ∙ same_from_clauses (list_all passes) (each passes) (λ x r. passes x && r) refl (λ _ _. refl) (λ _ _. refl)
    c.args.part.now
