-- `line_texts::contents::tag_of` meets its contract: what `find` answers is the first tag that the text begins with.
-- Assumes nothing.
use Rattle.std.proofs.Common.{◌∙◌, rules, tests}
use Rattle.std.proofs.lemmas.Iterator.{YieldsList-from_slice}
use Rattle.std.proofs.lemmas.Iterator.Search.{find_from_yields_List}
use Rattle.line_layouts.specs.declared.Tag.{Tag}
use Rattle.line_layouts.specs.Columns.{tag_text}
use Rattle.line_texts.specs.Texts.{starts}
use Rattle.line_texts.proofs.Whole.{all_tags, tag_found}
use Rattle.line_texts.proofs.contents.tag_of.Goals as goal

pub returns : goal.returns
returns c =
    let s = c.args.s.now in
    let found = find_from_yields_List (λ (tag : Tag). starts (tag_text tag) s) _ _ c.find.result c.find.ensures.ran
    (YieldsList-from_slice all_tags cc) (λ x b q k. search (rules, tests)) in
    c.copied.ensures ∙ found ∙ tag_found s
