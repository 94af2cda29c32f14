-- `line_texts::contents::judge_fields` meets its contract: each return is one law of `fields_mean`.
-- Assumes nothing.
use native.Mathlib.Omega.{arith}
use Rattle.std.specs.Prelude.{Ok}
use mathlib.Core.Path.{◌≡◌, ap, sym, ◌∙◌}
use mathlib.Core.Bool.{true}
use lib.Dec.{leb}
use lib.ListN.{length, drop}
use Rattle.line_layouts.specs.declared.Line.{Line}
use Rattle.line_layouts.specs.Columns.{columns}
use Rattle.line_layouts.specs.Entries.{Missing, Meaning, entries_of}
use Rattle.line_layouts.specs.Fitting.{sits}
use Rattle.line_layouts.specs.Judging.{saying}
use Rattle.line_texts.specs.Pieces.{split, gathered, fields_fit, entries_in}
use Rattle.line_texts.specs.Places.{CutAt}
use Rattle.line_texts.proofs.Places.{line_means}
use Rattle.line_texts.proofs.Whole.{mean_sites, mean_said}
use Rattle.line_texts.proofs.contents.judge_fields.Goals as goal

pub returns-then-not-sites_fit : goal.returns-then-not-sites_fit
returns-then-not-sites_fit c =
    let a = c.args in
    let cut : CutAt a.sep a.s.now a.tag (Ok c.in-Ok.places) = rw c.in-Ok.is at c.cut.ensures in
    let few : leb (length (split a.sep (drop 4 a.s.now))) (length (columns a.tag)) ≡ true =
    cut.1 in
    let fits : fields_fit a.sep (columns a.tag) (gathered a.tag (split a.sep (drop 4 a.s.now))) ≡ true =
    sym c.fields_fit.ensures ∙ c.if-not-fields_fit.false in
    let told : c.sites_fit.result
    ≡ sits Missing (columns a.tag) (entries_in (columns a.tag) (gathered a.tag (split a.sep (drop 4 a.s.now)))) =
    let s = a.s.now in
    c.sites_fit.ensures.all s
    ∙ ap (λ (l : Line). sits Missing (columns l.tag) (entries_of s l)) c.fill-line.ensures
    ∙ ap (λ (m : Meaning). sits Missing (columns m.tag) m.entries)
    (line_means a.sep s a.tag c.requires) in
    rw (mean_sites a.sep a.tag (split a.sep (drop 4 a.s.now)) few
    fits
    (sym told ∙ c.if-not-sites_fit.true))

pub returns : goal.returns
returns c =
    let a = c.args in
    let cut : CutAt a.sep a.s.now a.tag (Ok c.in-Ok.places) = rw c.in-Ok.is at c.cut.ensures in
    let few : leb (length (split a.sep (drop 4 a.s.now))) (length (columns a.tag)) ≡ true =
    cut.1 in
    let fits : fields_fit a.sep (columns a.tag) (gathered a.tag (split a.sep (drop 4 a.s.now))) ≡ true =
    sym c.fields_fit.ensures ∙ c.if-not-fields_fit.false in
    let told : c.sites_fit.result
    ≡ sits Missing (columns a.tag) (entries_in (columns a.tag) (gathered a.tag (split a.sep (drop 4 a.s.now)))) =
    let s = a.s.now in
    c.sites_fit.ensures.all s
    ∙ ap (λ (l : Line). sits Missing (columns l.tag) (entries_of s l)) c.fill-line.ensures
    ∙ ap (λ (m : Meaning). sits Missing (columns m.tag) m.entries)
    (line_means a.sep s a.tag c.requires) in
    rw (mean_said a.sep a.tag (split a.sep (drop 4 a.s.now)) few
    fits
    (sym told ∙ c.if-not-sites_fit.false))
    (ap saying c.fill-line.ensures)
