-- `line_texts::contents::judge_content` meets its contract: each return is one law of `content_means`.
-- Assumes nothing.
use mathlib.Core.Path.{◌≡◌, sym, ◌∙◌}
use mathlib.Core.Bool.{true}
use native.Mathlib.Omega.{arith}
use Rattle.std.specs.Prelude.{Some, None}
use Rattle.answers.specs.declared.Answer.TheVariants.{NotACountLine}
use Rattle.line_layouts.specs.Judging.{refusing}
use Rattle.line_texts.specs.Texts.{unbroken}
use Rattle.line_texts.specs.Places.{content_held}
use Rattle.line_texts.proofs.Whole.{content_broken, content_tagged, tag_four}
use Rattle.line_texts.proofs.contents.judge_content.Goals as goal

pub returns-then-not-is_unbroken : goal.returns-then-not-is_unbroken
unfolding content_held
returns-then-not-is_unbroken c =
    let a = c.args in
    let told = c.is_unbroken in
    rw (content_broken a.sep a.s.now (sym told.ensures ∙ c.if-not-is_unbroken.true))

pub judge_fields-requires : goal.judge_fields-requires
judge_fields-requires c =
    let told : c.tag_of.result ≡ Some c.in_ok-tag.tag = grind arith in
    tag_four c.args.s.now c.in_ok-tag.tag (sym c.tag_of.ensures ∙ told)

pub returns : goal.returns
unfolding content_held
returns c =
    let whole : unbroken c.args.s.now ≡ true =
    sym c.is_unbroken.ensures ∙ c.if-not-is_unbroken.false in
    let a = c.args in
    let told : c.tag_of.result ≡ Some c.in_ok-tag.tag = grind arith in
    let tagged = sym c.tag_of.ensures ∙ told in
    rw (content_tagged a.sep a.s.now whole, tagged) c.judge_fields.ensures

pub returns-in_err-tag : goal.returns-in_err-tag
unfolding content_held
returns-in_err-tag c =
    let whole : unbroken c.args.s.now ≡ true =
    sym c.is_unbroken.ensures ∙ c.if-not-is_unbroken.false in
    let a = c.args in
    let told : c.tag_of.result ≡ None = grind arith in
    let tagged = sym c.tag_of.ensures ∙ told in
    let e : c.from_residual.result ≡ refusing NotACountLine = grind arith in
    rw (e, content_tagged a.sep a.s.now whole, tagged)
