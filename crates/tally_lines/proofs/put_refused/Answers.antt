-- `tally_lines::put_refused` meets its contract: its number, then the record's, then the ending.
-- Assumes nothing.
use mathlib.Core.Path.{◌≡◌}
use native.Mathlib.Omega.{arith}
use Rattle.output.proofs.Laws.{first}
use Rattle.output.specs.Placed.{Room}
use Rattle.line_laying.proofs.Sofar.{sofar_room, sofar_on, sofar_last_room, sofar_last}
use Rattle.tally_lines.specs.Lines.{refused_word, at_record, numbered, ending, at_ending, refusal, refused_line}
use Rattle.tally_lines.proofs.Lines.{refused_most, refused_first, put_as}
use Rattle.tally_lines.proofs.put_refused.Goals as goal

pub put_numbered-n-requires : goal.put_numbered-n-requires
put_numbered-n-requires c =
    let n = c.from.result in
    let v = c.said-number.result.1 in
    let room : Room (refusal n v c.args.k) c.args.out.now =
    omega (arith, refused_most c.args.k (omega arith) n v (omega (arith, c.from.ensures)) c.said-number.ensures.1) in
    first (numbered refused_word n) (at_ending c.args.k v) c.args.out.now room

pub put_numbered-n-requires-2 : goal.put_numbered-n-requires-2
put_numbered-n-requires-2 c =
    let n = c.from.result in
    let v = c.said-number.result.1 in
    let room : Room (refusal n v c.args.k) c.args.out.now =
    omega (arith, refused_most c.args.k (omega arith) n v (omega (arith, c.from.ensures)) c.said-number.ensures.1) in
    let s1 = refused_first n v c.args.k c.args.out.now room _ _ c.put_numbered-n.ensures in
    sofar_room _ _ (numbered at_record c.args.k) (ending v) _ _ _ s1

pub put_ending-requires : goal.put_ending-requires
put_ending-requires c =
    let n = c.from.result in
    let v = c.said-number.result.1 in
    let room : Room (refusal n v c.args.k) c.args.out.now =
    omega (arith, refused_most c.args.k (omega arith) n v (omega (arith, c.from.ensures)) c.said-number.ensures.1) in
    let s1 = refused_first n v c.args.k c.args.out.now room _ _ c.put_numbered-n.ensures in
    let s2 = sofar_on _ _ (numbered at_record c.args.k) (ending v) _ _ _ s1 _ _ c.put_numbered-n-2.ensures in
    sofar_last_room _ _ _ _ _ _ s2

pub returns : goal.returns
returns c =
    let n = c.from.result in
    let v = c.said-number.result.1 in
    let room : Room (refusal n v c.args.k) c.args.out.now =
    omega (arith, refused_most c.args.k (omega arith) n v (omega (arith, c.from.ensures)) c.said-number.ensures.1) in
    let s1 = refused_first n v c.args.k c.args.out.now room _ _ c.put_numbered-n.ensures in
    let s2 = sofar_on _ _ (numbered at_record c.args.k) (ending v) _ _ _ s1 _ _ c.put_numbered-n-2.ensures in
    let is : refusal n v c.args.k ≡ refused_line c.args.answer c.args.k =
    rw (c.from.ensures, c.said-number.ensures.0) in
    put_as is (sofar_last _ _ _ _ _ _ s2 _ _ c.put_ending.ensures)
