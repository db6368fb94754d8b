-- `sides::planes::span` meets its contract: each minor asks for no more than the line and the row promise. Assumes nothing.
use borrow.Author.Rules.{rules}
use Rattle.orient.specs.Bits.{RowFits, LineFits, alternating_ask, three_got}
use Rattle.survey_sides.proofs.planes.span.Goals as goal

pub alternating-requires-2 : goal.alternating-requires-2
alternating-requires-2 c =
    let l : LineFits c.args.l = search rules in
    let r : RowFits c.args.r = search rules in
    alternating_ask (l.xz, r.w, l.xw, r.z, l.zw, r.x) c.requires.y

pub alternating-requires-3 : goal.alternating-requires-3
alternating-requires-3 c =
    let l : LineFits c.args.l = search rules in
    let r : RowFits c.args.r = search rules in
    alternating_ask (l.xy, r.w, l.xw, r.y, l.yw, r.x) c.requires.z

pub alternating-requires-4 : goal.alternating-requires-4
alternating-requires-4 c =
    let l : LineFits c.args.l = search rules in
    let r : RowFits c.args.r = search rules in
    alternating_ask (l.xy, r.z, l.xz, r.y, l.yz, r.x) c.requires.w

pub returns : goal.returns
returns c =
    let l : LineFits c.args.l = search rules in
    let r : RowFits c.args.r = search rules in
    λ i.
    record {
      x = three_got (l.yz, r.w, l.yw, r.z, l.zw, r.y) c.alternating.type_inv c.alternating.ensures i;
      y = three_got (l.xz, r.w, l.xw, r.z, l.zw, r.x) c.alternating-2.type_inv c.alternating-2.ensures i;
      z = three_got (l.xy, r.w, l.xw, r.y, l.yw, r.x) c.alternating-3.type_inv c.alternating-3.ensures i;
      w = three_got (l.xy, r.z, l.xz, r.y, l.yz, r.x) c.alternating-4.type_inv c.alternating-4.ensures i;
    }
