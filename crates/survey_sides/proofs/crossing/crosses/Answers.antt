-- The line's plane with one corner, at another, is c0 of the four points.
use borrow.Author.Rules.{rules}
use mathlib.Core.Path.{◌≡◌}
use Rattle.laws.specs.Size.{called}
use Rattle.scene.specs.Arrays.{row_in}
use Rattle.survey_sides.specs.Planes.{plane_of}
use Rattle.survey_sides.specs.Crossing.{ask_qp, ask_qr, ask_pr, one_hand, other_hand}
use Rattle.survey_sides.specs.PlaneAt.{span_asked, spanned, dot_asked, dot_term}
use Rattle.survey_sides.proofs.crossing.crosses.Goals as goal

pub span-at_q-requires : goal.span-at_q-requires
span-at_q-requires c =
    span_asked (row_in c.args.rows.now) c.args.u c.args.v c.args.f.q c.requires.edge.0 c.row_in-q.ensures c.requires.points.0

pub dot-requires : goal.dot-requires
dot-requires c =
    let at-q : c.span-at_q.result
    ≡ plane_of ((row_in c.args.rows.now) c.args.u) ((row_in c.args.rows.now) c.args.v) ((row_in c.args.rows.now) c.args.f.q) = spanned (row_in c.args.rows.now) c.args.u c.args.v c.args.f.q c.requires.edge.0 c.row_in-q.ensures c.span-at_q.ensures in
    dot_asked (row_in c.args.rows.now) c.args.u c.args.v c.args.f.q c.args.f.p at-q c.row_in-p.ensures
    c.requires.points.0

pub sign_by-qp-requires : goal.sign_by-qp-requires
sign_by-qp-requires c =
    let at-q : c.span-at_q.result
    ≡ plane_of ((row_in c.args.rows.now) c.args.u) ((row_in c.args.rows.now) c.args.v) ((row_in c.args.rows.now) c.args.f.q) = spanned (row_in c.args.rows.now) c.args.u c.args.v c.args.f.q c.requires.edge.0 c.row_in-q.ensures c.span-at_q.ensures in
    record {
      sizes = search rules;
      points = ask_qp c.requires.edge.1;
      first = called c.dot.type_inv
          (dot_term (row_in c.args.rows.now) c.args.u c.args.v c.args.f.q c.args.f.p at-q c.row_in-p.ensures c.dot.ensures);
    }

pub dot-requires-2 : goal.dot-requires-2
dot-requires-2 c =
    let at-q : c.span-at_q.result
    ≡ plane_of ((row_in c.args.rows.now) c.args.u) ((row_in c.args.rows.now) c.args.v) ((row_in c.args.rows.now) c.args.f.q) = spanned (row_in c.args.rows.now) c.args.u c.args.v c.args.f.q c.requires.edge.0 c.row_in-q.ensures c.span-at_q.ensures in
    dot_asked (row_in c.args.rows.now) c.args.u c.args.v c.args.f.q c.args.f.r at-q c.row_in-r.ensures c.requires.points.0

pub sign_by-qr-requires : goal.sign_by-qr-requires
sign_by-qr-requires c =
    let at-q : c.span-at_q.result
    ≡ plane_of ((row_in c.args.rows.now) c.args.u) ((row_in c.args.rows.now) c.args.v) ((row_in c.args.rows.now) c.args.f.q) = spanned (row_in c.args.rows.now) c.args.u c.args.v c.args.f.q c.requires.edge.0 c.row_in-q.ensures c.span-at_q.ensures in
    record { sizes = search rules; points = ask_qr c.requires.edge.1; first = called c.dot-2.type_inv (dot_term (row_in c.args.rows.now) c.args.u c.args.v c.args.f.q c.args.f.r at-q c.row_in-r.ensures c.dot-2.ensures) }

pub returns-then-qp-qr : goal.returns-then-qp-qr
returns-then-qp-qr c =
    one_hand _ _ _ _ c.sign_by-qp.ensures c.sign_by-qr.ensures c.if-qp-qr.true

pub span-requires : goal.span-requires
span-requires c =
    span_asked (row_in c.args.rows.now) c.args.u c.args.v c.args.f.p c.requires.edge.0 c.row_in-p.ensures c.requires.points.0

pub dot-requires-3 : goal.dot-requires-3
dot-requires-3 c =
    let at_p : c.span.result ≡ plane_of ((row_in c.args.rows.now) c.args.u) ((row_in c.args.rows.now) c.args.v) ((row_in c.args.rows.now) c.args.f.p) = spanned (row_in c.args.rows.now) c.args.u c.args.v c.args.f.p c.requires.edge.0 c.row_in-p.ensures
    c.span.ensures in
    dot_asked (row_in c.args.rows.now) c.args.u c.args.v c.args.f.p c.args.f.r at_p c.row_in-r.ensures c.requires.points.0

pub sign_by-pr-requires : goal.sign_by-pr-requires
sign_by-pr-requires c =
    let at_p : c.span.result ≡ plane_of ((row_in c.args.rows.now) c.args.u) ((row_in c.args.rows.now) c.args.v) ((row_in c.args.rows.now) c.args.f.p) = spanned (row_in c.args.rows.now) c.args.u c.args.v c.args.f.p c.requires.edge.0 c.row_in-p.ensures
    c.span.ensures in
    record {
      sizes = search rules;
      points = ask_pr c.requires.edge.1;
      first = called c.dot-3.type_inv
          (dot_term (row_in c.args.rows.now) c.args.u c.args.v c.args.f.p c.args.f.r at_p c.row_in-r.ensures c.dot-3.ensures);
    }

pub returns : goal.returns
returns c =
    other_hand _ _ _ _ c.sign_by-qp.ensures c.sign_by-qr.ensures c.sign_by-pr.ensures c.if-qp-qr.false
