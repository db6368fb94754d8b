-- The ends decide, or the first two sides, or the last two. Each sign is asked of four different points.
use Rattle.scene.specs.Arrays.{row_in}
use Rattle.pierce.specs.Beside.{ask_u, ask_v}
use Rattle.pierce_plain.specs.Steps.{ask_rp, ends_alike, sides_unlike, last_sides}
use borrow.Author.Rules.{rules}
use Rattle.pierce_plain.proofs.pierces.Goals as goal

pub positive_at-u_above-requires : goal.positive_at-u_above-requires
positive_at-u_above-requires c = record { sizes = search rules; points = ask_u c.requires.edge.0 c.requires.edge.1 }

pub positive_at-v_above-requires : goal.positive_at-v_above-requires
positive_at-v_above-requires c = record { sizes = search rules; points = ask_v c.requires.edge.0 c.requires.edge.1 }

pub returns-then-u_above-v_above : goal.returns-then-u_above-v_above
returns-then-u_above-v_above c =
    ends_alike (row_in c.args.rows.now) c.args.u c.args.v c.args.f c.positive_at-u_above.ensures
    c.positive_at-v_above.ensures c.if-u_above-v_above.true

pub returns-then-pq-qr : goal.returns-then-pq-qr
returns-then-pq-qr c =
    sides_unlike (row_in c.args.rows.now) c.args.u c.args.v c.args.f c.positive_at-u_above.ensures c.positive_at-v_above.ensures
    c.if-u_above-v_above.false c.positive_at-pq.ensures c.positive_at-qr.ensures c.if-pq-qr.true

pub positive_at-rp-requires : goal.positive_at-rp-requires
positive_at-rp-requires c =
    record { sizes = search rules; points = ask_rp c.requires.edge.0 c.requires.edge.1 }

pub returns : goal.returns
returns c =
    last_sides (row_in c.args.rows.now) c.args.u c.args.v c.args.f c.positive_at-u_above.ensures c.positive_at-v_above.ensures
    c.if-u_above-v_above.false c.positive_at-pq.ensures c.positive_at-qr.ensures c.positive_at-rp.ensures
    c.if-pq-qr.false
