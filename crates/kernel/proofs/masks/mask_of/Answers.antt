-- The solid's faces are beside an edge of two points that are none of its vertices.
use Rattle.rules.proofs.Given.{rows_within, faces_within}
use Rattle.survey_scene.specs.Ready.{rows_fit, faces_fit_law, mask_fits, decoded, mask_found}
use Rattle.kernel.proofs.masks.mask_of.Goals as goal

pub mask-requires : goal.mask-requires
mask-requires g c =
    let q = mask_fits c.args.s.now c.requires.0 c.requires.1 c.points.ensures.0 c.rows.ensures c.faces.ensures c.solid-o.ensures.is in
    record { rows = q.0; points = q.1.0; faces = q.1.1.0; edge = q.1.1.1 }

pub rows-requires : goal.rows-requires
rows-requires g c = search (rows_fit, rows_within)

pub faces-requires : goal.faces-requires
faces-requires g c = search (faces_fit_law, faces_within)

pub returns : goal.returns
returns g c = search (mask_found, decoded)
