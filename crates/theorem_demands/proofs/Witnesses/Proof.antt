-- The witnesses, computed. Assumes nothing.
use Rattle.std.specs.Prelude.{refl}
use Rattle.std.specs.Int.Count.{ones}
use Rattle.laws.specs.Mask.{mask_of}
use Rattle.laws.specs.Runs.{up_to}
use Rattle.scene.specs.Edges.{joined}
use Rattle.pierce_masks.specs.Faces.{is_odd}
use Rattle.questions.specs.Hits.{face_hits, edge_hits, pair_hits, vertex_hits, solid_hits, enclosed_vertex, enclosed_count, lowest_enclosed}
use Rattle.questions.specs.First.{first_of}
use Rattle.scene.specs.View.{solid}
use Rattle.scene.specs.Faces.{is_corner, has_both}
use Rattle.questions.specs.Answers.{or_refuse, counts_in, counted_of, enclosure_in, verdict_in, verdict_of, listing_in, inside_in}
use Rattle.theorem_demands.specs.Marked.Computing.{judging, piercing}
use Rattle.theorem_demands.specs.Witnesses.{Witnesses}

pub witnesses : Witnesses
unfolding judging piercing ones mask_of is_corner has_both joined is_odd up_to face_hits edge_hits pair_hits vertex_hits solid_hits enclosed_vertex
    enclosed_count lowest_enclosed first_of listing_in solid or_refuse counts_in inside_in counted_of enclosure_in verdict_in verdict_of
witnesses =
    record {
      cross = record { long = refl; accepted = refl; listing = refl; counts = refl; verdict = refl };
      a_in_b_law = record { long = refl; accepted = refl; listing = refl; counts = refl; verdict = refl };
      b_in_a_law = record { long = refl; accepted = refl; listing = refl; counts = refl; verdict = refl };
      apart = record { long = refl; accepted = refl; listing = refl; counts = refl; verdict = refl };
      to_infinity = record { long = refl; accepted = refl; listing = refl; counts = refl; verdict = refl };
      edge_in_four = record { long = refl; accepted = refl; listing = refl; counts = refl; verdict = refl };
    }
