-- A scene with ties whose verdict changes when A and B are exchanged: two tetrahedra on the two sides of one face. So nothing can be told
-- of the exchange where a tie is broken. Assumes nothing.
use Rattle.std.specs.Prelude.{◌≡◌, refl, List, [], ◌∷◌, ℕ, pos, Ok}
use Rattle.std.specs.Int.Count.{ones}
use Rattle.laws.specs.Mask.{mask_of}
use Rattle.laws.specs.Runs.{up_to}
use Rattle.scene.specs.Tables.{Table}
use Rattle.scene.specs.View.{solid}
use Rattle.scene.specs.Faces.{is_corner, has_both}
use Rattle.judge.specs.Judge.{judged}
use Rattle.rules.specs.Write.{bytes_of}
use Rattle.scene.specs.Edges.{joined}
use Rattle.pierce_masks.specs.Faces.{is_odd}
use Rattle.questions.specs.First.{first_of}
use Rattle.questions.specs.Hits.{face_hits, edge_hits, pair_hits, vertex_hits, solid_hits, enclosed_vertex, lowest_enclosed}
use Rattle.questions.specs.Answers.{or_refuse, enclosure_in, verdict_in, verdict_of, listing_in}
use Rattle.questions.specs.declared.Verdict.TheVariants.{Cross, Apart}
use Rattle.theorem_demands.specs.Marked.Computing.{judging, piercing}
use Rattle.theorem_demands.specs.Marked.Scenes.{minus, at, four, scene}
use Rattle.theorem_lecture.specs.Exchange.{exchanged_bytes}

abbrev above : Table
above =
    record {
      rows = at (pos 0) (pos 0) (pos 0) ∷ at (pos 4) (pos 0) (pos 0) ∷ at (pos 0) (pos 4) (pos 0) ∷ at (pos 0) (pos 0) (pos 4) ∷ [];
      faces = four;
    }

abbrev below : Table
below =
    record {
      rows = at (pos 0) (pos 0) (pos 0) ∷ at (pos 4) (pos 0) (pos 0) ∷ at (pos 0) (pos 4) (pos 0)
          ∷ at (pos 0) (pos 0) (minus 4) ∷ [];
      faces = four;
    }

abbrev pub touching : List ℕ
touching = bytes_of (scene above below)

pub record Ties : Type 0 where
  pub accepted : judged touching ≡ Ok tt
  pub crosses : verdict_of touching ≡ Ok (Cross 5 6 4)
  pub exchanged : verdict_of (exchanged_bytes touching) ≡ Ok Apart

pub ties : Ties
unfolding judging piercing ones mask_of is_corner has_both joined is_odd up_to face_hits edge_hits pair_hits vertex_hits solid_hits enclosed_vertex
    lowest_enclosed first_of listing_in solid or_refuse enclosure_in verdict_in verdict_of exchanged_bytes
ties = record { accepted = refl; crosses = refl; exchanged = refl }
