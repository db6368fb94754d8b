-- The limits of a scene. `limits` are those of the scene type in the code: `limits_agree` ties the two. Assumes nothing.
use Rattle.std.specs.Prelude.{ℕ, zero, suc, ◌+◌, ◌*◌, Bool, ◌&&◌, leb}

pub record Limits : Type 0 where
  pub least_vertices : ℕ
  pub most_vertices : ℕ
  pub least_faces : ℕ
  pub most_faces : ℕ
  pub most_coordinate : ℕ
  pub most_weight : ℕ

abbrev pub limits : Limits
limits = record { least_vertices = 3; most_vertices = 48; least_faces = 2; most_faces = 96; most_coordinate = 4095; most_weight = 16 }

-- those before larger models: fewer vertices and faces, and else the same
abbrev pub limits_before : Limits
limits_before =
    record {
      least_vertices = limits.least_vertices;
      most_vertices = 32;
      least_faces = limits.least_faces;
      most_faces = 64;
      most_coordinate = limits.most_coordinate;
      most_weight = limits.most_weight;
    }

-- the highest point number, the far point's, and the longest scene
abbrev pub most_points : Limits → ℕ
most_points l = 2 * l.most_vertices + 1

abbrev pub longest : Limits → ℕ
longest l = 17 + 9 * (2 * l.most_vertices) + 5 * (2 * l.most_faces)

-- the least size of a weight, of the file's point j (0 the far point, then the vertices): the far point, and no other, may have weight 0
abbrev pub least_weight : ℕ → ℕ
least_weight zero = 0
least_weight (suc j) = 1

-- a number within limits
unfoldable pub within : ℕ → ℕ → ℕ → Bool
within low high n = leb low n && leb n high
