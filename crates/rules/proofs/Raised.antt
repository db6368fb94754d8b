-- The faces of A and of B, by the scene's numbers. Assumes nothing.
use Rattle.std.specs.Prelude.{◌≡◌, List, map, ℕ, ◌+◌}
use Rattle.std.proofs.Common.{sym, ap, ◌∙◌, arith}
use Rattle.laws.specs.Lists.{run}
use Rattle.laws.specs.Mapped.{map_run, run_from}
use Rattle.scene.specs.Records.{verts_a, faces_in_a, faces_in_b}
use Rattle.scene.specs.Tables.{raise, face, face_at, tables_of}
use Rattle.scene.specs.Read.{face_a, face_b}

module _ (s : List ℕ) where
  pub faces_a_law : run (face (tables_of s)) 1 (faces_in_a s) ≡ (tables_of s).a.faces
  faces_a_law =
      run_from (face (tables_of s)) (face_at s) 1 0 (faces_in_a s)
      (λ i b. face_a s (1 + i) (omega arith) (omega arith) ∙ ap (face_at s) (omega arith))

  pub faces_b_law : run (face (tables_of s)) (faces_in_a s + 1) (faces_in_b s) ≡ map (raise (verts_a s)) (tables_of s).b.faces
  faces_b_law =
      run_from (face (tables_of s)) (λ i. raise (verts_a s) (face_at s i)) (faces_in_a s + 1) (faces_in_a s) (faces_in_b s)
      (λ i b. face_b s (faces_in_a s + 1 + i) (omega arith) (omega arith) ∙ ap (λ (i : ℕ). raise (verts_a s) (face_at s i)) (omega arith))
      ∙ sym (map_run (raise (verts_a s)) (face_at s) (faces_in_a s) (faces_in_b s))
