-- A file keeps the written rules exactly when it has the length and the marks, and its tables keep the rules of tables. Assumes nothing.
use Rattle.std.specs.Prelude.{refl, ◌↔◌, List, ℕ, zero, suc, ◌+◌, ◌≤◌, ◌<◌}
use Rattle.std.proofs.Common.{arith}
use Rattle.std.proofs.Math.Decide.{dec_lt}
use Rattle.laws.specs.Lists.{Some, length_run, run_each, each_run}
use Rattle.scene.specs.Limits.{Limits, limits, least_weight}
use Rattle.scene.specs.Records.{verts_a, verts_b, verts, faces_in_a, faces_in_b, face_record, last_record}
use Rattle.scene.specs.Tables.{row_at, face_at, tables_of}
use Rattle.scene.specs.Read.{size_a, size_b}
use Rattle.scene.specs.Faces.{Corner, Vertex, FaceOf, Sides, EdgeOk}
use Rattle.rules.specs.Rules.{MarkOk, RecordOk, FileOk}
use Rattle.rules.specs.TableRules.{RowOk, TableOk, TablesOk, Marked, Fit}

module _ (l : Limits) (s : List ℕ) where
  -- ---- from the file

  module _ (ok : FileOk l s) where
    row_ok : (j : ℕ) → j ≤ verts s → RowOk (least_weight j) l (row_at s j)
    row_ok j b =
        let r = ok.records (j + 1) (omega arith) (omega arith) in
        record { coordinates = r.coordinates j b refl; weight = r.weight j b refl }

    vertex_ok : (j : ℕ) → 1 ≤ j → j ≤ verts s → RowOk 1 l (row_at s j)
    vertex_ok zero a b = absurd (omega arith)
    vertex_ok (suc j) a b = row_ok (suc j) b

    a_ok : TableOk l (tables_of s).a
    a_ok =
        let c = ok.header.counts in
        record {
          vertices = rw (size_a s) c.vertices_a_law;
          number = rw (length_run (face_at s) 0 (faces_in_a s)) c.faces_a_law;
          rows = run_each (RowOk 1 l) (row_at s) 1 (verts_a s) (λ j a b. vertex_ok j a (omega arith));
          corners =
              rw (size_a s)
              (run_each (FaceOf 0 (verts_a s)) (face_at s) 0 (faces_in_a s)
              (λ i a b. (ok.records (face_record s i) (omega arith) (omega arith)).corners.of_a i (omega arith) refl));
          used = rw (size_a s) (λ i b. (ok.used i (omega arith) (omega arith)).of_a (omega arith));
          edges = run_each (Sides (EdgeOk (tables_of s).a.faces)) (face_at s) 0 (faces_in_a s)
              (λ i a b. (ok.sides i (omega arith)).of_a (omega arith));
        }

    b_ok : TableOk l (tables_of s).b
    b_ok =
        let c = ok.header.counts in
        record {
          vertices = rw (size_b s) c.vertices_b_law;
          number = rw (length_run (face_at s) (faces_in_a s) (faces_in_b s)) c.faces_b_law;
          rows = run_each (RowOk 1 l) (row_at s) (verts_a s + 1) (verts_b s) (λ j a b. vertex_ok j (omega arith) (omega arith));
          corners =
              rw (size_b s)
              (run_each (FaceOf 0 (verts_b s)) (face_at s) (faces_in_a s) (faces_in_b s)
              (λ i a b. (ok.records (face_record s i) (omega arith) (omega arith)).corners.of_b i a b refl));
          used = rw (size_b s) (λ i b. (ok.used (verts_a s + i) (omega arith) (omega arith)).of_b i (omega arith) refl);
          edges = run_each (Sides (EdgeOk (tables_of s).b.faces)) (face_at s) (faces_in_a s) (faces_in_b s)
              (λ i a b. (ok.sides i (omega arith)).of_b a);
        }

    marked : Marked s
    marked =
        record {
          long = ok.header.long;
          opening = ok.header.opens.1;
          far = (ok.records 1 (omega arith) (omega arith)).mark.far refl;
          vertex = λ j a b. (ok.records (j + 1) (omega arith) (omega arith)).mark.vertex j a b refl;
          face = λ i b. (ok.records (face_record s i) (omega arith) (omega arith)).mark.face i b refl;
          end = (ok.records (last_record s) (omega arith) (omega arith)).mark.end refl;
        }

  -- ---- from the tables

  module _ (m : Marked s) (ok : TablesOk l (tables_of s)) where
    point_ok : (j : ℕ) → j ≤ verts s → RowOk (least_weight j) l (row_at s j)
    point_ok zero b = ok.far
    point_ok (suc j) b = go (dec_lt j (verts_a s))
      where
        go : Dec (j < verts_a s) → RowOk 1 l (row_at s (suc j))
        go (yes c) = each_run (RowOk 1 l) (row_at s) 1 (verts_a s) ok.a.rows (suc j) (omega arith) (omega arith)
        go (no c) = each_run (RowOk 1 l) (row_at s) (verts_a s + 1) (verts_b s) ok.b.rows (suc j) (omega arith) (omega arith)

    mark_ok : (k : ℕ) → MarkOk s k
    mark_ok k = record { far = λ e. m.far; vertex = λ j a b e. m.vertex j a b; face = λ i b e. m.face i b; end = λ e. m.end }

    record_ok : (k : ℕ) → RecordOk l s k
    record_ok k =
        record {
          mark = mark_ok k;
          coordinates = λ j b e. (point_ok j b).coordinates;
          weight = λ j b e. (point_ok j b).weight;
          somewhere = λ e. ok.somewhere;
          corners =
              record {
                of_a = λ i b e. each_run (FaceOf 0 (verts_a s)) (face_at s) 0 (faces_in_a s) (rw (size_a s) at ok.a.corners) i
                    (omega arith) (omega arith);
                of_b = λ i a b e. each_run (FaceOf 0 (verts_b s)) (face_at s) (faces_in_a s) (faces_in_b s) (rw (size_b s) at ok.b.corners) i a b;
              };
        }

    file_ok : FileOk l s
    file_ok =
        let used-a : (i : ℕ) → Vertex 0 (verts_a s) i → Some (Corner i) (tables_of s).a.faces = rw (size_a s) at ok.a.used in
        let used-b : (i : ℕ) → Vertex 0 (verts_b s) i → Some (Corner i) (tables_of s).b.faces = rw (size_b s) at ok.b.used in
        record {
          header =
              record {
                opens = (omega (arith, m.long), m.opening);
                counts =
                    record {
                      vertices_a_law = rw (size_a s) at ok.a.vertices;
                      faces_a_law = rw (length_run (face_at s) 0 (faces_in_a s)) at ok.a.number;
                      vertices_b_law = rw (size_b s) at ok.b.vertices;
                      faces_b_law = rw (length_run (face_at s) (faces_in_a s) (faces_in_b s)) at ok.b.number;
                    };
                long = m.long;
              };
          records = λ k a b. record_ok k;
          used = λ p a b. record { of_a = λ c. used-a p (omega arith); of_b = λ v c e. used-b v (omega arith) };
          sides =
              λ i b.
              record {
                of_a = λ c. each_run (Sides (EdgeOk (tables_of s).a.faces)) (face_at s) 0 (faces_in_a s) ok.a.edges i
                    (omega arith) (omega arith);
                of_b = λ c. each_run (Sides (EdgeOk (tables_of s).b.faces)) (face_at s) (faces_in_a s) (faces_in_b s) ok.b.edges i c b;
              };
        }

  pub by_tables : FileOk l s ↔ (Marked s × TablesOk l (tables_of s))
  by_tables = (
    λ ok. (
      marked ok,
      record {
        a = a_ok ok;
        b = b_ok ok;
        far = row_ok ok 0 (omega arith);
        somewhere = (ok.records 1 (omega arith) (omega arith)).somewhere refl;
      },
    ),
    λ h. file_ok h.0 h.1,
  )

pub limits_fit : Fit limits
limits_fit = record { vertices = omega arith; faces = omega arith; coordinate = omega arith; weight = omega arith }
