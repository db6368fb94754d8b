-- An accepted scene stays accepted when the rows of its points change, each within its rules: what a file has beside its rows is as it was.
-- Assumes nothing.
use Rattle.std.specs.Prelude.{◌≡◌, List, ℕ, zero, suc, ◌+◌, ◌≤◌, Ok}
use Rattle.std.proofs.Common.{sym, ap, ap₂, ◌∙◌, arith}
use Rattle.laws.specs.Lists.{Each, run, run_each, run_same}
use Rattle.scene.specs.Limits.{limits, least_weight}
use Rattle.scene.specs.Records.{verts_a, verts_b, verts, faces_in_a, faces_in_b, point_start, face_start, end_start}
use Rattle.scene.specs.Tables.{Table, size, row_at, face_at, tables_of}
use Rattle.scene.specs.Read.{size_a, size_b}
use Rattle.scene.specs.Bytes.{two_at}
use Rattle.judge.specs.Judge.{judged}
use Rattle.rules.specs.Rules.{Zeros}
use Rattle.rules.specs.TableRules.{RowOk, TableOk, TablesOk, Marked}
use Rattle.rules.proofs.Accepted.{accepted}
use Rattle.rules.proofs.Bridge.{by_tables}
use Rattle.rules.specs.Frame.{SameCounts, two_frame, face_frame}
use Rattle.rules.specs.Frame.{Rerowed}

-- a solid with the same faces and as many vertices
table_frame : (k' k : Table) → k'.faces ≡ k.faces → size k' ≡ size k → Each (RowOk 1 limits) k'.rows → TableOk limits k →
    TableOk limits k'
table_frame k' k f z rows ok =
    record {
      vertices = rw z ok.vertices;
      number = rw f ok.number;
      rows = rows;
      corners = rw (z, f) ok.corners;
      used = rw (z, f) ok.used;
      edges = rw f ok.edges;
    }

module _ (s t : List ℕ) (h : Rerowed s t) where
  counts_same : SameCounts t s
  counts_same m a b = h.header m (omega arith) (omega arith)

  pub va_same : verts_a t ≡ verts_a s
  va_same = h.header 2 (omega arith) (omega arith)

  pub fa_same : faces_in_a t ≡ faces_in_a s
  fa_same = h.header 3 (omega arith) (omega arith)

  pub vb_same : verts_b t ≡ verts_b s
  vb_same = h.header 4 (omega arith) (omega arith)

  pub fb_same : faces_in_b t ≡ faces_in_b s
  fb_same = h.header 5 (omega arith) (omega arith)

  pub face_same : (i : ℕ) → face_at t i ≡ face_at s i
  face_same i = face_frame t s counts_same i (h.behind (face_start s i) 5 (omega arith))

  faces_a_same : (tables_of t).a.faces ≡ (tables_of s).a.faces
  faces_a_same = ap (run (face_at t) 0) fa_same ∙ run_same (face_at t) (face_at s) 0 (faces_in_a s) (λ i a b. face_same i)

  faces_b_same : (tables_of t).b.faces ≡ (tables_of s).b.faces
  faces_b_same = ap₂ (run (face_at t)) fa_same fb_same ∙ run_same (face_at t) (face_at s) (faces_in_a s) (faces_in_b s) (λ i a b. face_same i)

  marked_same : Marked s → Marked t
  marked_same m =
      let a = va_same in
      let b = vb_same in
      let c = fa_same in
      let d = fb_same in
      record {
        long = h.long ∙ m.long ∙ omega arith;
        opening = two_frame t s 0 (λ k a b. h.header k (omega arith) (omega arith)) ∙ m.opening;
        far = two_frame t s (point_start 0) (h.mark 0 (omega arith)) ∙ m.far;
        vertex = λ i l u. two_frame t s (point_start i) (h.mark i (omega arith)) ∙ m.vertex i l (omega arith);
        face = λ i u.
            ap (two_at t) (omega arith) ∙ two_frame t s (face_start s i) (h.behind (face_start s i) 2 (omega arith))
            ∙ m.face i (omega arith);
        end = ap (two_at t) (omega arith) ∙ two_frame t s (end_start s) (h.behind (end_start s) 2 (omega arith)) ∙ m.end;
      }

  module _ (rows : (j : ℕ) → j ≤ verts s → RowOk (least_weight j) limits (row_at t j)) (somewhere : ¬ Zeros (row_at t 0)) where
    vertex_ok : (i : ℕ) → 1 ≤ i → i ≤ verts s → RowOk 1 limits (row_at t i)
    vertex_ok zero a b = absurd (omega arith)
    vertex_ok (suc i) a b = rows (suc i) b

    tables_same : TablesOk limits (tables_of s) → TablesOk limits (tables_of t)
    tables_same k =
        let a = va_same in
        let b = vb_same in
        record {
          a =
              table_frame (tables_of t).a (tables_of s).a faces_a_same (size_a t ∙ va_same ∙ sym (size_a s))
              (run_each (RowOk 1 limits) (row_at t) 1 (verts_a t) (λ i l u. vertex_ok i l (omega arith))) k.a;
          b =
              table_frame (tables_of t).b (tables_of s).b faces_b_same (size_b t ∙ vb_same ∙ sym (size_b s))
              (run_each (RowOk 1 limits) (row_at t) (verts_a t + 1) (verts_b t) (λ i l u. vertex_ok i (omega arith) (omega arith))) k.b;
          far = rows 0 (omega arith);
          somewhere = somewhere;
        }

    pub still_accepted : judged s ≡ Ok tt → judged t ≡ Ok tt
    still_accepted ok =
        let m = (by_tables limits s).0 ((accepted limits s).0 ok) in
        (accepted limits t).1 ((by_tables limits t).1 (marked_same m.0, tables_same m.1))
