-- What the records that passed say of the faces: three different corners each, vertices of their solid with a place in a word.
-- Assumes nothing.
use Rattle.std.specs.Prelude.{ℕ, ◌+◌, ◌-◌, ◌≤◌, ◌<◌, ◌≡◌, true, List, Ok}
use Rattle.std.proofs.Math.Path.{sym, ap}
use Rattle.std.proofs.Common.{◌∙◌}
use Rattle.std.proofs.Math.Decide.{dec_lt}
use native.Mathlib.Omega.{arith}
use Rattle.laws.specs.Decides.{decides}
use Rattle.scene.specs.Limits.{limits, within}
use Rattle.scene.specs.Records.{verts_a, verts_b, faces_in_a, verts, faces, face_record, last_record}
use Rattle.judge.specs.Judge.{are_corners, verts_at, corners_ok, face_fault, counts_ok, header_fault, record_fault, records_fault, opens}
use Rattle.judge.specs.Laws.{rule_ok, rule_rest}
use Rattle.judge.specs.Cases.{record_face, verts_of_a, verts_of_b}
use Rattle.judge.specs.Tests.{first_iff}
use Rattle.judge.specs.Words.{places, FacesIn}
use Rattle.judge.specs.Judge.{Judged}

module _ (s : List ℕ) (header : header_fault limits s ≡ Ok tt) (records : records_fault limits s ≡ Ok tt) where
  counts_ok_law : counts_ok limits s ≡ true
  unfolding header_fault
  counts_ok_law = rule_ok (counts_ok limits s) _ _ (rule_rest (opens s) _ _ header)

  few_vertices : (verts_a s ≤ limits.most_vertices) × (verts_b s ≤ limits.most_vertices)
  unfolding counts_ok within
  few_vertices = let d = simp decides at counts_ok_law in (d.0.1, d.1.1.0.1)

  few_at : (i : ℕ) → verts_at s i ≤ limits.most_vertices
  few_at i = go (dec_lt i (faces_in_a s))
    where
      go : Dec (i < faces_in_a s) → verts_at s i ≤ limits.most_vertices
      go (yes h) = rw (verts_of_a s i h) few_vertices.0
      go (no h) = rw (verts_of_b s i (omega arith)) few_vertices.1

  face_passed : (i : ℕ) → i < faces s → face_fault s i ≡ Ok tt
  unfolding records_fault
  face_passed i h =
      let e : face_record s i - (2 + verts s) ≡ i = omega arith in
      sym (record_face s limits (face_record s i) (omega arith) (omega arith) ∙ ap (face_fault s) e)
      ∙ (first_iff (record_fault limits s) 1 (last_record s + 1)).0 records (face_record s i) (omega arith) (omega arith)

  faces_in_law : FacesIn s
  unfolding face_fault corners_ok are_corners within
  faces_in_law i h =
      let c = rule_ok (corners_ok s i) _ _ (rule_rest _ _ _ (face_passed i h)) in
      let d = simp decides at c in
      let m = few_at i in
      record {
        p = omega (arith, d.0.1);
        q = omega (arith, d.1.0.1);
        r = omega (arith, d.1.1.0.1);
        pq = d.1.1.1.0;
        qr = d.1.1.1.1.0;
        rp = d.1.1.1.1.1;
        p_own = d.0.1;
        q_own = d.1.0.1;
        r_own = d.1.1.0.1;
      }

-- as the two calls say it
pub passed : (s : List ℕ) {h r : Judged} → h ≡ header_fault limits s → h ≡ Ok tt → r ≡ records_fault limits s → r ≡ Ok tt →
    FacesIn s × (verts_a s < places) × (verts_b s < places)
passed s eh h er r =
    let x = sym eh ∙ h in
    let y = sym er ∙ r in
    let f = few_vertices s x y in
    (faces_in_law s x y, omega arith, omega arith)
