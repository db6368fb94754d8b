-- A scene is accepted exactly when its file keeps the written rules. Assumes nothing.
use Rattle.std.specs.Prelude.{◌≡◌, refl, ◌↔◌, true, List, ℕ, ◌+◌, ◌≤◌, ◌<◌, Ok}
use mathlib.Core.Logic.Iff
use Rattle.std.proofs.Common.{arith}
use Rattle.scene.specs.Limits.{Limits}
use Rattle.scene.specs.Records.{verts, faces, last_record}
use Rattle.judge.specs.Judge.{judged_at, opens, counts_ok, header_fault, record_fault, records_fault}
use Rattle.judge.specs.Judge.{unused_fault, unuseds_fault, edge_fault, edges_fault}
use Rattle.rules.specs.Rules.{Opens, CountsOk, HeaderOk, RecordOk, RecordsOk, Used, AllUsed, SidesOk, FileOk}
use Rattle.judge.specs.Tests.{accepts, rule_iff, first_iff}
use Rattle.rules.proofs.Records.{tested}
use Rattle.rules.proofs.Edges.{used_iff, closed_iff}

module _ (s : List ℕ) where
  pub opens_iff : (opens s ≡ true) ↔ Opens s
  unfolding opens
  opens_iff = (λ p. simp accepts at p, λ h. simp accepts h)

  pub vertex_iff : (p : ℕ) → 1 ≤ p → p ≤ verts s → (unused_fault s p ≡ Ok tt) ↔ Used s p
  unfolding unused_fault
  vertex_iff p a b = Iff.trans (rule_iff _ _ _) (λ h. (used_iff s p a b).0 h.0, λ u. ((used_iff s p a b).1 u, refl))

  pub unused_iff : (unuseds_fault s ≡ Ok tt) ↔ AllUsed s
  unfolding unuseds_fault
  unused_iff =
      Iff.trans (first_iff (unused_fault s) 1 (verts s + 1)) (
        λ h p a b. (vertex_iff p a b).0 (h p a (omega arith)),
        λ h p a b. (vertex_iff p a (omega arith)).1 (h p a (omega arith)),
      )

  pub face_iff : (i : ℕ) → (edge_fault s i ≡ Ok tt) ↔ SidesOk s i
  unfolding edge_fault
  face_iff i = Iff.trans (rule_iff _ _ _) (λ h. (closed_iff s i).0 h.0, λ o. ((closed_iff s i).1 o, refl))

  edges_iff : (edges_fault s ≡ Ok tt) ↔ ((i : ℕ) → i < faces s → SidesOk s i)
  unfolding edges_fault
  edges_iff =
      Iff.trans (first_iff (edge_fault s) 0 (faces s)) (λ h i b. (face_iff i).0 (h i (omega arith) b), λ h i a b. (face_iff i).1 (h i b))

module _ (l : Limits) (s : List ℕ) where
  pub counts_iff : (counts_ok l s ≡ true) ↔ CountsOk l s
  unfolding counts_ok
  counts_iff = (
    λ p. let c = simp accepts at p in record { vertices_a_law = c.0; faces_a_law = c.1.0; vertices_b_law = c.1.1.0; faces_b_law = c.1.1.1 },
    λ h. simp accepts (h.vertices_a_law, (h.faces_a_law, (h.vertices_b_law, h.faces_b_law))),
  )

  pub header_iff : (header_fault l s ≡ Ok tt) ↔ HeaderOk l s
  unfolding header_fault
  header_iff = (
    λ p. let c = simp (accepts, opens_iff s, counts_iff) at p in record { opens = c.0; counts = c.1.0; long = c.1.1.0 },
    λ h. simp (accepts, opens_iff s, counts_iff) (h.opens, (h.counts, (h.long, refl))),
  )

  pub record_iff : (k : ℕ) → 1 ≤ k → k ≤ last_record s → (record_fault l s k ≡ Ok tt) ↔ RecordOk l s k
  record_iff k a b =
      let t = tested l s k a b in
      rw t.fault (
        λ p.
            let c = simp (accepts, t.mark_iff, t.coordinates_iff, t.weight_iff, t.somewhere_iff, t.corners_iff) at p in
            record { mark = c.0; coordinates = c.1.0; weight = c.1.1.0; somewhere = c.1.1.1.0; corners = c.1.1.1.1.0 },
        λ h.
            simp (accepts, t.mark_iff, t.coordinates_iff, t.weight_iff, t.somewhere_iff, t.corners_iff)
            (h.mark, (h.coordinates, (h.weight, (h.somewhere, (h.corners, refl))))),
      )

  pub records_iff : (records_fault l s ≡ Ok tt) ↔ RecordsOk l s
  unfolding records_fault
  records_iff =
      Iff.trans (first_iff (record_fault l s) 1 (last_record s + 1)) (
        λ h k a b. (record_iff k a b).0 (h k a (omega arith)),
        λ h k a b. (record_iff k a (omega arith)).1 (h k a (omega arith)),
      )

  pub accepted : (judged_at l s ≡ Ok tt) ↔ FileOk l s
  unfolding judged_at
  accepted = (
    λ p.
        let c = simp (accepts, header_iff, records_iff, unused_iff s, edges_iff s) at p in
        record { header = c.0; records = c.1.0; used = c.1.1.0; sides = c.1.1.1 },
    λ h. simp (accepts, header_iff, records_iff, unused_iff s, edges_iff s) (h.header, (h.records, (h.used, h.sides))),
  )
