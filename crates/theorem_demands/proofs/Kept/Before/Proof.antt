-- What the judge of document 01 accepted is accepted with the limits of that time: each of its tests asked for more. Assumes nothing.
use Rattle.std.specs.Prelude.{◌≡◌, Bool, List, ltb, nat_abs, Ok}
use Rattle.std.proofs.Math.Path.{refl, ap}
use Rattle.std.proofs.Common.{subst, arith, lt-ltb}
use Rattle.std.proofs.Math.Bool.{true, false, not, cond}
use Rattle.std.proofs.lemmas.Bool.{false≢true}
use Prim.Native.Nat.{ℕ, zero, suc, ◌+◌, ◌-◌, ◌%◌, ◌≤◌, ◌<◌}
use Rattle.std.proofs.Math.Dec.{eqb}
use Rattle.laws.specs.Decides.{and_iff, eqb_iff, decides}
use Rattle.laws.specs.Range.{count_of}
use Rattle.scene.specs.Limits.{limits_before, least_weight}
use Rattle.scene.specs.Bytes.{weight_at}
use Rattle.scene.specs.Records.{faces_in_a, verts, faces, last_record, point_start}
use Rattle.judge.specs.Judge.{weight_ok, nowhere, somewhere_ok, point_fault, face_fault, end_fault, record_fault, records_fault}
use Rattle.judge.specs.Judge.{is_edge, edge_ok, sides_ok, closed_at, edge_fault, edges_fault, judged_at}
use Rattle.judge.specs.Tests.{within_iff, rule_iff, then_iff, first_iff}
use Rattle.judge.specs.Judge.{Judged}
use Rattle.theorem_demands.specs.Kept.Before.{point_fault_before, record_fault_before, in_two, sides_in_two, edge_fault_before, judged_before}

pub least_one : (j : ℕ) → least_weight j ≤ 1
least_one zero = omega arith
least_one (suc j) = omega arith

module _ (s : List ℕ) where
  -- ---- two is even

  edge_closed : (a e v w : ℕ) → in_two s a e v w ≡ true → edge_ok s a e v w ≡ true
  unfolding edge_ok
  edge_closed a e v w p = ap (λ (n : ℕ). eqb (n % 2) 0) ((eqb_iff (count_of (is_edge s v w) a e) 2).0 p)

  sides_closed : (a e i : ℕ) → sides_in_two s a e i ≡ true → sides_ok s a e i ≡ true
  unfolding sides_ok
  sides_closed a e i p =
      let c = (and_iff _ _).0 p in
      let d = (and_iff _ _).0 c.1 in
      (and_iff _ _).1 (edge_closed a e _ _ c.0, (and_iff _ _).1 (edge_closed a e _ _ d.0, edge_closed a e _ _ d.1))

  face_closed : (i : ℕ) → edge_fault_before s i ≡ Ok tt → edge_fault s i ≡ Ok tt
  unfolding edge_fault closed_at
  face_closed i p = (rule_iff _ _ _).1 (go (ltb i (faces_in_a s)) ((rule_iff _ _ _).0 p).0, refl)
    where
      go : (b : Bool) → cond b (sides_in_two s 0 (faces_in_a s) i) (sides_in_two s (faces_in_a s) (faces s) i) ≡ true →
          cond b (sides_ok s 0 (faces_in_a s) i) (sides_ok s (faces_in_a s) (faces s) i) ≡ true
      go true q = sides_closed 0 (faces_in_a s) i q
      go false q = sides_closed (faces_in_a s) (faces s) i q

  -- ---- a weight that is not 0

  abbrev Weighs : ℕ → Type 0
  Weighs j = 1 ≤ nat_abs (weight_at s (point_start j + 8))

  somewhere : (j : ℕ) → Weighs j → somewhere_ok s j ≡ true
  unfolding somewhere_ok nowhere
  somewhere zero h = go (nowhere s) refl
    where
      go : (b : Bool) → nowhere s ≡ b → not b ≡ true
      go false e = refl
      go true e = let c = simp decides at e in absurd (omega (arith, c.1.1.1))
  somewhere (suc j) h = refl

  point_ok : (j : ℕ) → point_fault_before s j ≡ Ok tt → (point_fault limits_before s j ≡ Ok tt) × Weighs j
  unfolding point_fault weight_ok
  point_ok j p =
      let c1 = (rule_iff _ _ _).0 p in
      let c2 = (rule_iff _ _ _).0 c1.1 in
      let c3 = (rule_iff _ _ _).0 c2.1 in
      let c4 = (rule_iff _ _ _).0 c3.1 in
      let w = (within_iff _ _ _).0 ((rule_iff _ _ _).0 c4.1).0 in
      let ok = (within_iff (least_weight j) _ _).1 (omega (arith, least_one j), w.1) in
      let last = (rule_iff _ _ _).1 (ok, (rule_iff _ _ _).1 (somewhere j w.0, refl)) in
      ((rule_iff _ _ _).1 (c1.0, (rule_iff _ _ _).1 (c2.0, (rule_iff _ _ _).1 (c3.0, (rule_iff _ _ _).1 (c4.0, last)))), w.0)

  record_ok : (k : ℕ) → record_fault_before s k ≡ Ok tt → record_fault limits_before s k ≡ Ok tt
  unfolding record_fault
  record_ok k p = go (ltb k (2 + verts s)) (cond (ltb k (last_record s)) (face_fault s (k - (2 + verts s))) (end_fault s)) p
    where
      go : (b : Bool) (r : Judged) → cond b (point_fault_before s (k - 1)) (cond b (point_fault limits_before s (k - 1)) r) ≡ Ok tt →
          cond b (point_fault limits_before s (k - 1)) r ≡ Ok tt
      go true r q = (point_ok (k - 1) q).0
      go false r q = q

  -- ---- all of it

  module _ (e : judged_before s ≡ Ok tt) where
    records : (k : ℕ) → 1 ≤ k → k < last_record s + 1 → record_fault_before s k ≡ Ok tt
    records = (first_iff (record_fault_before s) 1 (last_record s + 1)).0 ((then_iff _ _).0 ((then_iff _ _).0 e).1).0

    pub before_accepted : judged_at limits_before s ≡ Ok tt
    unfolding judged_at records_fault edges_fault
    before_accepted =
        let c = (then_iff _ _).0 e in
        let d = (then_iff _ _).0 ((then_iff _ _).0 c.1).1 in
        (then_iff _ _).1 (
          c.0,
          (then_iff _ _).1 (
            (first_iff (record_fault limits_before s) 1 (last_record s + 1)).1 (λ k a b. record_ok k (records k a b)),
            (then_iff _ _).1 (
              d.0,
              (first_iff (edge_fault s) 0 (faces s)).1 (λ i a b. face_closed i ((first_iff (edge_fault_before s) 0 (faces s)).0 d.1 i a b)),
            ),
          ),
        )

    pub before_weighs : (j : ℕ) → j ≤ verts s → 1 ≤ nat_abs (weight_at s (point_start j + 8))
    before_weighs j h =
        subst Weighs (omega arith)
        (point_ok (suc j - 1) (go _ (lt-ltb (suc j) (2 + verts s) (omega arith)) _ _ (records (suc j) (omega arith) (omega arith)))).1
      where
        go : (b : Bool) → b ≡ true → (p r : Judged) → cond b p r ≡ Ok tt → p ≡ Ok tt
        go true e p r q = q
        go false e p r q = absurd (false≢true e)
