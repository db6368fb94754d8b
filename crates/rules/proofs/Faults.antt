-- The refusal of one record, of one vertex and of one face, by the rules. Assumes nothing.
use Rattle.std.specs.Prelude.{◌≡◌, refl, ◌↔◌, Bool, true, List, ℕ, ◌≤◌, ◌<◌, Ok, Err}
use mathlib.Core.Logic.Iff
use Rattle.std.proofs.Common.{arith}
use Rattle.scene.specs.Limits.{Limits}
use Rattle.scene.specs.Records.{verts, face_record, last_record}
use Rattle.scene.specs.declared.Refusal.{Refusal}
use Rattle.scene.specs.declared.Refusal.TheVariants.{Mark, Coordinate, Weight, FarAllZero, Corner, Unused, Edge}
use Rattle.judge.specs.Judge.{refuse_unless, record_fault, unused_fault, edge_fault}
use Rattle.judge.specs.Judge.{Judged}
use Rattle.rules.specs.Rules.{MarkOk, CoordinatesOk, WeightOk, SomewhereOk, CornersOk, Used, SidesOk}
use Rattle.rules.proofs.Records.{Tested, tested}
use Rattle.rules.proofs.Edges.{used_iff, closed_iff}
use Rattle.rules.specs.Numbers.{check_order, Gives, gives, gives_none, rule_next, rule_at}

-- ---- one record

-- a test that passes, before what is at fault at a place (X)
passed : {P Q X : Type 0} {b : Bool} → (b ≡ true) ↔ P → (r : Refusal) {q : Refusal} (k : Judged) → check_order r < check_order q →
    (k ≡ Err q) ↔ (X × Q) → (refuse_unless b r k ≡ Err q) ↔ (X × (P × Q))
passed e r k l f = Iff.trans (rule_next e r k l f) (λ h. (h.1.0, (h.0, h.1.1)), λ h. (h.1.0, (h.0, h.1.1)))

module _ (l : Limits) (s : List ℕ) (k : ℕ) (from : 1 ≤ k) (to : k ≤ last_record s) where
  abbrev t : Tested l s k
  t = tested l s k from to

  pub record_gives : Gives 4 8 (record_fault l s k)
  record_gives = rw t.fault (search gives depth 8)

  module _ (p : ℕ) where
    pub record_mark : (record_fault l s k ≡ Err (Mark p)) ↔ ((k ≡ p) × ¬ MarkOk s k)
    record_mark = rw t.fault (rule_at t.mark_iff Mark (λ i. refl) k p _ 8 (search gives depth 8))

    pub record_coordinate : (record_fault l s k ≡ Err (Coordinate p)) ↔ ((k ≡ p) × (MarkOk s k × ¬ CoordinatesOk l s k))
    record_coordinate =
        rw t.fault
        (passed t.mark_iff (Mark k) _ (omega arith) (rule_at t.coordinates_iff Coordinate (λ i. refl) k p _ 8 (search gives depth 8)))

    pub record_weight : (record_fault l s k ≡ Err (Weight p)) ↔ ((k ≡ p) × (MarkOk s k × (CoordinatesOk l s k × ¬ WeightOk l s k)))
    record_weight =
        rw t.fault
        (passed t.mark_iff (Mark k) _ (omega arith) (passed t.coordinates_iff (Coordinate k) _ (omega arith)
        (rule_at t.weight_iff Weight (λ i. refl) k p _ 8 (search gives depth 8))))

    pub record_nowhere : (record_fault l s k ≡ Err (FarAllZero p)) ↔
        ((k ≡ p) × (MarkOk s k × (CoordinatesOk l s k × (WeightOk l s k × ¬ SomewhereOk s k))))
    record_nowhere =
        rw t.fault
        (passed t.mark_iff (Mark k) _ (omega arith) (passed t.coordinates_iff (Coordinate k) _ (omega arith)
        (passed t.weight_iff (Weight k) _ (omega arith)
        (rule_at t.somewhere_iff FarAllZero (λ i. refl) k p _ 8 (search gives depth 8)))))

    pub record_corner : (record_fault l s k ≡ Err (Corner p)) ↔
        ((k ≡ p) × (MarkOk s k × (CoordinatesOk l s k × (WeightOk l s k × (SomewhereOk s k × ¬ CornersOk s k)))))
    record_corner =
        rw t.fault
        (passed t.mark_iff (Mark k) _ (omega arith) (passed t.coordinates_iff (Coordinate k) _ (omega arith)
        (passed t.weight_iff (Weight k) _ (omega arith) (passed t.somewhere_iff (FarAllZero k) _ (omega arith)
        (rule_at t.corners_iff Corner (λ i. refl) k p (Ok tt) 9 (gives_none 9 9))))))

-- ---- one vertex, one face

module _ (s : List ℕ) where
  pub unused_here : (p q : ℕ) → 1 ≤ q → q ≤ verts s → (unused_fault s q ≡ Err (Unused p)) ↔ ((q ≡ p) × ¬ Used s q)
  unfolding unused_fault
  unused_here p q a b = rule_at (used_iff s q a b) Unused (λ i. refl) q p (Ok tt) 10 (gives_none 10 10)

  pub edge_here : (k i : ℕ) → (edge_fault s i ≡ Err (Edge k)) ↔ ((face_record s i ≡ k) × ¬ SidesOk s i)
  unfolding edge_fault
  edge_here k i = rule_at (closed_iff s i) Edge (λ i. refl) (face_record s i) k (Ok tt) 11 (gives_none 11 11)
