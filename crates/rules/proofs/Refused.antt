-- Each refusal is given exactly when its grounds hold, at exactly that place. Assumes nothing.
use Rattle.std.specs.Prelude.{◌≡◌, refl, ◌↔◌, List, ℕ, ◌≤◌, ◌<◌, Ok, Err}
use Rattle.std.proofs.Common.{sym, subst, arith}
use mathlib.Core.Logic.Iff
use Rattle.laws.specs.Decides.{eqb_iff}
use Rattle.scene.specs.Limits.{Limits}
use Rattle.scene.specs.Records.{verts, last_record}
use Rattle.scene.specs.declared.Refusal.{Refusal}
use Rattle.scene.specs.declared.Refusal.TheVariants.{Opening, Counts, Length, Mark, Coordinate, Weight, Corner}
use Rattle.scene.specs.declared.Refusal.TheVariants.{Unused, Edge, ListTooShort, NoSuchNumber, NotDistinct, BufferTooShort, FarAllZero}
use Rattle.judge.specs.Judge.{judged_at, header_fault, record_fault, unused_fault, edge_fault}
use Rattle.rules.specs.Rules.{Between, MarkOk, CoordinatesOk, WeightOk, SomewhereOk, CornersOk, Used, SidesOk}
use Rattle.rules.specs.Grounds.{AtRecord, AtVertex, Grounds}
use Rattle.rules.proofs.Accepted.{opens_iff, counts_iff, record_iff, vertex_iff, face_iff}
use Rattle.rules.specs.Numbers.{check_order, gives, gives_none, rule_alone, rule_next}
use Rattle.rules.proofs.Faults.{record_mark, record_coordinate, record_weight, record_nowhere, record_corner, unused_here, edge_here}
use Rattle.rules.proofs.Parts.{judge_gives, by_header, by_records, by_unused, by_edges}

module _ (l : Limits) (s : List ℕ) where
  -- ---- refusals 1, 2 and 3

  refused_1_law : (judged_at l s ≡ Err Opening) ↔ Grounds l s Opening
  unfolding header_fault
  refused_1_law = Iff.trans (by_header l s Opening (omega arith)) (rule_alone (opens_iff s) Opening _ 3 (search gives))

  refused_2_law : (judged_at l s ≡ Err Counts) ↔ Grounds l s Counts
  unfolding header_fault
  refused_2_law =
      Iff.trans (by_header l s Counts (omega arith))
      (rule_next (opens_iff s) Opening _ (omega arith) (rule_alone (counts_iff l s) Counts _ 3 (search gives)))

  refused_3_law : (judged_at l s ≡ Err Length) ↔ Grounds l s Length
  unfolding header_fault
  refused_3_law =
      Iff.trans (by_header l s Length (omega arith))
      (rule_next (opens_iff s) Opening _ (omega arith)
      (rule_next (counts_iff l s) Counts _ (omega arith) (rule_alone (eqb_iff _ _) Length (Ok tt) 4 (gives_none 4 4))))

  -- ---- refusals 4 to 7 and 14

  at_record : (K : ℕ → Refusal) (X : ℕ → Type 0) → ((p : ℕ) → Between 4 8 (check_order (K p))) →
      ((k : ℕ) → 1 ≤ k → k ≤ last_record s → (p : ℕ) → (record_fault l s k ≡ Err (K p)) ↔ ((k ≡ p) × X k)) →
      (p : ℕ) → (judged_at l s ≡ Err (K p)) ↔ (AtRecord l s p × X p)
  at_record K X numbers here p =
      Iff.trans (by_records l s (K p) (numbers p).0 (numbers p).1) (
        λ h.
            let f = h.1 in
            let to : f.at ≤ last_record s = omega (arith, f.to) in
            let g = (here f.at f.from to p).0 f.here in
            subst (λ (k : ℕ). AtRecord l s k × X k) g.0 (
              record { header = h.0; from = f.from; to = to; earlier = λ j a b. (record_iff l s j a (omega arith)).0 (f.before j a b) },
              g.1,
            ),
        λ h.
            let a = h.0 in
            let before : (j : ℕ) → 1 ≤ j → j < p → record_fault l s j ≡ (Ok tt) =
            λ j b c. (record_iff l s j b (omega (arith, a.to))).1 (a.earlier j b c) in (
              a.header,
              record {
                at = p;
                from = a.from;
                to = omega (arith, a.to);
                here = (here p a.from a.to p).1 (refl, h.1);
                before = before;
              },
            ),
      )

  -- ---- refusal 8

  refused_8_law : (p : ℕ) → (judged_at l s ≡ Err (Unused p)) ↔ Grounds l s (Unused p)
  refused_8_law p =
      Iff.trans (by_unused l s (Unused p) refl) (
        λ h.
            let f = h.1.1 in
            let to : f.at ≤ verts s = omega (arith, f.to) in
            let g = (unused_here s p f.at f.from to).0 f.here in
            let earlier : (j : ℕ) → 1 ≤ j → j < f.at → Used s j = λ j a b. (vertex_iff s j a (omega arith)).0 (f.before j a b) in
            subst (λ (k : ℕ). AtVertex l s k × ¬ Used s k) g.0
            (record { header = h.0; records = h.1.0; from = f.from; to = to; earlier = earlier }, g.1),
        λ h.
            let a = h.0 in
            let here = (unused_here s p p a.from a.to).1 (refl, h.1) in
            let before : (j : ℕ) → 1 ≤ j → j < p → unused_fault s j ≡ (Ok tt) =
            λ j b c. (vertex_iff s j b (omega (arith, a.to))).1 (a.earlier j b c) in
            (a.header, (a.records, record { at = p; from = a.from; to = omega (arith, a.to); here = here; before = before })),
      )

  -- ---- refusal 9

  refused_9_law : (k : ℕ) → (judged_at l s ≡ Err (Edge k)) ↔ Grounds l s (Edge k)
  refused_9_law k =
      Iff.trans (by_edges l s (Edge k) refl) (
        λ h.
            let f = h.1.1.1 in
            let g = (edge_here s k f.at).0 f.here in
            let earlier : (j : ℕ) → j < f.at → SidesOk s j = λ j b. (face_iff s j).0 (f.before j (omega arith) b) in
            (f.at, sym g.0, record { header = h.0; records = h.1.0; used = h.1.1.0; to = f.to; earlier = earlier }, g.1),
        λ h.
            let a = h.2 in
            let here = (edge_here s k h.0).1 (sym h.1, h.3) in
            let before : (j : ℕ) → 0 ≤ j → j < h.0 → edge_fault s j ≡ (Ok tt) = λ j b c. (face_iff s j).1 (a.earlier j c) in
            (a.header, (a.records, (a.used, record { at = h.0; from = omega arith; to = a.to; here = here; before = before }))),
      )

  -- ---- the table

  never_given : (r : Refusal) → 10 < check_order r → (judged_at l s ≡ Err r) ↔ ⊥
  never_given r h = (λ e. let g = (judge_gives l s).turn r e in omega arith, absurd)

  pub refused : (r : Refusal) → (judged_at l s ≡ Err r) ↔ Grounds l s r
  refused Opening = refused_1_law
  refused Counts = refused_2_law
  refused Length = refused_3_law
  refused (Mark k) = at_record Mark (λ k. ¬ MarkOk s k) (λ p. omega arith) (record_mark l s) k
  refused (Coordinate k) = at_record Coordinate (λ k. MarkOk s k × ¬ CoordinatesOk l s k) (λ p. omega arith) (record_coordinate l s) k
  refused (Weight k) =
      at_record Weight (λ k. MarkOk s k × (CoordinatesOk l s k × ¬ WeightOk l s k)) (λ p. omega arith) (record_weight l s) k
  refused (FarAllZero k) =
      at_record FarAllZero (λ k. MarkOk s k × (CoordinatesOk l s k × (WeightOk l s k × ¬ SomewhereOk s k))) (λ p. omega arith)
      (record_nowhere l s) k
  refused (Corner k) =
      at_record Corner (λ k. MarkOk s k × (CoordinatesOk l s k × (WeightOk l s k × (SomewhereOk s k × ¬ CornersOk s k)))) (λ p. omega arith)
      (record_corner l s) k
  refused (Unused p) = refused_8_law p
  refused (Edge k) = refused_9_law k
  refused (ListTooShort p) = never_given (ListTooShort p) (omega arith)
  refused NoSuchNumber = never_given NoSuchNumber (omega arith)
  refused NotDistinct = never_given NotDistinct (omega arith)
  refused (BufferTooShort p) = never_given (BufferTooShort p) (omega arith)
