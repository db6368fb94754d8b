-- What the operations' definitions give where the faults are known, in the form in which a call's answer and a branch arrive.
-- Assumes nothing.
use Rattle.std.specs.Prelude.{◌≡◌, Bool, true, false, not, ℕ, zero, suc, ◌+◌, ◌-◌, ◌≤◌, nat_abs, length, take, drop, replicate, Ok, Err}
use Rattle.std.proofs.Common.{sym, ◌∙◌, arith}
use Rattle.std.proofs.Math.Path.{ap}
use mathlib.Core.List.{List, ◌++◌}
use Rattle.std.proofs.Math.Nat.{sub-zero, suc-sub-suc, zero-sub}
use Rattle.scene.specs.Limits.{limits, longest}
use Rattle.scene.specs.Records.{verts, faces, length_of}
use Rattle.scene.specs.Write.{RowFits}
use Rattle.scene.specs.declared.Row.{Row}
use Rattle.scene.specs.declared.Refusal.{Refusal}
use Rattle.judge.specs.Judge.{judged, refuse_unless}
use Rattle.judge.specs.Tests.{accepts}
use Rattle.judge.specs.Judge.{Judged}
use Rattle.rules.specs.Rules.{Zeros}
use Rattle.rules.specs.TableRules.{RowOk}
use Rattle.rules.proofs.Accepted.{accepted}
use Rattle.session.specs.Session.{scene, fresh, empty, opened_by, opened, is_whole, sizes_of, row_fault}
use Rattle.session.specs.Session.{is_nowhere, vertex_fault, far_fault, turn_fault, changed_by}
use Rattle.session.specs.declared.Session.{Session}
use Rattle.session.specs.declared.Changed.{Changed}

-- n is how many bytes the scene of s has
pub record Whole (s : Session) (n : ℕ) : Type 0 where
  pub long : n ≡ length (scene s)
  pub fits : n ≤ longest limits
  pub within : n ≤ length s.bytes
  pub same : take n s.bytes ≡ scene s

-- ---- what it takes to be free of faults

pub row_free : (least p : ℕ) (v : Row) → row_fault least p (sizes_of v) ≡ Ok tt → RowOk least limits v
unfolding row_fault
row_free least p v e =
    let c = simp accepts at e in record { coordinates = record { x = c.0; y = c.1.0; z = c.1.1.0 }; weight = c.1.1.1.0 }

pub row_fits : {least : ℕ} {v : Row} → RowOk least limits v → RowFits v
row_fits ok =
    let c = ok.coordinates in
    record { x = omega (arith, c.x); y = omega (arith, c.y); z = omega (arith, c.z); w = omega (arith, ok.weight.1) }

pub record VertexFree (s : List ℕ) (p : ℕ) (v : Row) : Type 0 where
  pub whole : length s ≡ length_of s
  pub low : 1 ≤ p
  pub high : p ≤ verts s
  pub row : RowOk 1 limits v

pub vertex_free : (s : List ℕ) (p : ℕ) (v : Row) → vertex_fault s p v ≡ Ok tt → VertexFree s p v
unfolding vertex_fault is_whole
vertex_free s p v e =
    let c = simp accepts at e in record { whole = c.0; low = c.1.0.0; high = c.1.0.1; row = row_free 1 p v c.1.1 }

pub record FarFree (s : List ℕ) (v : Row) : Type 0 where
  pub whole : length s ≡ length_of s
  pub row : RowOk 0 limits v
  pub somewhere : ¬ Zeros v

zeros_nowhere : (v : Row) → Zeros v → is_nowhere (sizes_of v) ≡ true
unfolding is_nowhere
zeros_nowhere v z = rw (ap nat_abs z.x, ap nat_abs z.y, ap nat_abs z.z, ap nat_abs z.w)

not_both : {b : Bool} → b ≡ true → not b ≡ true → ⊥
not_both e f = let z : ◌≡◌ {A = ℕ} 0 1 = cc in omega arith

pub far_free : (s : List ℕ) (v : Row) → far_fault s v ≡ Ok tt → FarFree s v
unfolding far_fault is_whole
far_free s v e =
    let c = simp accepts at e in
    record { whole = c.0; row = row_free 0 (verts s + 1) v c.1.0; somewhere = λ z. not_both (zeros_nowhere v z) c.1.1.0 }

pub record TurnFree (s : List ℕ) (f : ℕ) : Type 0 where
  pub whole : length s ≡ length_of s
  pub low : 1 ≤ f
  pub high : f ≤ faces s

pub turn_free : (s : List ℕ) (f : ℕ) → turn_fault s f ≡ Ok tt → TurnFree s f
unfolding turn_fault is_whole
turn_free s f e = let c = simp accepts at e in record { whole = c.0; low = c.1.0.0; high = c.1.0.1 }

-- ---- what is handed back

module _ (s : Session) (b : List ℕ) {o j : Judged} (e : o ≡ j) where
  pub changed_not : {r : Refusal} → o ≡ Err r → ◌≡◌ {A = Changed} (record { answer = Err r; session = s }) (changed_by j s b)
  changed_not q = ap (λ (k : Judged). changed_by k s b) (sym q ∙ e)

  pub changed_so : {t : Session} {n : ℕ} → o ≡ Ok tt → n ≡ length (scene s) → t ≡ fresh b n →
      ◌≡◌ {A = Changed} (record { answer = Ok tt; session = t }) (changed_by j s b)
  changed_so q n p =
      ap (λ (t : Session). record { answer = Ok tt; session = t }) (p ∙ ap (fresh b) n)
      ∙ ap (λ (k : Judged). changed_by k s b) (sym q ∙ e)

drop_zeros : (k n : ℕ) → drop k (replicate {A = ℕ} n 0) ≡ replicate {A = ℕ} (n - k) 0
drop_zeros zero n = rw sub-zero
drop_zeros (suc k) zero = rw zero-sub
drop_zeros (suc k) (suc n) = rw suc-sub-suc (drop_zeros k n)

module _ (s : List ℕ) {o : Judged} (e : o ≡ judged s) where
  pub opened_not : {r : Refusal} {t : Session} → o ≡ Err r → t ≡ empty →
      ◌≡◌ {A = Changed} (record { answer = Err r; session = t }) (opened s)
  unfolding opened
  opened_not {r} q p = ap (λ (t : Session). record { answer = Err r; session = t }) p ∙ ap (λ (k : Judged). opened_by k s) (sym q ∙ e)

  pub opened_so : {b : List ℕ} {t : Session} → o ≡ Ok tt → b ≡ s ++ drop (length s) (replicate (longest limits) 0) →
      t ≡ fresh b (length s) →
      ◌≡◌ {A = Changed} (record { answer = Ok tt; session = t }) (opened s)
  unfolding opened
  opened_so q h p =
      ap (λ (t : Session). record { answer = Ok tt; session = t })
      (p ∙ ap (λ (b : List ℕ). fresh b (length s)) (h ∙ ap (λ (z : List ℕ). s ++ z) (drop_zeros (length s) (longest limits))))
      ∙ ap (λ (k : Judged). opened_by k s) (sym q ∙ e)

-- ---- a test that holds refuses

pub refused_where : {o b : Bool} (f : ℕ → Refusal) {p q : ℕ} → o ≡ b → o ≡ true → p ≡ q → Err (f p) ≡ refuse_unless (not b) (f q)
    (Ok tt)
unfolding refuse_unless
refused_where f {q = q} e t h = ap (λ (p : ℕ). Err (f p)) h ∙ ap (λ (b : Bool). refuse_unless (not b) (f q) (Ok tt)) (sym t ∙ e)

pub passed_where : {o b : Bool} (r : Refusal) → o ≡ b → o ≡ false → (Ok tt) ≡ refuse_unless (not b) r (Ok tt)
unfolding refuse_unless
passed_where r e t = ap (λ (b : Bool). refuse_unless (not b) r (Ok tt)) (sym t ∙ e)

-- ---- the longest scene

pub accepted_short : (s : List ℕ) → judged s ≡ Ok tt → length s ≤ longest limits
accepted_short s q =
    let h = ((accepted limits s).0 q).header in
    let k = h.counts in
    omega (arith, h.long, k.vertices_a_law.1, k.vertices_b_law.1, k.faces_a_law.1, k.faces_b_law.1)
