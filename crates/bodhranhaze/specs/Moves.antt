-- What a change of a scene in place answers to C: 0, or the number of its refusal. Assumes nothing.
use Rattle.std.specs.Prelude.{◌≡◌, List, ℕ, ℤ}
use Rattle.std.proofs.Common.{ap, ◌∙◌, subst, SFits, to_z, of_z, to_z-of_z}
use Rattle.std.specs.Int.{w64}
use Rattle.scene.specs.declared.Row.{Row}
use Rattle.judge.specs.Judge.{Judged}
use Rattle.session.specs.Place.{kept_or, IsChanged}
use Rattle.bodhranhaze.specs.Calls.{refusal_number}

abbrev pub row_of : (x y z w : ℤ) → Row
row_of x y z w = record { x = x; y = y; z = z; w = w }

-- s is what stood there, s' what stands there afterwards: t, or s where there is a fault
pub record IsAnswered (fault : Judged) (s t s' : List ℕ) (r : ℕ) : Type 0 where
  pub answer : r ≡ refusal_number fault
  pub held : s' ≡ kept_or fault s t

-- by the change's answer o
pub answered_by : {fault o : Judged} (s t : List ℕ) {l : List ℕ} {n : ℕ} → IsChanged fault s t l o → n ≡ refusal_number o →
    IsAnswered fault s t l n
answered_by s t h p = record { answer = p ∙ ap refusal_number h.answer; held = h.held }

-- the row of four numbers, each read back from its bits
pub row_again : {x y z w : ℤ} → SFits w64 x → SFits w64 y → SFits w64 z → SFits w64 w →
    row_of (to_z w64 (of_z w64 x)) (to_z w64 (of_z w64 y)) (to_z w64 (of_z w64 z)) (to_z w64 (of_z w64 w)) ≡ row_of x y z w
row_again fx fy fz fw = λ i. record { x = to_z-of_z fx i; y = to_z-of_z fy i; z = to_z-of_z fz i; w = to_z-of_z fw i }

-- the same of a change by a row v that is u
pub moved_by : (g : Row → Judged) (h : Row → List ℕ) (s : List ℕ) {u v : Row} {o : Judged} {l : List ℕ} {n : ℕ} →
    v ≡ u → IsChanged (g v) s (h v) l o → n ≡ refusal_number o → IsAnswered (g u) s (h u) l n
moved_by g h s {v = v} {l = l} {n = n} e k p = subst (λ (u : Row). IsAnswered (g u) s (h u) l n) e (answered_by s (h v) k p)
