-- What the calls about a vertex in doubles answer: numbers, 0 where there is nothing to say. Assumes nothing.
use Rattle.std.specs.Prelude.{◌≡◌, List, ℕ, Float, length, Result}
use Rattle.std.proofs.Common.{ap, ◌∙◌}
use Rattle.scene.specs.declared.Row.{Row}
use Rattle.doubles.specs.Taken.{fault_number, fault_place, taken_of}
use Rattle.doubles.specs.Record.{recorded_by, left_by, IsRecord}
use Rattle.doubles.specs.declared.Fault.{Fault}
use Rattle.doubles.specs.declared.Vertex.{Vertex}
use Rattle.bodhranhaze.specs.Calls.{of_refusal}

abbrev pub vertex : Float → Float → Float → Float → Vertex
vertex x y z w = record { x = x; y = y; z = z; w = w }

abbrev pub taken_place : Result Row Fault → ℕ
taken_place t = of_refusal fault_place t

abbrev pub recorded_number : Result (Unit {0}) Fault → ℕ
recorded_number t = of_refusal fault_number t

-- the vertex's own refusal, then 13; d is what the lent bytes held, d' what they hold afterwards
pub record IsTake (v : Vertex) (d d' : List ℕ) (r : ℕ) : Type 0 where
  pub answer : r ≡ recorded_number (recorded_by (taken_of v) (length d))
  pub held : d' ≡ left_by (taken_of v) d

pub take_is : {v : Vertex} {d d' : List ℕ} {o : Result (Unit {0}) Fault} {n : ℕ} → IsRecord v d d' o → n ≡ recorded_number o → IsTake v d d' n
take_is h p = record { answer = p ∙ ap recorded_number h.answer; held = h.held }
