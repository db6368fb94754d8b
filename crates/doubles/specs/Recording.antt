-- What a call that writes a record answers and leaves, by the cases of its tests. Assumes nothing.
use Rattle.std.specs.Prelude.{◌≡◌, ℕ, ◌<◌, ◌≤◌, Bool, cond, List, ◌++◌, length, drop, Result, Ok, Err}
use Rattle.std.proofs.Common.{sym, ap, ◌∙◌, le-leb}
use Rattle.std.proofs.lemmas.Bool.{lt-leb}
use Rattle.scene.specs.Limits.{limits}
use Rattle.scene.specs.Arrays.{RowWithin}
use Rattle.scene.specs.declared.Refusal.TheVariants.{BufferTooShort}
use Rattle.scene.specs.declared.Row.{Row}
use Rattle.doubles.specs.Taken.{taken_of}
use Rattle.doubles.specs.Taking.{taken_takes}
use Rattle.doubles.specs.Record.{vertex_bytes, recorded_by, left_by, IsRecord}
use Rattle.doubles.specs.declared.Fault.{Fault}
use Rattle.doubles.specs.declared.Fault.TheVariants.{OfScene}
use Rattle.doubles.specs.declared.Vertex.{Vertex}

module _ (v : Vertex) (d : List ℕ) {t : Result Row Fault} (e : t ≡ taken_of v) where
  pub refuses : {f : Fault} → t ≡ Err f → IsRecord v d d (Err f)
  refuses q =
      record {
        answer = ap (λ (t : Result Row Fault). recorded_by t (length d)) (sym q ∙ e);
        held = ap (λ (t : Result Row Fault). left_by t d) (sym q ∙ e);
      }

  module _ {r : Row} (q : t ≡ Ok r) where
    pub row_within : RowWithin limits r
    row_within = (taken_takes v r (sym e ∙ q)).within

    pub no_room : length d < 9 → IsRecord v d d (Err (OfScene (BufferTooShort 9)))
    no_room h =
        record {
          answer = ap (λ (b : Bool). cond b (Ok tt) (Err (OfScene (BufferTooShort 9)))) (sym (lt-leb 9 (length d) h))
              ∙ ap (λ (t : Result Row Fault). recorded_by t (length d)) (sym q ∙ e);
          held = ap (λ (b : Bool). cond b (vertex_bytes r ++ drop 9 d) d) (sym (lt-leb 9 (length d) h))
              ∙ ap (λ (t : Result Row Fault). left_by t d) (sym q ∙ e);
        }

    pub writes : {d' : List ℕ} → 9 ≤ length d → d' ≡ vertex_bytes r ++ drop 9 d → IsRecord v d d' (Ok tt)
    writes h w =
        record {
          answer = ap (λ (b : Bool). cond b (Ok tt) (Err (OfScene (BufferTooShort 9)))) (sym (le-leb 9 (length d) h))
              ∙ ap (λ (t : Result Row Fault). recorded_by t (length d)) (sym q ∙ e);
          held = w ∙ ap (λ (b : Bool). cond b (vertex_bytes r ++ drop 9 d) d) (sym (le-leb 9 (length d) h))
              ∙ ap (λ (t : Result Row Fault). left_by t d) (sym q ∙ e);
        }

-- no second answer, and no second contents
pub one_record : (v : Vertex) (d m n : List ℕ) (r q : Result (Unit {0}) Fault) → IsRecord v d m r → IsRecord v d n q → (r ≡ q) × (m ≡ n)
one_record v d m n r q a b = (a.answer ∙ sym b.answer, a.held ∙ sym b.held)
