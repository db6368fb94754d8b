-- The refusals of an image, in the form in which the calls' answers and the branches arrive. Assumes nothing.
use Rattle.std.specs.Prelude.{◌≡◌, refl, ◌≢◌, Bool, true, false, not, List, ◌++◌, ℕ, ◌≤◌, ◌<◌, ℤ, pos, length, drop, Ok, Err}
use Rattle.std.proofs.Math.Path.{sym}
use Rattle.std.proofs.Common.{ap, ◌∙◌, true≢false}
use borrow.Author.Tests.{not-true, not-false, le-leb, lt-leb, leb-true}
use Rattle.std.specs.Result.{IsErrAnd}
use Rattle.laws.specs.Exits.{exits}
use Rattle.scene.specs.declared.Refusal.{Refusal}
use Rattle.scene.specs.declared.Refusal.TheVariants.{BufferTooShort}
use Rattle.judge.specs.Judge.{judged}
use Rattle.judge.specs.Judge.{Judged}
use Rattle.clean.specs.Clean.{is_zero}
use Rattle.map_image.specs.Mapped.{determinant_of}
use Rattle.map_image.specs.Image.{unless, then_scene, entries_ok, regular, rows_fault, image_fault, image_bytes, said_of, left_of, IsImage}
use Rattle.map_image.specs.Columns.{MapSmall}
use Rattle.map_image.specs.Ready.{Mappable, map_small}
use Rattle.map_image.specs.declared.Map.{Map}
use Rattle.map_image.specs.declared.Fault.{Fault}
use Rattle.map_image.specs.declared.Fault.TheVariants.{Scene, Entry, Singular}
use Rattle.map_image.specs.Image.{Checked, Imaged}

pub entries_small : {m : Map} {b : Bool} → b ≡ entries_ok m → not b ≡ false → MapSmall m
entries_small {m} e q = map_small m (sym e ∙ not-false _ q)

pub mappable : {s : List ℕ} {m : Map} {o : Judged} {b : Bool} → o ≡ judged s → o ≡ Ok tt → b ≡ entries_ok m →
    not b ≡ false → Mappable s m
mappable e q f p = record { accepted = sym e ∙ q; entries = sym f ∙ not-false _ p }

module _ (s : List ℕ) (m : Map) (room : ℕ) {o : Judged} (e : o ≡ judged s) where
  pub fault_scene : {r : Refusal} → o ≡ Err r → Err (Scene r) ≡ image_fault s m room
  unfolding image_fault then_scene
  fault_scene q = rw (sym e ∙ q)

  module _ (q : o ≡ Ok tt) {b : Bool} (eb : b ≡ entries_ok m) where
    pub fault_entry : not b ≡ true → Err Entry ≡ image_fault s m room
    unfolding image_fault then_scene unless
    fault_entry qb = rw (sym e ∙ q, sym eb ∙ not-true _ qb)

    module _ (qb : not b ≡ false) {z : Bool} (ez : z ≡ is_zero (determinant_of m)) where
      pub fault_singular : z ≡ true → Err Singular ≡ image_fault s m room
      unfolding image_fault then_scene unless
      fault_singular qz = rw (sym e ∙ q, sym eb ∙ not-false _ qb, sym ez ∙ qz)

      module _ (qz : z ≡ false) {p : Judged} (ep : p ≡ rows_fault m s) where
        pub fault_row : {r : Refusal} → p ≡ Err r → Err (Scene r) ≡ image_fault s m room
        unfolding image_fault then_scene unless
        fault_row qp = rw (sym e ∙ q, sym eb ∙ not-false _ qb, sym ez ∙ qz, sym ep ∙ qp)

        module _ (qp : p ≡ Ok tt) where
          pub fault_room : room < length s → Err (Scene (BufferTooShort (length s))) ≡ image_fault s m room
          unfolding image_fault then_scene unless
          fault_room h = rw (sym e ∙ q, sym eb ∙ not-false _ qb, sym ez ∙ qz, sym ep ∙ qp, lt-leb (length s) room h)

          pub fault_none : length s ≤ room → (Ok tt) ≡ image_fault s m room
          unfolding image_fault then_scene unless
          fault_none h = rw (sym e ∙ q, sym eb ∙ not-false _ qb, sym ez ∙ qz, sym ep ∙ qp, le-leb (length s) room h)

-- ---- where there is no fault

unless_fine : (b : Bool) (f : Fault) (k : Checked) → unless b f k ≡ Ok tt → (b ≡ true) × (k ≡ Ok tt)
unfolding unless
unless_fine true f k e = (refl, e)
unless_fine false f k e = (cc, cc)

then_fine : (j : Judged) (k : Checked) → then_scene j k ≡ Ok tt → (j ≡ Ok tt) × (k ≡ Ok tt)
unfolding then_scene
then_fine (Ok _) k e = (refl, e)
then_fine (Err r) k e = (cc, cc)

pub record Passed (s : List ℕ) (m : Map) (room : ℕ) : Type 0 where
  pub scene : judged s ≡ Ok tt
  pub entries : entries_ok m ≡ true
  pub regular : regular m ≡ true
  pub rows : rows_fault m s ≡ Ok tt
  pub fits : length s ≤ room

pub passed : (s : List ℕ) (m : Map) (room : ℕ) → image_fault s m room ≡ Ok tt → Passed s m room
unfolding image_fault
passed s m room h =
    let a = then_fine _ _ h in
    let b = unless_fine _ _ _ a.1 in
    let c = unless_fine _ _ _ b.1 in
    let d = then_fine _ _ c.1 in
    let f = unless_fine _ _ _ d.1 in
    record { scene = a.0; entries = b.0; regular = c.0; rows = d.0; fits = leb-true (length s) room f.0 }

pub fill_ready : {s : List ℕ} {m : Map} {room : ℕ} {o : Checked} → o ≡ image_fault s m room → o ≡ Ok tt →
    Mappable s m × (rows_fault m s ≡ Ok tt) × (length s ≤ room)
fill_ready {s} {m} {room} e q =
    let p = passed s m room (sym e ∙ q) in (record { accepted = p.scene; entries = p.entries }, p.rows, p.fits)

module _ {s d : List ℕ} {m : Map} {o : Checked} (e : o ≡ image_fault s m (length d)) where
  pub image_refused : {f : Fault} {r : Imaged} → o ≡ Err f → IsErrAnd r (λ y. y ≡ f) → IsImage s m d d r
  unfolding said_of left_of
  image_refused q h = let z = sym e ∙ q in record { answer = exits h (rw z); held = rw z }

  pub image_written : o ≡ Ok tt → {l : List ℕ} → l ≡ image_bytes m s ++ drop (length s) d → IsImage s m d l (Ok (length s))
  unfolding said_of left_of
  image_written q p = let z = sym e ∙ q in record { answer = rw z; held = p ∙ rw z }

-- ---- what an answer says

pub regular_is : (z : ℤ) → not (is_zero z) ≡ true → z ≢ pos 0
regular_is z h e = true≢false (sym h ∙ ap (λ (z : ℤ). not (is_zero z)) e)

said_fine : (k : Checked) {n l : ℕ} → Ok n ≡ said_of k l → (k ≡ Ok tt) × (n ≡ l)
unfolding said_of
said_fine (Ok _) e = (refl, cc)
said_fine (Err f) e = (cc, cc)

-- where the image is written, nothing was at fault; its length, and what the buffer then holds
pub record Wrote (s : List ℕ) (m : Map) (d d' : List ℕ) (n : ℕ) : Type 0 where
  pub passed : Passed s m (length d)
  pub long : n ≡ length s
  pub held : d' ≡ image_bytes m s ++ drop (length s) d

pub wrote : (s : List ℕ) (m : Map) (d d' : List ℕ) (n : ℕ) → IsImage s m d d' (Ok n) → Wrote s m d d' n
unfolding left_of
wrote s m d d' n h =
    let f = said_fine (image_fault s m (length d)) h.answer in
    record {
      passed = passed s m (length d) f.0;
      long = f.1;
      held = h.held ∙ ap (λ (k : Checked). left_of k d (image_bytes m s ++ drop (length s) d)) f.0;
    }
