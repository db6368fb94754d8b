-- A reading's offset is within the text, also where it is that of a fault. Assumes nothing.
use Prim.Native.Nat.{ℕ, zero, suc, ◌*◌, ◌≤◌}
use Rattle.std.specs.Prelude.{List, Bool, cond, length, eqb, Result, Ok, Err}
use Rattle.std.proofs.Math.Bool.{true, false}
use Rattle.std.proofs.Common.{arith}
use Rattle.off_items.specs.Items.{start_of, end_of, after}
use Rattle.off_items.specs.Numbers.{whole_from, size_from}
use Rattle.off_form.specs.Form.{go_on, wholes, face_from, faces_from, end_from, numbers_of, vertices_of}
use Rattle.off_form.specs.Form.{faces_of, faces_then, vertices_then, form_of}
use Rattle.off_form.proofs.Places.{start_in, end_in, after_in}
use Rattle.off_form.specs.declared.Flaw.{Flaw}
use Rattle.off_form.specs.declared.Flaw.TheVariants.{Outside, Sides}

abbrev pub Placed : List ℕ → Result ℕ Flaw → Type 0
Placed s (Ok k) = k ≤ length s
Placed s (Err (Outside k)) = k ≤ length s
Placed s (Err (Sides k)) = k ≤ length s

module _ (s : List ℕ) where
  either : (b : Bool) (x y : Result ℕ Flaw) → Placed s x → Placed s y → Placed s (cond b x y)
  either true x y p q = p
  either false x y p q = q

  goes : (r : Result ℕ Flaw) (rest : ℕ → Result ℕ Flaw) → Placed s r → ((k : ℕ) → k ≤ length s → Placed s (rest k)) → Placed s (go_on r rest)
  goes (Ok k) rest p h = h k p
  goes (Err f) rest p h = p

  wholes_placed : (g : Bool) (n at : ℕ) → at ≤ length s → Placed s (wholes g n s at)
  unfolding wholes
  wholes_placed g zero at h = h
  wholes_placed g (suc n) at h = either (whole_from g s at) _ _ (wholes_placed g n (end_of s at) (end_in s at h)) (start_in s at h)

  face_placed : (at : ℕ) → at ≤ length s → Placed s (face_from s at)
  unfolding face_from
  face_placed at h =
      either (whole_from false s at) _ _
      (either (eqb (size_from false s at) 3) _ _ (wholes_placed false 3 (end_of s at) (end_in s at h)) (start_in s at h)) (start_in s at h)

  faces_placed : (n at : ℕ) → at ≤ length s → Placed s (faces_from n s at)
  unfolding faces_from
  faces_placed zero at h = h
  faces_placed (suc n) at h = goes (face_from s at) (faces_from n s) (face_placed at h) (λ k l. faces_placed n k l)

  end_placed : (at : ℕ) → at ≤ length s → Placed s (end_from s at)
  unfolding end_from
  end_placed at h = either (eqb (start_of s at) (length s)) _ _ h (start_in s at h)

  pub form_placed : Placed s (form_of s)
  unfolding form_of
  form_placed =
      either (eqb (numbers_of s) 0) _ _ (start_in s 0 (omega arith))
      (goes (wholes false 3 s (after s 1)) (vertices_then s) (wholes_placed false 3 (after s 1) (after_in s 1)) (λ at h.
      goes (wholes true (vertices_of s * numbers_of s) s at) (faces_then s) (wholes_placed true _ at h) (λ at h.
      goes (faces_from (faces_of s) s at) (end_from s) (faces_placed (faces_of s) at h) end_placed)))
