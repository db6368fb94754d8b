-- A scene whose rows alone changed has the same shape. Assumes nothing.
use Rattle.std.specs.Prelude.{◌≡◌, List, ℕ, ◌-◌, ◌<◌}
use Rattle.std.proofs.Common.{sym, ap₂, ◌∙◌, arith}
use Rattle.std.proofs.Math.Decide.{dec_lt}
use Rattle.scene.specs.Records.{faces_in_a, faces}
use Rattle.scene.specs.Tables.{face, raise, tables_of}
use Rattle.scene.specs.Read.{face_zero, face_a, face_b, face_none}
use Rattle.rules.specs.Frame.{Rerowed}
use Rattle.rules.proofs.Rerowed.{va_same, fa_same, vb_same, fb_same, face_same}
use Rattle.theorem_lecture.specs.Lecture.{SameShape}

module _ (s t : List ℕ) (h : Rerowed s t) where
  -- the faces by the scene's numbers
  faces_same : (k : ℕ) → face (tables_of t) k ≡ face (tables_of s) k
  faces_same k = by (dec_lt 0 k) (dec_lt (faces_in_a s) k) (dec_lt (faces s) k)
    where
      by : Dec (0 < k) → Dec (faces_in_a s < k) → Dec (faces s < k) → face (tables_of t) k ≡ face (tables_of s) k
      by (no a) b c = face_zero t {k = k} (omega arith) ∙ sym (face_zero s {k = k} (omega arith))
      by (yes a) (no b) c = face_a t k a (omega (arith, fa_same s t h)) ∙ face_same s t h (k - 1) ∙ sym (face_a s k a (omega arith))
      by (yes a) (yes b) (no c) =
          face_b t k (omega (arith, fa_same s t h)) (omega (arith, fa_same s t h, fb_same s t h))
          ∙ ap₂ raise (va_same s t h) (face_same s t h (k - 1)) ∙ sym (face_b s k b (omega arith))
      by (yes a) (yes b) (yes c) = face_none t k (omega (arith, fa_same s t h, fb_same s t h)) ∙ sym (face_none s k c)

  pub same_shape : SameShape s t
  same_shape =
      record { verts_a_law = va_same s t h; verts_b_law = vb_same s t h; faces_a_law = fa_same s t h; faces_b_law = fb_same s t h; faces = faces_same }
