-- The judge's tests of a vertex and of a face's sides decide the rules of that vertex and of those sides. Assumes nothing.
use Rattle.std.specs.Prelude.{◌≡◌, refl, ◌↔◌, true, List, ℕ, ◌-◌, ◌%◌, ◌≤◌, ◌<◌}
use Rattle.std.proofs.Common.{subst, arith}
use mathlib.Core.Logic.Iff
use Rattle.std.proofs.Math.Decide.{dec_lt}
use Rattle.laws.specs.Decides.{and_iff, eqb_iff}
use Rattle.laws.specs.Range.{any_of, count_of}
use Rattle.laws.specs.Lists.{Some, run, any_iff, count_run, even_iff}
use Rattle.scene.specs.Records.{verts_a, verts, faces_in_a, faces_in_b, faces}
use Rattle.scene.specs.Tables.{face_at, tables_of}
use Rattle.scene.specs.Faces.{Corner, Both, has_both, Sides, EdgeOk, corner_iff, both_iff}
use Rattle.scene.specs.declared.Face.{Face}
use Rattle.judge.specs.Judge.{is_corner_of, is_edge, is_used, edge_ok, sides_ok, closed_at}
use Rattle.judge.specs.Cases.{used_of_a, used_of_b, closed_of_a, closed_of_b}
use Rattle.rules.specs.Rules.{Used, SidesOk}

module _ (s : List ℕ) where
  -- ---- among the file's faces from a up to e, n in number

  module _ (a e n : ℕ) (long : e - a ≡ n) where
    abbrev fs : List Face
    fs = run (face_at s) a n

    some_iff : (v : ℕ) → (any_of (is_corner_of s v) a e ≡ true) ↔ Some (Corner v) fs
    unfolding is_corner_of
    some_iff v = any_iff (Corner v) (face_at s) (is_corner_of s v) a e n long (λ i. corner_iff v (face_at s i))

    edge_iff : (v w : ℕ) → (edge_ok s a e v w ≡ true) ↔ EdgeOk fs v w
    unfolding edge_ok is_edge
    edge_iff v w =
        Iff.trans (eqb_iff (count_of (is_edge s v w) a e % 2) 0)
        (rw (count_run (face_at s) (has_both v w) (is_edge s v w) a e n long (λ i. refl))
        (even_iff (Both v w) (has_both v w) (both_iff v w) fs))

    sides_iff : (i : ℕ) → (sides_ok s a e i ≡ true) ↔ Sides (EdgeOk fs) (face_at s i)
    unfolding sides_ok
    sides_iff i = (
      λ p. let c = simp (and_iff, edge_iff) at p in (c.0, c.1.0, c.1.1),
      λ h. simp (and_iff, edge_iff) (h.0, (h.1, h.2)),
    )

  -- ---- of a vertex

  pub used_iff : (p : ℕ) → 1 ≤ p → p ≤ verts s → (is_used s p ≡ true) ↔ Used s p
  used_iff p a b = go (dec_lt (verts_a s) p)
    where
      go : Dec (verts_a s < p) → (is_used s p ≡ true) ↔ Used s p
      go (no c) =
          rw (used_of_a s p (omega arith))
          (Iff.trans (some_iff 0 (faces_in_a s) (faces_in_a s) (omega arith) p) (
            λ x. record { of_a = λ d. x; of_b = λ v d e. absurd (omega arith) },
            λ u. u.of_a (omega arith),
          ))
      go (yes c) =
          rw (used_of_b s p c)
          (Iff.trans (some_iff (faces_in_a s) (faces s) (faces_in_b s) (omega arith) (p - verts_a s)) (
            λ x. record {
              of_a = λ d. absurd (omega arith);
              of_b = λ v d e. subst (λ (v : ℕ). Some (Corner v) (tables_of s).b.faces) (omega arith) x;
            },
            λ u. u.of_b (p - verts_a s) (omega arith) (omega arith),
          ))

  -- ---- of a face

  pub closed_iff : (i : ℕ) → (closed_at s i ≡ true) ↔ SidesOk s i
  closed_iff i = go (dec_lt i (faces_in_a s))
    where
      go : Dec (i < faces_in_a s) → (closed_at s i ≡ true) ↔ SidesOk s i
      go (yes c) =
          rw (closed_of_a s i c)
          (Iff.trans (sides_iff 0 (faces_in_a s) (faces_in_a s) (omega arith) i) (
            λ h. record { of_a = λ d. h; of_b = λ d. absurd (omega arith) },
            λ o. o.of_a c,
          ))
      go (no c) =
          rw (closed_of_b s i (omega arith))
          (Iff.trans (sides_iff (faces_in_a s) (faces s) (faces_in_b s) (omega arith) i) (
            λ h. record { of_a = λ d. absurd (omega arith); of_b = λ d. h },
            λ o. o.of_b (omega arith),
          ))
