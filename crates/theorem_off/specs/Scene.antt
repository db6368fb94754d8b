-- The drawing of a solid of an accepted scene reads back: it has the form of a text, and denotes that solid. Assumes nothing.
use Rattle.std.specs.Prelude.{ℕ, ◌+◌, ◌-◌, ◌≡◌, refl, List, [], ◌∷◌, map, Ok}
use Rattle.std.proofs.Common.{sym, ap, ap₂, ◌∙◌, subst, arith}
use Rattle.laws.specs.Lists.{each_map}
use Rattle.laws.specs.Mapped.{run_from}
use Rattle.scene.specs.Limits.{limits}
use Rattle.scene.specs.Records.{verts_a, verts_b}
use Rattle.scene.specs.Tables.{Table, row, row_at, raise, tables_of}
use Rattle.scene.specs.Read.{row_is}
use Rattle.scene.specs.Faces.{FaceOf}
use Rattle.scene.specs.View.{view_of, solid_a, solid_b}
use Rattle.scene.specs.View.Laws.{solid_a_law, solid_b_law}
use Rattle.scene.specs.declared.Face.{Face}
use Rattle.judge.specs.Judge.{judged}
use Rattle.rules.proofs.Given.{tables_ok}
use Rattle.rules.proofs.Raised.{faces_a_law, faces_b_law}
use Rattle.off_write.specs.Drawing.{lowered, table_in, drawn, drawn_of}
use Rattle.theorem_off.specs.Redrawn.{Cornered, Denotes}
use Rattle.theorem_off.specs.Drawn.{drawing_back}

-- ---- the solids' tables are the scene's

lowered_raised : (m : ℕ) (fs : List Face) → map (lowered m) (map (raise m) fs) ≡ fs
lowered_raised m [] = refl
lowered_raised m (f ∷ fs) =
    let p : m + f.p - m ≡ f.p = omega arith in
    let q : m + f.q - m ≡ f.q = omega arith in
    let r : m + f.r - m ≡ f.r = omega arith in
    ap₂ (λ (g : Face) (l : List Face). g ∷ l) (λ i. record { p = p i; q = q i; r = r i }) (lowered_raised m fs)

lowered_none : (fs : List Face) → map (lowered 0) fs ≡ fs
lowered_none [] = refl
lowered_none (f ∷ fs) =
    let p : f.p - 0 ≡ f.p = omega arith in
    let q : f.q - 0 ≡ f.q = omega arith in
    let r : f.r - 0 ≡ f.r = omega arith in
    ap₂ (λ (g : Face) (l : List Face). g ∷ l) (λ i. record { p = p i; q = q i; r = r i }) (lowered_none fs)

module _ (s : List ℕ) where
  table_a : table_in s (solid_a (view_of s)) ≡ (tables_of s).a
  table_a =
      let rows = run_from (row (tables_of s)) (row_at s) 1 1 (verts_a s) (λ i b. row_is s (1 + i) (omega arith) (omega arith)) in
      let faces = ap (map (lowered 0)) (faces_a_law s) ∙ lowered_none (tables_of s).a.faces in
      λ i. record { rows = rows i; faces = faces i }

  table_b : table_in s (solid_b (view_of s)) ≡ (tables_of s).b
  table_b =
      let rows = run_from (row (tables_of s)) (row_at s) (verts_a s + 1) (verts_a s + 1) (verts_b s)
      (λ i b. row_is s (verts_a s + 1 + i) (omega arith) (omega arith)) in
      let faces = ap (map (lowered (verts_a s))) (faces_b_law s) ∙ lowered_raised (verts_a s) (tables_of s).b.faces in
      λ i. record { rows = rows i; faces = faces i }

cornered : {v : ℕ} (f : Face) → FaceOf 0 v f → Cornered f
cornered f h = record { one = omega arith; two = omega arith; three = omega arith }

-- ---- the theorem

module _ (s : List ℕ) (ok : judged s ≡ Ok tt) where
  pub a_redrawn : Denotes (drawn_of s 1) (tables_of s).a
  a_redrawn =
      subst (λ (t : Table). Denotes (drawn t) (tables_of s).a) (sym (ap (table_in s) (solid_a_law (view_of s) refl) ∙ table_a s))
      (drawing_back (tables_of s).a (each_map cornered (tables_of s).a.faces (tables_ok limits s ok).a.corners))

  pub b_redrawn : (k : ℕ) → (k ≡ 1 → ⊥) → Denotes (drawn_of s k) (tables_of s).b
  b_redrawn k h =
      subst (λ (t : Table). Denotes (drawn t) (tables_of s).b) (sym (ap (table_in s) (solid_b_law (view_of s) h) ∙ table_b s))
      (drawing_back (tables_of s).b (each_map cornered (tables_of s).b.faces (tables_ok limits s ok).b.corners))
