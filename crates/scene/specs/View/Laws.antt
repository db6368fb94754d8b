-- A view's solids by their numbers: each is A or B, as the header's counts have it, and what is so of both is so of each. Assumes nothing.
use Rattle.std.specs.Prelude.{◌≡◌, Bool, true, false, List, ℕ, eqb}
use Rattle.std.proofs.Common.{sym, ◌∙◌, eq-eqb, ne_eqb}
use Rattle.std.proofs.Math.Path.{ap}
use Rattle.std.proofs.Math.Bool.{cond}
use Rattle.scene.specs.Records as file
use Rattle.scene.specs.View.{View, view_of, solid_a, solid_b, solid}
use Rattle.scene.specs.declared.Scene.{Scene}
use Rattle.scene.specs.declared.Solid.{Solid}

module _ (v : View) {k : ℕ} where
  pub solid_a_law : k ≡ 1 → solid v k ≡ solid_a v
  unfolding solid
  solid_a_law e = ap (λ (b : Bool). cond b (solid_a v) (solid_b v)) (eq-eqb k 1 e)

  pub solid_b_law : (k ≡ 1 → ⊥) → solid v k ≡ solid_b v
  unfolding solid
  solid_b_law e = ap (λ (b : Bool). cond b (solid_a v) (solid_b v)) (ne_eqb k 1 e)

-- as the header's counts have them
module _ (s : List ℕ) (k : ℕ) {c : Scene} (e : c ≡ file.counts_of s) where
  abbrev Read : Solid → Type 0
  Read o = o ≡ solid (view_of s) k

  pub counted_a : k ≡ 1 →
      Read (record { vert0 = 0; verts = c.vertices_a; face0 = 0; faces = c.faces_a; other0 = c.faces_a; others = c.faces_b })
  counted_a h =
      (λ i. record {
        vert0 = 0;
        verts = (e i).vertices_a;
        face0 = 0;
        faces = (e i).faces_a;
        other0 = (e i).faces_a;
        others = (e i).faces_b;
      })
      ∙ sym (solid_a_law (view_of s) h)

  pub counted_b : (k ≡ 1 → ⊥) →
      Read
      (record {
        vert0 = c.vertices_a;
        verts = c.vertices_b;
        face0 = c.faces_a;
        faces = c.faces_b;
        other0 = 0;
        others = c.faces_a;
      })
  counted_b h =
      (λ i. record {
        vert0 = (e i).vertices_a;
        verts = (e i).vertices_b;
        face0 = (e i).faces_a;
        faces = (e i).faces_b;
        other0 = 0;
        others = (e i).faces_a;
      })
      ∙ sym (solid_b_law (view_of s) h)

-- what is so of both is so of each
pub either_solid : (v : View) (X : Solid → Type 0) → X (solid_a v) → X (solid_b v) → (k : ℕ) → X (solid v k)
unfolding solid
either_solid v X a b k = go (eqb k 1)
  where
    go : (t : Bool) → X (cond t (solid_a v) (solid_b v))
    go true = a
    go false = b
