-- The two solids in the words of document 01: what is proved of a solid by its words holds of A and of B. Assumes nothing.
use Rattle.std.specs.Prelude.{◌≡◌, refl, ◌⊎◌, ◌↔◌, List, ℕ, ◌+◌, ◌≤◌, ◌<◌}
use Rattle.std.proofs.Math.Logic.{inl, inr, ⊎_elim}
use Rattle.std.proofs.Math.Decide.{dec_lt}
use Rattle.std.proofs.Common.{arith, le-leb}
use Rattle.std.proofs.lemmas.Bool.{lt-leb}
use Rattle.scene.specs.Faces.{Vertex}
use Rattle.scene.specs.Records.{verts_a}
use Rattle.scene.specs.View.{view_of, solid_a, solid_b, solid}
use Rattle.scene.specs.declared.Solid.{Solid}
use Rattle.questions.specs.Hits.{enclosed_vertex}
use Rattle.questions.specs.Answers.{pierce_view, mask_in, other_solid, is_enclosed}
use Rattle.theorem_demands.specs.Words.{SolidNumber, VertexOf, VertexOfA, VertexOfB, FaceOfA, FaceOfB}
use Rattle.theorem_demands.specs.Exact.{solid_of}

-- a solid is A or B
pub either : {k : ℕ} → SolidNumber k → (k ≡ 1) ⊎ (k ≡ 2)
either {k} h = go (dec_lt k 2)
  where
    go : Dec (k < 2) → (k ≡ 1) ⊎ (k ≡ 2)
    go (yes l) = inl (omega arith)
    go (no l) = inr (omega arith)

module _ (s : List ℕ) where
  -- the solid k has the number n, the vertices Of and the faces Own; the other has the faces Other
  pub record InWords (k : Solid) (n : ℕ) (Of Own Other : ℕ → Type 0) : Type 0 where
    pub vertices : (i : ℕ) → Vertex k.vert0 (k.vert0 + k.verts) i ↔ Of i
    pub faces : (f : ℕ) → ((k.face0 + 1 ≤ f) × (f < k.face0 + 1 + k.faces)) ↔ Own f
    pub others : (f : ℕ) → Vertex k.other0 (k.other0 + k.others) f ↔ Other f
    pub number : (i : ℕ) → Of i → solid_of s i ≡ n
    pub inside : (i : ℕ) → Of i → enclosed_vertex (pierce_view (view_of s)) k i ≡ is_enclosed (view_of s) i

  pub a_worded : InWords (solid_a (view_of s)) 1 (VertexOfA s) (FaceOfA s) (FaceOfB s)
  unfolding enclosed_vertex is_enclosed other_solid mask_in solid
  a_worded =
      record {
        vertices = λ i. omega arith;
        faces = λ f. omega arith;
        others = λ f. omega arith;
        number = λ i h. rw (le-leb i (verts_a s) h.1);
        inside = λ i h. rw (le-leb i (verts_a s) h.1);
      }

  pub b_worded : InWords (solid_b (view_of s)) 2 (VertexOfB s) (FaceOfB s) (FaceOfA s)
  unfolding enclosed_vertex is_enclosed other_solid mask_in solid
  b_worded =
      record {
        vertices = λ i. omega arith;
        faces = λ f. omega arith;
        others = λ f. omega arith;
        number = λ i h. rw (lt-leb i (verts_a s) (omega arith));
        inside = λ i h. rw (lt-leb i (verts_a s) (omega arith));
      }

  -- by its number
  pub vertex_of : (k : ℕ) → SolidNumber k → (i : ℕ) →
      Vertex (solid (view_of s) k).vert0 ((solid (view_of s) k).vert0 + (solid (view_of s) k).verts) i ↔ VertexOf s k i
  unfolding solid
  vertex_of k h i =
      ⊎_elim
      (λ e. rw e
      (λ x. inl (refl, (a_worded.vertices i).0 x), ⊎_elim (λ y. (a_worded.vertices i).1 y.1) (λ y. absurd (omega (arith, y.0)))))
      (λ e. rw e
      (λ x. inr (refl, (b_worded.vertices i).0 x), ⊎_elim (λ y. absurd (omega (arith, y.0))) (λ y. (b_worded.vertices i).1 y.1)))
      (either h)
