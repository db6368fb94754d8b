-- The tables of sides: with the planes of the other solid's faces made, the words of a solid's vertices and of the far point can be told,
-- and once they are stored they stand. Assumes nothing.
use Rattle.std.specs.Prelude.{◌≡◌, List, ℕ, ◌+◌, ◌-◌, ◌*◌, ◌≤◌, ◌<◌, ℤ, length}
use Rattle.std.proofs.Common.{sym, ap, ◌∙◌, subst, arith}
use Rattle.laws.specs.Lists.{each_run}
use Rattle.scene.specs.Limits.{limits, most_points}
use Rattle.scene.specs.Faces.{FaceOf}
use Rattle.scene.specs.declared.Row.{Row}
use Rattle.scene.specs.declared.Face.{Face}
use Rattle.scene.specs.declared.Solid.{Solid}
use Rattle.questions.specs.Hits.{PierceView}
use Rattle.survey_sides.specs.Sides.{sides_of, plane_in, ReadyAll, Planed, ready, ready_ends}
use Rattle.survey_sides.specs.Tables.{mask_in, words_for, ReadyFor, planes_from, planes_length, planed, masks_at, masks_kept, masks_length}
use Rattle.survey_edges.specs.Edges.{AreLinks}
use Rattle.survey_sides.specs.Lent.{SidesFilled}
use Rattle.survey_enclosed.specs.Ready.{Ready}

-- the far point as a solid of one vertex
abbrev pub far_of : ℕ → Solid → Solid
far_of n k = record { vert0 = n - 1; verts = 1; face0 = k.face0; faces = k.faces; other0 = k.other0; others = k.others }

-- the size of a table of planes
abbrev pub plane_room : ℕ
plane_room = 4 * (limits.most_faces + 1)

-- the table has the planes of the faces that the solid has opposite
pub record Made (row : ℕ → Row) (face : ℕ → Face) (k : Solid) (planes : List ℤ) : Type 0 where
  pub size : length planes ≡ plane_room
  pub has : Planed row face (plane_in planes k.other0) k.other0 k.others

-- what is at hand of the solids a and b before anything is told of b: a's links and words, and room for the planes of the faces that b has
-- opposite
pub record Begun (s : PierceView) (a b : Solid) (planes : List ℤ) (links words : List ℕ) : Type 0 where
  pub a_ready : Ready s a
  pub b_ready : Ready s b
  pub linked : AreLinks s a links
  pub told : SidesFilled s a words
  pub room : length planes ≡ plane_room

-- whatever it held before it was filled
pub made : (row : ℕ → Row) (face : ℕ → Face) (k : Solid) (before : List ℤ) {planes : List ℤ} → length before ≡ plane_room →
    k.others ≤ limits.most_faces → planes ≡ planes_from row face k.other0 k.others before → Made row face k planes
made row face k before size few e = record {
  size = ap length e ∙ planes_length row face k.other0 k.others before ∙ size;
  has = planed row face k.other0 k.others before (omega arith) e;
}

module _ (s : PierceView) (k : Solid) (r : Ready s k) where
  abbrev Planes : List ℤ → Type 0
  Planes = Made s.row s.face k

  own_ready : {planes : List ℤ} → Planes planes → ReadyFor s.row s.face (plane_in planes k.other0) k
  own_ready {planes} e i b =
      (ready_ends s.row s.face (plane_in planes k.other0) k.other0 k.others r.within.sound.weighted e.has
      (r.within.sound.outward (k.vert0 + 1 + i) (omega arith, omega arith))).0

  faces : (i : ℕ) → i < k.others → FaceOf r.low r.high (s.face (k.other0 + 1 + i))
  faces i b =
      each_run (FaceOf r.low r.high) s.face (k.other0 + 1) k.others r.closed.faces (k.other0 + 1 + i)
      (omega arith) (omega arith)

  far_ready : {planes : List ℤ} → Planes planes → ReadyFor s.row s.face (plane_in planes k.other0) (far_of s.points k)
  far_ready {planes} e i b =
      let p = r.within.sound.points in
      let at : s.points ≡ s.points - 1 + 1 + i = omega (arith, p) in
      subst (λ (t : ℕ). ReadyAll s.row s.face (plane_in planes k.other0) t k.other0 k.others) at
      (ready s.row s.face (plane_in planes k.other0) k.other0 k.others r.within.sound.weighted e.has
      r.closed.inside
      (omega (arith, p), omega arith) r.far faces)

  -- what storing the words asks for
  abbrev Storable : Solid → Type 0
  Storable f = (f.vert0 + f.verts ≤ most_points limits) × (f.other0 + f.others ≤ 2 * limits.most_faces) × (f.others ≤ limits.most_faces)

  pub own_asked : {planes : List ℤ} → Planes planes → Storable k × ReadyFor s.row s.face (plane_in planes k.other0) k
  own_asked e = let o = r.within.sound in ((o.vertices.1, o.other.0, o.other.1), own_ready e)

  pub far_asked : {planes : List ℤ} {f : Solid} → Planes planes → f ≡ far_of s.points k →
      Storable f × ReadyFor s.row s.face (plane_in planes f.other0) f
  far_asked {planes} {f} e d =
      let o = r.within.sound in
      subst (λ (g : Solid). Storable g × ReadyFor s.row s.face (plane_in planes g.other0) g) (sym d)
      ((omega (arith, o.points), o.other.0, o.other.1), far_ready e)

  -- the far point's, then those of the vertices
  pub told : (w : List ℕ) {w1 w2 : List ℕ} {f : Solid} → length w ≡ 2 * (most_points limits + 1) → f ≡ far_of s.points k →
      w1 ≡ words_for s.row s.face f w → w2 ≡ words_for s.row s.face k w1 → SidesFilled s k w2
  told w {w1} {w2} {f} h d e0 e2 =
      let p = r.within.sound.points in
      let v = r.within.sound.vertices in
      let g = sides_of s.row s.face k.other0 k.others in
      let e1 : w1 ≡ words_for s.row s.face (far_of s.points k) w = e0 ∙ ap (λ (x : Solid). words_for s.row s.face x w) d in
      let l1 : length w1 ≡ length w = ap length e1 ∙ masks_length g (s.points - 1) 1 w in
      record {
        own = λ u o. ap (λ (x : List ℕ). mask_in x u) e2 ∙ masks_at g k.vert0 k.verts w1 (omega (arith, l1, v)) u o.0 o.1;
        far =
            ap (λ (x : List ℕ). mask_in x s.points) e2
            ∙ masks_kept g k.vert0 k.verts w1 s.points (λ a b. omega (arith, r.before))
            ∙ ap (λ (x : List ℕ). mask_in x s.points) e1
            ∙ masks_at g (s.points - 1) 1 w (omega (arith, p)) s.points (omega (arith, p)) (omega arith);
      }
