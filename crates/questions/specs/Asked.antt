-- What a question that is not refused says of its numbers. Assumes nothing.
use Rattle.std.specs.Prelude.{◌≡◌, ◌≢◌, Bool, true, false, ℕ, ◌+◌, leb, Ok}
use Rattle.std.proofs.Math.Path.{refl}
use Rattle.std.proofs.Common.{arith}
use borrow.Author.Tests.{not-true, leb-true, leb-false}
use Rattle.laws.specs.Decides.{and_iff, differ_iff, fails_iff, decides}
use Rattle.scene.specs.Faces.{Vertex, is_corner}
use Rattle.scene.specs.View.{View, verts, points, faces, solid}
use Rattle.scene.specs.View.Laws.{solid_a_law, solid_b_law}
use Rattle.scene.specs.declared.Solid.{Solid}
use Rattle.judge.specs.Laws.{rule_ok, rule_rest}
use Rattle.judge.specs.Tests.{within_iff}
use Rattle.orient.specs.Signs.{Upto, Four}
use Rattle.questions.specs.Answers.{is_point, is_vertex, is_face, is_vertex_of, are_points, differ, sign_fault, ends_off_face, edge_and_face}
use Rattle.questions.specs.Answers.{pierces_fault, edge_and_solid, ends_off_solid, mask_fault, other_solid, enclosed_fault}

-- i is none of the solid's vertices
abbrev pub NotOf : Solid → ℕ → Type 0
NotOf o i = Vertex o.vert0 (o.vert0 + o.verts) i → ⊥

module _ (v : View) where
  point_upto : (i : ℕ) → is_point v i ≡ true → Upto (points v) i
  unfolding is_point
  point_upto i e = (within_iff 1 (points v) i).0 e

  pub sign_four : (a b c d : ℕ) → sign_fault v a b c d ≡ Ok tt → Four (Upto (points v)) a b c d
  unfolding sign_fault are_points differ
  sign_four a b c d h =
      let p = rule_ok _ _ _ h in
      let q = rule_ok _ _ _ (rule_rest _ _ _ h) in
      let x = simp and_iff at p in
      let y = simp decides at q in
      record {
        a_in = point_upto a x.0;
        b_in = point_upto b x.1.0;
        c_in = point_upto c x.1.1.0;
        d_in = point_upto d x.1.1.1;
        ab = y.0;
        ac = y.1.0;
        ad = y.1.1.0;
        bc = y.1.1.1.0;
        bd = y.1.1.1.1.0;
        cd = y.1.1.1.1.1;
      }

  -- two points beside face f
  pub record Ends (u w f : ℕ) : Type 0 where
    pub u_point : Upto (points v) u
    pub w_point : Upto (points v) w
    pub is_face_law : Upto (faces v) f
    pub differ : u ≢ w
    pub u_out : is_corner u (v.face f) ≡ false
    pub w_out : is_corner w (v.face f) ≡ false

  pub pierces_ends : (u w f : ℕ) → pierces_fault v u w f ≡ Ok tt → Ends u w f
  unfolding pierces_fault edge_and_face ends_off_face is_face
  pierces_ends u w f h =
      let x = (and_iff _ _).0 (rule_ok _ _ _ h) in
      let y = (and_iff _ _).0 x.1 in
      let p = (and_iff _ _).0 (rule_ok _ _ _ (rule_rest _ _ _ h)) in
      let q = (and_iff _ _).0 p.1 in
      record {
        u_point = point_upto u x.0;
        w_point = point_upto w y.0;
        is_face_law = (within_iff 1 (faces v) f).0 y.1;
        differ = (differ_iff u w).0 p.0;
        u_out = not-true _ q.0;
        w_out = not-true _ q.1;
      }

  -- two points that are none of the solid's vertices
  pub record Outside (u w k : ℕ) : Type 0 where
    pub u_point : Upto (points v) u
    pub w_point : Upto (points v) w
    pub differ : u ≢ w
    pub u_out : NotOf (solid v k) u
    pub w_out : NotOf (solid v k) w

  not_vertex : (k i : ℕ) → is_vertex_of v k i ≡ false → NotOf (solid v k) i
  unfolding is_vertex_of
  not_vertex k i e w = (fails_iff _ (within_iff ((solid v k).vert0 + 1) ((solid v k).vert0 + (solid v k).verts) i)).0 e (omega arith)

  pub mask_outside : (u w k : ℕ) → mask_fault v u w k ≡ Ok tt → Outside u w k
  unfolding mask_fault edge_and_solid ends_off_solid
  mask_outside u w k h =
      let x = (and_iff _ _).0 (rule_ok _ _ _ h) in
      let p = (and_iff _ _).0 (rule_ok _ _ _ (rule_rest _ _ _ h)) in
      let q = (and_iff _ _).0 p.1 in
      record {
        u_point = point_upto u x.0;
        w_point = point_upto w ((and_iff _ _).0 x.1).0;
        differ = (differ_iff u w).0 p.0;
        u_out = not_vertex k u (not-true _ q.0);
        w_out = not_vertex k w (not-true _ q.1);
      }

  pub enclosed_vertex_law : (i : ℕ) → enclosed_fault v i ≡ Ok tt → Upto (verts v) i
  unfolding enclosed_fault is_vertex
  enclosed_vertex_law i h = (within_iff 1 (verts v) i).0 (rule_ok _ _ _ h)

  -- a vertex and the far point are none of the other solid's
  pub far_outside : (i : ℕ) {n k : ℕ} → Upto (verts v) i → n ≡ points v → k ≡ other_solid v i → Outside i n k
  unfolding other_solid
  far_outside i {n} {k} h e d = by (leb i v.verts_a) refl
    where
      told : {o : Solid} → solid v k ≡ o → NotOf o i → NotOf o n → Outside i n k
      told is a b = record { u_point = omega arith; w_point = omega arith; differ = omega arith; u_out = rw is a; w_out = rw is b }

      by : (b : Bool) → leb i v.verts_a ≡ b → Outside i n k
      by true t =
          let l = leb-true i v.verts_a t in
          let k2 : k ≡ 2 = rw t at d in
          told (solid_b_law v (omega arith)) (λ w. omega arith) (λ w. omega arith)
      by false t =
          let l = leb-false i v.verts_a t in
          let k1 : k ≡ 1 = rw t at d in
          told (solid_a_law v k1) (λ w. omega arith) (λ w. omega arith)
