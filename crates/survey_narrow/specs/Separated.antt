-- Narrowing: where all corners of a face lie on one side of a face that has the edge u v and a third corner x, formula (13) with the helper
-- x has H alike at them, so the edge does not pierce it. Assumes nothing.
use Rattle.std.specs.Prelude.{◌≡◌, ◌≢◌, Bool, false, not, ℕ, ◌≤◌}
use Rattle.std.proofs.Math.Path.{refl, sym}
use Rattle.std.proofs.Common.{ap, subst, ◌∙◌, inl, inr}
use Rattle.std.proofs.Math.Bool.{true}
use Rattle.std.proofs.Math.Dec.{T}
use Rattle.laws.specs.Bools.{◌⊕◌, all, ◌⇒◌, ◌≐◌, law, right}
use Rattle.scene.specs.Faces.{Corner, Vertex, FaceOf}
use Rattle.scene.specs.declared.Row.{Row}
use Rattle.scene.specs.declared.Face.{Face}
use Rattle.orient.proofs.Rules.{rules}
use Rattle.orient.specs.Signs.{Upto, mixed, ne_sym}
use Rattle.orient.specs.Terms.{positive_at}
use Rattle.orient.specs.Weighted.{Weighted}
use Rattle.pierce.specs.Beside.{Beside, in_scene, apart}
use Rattle.pierce.specs.Five.{any_helper}
use Rattle.pierce.specs.Formula.{counts, sides_count, formula, pierced}
use Rattle.pierce.specs.Scene.{scene_five}
use Rattle.survey_sides.specs.Sides.{above}

-- the face g parts the corners of f
abbrev pub parts : (ℕ → Row) → (f g : Face) → Bool
parts row f g = mixed (above row f.p g) (above row f.q g) (above row f.r g)

not_not : (a : Bool) → not (not a) ≡ false ⊕ a
not_not = law (all λ a. not (not a) ≐ false ⊕ a) tt

-- a side counts only where H differs, whatever way round the face g is
sides_part : (odd hp hq hr b c d : Bool) → T (counts hp hq b ⊕ counts hq hr c ⊕ counts hr hp d) → mixed (odd ⊕ hp) (odd ⊕ hq) (odd ⊕ hr)
    ≡ true
unfolding counts
sides_part =
    law (all λ odd. all λ hp. all λ hq. all λ hr. all λ b. all λ c. all λ d. (counts hp hq b ⊕ counts hq hr c ⊕ counts hr hp d) ⇒
    mixed (odd ⊕ hp) (odd ⊕ hq) (odd ⊕ hr) ≐ true) tt

-- a point that is no vertex of the solid above low, up to high
abbrev pub Outside : (n low high : ℕ) → ℕ → Type 0
Outside n low high t = Upto n t × (Vertex low high t → ⊥)

module _ (n : ℕ) (row : ℕ → Row) (weighted : Weighted n row) (low high : ℕ) (within : high ≤ n) where
  abbrev s : ℕ → ℕ → ℕ → ℕ → Bool
  s = positive_at row

  -- the third corner of g, and whether g's corners are an odd exchange of u, v and it
  record Third (u v : ℕ) (g : Face) : Type 0 where
    x : ℕ
    vertex : Vertex low high x
    ux : u ≢ x
    vx : v ≢ x
    odd : Bool
    turned : (t : ℕ) → Outside n low high t → above row t g ≡ odd ⊕ s u v x t

  module _ (u v x : ℕ) (hu : Vertex low high u) (hv : Vertex low high v) (hx : Vertex low high x) (uv : u ≢ v) (ux : u ≢ x)
      (vx : v ≢ x) where
    module _ (t : ℕ) (o : Upto n t) (out : Vertex low high t → ⊥) where
      ut : t ≢ u
      ut = apart out hu

      vt : t ≢ v
      vt = apart out hv

      xt : t ≢ x
      xt = apart out hx

      iu : Upto n u
      iu = in_scene within hu

      iv : Upto n v
      iv = in_scene within hv

      ix : Upto n x
      ix = in_scene within hx

      uxv : s u x v t ≡ not (s u v x t)
      uxv = (rules n row weighted).swap2 u v x t (search (ne_sym, ut, vt, xt, iu, iv, ix))

      vux : s v u x t ≡ not (s u v x t)
      vux = (rules n row weighted).swap1 u v x t (search (ne_sym, ut, vt, xt, iu, iv, ix))

      xuv : s x u v t ≡ false ⊕ s u v x t
      xuv = (rules n row weighted).swap1 u x v t (search (ne_sym, ut, vt, xt, iu, iv, ix)) ∙ ap not uxv ∙ not_not (s u v x t)

      vxu : s v x u t ≡ false ⊕ s u v x t
      vxu = (rules n row weighted).swap2 v u x t (search (ne_sym, ut, vt, xt, iu, iv, ix)) ∙ ap not vux ∙ not_not (s u v x t)

      xvu : s x v u t ≡ not (s u v x t)
      xvu = (rules n row weighted).swap2 x u v t (search (ne_sym, ut, vt, xt, iu, iv, ix)) ∙ ap not xuv

  module _ (g : Face) (of : FaceOf low high g) where
    abbrev pq : g.p ≢ g.q
    pq = of.proper.pq

    abbrev qr : g.q ≢ g.r
    qr = of.proper.qr

    abbrev rp : g.r ≢ g.p
    rp = of.proper.rp

    third_pq : Third g.p g.q g
    unfolding above
    third_pq = record { x = g.r; vertex = of.r; ux = ne_sym rp; vx = qr; odd = false; turned = λ t o. refl }

    third_pr : Third g.p g.r g
    unfolding above
    third_pr =
        record {
          x = g.q;
          vertex = of.q;
          ux = pq;
          vx = ne_sym qr;
          odd = true;
          turned = λ t o. uxv g.p g.r g.q of.p of.r of.q (ne_sym rp) pq (ne_sym qr) t o.0 o.1;
        }

    third_qp : Third g.q g.p g
    unfolding above
    third_qp =
        record {
          x = g.r;
          vertex = of.r;
          ux = qr;
          vx = ne_sym rp;
          odd = true;
          turned = λ t o. vux g.q g.p g.r of.q of.p of.r (ne_sym pq) qr (ne_sym rp) t o.0 o.1;
        }

    third_qr : Third g.q g.r g
    unfolding above
    third_qr =
        record {
          x = g.p;
          vertex = of.p;
          ux = ne_sym pq;
          vx = rp;
          odd = false;
          turned = λ t o. xuv g.q g.r g.p of.q of.r of.p qr (ne_sym pq) rp t o.0 o.1;
        }

    third_rp : Third g.r g.p g
    unfolding above
    third_rp =
        record {
          x = g.q;
          vertex = of.q;
          ux = ne_sym qr;
          vx = pq;
          odd = false;
          turned = λ t o. vxu g.r g.p g.q of.r of.p of.q rp (ne_sym qr) pq t o.0 o.1;
        }

    third_rq : Third g.r g.q g
    unfolding above
    third_rq =
        record {
          x = g.p;
          vertex = of.p;
          ux = rp;
          vx = ne_sym pq;
          odd = true;
          turned = λ t o. xvu g.r g.q g.p of.r of.q of.p (ne_sym qr) rp (ne_sym pq) t o.0 o.1;
        }

    third : (u v : ℕ) → u ≢ v → Corner u g → Corner v g → Third u v g
    third u v d (inl a) (inl b) = absurd (d (sym a ∙ b))
    third u v d (inl a) (inr (inl b)) = subst (λ (i : ℕ). Third i v g) a (subst (λ (i : ℕ). Third g.p i g) b third_pq)
    third u v d (inl a) (inr (inr b)) = subst (λ (i : ℕ). Third i v g) a (subst (λ (i : ℕ). Third g.p i g) b third_pr)
    third u v d (inr (inl a)) (inl b) = subst (λ (i : ℕ). Third i v g) a (subst (λ (i : ℕ). Third g.q i g) b third_qp)
    third u v d (inr (inl a)) (inr (inl b)) = absurd (d (sym a ∙ b))
    third u v d (inr (inl a)) (inr (inr b)) = subst (λ (i : ℕ). Third i v g) a (subst (λ (i : ℕ). Third g.q i g) b third_qr)
    third u v d (inr (inr a)) (inl b) = subst (λ (i : ℕ). Third i v g) a (subst (λ (i : ℕ). Third g.r i g) b third_rp)
    third u v d (inr (inr a)) (inr (inl b)) = subst (λ (i : ℕ). Third i v g) a (subst (λ (i : ℕ). Third g.r i g) b third_rq)
    third u v d (inr (inr a)) (inr (inr b)) = absurd (d (sym a ∙ b))

    -- so a pierced face is parted by each face at the edge
    module _ (u v : ℕ) (f : Face) (six : 6 ≤ n) (d : Beside n u v f) (hp : Vertex low high f.p → ⊥) (hq : Vertex low high f.q → ⊥)
        (hr : Vertex low high f.r → ⊥) where
      pub pierced_parts : Corner u g → Corner v g → pierced n row u v f ≡ true → parts row f g ≡ true
      unfolding formula sides_count
      pierced_parts cu cv e =
          let k = third u v d.uv cu cv in
          let i : Upto n k.x = in_scene within k.vertex in
          let xp : f.p ≢ k.x = apart hp k.vertex in
          let xq : f.q ≢ k.x = apart hq k.vertex in
          let xr : f.r ≢ k.x = apart hr k.vertex in
          let a : formula s u v k.x f.p f.q f.r ≡ true =
          any_helper n s (rules n row weighted) u v k.x f.p f.q f.r (search ne_sym)
          ∙ sym (scene_five n row weighted u v f six d) ∙ e in
          (λ j. mixed (k.turned f.p (d.p_in, hp) j) (k.turned f.q (d.q_in, hq) j) (k.turned f.r (d.r_in, hr) j))
          ∙ sides_part k.odd (s u v k.x f.p) (s u v k.x f.q) (s u v k.x f.r) (s u v f.p f.q)
          (s u v f.q f.r) (s u v f.r f.p)
          (right (s f.p f.q f.r u ⊕ s f.p f.q f.r v) _ (subst T (sym a) tt))
