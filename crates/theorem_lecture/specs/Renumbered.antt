-- The numbers of the points enter by the shift alone, which breaks ties. With the points numbered in another way, as where A and B are
-- exchanged, an edge and a face with no tie between them pierce as before, and so a mask is the same. In a clean scene there is no tie at
-- all. Assumes nothing.
use Rattle.std.specs.Prelude.{◌≡◌, ◌≢◌, ◌&&◌, ℕ, ◌+◌, ◌≤◌, ◌<◌, ℤ, pos}
use Rattle.std.proofs.Common.{sym, ap, ◌∙◌}
use Rattle.std.proofs.Math.Bool.{not}
use Rattle.laws.specs.Bools.{◌⊕◌}
use Rattle.laws.specs.Mask.{mask_same}
use Rattle.laws.specs.Sign.{sign}
use Rattle.scene.specs.declared.Row.{Row}
use Rattle.scene.specs.declared.Face.{Face}
use Rattle.orient.specs.Determinant.{det4}
use Rattle.orient.specs.Signs.{Upto, Four, ne_sym, mixed}
use Rattle.orient.proofs.Rules.{rules}
use Rattle.orient.specs.Terms.{c0, is_plus, point_at, positive_at}
use Rattle.orient.specs.Weighted.{Weighted}
use Rattle.pierce.specs.Beside.{Beside}
use Rattle.pierce.specs.Against.{mask_against}
use Rattle.pierce.specs.Five.{hits, hits_face, by_five}
use Rattle.pierce.specs.Formula.{pierced}
use Rattle.clean.specs.Clean.{Clean, c0_rows}
use Rattle.theorem_lecture.specs.Signs.{by_c0}

-- the number of each of n points in the other way: no two are given the same, and each keeps its row
pub record Renumbering (n : ℕ) (to : ℕ → ℕ) (row row' : ℕ → Row) : Type 0 where
  pub into : (i : ℕ) → Upto n i → Upto n (to i)
  pub apart : (i j : ℕ) → Upto n i → Upto n j → i ≢ j → to i ≢ to j
  pub rows : (i : ℕ) → Upto n i → row' (to i) ≡ row i

abbrev pub renamed : (ℕ → ℕ) → Face → Face
renamed to f = record { p = to f.p; q = to f.q; r = to f.r }

-- four points with no tie; and an edge u, v and a face f with none, at the five signs that are asked of them
abbrev pub NoTie : (ℕ → Row) → (a b c d : ℕ) → Type 0
NoTie row a b c d = c0 (point_at row a) (point_at row b) (point_at row c) (point_at row d) ≢ pos 0

pub record Untied (row : ℕ → Row) (u v : ℕ) (f : Face) : Type 0 where
  pub face_u : NoTie row f.p f.q f.r u
  pub face_v : NoTie row f.p f.q f.r v
  pub side_pq : NoTie row u v f.p f.q
  pub side_qr : NoTie row u v f.q f.r
  pub side_rp : NoTie row u v f.r f.p

pub clean_untied : (n : ℕ) (row : ℕ → Row) → Clean n row → (u v : ℕ) (f : Face) → Beside n u v f → Untied row u v f
clean_untied n row clean u v f d =
    record {
      face_u = clean f.p f.q f.r u (search ne_sym);
      face_v = clean f.p f.q f.r v (search ne_sym);
      side_pq = clean u v f.p f.q (search ne_sym);
      side_qr = clean u v f.q f.r (search ne_sym);
      side_rp = clean u v f.r f.p (search ne_sym);
    }

module _ (n : ℕ) (to : ℕ → ℕ) (row row' : ℕ → Row) (h : Renumbering n to row row') where
  module _ (a b c d : ℕ) (f : Four (Upto n) a b c d) (untied : NoTie row a b c d) where
    det_same : det4 (row' (to a)) (row' (to b)) (row' (to c)) (row' (to d)) ≡ det4 (row a) (row b) (row c) (row d)
    det_same = λ i. det4 (h.rows a f.a_in i) (h.rows b f.b_in i) (h.rows c f.c_in i) (h.rows d f.d_in i)

    sign_same : positive_at row' (to a) (to b) (to c) (to d) ≡ positive_at row a b c d
    sign_same =
        by_c0 row' (to a) (to b) (to c) (to d)
        (λ z. untied (c0_rows row a b c d ∙ sym det_same ∙ sym (c0_rows row' (to a) (to b) (to c) (to d)) ∙ z))
        ∙ ap (λ (z : ℤ). is_plus (sign z)) det_same ∙ sym (by_c0 row a b c d untied)

  beside_renamed : (u v : ℕ) (f : Face) → Beside n u v f → Beside n (to u) (to v) (renamed to f)
  beside_renamed u v f d =
      record {
        u_in = h.into u d.u_in;
        v_in = h.into v d.v_in;
        p_in = h.into f.p d.p_in;
        q_in = h.into f.q d.q_in;
        r_in = h.into f.r d.r_in;
        uv = h.apart u v d.u_in d.v_in d.uv;
        up = h.apart u f.p d.u_in d.p_in d.up;
        uq = h.apart u f.q d.u_in d.q_in d.uq;
        ur = h.apart u f.r d.u_in d.r_in d.ur;
        vp = h.apart v f.p d.v_in d.p_in d.vp;
        vq = h.apart v f.q d.v_in d.q_in d.vq;
        vr = h.apart v f.r d.v_in d.r_in d.vr;
        pq = h.apart f.p f.q d.p_in d.q_in d.pq;
        pr = h.apart f.p f.r d.p_in d.r_in d.pr;
        qr = h.apart f.q f.r d.q_in d.r_in d.qr;
      }

  hits_same : (u v : ℕ) (f : Face) → Beside n u v f → Untied row u v f →
      hits_face (positive_at row') (to u) (to v) (renamed to f) ≡ hits_face (positive_at row) u v f
  unfolding hits
  hits_same u v f d t =
      let e1 = sign_same f.p f.q f.r u (search ne_sym) t.face_u in
      let e2 = sign_same f.p f.q f.r v (search ne_sym) t.face_v in
      let e3 = sign_same u v f.p f.q (search ne_sym) t.side_pq in
      let e4 = sign_same u v f.q f.r (search ne_sym) t.side_qr in
      let e5 = sign_same u v f.r f.p (search ne_sym) t.side_rp in
      λ i. (e1 i ⊕ e2 i) && not (mixed (e3 i) (e4 i) (e5 i))

  module _ (enough : 6 ≤ n) (weighted : Weighted n row) (weighted' : Weighted n row') where
    pub pierced_renamed : (u v : ℕ) (f : Face) → Beside n u v f → Untied row u v f →
        pierced n row' (to u) (to v) (renamed to f) ≡ pierced n row u v f
    pierced_renamed u v f d t =
        by_five n (positive_at row') (rules n row' weighted') (to u) (to v) (renamed to f) enough (beside_renamed u v f d)
        ∙ hits_same u v f d t ∙ sym (by_five n (positive_at row) (rules n row weighted) u v f enough d)

    -- the mask against a solid whose faces, in the same order, are numbered from first' + 1 on
    pub mask_renamed : (face face' : ℕ → Face) (first first' count u v : ℕ) →
        ((i : ℕ) → i < count → Beside n u v (face (first + 1 + i))) → ((i : ℕ) → i < count → Untied row u v (face (first + 1 + i))) →
        ((i : ℕ) → i < count → face' (first' + 1 + i) ≡ renamed to (face (first + 1 + i))) →
        mask_against n row' face' (to u) (to v) first' count ≡ mask_against n row face u v first count
    mask_renamed face face' first first' count u v d t e =
        mask_same (λ i. pierced n row' (to u) (to v) (face' (first' + 1 + i))) (λ i. pierced n row u v (face (first + 1 + i))) count
        (λ i b. ap (pierced n row' (to u) (to v)) (e i b) ∙ pierced_renamed u v (face (first + 1 + i)) (d i b) (t i b))
