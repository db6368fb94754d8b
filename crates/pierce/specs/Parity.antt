-- Parity: the three sides of a triangle together pierce the faces of a closed solid an even number of times, so that what is counted on the
-- way from u to v is counted on the way by w, but for an even number. Of formula (13) with the lowest helper. Assumes nothing.
use Rattle.std.specs.Prelude.{◌≡◌, ◌≢◌, Bool, true, false, not, List, ℕ, ◌+◌, ◌%◌, ◌≤◌}
use Rattle.std.proofs.Common.{sym, ap, ap₂, ◌∙◌, true≢false, arith}
use Rattle.std.specs.Int.Count.{ones}
use Rattle.laws.specs.Bools.{◌⊕◌, all, ◌⇒◌, ◌≐◌, law}
use Rattle.laws.specs.Even.{odd, odd_add}
use Rattle.laws.specs.Lists.{Each, each_map, odd_each, run}
use Rattle.laws.specs.Mask.{digit, mask_odd}
use Rattle.scene.specs.declared.Face.{Face}
use Rattle.scene.specs.Faces.{Vertex, FaceOf, EdgesOk}
use Rattle.orient.specs.Signs.{Upto, Six, ne_sym, Rules}
use Rattle.pierce.specs.Formula.{pierces}
use Rattle.pierce.specs.Five.{hits, hits_face, by_helper}
use Rattle.pierce.specs.Triangles.{two_faces, hits_back}
use Rattle.pierce_masks.specs.Faces.{mask_by, is_odd, odd_faces}
use Rattle.pierce.specs.Beside.{in_scene, apart}
use Rattle.pierce.specs.Closed.{Closed, BothWays, round, closed_sum, closed_by_edges}

-- a closed solid whose vertices are the points above low, up to high, of n
pub record Solid (n low high : ℕ) (fs : List Face) : Type 0 where
  pub inside : high ≤ n
  pub faces : Each (FaceOf low high) fs
  pub closed : Closed fs

-- by the rule of edges
pub solid_by_edges : {n low high : ℕ} (fs : List Face) → high ≤ n → Each (FaceOf low high) fs → EdgesOk fs → Solid n low high fs
solid_by_edges fs l h e = record { inside = l; faces = h; closed = closed_by_edges fs (each_map (λ f k. k.proper) fs h) e }

-- three points of n, no two the same, and none of them a vertex of the solid
pub record Triangle (n low high u v w : ℕ) : Type 0 where
  pub u_in : Upto n u
  pub v_in : Upto n v
  pub w_in : Upto n w
  pub uv : u ≢ v
  pub uw : u ≢ w
  pub vw : v ≢ w
  pub u_out : Vertex low high u → ⊥
  pub v_out : Vertex low high v → ⊥
  pub w_out : Vertex low high w → ⊥

turn : {n low high u v w : ℕ} → Triangle n low high u v w → Triangle n low high v w u
turn t = search ne_sym

swap : {n low high u v w : ℕ} → Triangle n low high u v w → Triangle n low high u w v
swap t = search ne_sym

six : {n low high u v w : ℕ} → high ≤ n → Triangle n low high u v w → (f : Face) → FaceOf low high f →
    Six (Upto n) u v w f.p f.q f.r
six l t f h = search (ne_sym, in_scene, apart)

-- three numbers of which none or two are odd
sum_even : (a b c : Bool) (x y z : ℕ) → x % 2 ≡ digit a → y % 2 ≡ digit b → z % 2 ≡ digit c → a ⊕ b ⊕ c ≡ false → (x + y + z) % 2 ≡ 0
sum_even true true true x y z p q r e = absurd (true≢false e)
sum_even true true false x y z p q r e = omega arith
sum_even true false true x y z p q r e = omega arith
sum_even true false false x y z p q r e = absurd (true≢false e)
sum_even false true true x y z p q r e = omega arith
sum_even false true false x y z p q r e = absurd (true≢false e)
sum_even false false true x y z p q r e = absurd (true≢false e)
sum_even false false false x y z p q r e = omega arith

module _ (n : ℕ) (s : ℕ → ℕ → ℕ → ℕ → Bool) (rules : Rules (Upto n) s) where
  -- by five signs
  module _ (u v w : ℕ) where
    both_ways : (f : Face) → Six (Upto n) u v w f.p f.q f.r → BothWays (λ i j. hits s i j u v w) f
    both_ways f h =
        record {
          proper = record { pq = h.pq; qr = h.qr; rp = ne_sym h.pr };
          pq = hits_back (Upto n) s rules f.p f.q u v w (search ne_sym) (search ne_sym) (search ne_sym);
          qr = hits_back (Upto n) s rules f.q f.r u v w (search ne_sym) (search ne_sym) (search ne_sym);
          rp = hits_back (Upto n) s rules f.r f.p u v w (search ne_sym) (search ne_sym) (search ne_sym);
        }

    five_parity : (fs : List Face) → Each (λ f. Six (Upto n) u v w f.p f.q f.r) fs → Closed fs →
        odd (hits_face s u v) fs ⊕ odd (hits_face s v w) fs ⊕ odd (hits_face s w u) fs ≡ false
    five_parity fs h c =
        sym (odd_add (λ f. hits_face s u v f ⊕ hits_face s v w f) (hits_face s w u) fs
        ∙ ap (λ (b : Bool). b ⊕ odd (hits_face s w u) fs) (odd_add (hits_face s u v) (hits_face s v w) fs))
        ∙ odd_each _ (round (λ i j. hits s i j u v w)) (λ f d. two_faces (Upto n) s rules u v w f.p f.q f.r d) fs h
        ∙ closed_sum (λ i j. hits s i j u v w) fs (each_map both_ways fs h) c

    back : (fs : List Face) → Each (λ f. Six (Upto n) u v w f.p f.q f.r) fs → odd (hits_face s w u) fs ≡ odd (hits_face s u w) fs
    back fs h =
        odd_each (hits_face s w u) (hits_face s u w)
        (λ f d. hits_back (Upto n) s rules w u f.p f.q f.r (search ne_sym) (search ne_sym) (search ne_sym)) fs h

  module _ {low high : ℕ} (fs : List Face) (solid : Solid n low high fs) where
    sixes : (u v w : ℕ) → Triangle n low high u v w → Each (λ f. Six (Upto n) u v w f.p f.q f.r) fs
    sixes u v w t = each_map (six solid.inside t) fs solid.faces

    same_odd : (u v w : ℕ) → Triangle n low high u v w → odd (pierces n s u v) fs ≡ odd (hits_face s u v) fs
    same_odd u v w t = odd_each _ _ (λ f d. by_helper n s rules u v f w d) fs (sixes u v w t)

    pub parity : (u v w : ℕ) → Triangle n low high u v w →
        odd (pierces n s u v) fs ⊕ odd (pierces n s v w) fs ⊕ odd (pierces n s w u) fs ≡ false
    parity u v w t =
        ap₂ ◌⊕◌ (ap₂ ◌⊕◌ (same_odd u v w t) (same_odd v w u (turn t))) (same_odd w u v (turn (turn t)))
        ∙ five_parity u v w fs (sixes u v w t) solid.closed

    pub route : (u v w : ℕ) → Triangle n low high u v w →
        odd (pierces n s u v) fs ≡ odd (pierces n s u w) fs ⊕ odd (pierces n s v w) fs
    route u v w t =
        law (all λ a. all λ b. all λ c. not (a ⊕ b ⊕ c) ⇒ a ≐ c ⊕ b) tt
        (odd (pierces n s u v) fs) (odd (pierces n s v w) fs) (odd (pierces n s w u) fs) (rw (parity u v w t) tt)
        ∙ ap (λ (b : Bool). b ⊕ odd (pierces n s v w) fs)
        (same_odd w u v (turn (turn t)) ∙ back u v w fs (sixes u v w t) ∙ sym (same_odd u w v (swap t)))

  -- the same of masks, and of whether their ones are odd in number
  module _ {low high : ℕ} (face : ℕ → Face) (first count : ℕ) (solid : Solid n low high (run face (first + 1) count)) where
    abbrev mask : (u v : ℕ) → ℕ
    mask u v = mask_by (pierces n s u v) face first count

    pub mask_parity : (u v w : ℕ) → Triangle n low high u v w → (ones (mask u v) + ones (mask v w) + ones (mask w u)) % 2 ≡ 0
    mask_parity u v w t =
        let fs = run face (first + 1) count in
        sum_even (odd (pierces n s u v) fs) (odd (pierces n s v w) fs) (odd (pierces n s w u) fs) (ones (mask u v)) (ones (mask v w))
        (ones (mask w u))
        (mask_odd (pierces n s u v) face (first + 1) count)
        (mask_odd (pierces n s v w) face (first + 1) count)
        (mask_odd (pierces n s w u) face (first + 1) count)
        (parity fs solid u v w t)

    pub mask_route : (u v w : ℕ) → Triangle n low high u v w → is_odd (mask u v) ≡ is_odd (mask u w) ⊕ is_odd (mask v w)
    mask_route u v w t =
        odd_faces (pierces n s u v) face first count
        ∙ route (run face (first + 1) count) solid u v w t
        ∙ sym (ap₂ ◌⊕◌ (odd_faces (pierces n s u w) face first count) (odd_faces (pierces n s v w) face first count))
