-- An edge beside a face: five different points of a scene. Every four of them, and of them and a helper, can be asked for their sign.
-- Assumes nothing.
use Rattle.std.specs.Prelude.{◌≡◌, ◌≢◌, ℕ, ◌+◌, ◌-◌, ◌≤◌, ◌<◌}
use Rattle.std.proofs.Common.{sym, subst, arith}
use Rattle.scene.specs.Faces.{Vertex, FaceOf}
use Rattle.scene.specs.declared.Row.{Row}
use Rattle.scene.specs.declared.Face.{Face}
use Rattle.orient.specs.Signs.{Six, Upto, ne_sym}
use Rattle.orient.specs.Weighted.{Weighted, SignDefined}
use Rattle.pierce.specs.Formula.{helper}
use Rattle.pierce.specs.Helper.{Five, helper_found}

abbrev pub Beside : (n u v : ℕ) → Face → Type 0
Beside n u v f = Five (Upto n) u v f.p f.q f.r

-- each face of a solid of `count` faces, numbered from first + 1 on
abbrev pub BesideAll : (n u v : ℕ) → (ℕ → Face) → (first count : ℕ) → Type 0
BesideAll n u v face first count = (k : ℕ) → k < count → Beside n u v (face (first + 1 + k))

-- the first m of them, and those behind
pub beside_low : {n u v : ℕ} (face : ℕ → Face) (first m : ℕ) {count : ℕ} → m ≤ count → BesideAll n u v face first count →
    BesideAll n u v face first m
beside_low face first m l h k b = h k (omega arith)

pub beside_high : {n u v : ℕ} (face : ℕ → Face) (first m : ℕ) {count : ℕ} → BesideAll n u v face first count →
    BesideAll n u v face (first + m) (count - m)
beside_high {n} {u} {v} face first m h k b =
    let e : first + 1 + (m + k) ≡ first + m + 1 + k = omega arith in
    subst (λ (i : ℕ). Beside n u v (face i)) e (h (m + k) (omega arith))

-- an edge, a helper and a face of a scene
pub record Helped (row : ℕ → Row) (u v h : ℕ) (f : Face) : Type 0 where
  pub points : ℕ
  pub weighted : Weighted points row
  pub six : Six (Upto points) u v h f.p f.q f.r

-- where the face is one of a solid whose vertices are the points above low, up to high, and u and v are none of them
pub in_scene : {n low high i : ℕ} → high ≤ n → Vertex low high i → Upto n i
in_scene l h = omega arith

pub apart : {low high u i : ℕ} → (Vertex low high u → ⊥) → Vertex low high i → u ≢ i
apart out h e = out (rw e h)

pub beside : {n low high u v : ℕ} → high ≤ n → Upto n u → Upto n v → u ≢ v → (Vertex low high u → ⊥) → (Vertex low high v → ⊥) →
    (f : Face) → FaceOf low high f → Beside n u v f
beside l pu pv d ou ov f h = search (ne_sym, in_scene, apart)

pub beside_same : {n u v : ℕ} {f g : Face} → f ≡ g → Beside n u v g → Beside n u v f
beside_same {n} {u} {v} e h = subst (Beside n u v) (sym e) h

-- ---- the signs that the formula asks for

module _ {n u v : ℕ} {row : ℕ → Row} {f : Face} (w : Weighted n row) (d : Beside n u v f) where
  pub ask_u : SignDefined row f.p f.q f.r u
  ask_u = record { points = n; weighted = w; four = search ne_sym }

  pub ask_v : SignDefined row f.p f.q f.r v
  ask_v = record { points = n; weighted = w; four = search ne_sym }

  -- with the lowest helper
  pub helped : {h : ℕ} → 6 ≤ n → h ≡ helper n u v f → Helped row u v h f
  helped l e = record { points = n; weighted = w; six = rw e (helper_found n u v f l d) }

pub ask_rp : {u v h : ℕ} {row : ℕ → Row} {f : Face} → Helped row u v h f → SignDefined row u v f.r f.p
ask_rp k = let d = k.six in record { points = k.points; weighted = k.weighted; four = search ne_sym }
