-- The arrays that a scene is decoded into, store by store: what they hold afterwards, at every number. Assumes nothing.
use Rattle.std.specs.Prelude.{◌≡◌, List, ℕ, ◌+◌, ◌*◌, ◌<◌, ◌≤◌, ℤ, pos, length, get_or, set, replicate}
use Rattle.std.proofs.Common.{sym, ap, ◌∙◌, arith, get_or-set_same, get_or-set_other, length-set}
use Rattle.std.proofs.lemmas.List.{length-replicate}
use Rattle.laws.specs.Filled.{filled, filled_is}
use Rattle.laws.specs.Lists.{replicate_at}
use Rattle.scene.specs.Tables.{no_row, no_face}
use Rattle.scene.specs.Arrays.{row_in, face_in}
use Rattle.scene.specs.declared.Row.{Row}
use Rattle.scene.specs.declared.Face.{Face}

abbrev pub row_set : List ℤ → ℕ → Row → List ℤ
row_set l i p = set (set (set (set l (4 * i) p.x) (4 * i + 1) p.y) (4 * i + 2) p.z) (4 * i + 3) p.w

abbrev pub face_set : List ℕ → ℕ → Face → List ℕ
face_set l k f = set (set (set l (3 * k) f.p) (3 * k + 1) f.q) (3 * k + 2) f.r

-- ---- rows: four numbers each

made_row : {p q : Row} → p.x ≡ q.x → p.y ≡ q.y → p.z ≡ q.z → p.w ≡ q.w → p ≡ q
made_row hx hy hz hw i = record { x = hx i; y = hy i; z = hz i; w = hw i }

module _ (l : List ℤ) (n : ℕ) (p : Row) where
  abbrev l1 : List ℤ
  l1 = set l (4 * n) p.x

  abbrev l2 : List ℤ
  l2 = set l1 (4 * n + 1) p.y

  abbrev l3 : List ℤ
  l3 = set l2 (4 * n + 2) p.z

  pub row_keeps : length (row_set l n p) ≡ length l
  row_keeps = simp length-set

  -- at a place of another number, and at one of its own four
  elsewhere : (b : ℕ) → (b ≡ 4 * n → ⊥) → (b ≡ 4 * n + 1 → ⊥) → (b ≡ 4 * n + 2 → ⊥) → (b ≡ 4 * n + 3 → ⊥) →
      get_or (row_set l n p) b (pos 0) ≡ get_or l b (pos 0)
  elsewhere b h0 h1 h2 h3 =
      get_or-set_other l3 (4 * n + 3) b p.w (pos 0) h3 ∙ get_or-set_other l2 (4 * n + 2) b p.z (pos 0) h2
      ∙ get_or-set_other l1 (4 * n + 1) b p.y (pos 0) h1 ∙ get_or-set_other l (4 * n) b p.x (pos 0) h0

  pub row_same : 4 * n + 3 < length l → row_in (row_set l n p) n ≡ p
  row_same h =
      let e1 : length l1 ≡ length l = simp length-set in
      let e2 : length l2 ≡ length l = simp length-set in
      let e3 : length l3 ≡ length l = simp length-set in
      let w : get_or (row_set l n p) (4 * n + 3) (pos 0) ≡ p.w = get_or-set_same l3 (4 * n + 3) p.w (pos 0) (omega arith) in
      let z : get_or (row_set l n p) (4 * n + 2) (pos 0) ≡ p.z =
      get_or-set_other l3 (4 * n + 3) (4 * n + 2) p.w (pos 0) (λ e. omega (arith, e))
      ∙ get_or-set_same l2 (4 * n + 2) p.z (pos 0) (omega arith) in
      let y : get_or (row_set l n p) (4 * n + 1) (pos 0) ≡ p.y =
      get_or-set_other l3 (4 * n + 3) (4 * n + 1) p.w (pos 0) (λ e. omega (arith, e))
      ∙ get_or-set_other l2 (4 * n + 2) (4 * n + 1) p.z (pos 0) (λ e. omega (arith, e))
      ∙ get_or-set_same l1 (4 * n + 1) p.y (pos 0) (omega arith) in
      let x : get_or (row_set l n p) (4 * n) (pos 0) ≡ p.x =
      get_or-set_other l3 (4 * n + 3) (4 * n) p.w (pos 0) (λ e. omega (arith, e))
      ∙ get_or-set_other l2 (4 * n + 2) (4 * n) p.z (pos 0) (λ e. omega (arith, e))
      ∙ get_or-set_other l1 (4 * n + 1) (4 * n) p.y (pos 0) (λ e. omega (arith, e))
      ∙ get_or-set_same l (4 * n) p.x (pos 0) (omega arith) in
      made_row x y z w

pub row_other : (l : List ℤ) (n j : ℕ) (p : Row) → (j ≡ n → ⊥) → row_in (row_set l n p) j ≡ row_in l j
row_other l n j p d =
    let at = elsewhere l n p in
    made_row (at (4 * j) (λ e. omega (arith, e)) (λ e. omega (arith, e)) (λ e. omega (arith, e)) (λ e. omega (arith, e)))
    (at (4 * j + 1) (λ e. omega (arith, e)) (λ e. omega (arith, e)) (λ e. omega (arith, e)) (λ e. omega (arith, e)))
    (at (4 * j + 2) (λ e. omega (arith, e)) (λ e. omega (arith, e)) (λ e. omega (arith, e)) (λ e. omega (arith, e)))
    (at (4 * j + 3) (λ e. omega (arith, e)) (λ e. omega (arith, e)) (λ e. omega (arith, e)) (λ e. omega (arith, e)))

-- n rows stored over m zeros, and zeros beyond: the rows at every number
pub rows_decoded : (g : ℕ → Row) (n m : ℕ) {l : List ℤ} → l ≡ filled row_set g n (replicate m (pos 0)) → 4 * n ≤ m →
    ((j : ℕ) → n ≤ j → g j ≡ no_row) → row_in l ≡ g
rows_decoded g n m e h z =
    ap row_in e
    ∙ filled_is row_set row_in (λ i k. 4 * i + 3 < k) row_keeps row_same row_other g n (replicate m (pos 0))
    (λ i b. omega (arith, length-replicate m (pos 0)))
    (λ j b. made_row (replicate_at m (4 * j) (pos 0)) (replicate_at m (4 * j + 1) (pos 0)) (replicate_at m (4 * j + 2) (pos 0))
    (replicate_at m (4 * j + 3) (pos 0)) ∙ sym (z j b))

-- ---- faces: three numbers each

made_face : {f g : Face} → f.p ≡ g.p → f.q ≡ g.q → f.r ≡ g.r → f ≡ g
made_face hp hq hr i = record { p = hp i; q = hq i; r = hr i }

face_keeps : (l : List ℕ) (n : ℕ) (f : Face) → length (face_set l n f) ≡ length l
face_keeps l n f = simp length-set

face_same : (l : List ℕ) (n : ℕ) (f : Face) → 3 * n + 2 < length l → face_in (face_set l n f) n ≡ f
face_same l n f h =
    let l1 : List ℕ = set l (3 * n) f.p in
    let l2 : List ℕ = set l1 (3 * n + 1) f.q in
    let e1 : length l1 ≡ length l = simp length-set in
    let e2 : length l2 ≡ length l = simp length-set in
    let r : get_or (face_set l n f) (3 * n + 2) 0 ≡ f.r = get_or-set_same l2 (3 * n + 2) f.r 0 (omega arith) in
    let q : get_or (face_set l n f) (3 * n + 1) 0 ≡ f.q =
    get_or-set_other l2 (3 * n + 2) (3 * n + 1) f.r 0 (λ e. omega (arith, e)) ∙ get_or-set_same l1 (3 * n + 1) f.q 0 (omega arith) in
    let p : get_or (face_set l n f) (3 * n) 0 ≡ f.p =
    get_or-set_other l2 (3 * n + 2) (3 * n) f.r 0 (λ e. omega (arith, e))
    ∙ get_or-set_other l1 (3 * n + 1) (3 * n) f.q 0 (λ e. omega (arith, e))
    ∙ get_or-set_same l (3 * n) f.p 0 (omega arith) in
    made_face p q r

face_other : (l : List ℕ) (n j : ℕ) (f : Face) → (j ≡ n → ⊥) → face_in (face_set l n f) j ≡ face_in l j
face_other l n j f d = made_face (at (3 * j) (λ e. omega (arith, e)) (λ e. omega (arith, e)) (λ e. omega (arith, e)))
    (at (3 * j + 1) (λ e. omega (arith, e)) (λ e. omega (arith, e)) (λ e. omega (arith, e)))
    (at (3 * j + 2) (λ e. omega (arith, e)) (λ e. omega (arith, e)) (λ e. omega (arith, e)))
  where
    at : (b : ℕ) → (b ≡ 3 * n → ⊥) → (b ≡ 3 * n + 1 → ⊥) → (b ≡ 3 * n + 2 → ⊥) → get_or (face_set l n f) b 0 ≡ get_or l b 0
    at b h0 h1 h2 =
        get_or-set_other (set (set l (3 * n) f.p) (3 * n + 1) f.q) (3 * n + 2) b f.r 0 h2
        ∙ get_or-set_other (set l (3 * n) f.p) (3 * n + 1) b f.q 0 h1 ∙ get_or-set_other l (3 * n) b f.p 0 h0

pub faces_decoded : (g : ℕ → Face) (n m : ℕ) {l : List ℕ} → l ≡ filled face_set g n (replicate m 0) → 3 * n ≤ m →
    ((j : ℕ) → n ≤ j → g j ≡ no_face) → face_in l ≡ g
faces_decoded g n m e h z =
    ap face_in e
    ∙ filled_is face_set face_in (λ i k. 3 * i + 2 < k) face_keeps face_same face_other g n (replicate m 0)
    (λ i b. omega (arith, length-replicate {A = ℕ} m 0))
    (λ j b. made_face (replicate_at m (3 * j) 0) (replicate_at m (3 * j + 1) 0) (replicate_at m (3 * j + 2) 0) ∙ sym (z j b))
