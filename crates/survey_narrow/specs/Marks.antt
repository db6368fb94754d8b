-- A table of the faces that each point is a corner of, made face by face: bit i of a point's word is set where face i has it. Assumes
-- nothing.
use Rattle.std.specs.Prelude.{◌≡◌, Bool, ◌||◌, List, set}
use Rattle.std.proofs.Math.Path.{refl, ap}
use Rattle.std.proofs.Common.{sym, ap₂, subst, ◌∙◌, one-mul, add-one, eq-eqb, ne_eqb, lit<, length-set, pow_pos, shl_exact, get_or-set_same, get_or-set_other}
use Rattle.std.proofs.Math.Bool.{true, false, or-false}
use Prim.Native.Nat.{ℕ, zero, suc, ◌+◌, ◌-◌, ◌*◌, ◌^◌, ◌%◌, ◌≤◌, ◌<◌}
use Rattle.std.proofs.Math.Decide.{ℕ_discrete}
use Rattle.std.proofs.Math.Nat.{add_comm}
use native.Mathlib.Omega.{arith}
use Rattle.std.specs.Int.Bits.{bit_or, or_zero_r}
use Rattle.std.proofs.lemmas.Nat.{or_block}
use Rattle.std.proofs.Math.Dec.{eqb}
use Rattle.std.proofs.Math.ListN.{length, get_or}
use Rattle.laws.specs.Mask.{digit, mask_of, mask_lt}
use Rattle.scene.specs.Faces.{Vertex, FaceOf, is_corner}
use Rattle.scene.specs.declared.Face.{Face}
use Rattle.pierce_masks.specs.Faces.{mask_by}
use Rattle.survey_sides.specs.Sides.{first64, masks_by}
use Rattle.survey_sides.specs.Tables.{mask_in}

-- the word `at` of point c, with bit i set
unfoldable pub marked : (at i c : ℕ) → List ℕ → List ℕ
marked at i c l = set l (2 * c + at) (bit_or (get_or l (2 * c + at) 0) (2 ^ i))

-- the words `at` of a face's corners
abbrev pub face_marked : (at i : ℕ) → Face → List ℕ → List ℕ
face_marked at i f l = marked at i f.r (marked at i f.q (marked at i f.p l))

-- of the n faces above first
unfoldable pub faces_marked : (ℕ → Face) → (first at n : ℕ) → List ℕ → List ℕ
faces_marked face first at zero l = l
faces_marked face first at (suc n) l = face_marked at n (face (first + 1 + n)) (faces_marked face first at n l)

-- both words, for a solid of `count` faces
abbrev pub own_marked : (ℕ → Face) → (first count : ℕ) → List ℕ → List ℕ
own_marked face first count l = faces_marked face (first + 64) 1 (count - 64) (faces_marked face first 0 (first64 count) l)

pub faces_more : (face : ℕ → Face) (first at n : ℕ) (l : List ℕ) {m : List ℕ} {f : Face} → m ≡ faces_marked face first at n l → f
    ≡ face (first + 1 + n) →
    face_marked at n f m ≡ faces_marked face first at (n + 1) l
unfolding faces_marked
faces_more face first at n l e d = ap₂ (λ (f : Face) (m : List ℕ). face_marked at n f m) d e
    ∙ ap (λ (k : ℕ). faces_marked face first at k l) (sym (add-one n))

pub none_marked : (face : ℕ → Face) (first at : ℕ) (l : List ℕ) → l ≡ faces_marked face first at 0 l
unfolding faces_marked
none_marked face first at l = refl

-- with the bit as the code makes it
pub mark_is : (at i c : ℕ) (l : List ℕ) → i < 64 → set l (2 * c + at) (bit_or (get_or l (2 * c + at) 0) (1 * 2 ^ i % 2 ^ 64)) ≡ marked at i c l
unfolding marked
mark_is at i c l h = ap (λ (b : ℕ). set l (2 * c + at) (bit_or (get_or l (2 * c + at) 0) b))
    (shl_exact {a = 1} 1 i 64 (lit< tt) (omega arith) ∙ one-mul (2 ^ i))

-- one word holds all, or the second goes on from there
module _ (face : ℕ → Face) (first count : ℕ) (l : List ℕ) {m : List ℕ} where
  pub own_one : count ≤ 64 → m ≡ faces_marked face first 0 count l → m ≡ own_marked face first count l
  own_one h e =
      let a : first64 count ≡ count = omega arith in
      let b : count - 64 ≡ 0 = omega arith in
      e ∙ none_marked face (first + 64) 1 (faces_marked face first 0 count l)
      ∙ ap₂ (λ (x y : ℕ). faces_marked face (first + 64) 1 x (faces_marked face first 0 y l)) (sym b) (sym a)

  pub own_two : {o : List ℕ} → 64 < count → m ≡ faces_marked face first 0 64 l → o ≡ faces_marked face (first + 64) 1 (count - 64) m → o
      ≡ own_marked face first count l
  own_two h e d =
      let a : 64 ≡ first64 count = omega arith in
      d ∙ ap (faces_marked face (first + 64) 1 (count - 64)) (e ∙ ap (λ (y : ℕ). faces_marked face first 0 y l) a)

-- ---- what a place holds

marked_length : (at i c : ℕ) (l : List ℕ) → length (marked at i c l) ≡ length l
unfolding marked
marked_length at i c l = length-set l (2 * c + at) (bit_or (get_or l (2 * c + at) 0) (2 ^ i))

-- the word of t, which held w below bit i, and a at it
marked_at : (at i c t : ℕ) (l : List ℕ) (a : Bool) (w : ℕ) → w < 2 ^ i → 2 * t + at < length l → get_or l (2 * t + at) 0
    ≡ digit a * 2 ^ i + w →
    get_or (marked at i c l) (2 * t + at) 0 ≡ digit (a || eqb c t) * 2 ^ i + w
unfolding marked
marked_at at i c t l a w h r e = by (ℕ_discrete c t)
  where
    digit_one : (b : Bool) → bit_or (digit b) 1 ≡ digit (b || true)
    digit_one true = refl
    digit_one false = refl

    by : Dec (c ≡ t) → get_or (set l (2 * c + at) (bit_or (get_or l (2 * c + at) 0) (2 ^ i))) (2 * t + at) 0 ≡ digit (a || eqb c t) * 2 ^ i + w
    by (yes s) =
        ap (λ (k : ℕ). get_or (set l (2 * k + at) (bit_or (get_or l (2 * k + at) 0) (2 ^ i))) (2 * t + at) 0) s
        ∙ get_or-set_same l (2 * t + at) (bit_or (get_or l (2 * t + at) 0) (2 ^ i)) 0 r
        ∙ ap₂ bit_or e (let x : 2 ^ i ≡ 1 * 2 ^ i + 0 = omega arith in x)
        ∙ or_block i (digit a) 1 w 0 h (pow_pos i)
        ∙ ap₂ (λ (x y : ℕ). x * 2 ^ i + y) (digit_one a ∙ ap (λ (b : Bool). digit (a || b)) (sym (eq-eqb c t s))) (or_zero_r w)
    by (no d) =
        get_or-set_other l (2 * c + at) (2 * t + at) (bit_or (get_or l (2 * c + at) 0) (2 ^ i)) 0 (λ q. d (omega (arith, q)))
        ∙ e ∙ ap (λ (b : Bool). digit b * 2 ^ i + w) (sym (or-false a) ∙ ap (λ (b : Bool). a || b) (sym (ne_eqb c t d)))

marked_other : (at i c b : ℕ) (l : List ℕ) → (b ≡ 2 * c + at → ⊥) → get_or (marked at i c l) b 0 ≡ get_or l b 0
unfolding marked
marked_other at i c b l d = get_or-set_other l (2 * c + at) b (bit_or (get_or l (2 * c + at) 0) (2 ^ i)) 0 d

-- the place b is not that of a corner's word `at`
abbrev Missed : (at b : ℕ) → Face → Type 0
Missed at b f = (b ≡ 2 * f.p + at → ⊥) × (b ≡ 2 * f.q + at → ⊥) × (b ≡ 2 * f.r + at → ⊥)

low_missed : (t : ℕ) (f : Face) → Missed 1 (2 * t) f
low_missed t f = (λ q. omega (arith, q), λ q. omega (arith, q), λ q. omega (arith, q))

high_missed : (t : ℕ) (f : Face) → Missed 0 (2 * t + 1) f
high_missed t f = (λ q. omega (arith, q), λ q. omega (arith, q), λ q. omega (arith, q))

-- the point t is no vertex of the face's solid
out_missed : (at t b low high : ℕ) (f : Face) → b ≡ 2 * t + at → FaceOf low high f → (Vertex low high t → ⊥) → Missed at b f
out_missed at t b low high f e h out =
    (λ q. out (omega (arith, h.p, e, q)), λ q. out (omega (arith, h.q, e, q)), λ q. out (omega (arith, h.r, e, q)))

module _ (face : ℕ → Face) (first at : ℕ) where
  pub faces_length : (n : ℕ) (l : List ℕ) → length (faces_marked face first at n l) ≡ length l
  unfolding faces_marked
  faces_length zero l = refl
  faces_length (suc n) l =
      let f = face (first + 1 + n) in
      marked_length at n f.r _ ∙ marked_length at n f.q _ ∙ marked_length at n f.p _ ∙ faces_length n l

  -- from a word of zeros on: the faces that t is a corner of
  pub faces_at : (n t : ℕ) (l : List ℕ) → 2 * t + at < length l → get_or l (2 * t + at) 0 ≡ 0 →
      get_or (faces_marked face first at n l) (2 * t + at) 0 ≡ mask_by (is_corner t) face first n
  unfolding faces_marked mask_of is_corner
  faces_at zero t l r z = z
  faces_at (suc n) t l r z =
      let f = face (first + 1 + n) in
      let m = faces_marked face first at n l in
      let w = mask_by (is_corner t) face first n in
      let b = mask_lt (λ k. is_corner t (face (first + 1 + k))) n in
      let m1 = marked at n f.p m in
      let m2 = marked at n f.q m1 in
      let l0 : length m ≡ length l = faces_length n l in
      let l1 : length m1 ≡ length m = marked_length at n f.p m in
      let l2 : length m2 ≡ length m1 = marked_length at n f.q m1 in
      let e0 : get_or m (2 * t + at) 0 ≡ digit false * 2 ^ n + w = faces_at n t l r z ∙ omega arith in
      let e1 = marked_at at n f.p t m false w b (omega arith) e0 in
      let e2 = marked_at at n f.q t m1 (eqb f.p t) w b (omega arith) e1 in
      marked_at at n f.r t m2 (eqb f.p t || eqb f.q t) w b (omega arith) e2
      ∙ ap (λ (c : Bool). digit c * 2 ^ n + w) (regroup (eqb f.p t) (eqb f.q t) (eqb f.r t)) ∙ add_comm _ w
    where
      regroup : (a b c : Bool) → ((a || b) || c) ≡ (a || (b || c))
      regroup true b c = refl
      regroup false b c = refl

  pub faces_other : (n b : ℕ) (l : List ℕ) → ((j : ℕ) → j < n → Missed at b (face (first + 1 + j))) →
      get_or (faces_marked face first at n l) b 0 ≡ get_or l b 0
  unfolding faces_marked
  faces_other zero b l d = refl
  faces_other (suc n) b l d =
      let f = face (first + 1 + n) in
      let m = d n (omega arith) in
      marked_other at n f.r b _ m.2 ∙ marked_other at n f.q b _ m.1 ∙ marked_other at n f.p b _ m.0
      ∙ faces_other n b l (λ j h. d j (omega arith))

-- both words of a point, from zeros on
pub own_at : (face : ℕ → Face) (first count t : ℕ) (l : List ℕ) → 2 * t + 1 < length l → get_or l (2 * t) 0 ≡ 0 → get_or l (2 * t + 1) 0 ≡ 0 →
    mask_in (own_marked face first count l) t ≡ masks_by (is_corner t) face first count
unfolding masks_by
own_at face first count t l r y z =
    let m = faces_marked face first 0 (first64 count) l in
    let s : length m ≡ length l = faces_length face first 0 (first64 count) l in
    let e : 2 * t + 0 ≡ 2 * t = omega arith in
    let low : get_or (own_marked face first count l) (2 * t) 0 ≡ mask_by (is_corner t) face first (first64 count) =
    faces_other face (first + 64) 1 (count - 64) (2 * t) m (λ j h. low_missed t _)
    ∙ ap (λ (b : ℕ). get_or m b 0) (sym e) ∙ faces_at face first 0 (first64 count) t l (omega arith) (ap (λ (b : ℕ). get_or l b 0) e ∙ y) in
    let high : get_or (own_marked face first count l) (2 * t + 1) 0 ≡ mask_by (is_corner t) face (first + 64) (count - 64) =
    faces_at face (first + 64) 1 (count - 64) t m (omega arith)
    (faces_other face first 0 (first64 count) (2 * t + 1) l (λ j h. high_missed t _) ∙ z) in
    λ i. record { low = low i; high = high i }

-- a point that is no vertex of the faces' solid keeps its words
pub own_kept : (face : ℕ → Face) (first count low high t : ℕ) (l : List ℕ) →
    ((j : ℕ) → j < count → FaceOf low high (face (first + 1 + j))) → (Vertex low high t → ⊥) →
    mask_in (own_marked face first count l) t ≡ mask_in l t
own_kept face first count low high t l of out =
    let m = faces_marked face first 0 (first64 count) l in
    let near : get_or (own_marked face first count l) (2 * t) 0 ≡ get_or l (2 * t) 0 =
    faces_other face (first + 64) 1 (count - 64) (2 * t) m (λ j h. low_missed t _)
    ∙ faces_other face first 0 (first64 count) (2 * t) l
    (λ j h. out_missed 0 t (2 * t) low high _ (omega arith) (of j (omega arith)) out) in
    let next : get_or (own_marked face first count l) (2 * t + 1) 0 ≡ get_or l (2 * t + 1) 0 =
    faces_other face (first + 64) 1 (count - 64) (2 * t + 1) m (λ j h. out_missed 1 t (2 * t + 1) low high _ refl (behind j h) out)
    ∙ faces_other face first 0 (first64 count) (2 * t + 1) l (λ j h. high_missed t _) in
    λ i. record { low = near i; high = next i }
  where
    behind : (j : ℕ) → j < count - 64 → FaceOf low high (face (first + 64 + 1 + j))
    behind j h =
        let e : first + 1 + (64 + j) ≡ first + 64 + 1 + j = omega arith in
        subst (λ (i : ℕ). FaceOf low high (face i)) e (of (64 + j) (omega arith))

pub own_length : (face : ℕ → Face) (first count : ℕ) (l : List ℕ) → length (own_marked face first count l) ≡ length l
own_length face first count l = faces_length face (first + 64) 1 (count - 64) _ ∙ faces_length face first 0 (first64 count) l
