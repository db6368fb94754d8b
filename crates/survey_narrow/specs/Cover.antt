-- The faces of one solid whose planes part the corners of a face of the other, the faces at an edge, and the candidates that each of those
-- parts: a pierced face is among them. Assumes nothing.
use Rattle.std.specs.Prelude.{◌≡◌, refl, Bool, true, false, ◌&&◌, List, ℕ, zero, suc, ◌+◌, ◌-◌, ◌*◌, ◌^◌, ◌≤◌, ◌<◌, eqb}
use Rattle.std.proofs.Common.{ap₂, subst, ◌∙◌, add_comm, arith, eq-eqb}
use Rattle.std.specs.Int.Bits.{bit_and, bit_or, bit_xor}
use Rattle.std.proofs.lemmas.Nat.{and_block}
use Rattle.laws.specs.Decides.{and_iff}
use Rattle.laws.specs.Bools.{◌⊕◌}
use Rattle.laws.specs.Mask.{digit, mask_of, mask_lt, or_masks, xor_masks, mask_same}
use Rattle.scene.specs.Faces.{Vertex, FaceOf, corner_iff, is_corner}
use Rattle.scene.specs.declared.Row.{Row}
use Rattle.scene.specs.declared.Face.{Face}
use Rattle.orient.specs.Signs.{mixed}
use Rattle.orient.specs.Weighted.{Weighted}
use Rattle.pierce.specs.Beside.{Beside}
use Rattle.pierce.specs.Formula.{pierced}
use Rattle.pierce_masks.specs.declared.Mask.{Mask}
use Rattle.survey_sides.specs.Sides.{above, sides_of, masks_by, first64}
use Rattle.survey_sides.specs.Tables.{mask_in}
use Rattle.survey_narrow.specs.Separated.{parts, pierced_parts}

-- ---- the faces that part a face's corners, from the words of the corners

abbrev pub cut_of : (p q r : Mask) → Mask
cut_of p q r =
    record {
      low = bit_or (bit_xor p.low q.low) (bit_xor q.low r.low);
      high = bit_or (bit_xor p.high q.high) (bit_xor q.high r.high);
    }

unfoldable pub cut_in : List ℕ → Face → Mask
cut_in words f = cut_of (mask_in words f.p) (mask_in words f.q) (mask_in words f.r)

cut_word : (g h k : ℕ → Bool) (n : ℕ) → bit_or (bit_xor (mask_of g n) (mask_of h n)) (bit_xor (mask_of h n) (mask_of k n))
    ≡ mask_of (λ j. mixed (g j) (h j) (k j)) n
cut_word g h k n = ap₂ bit_or (xor_masks g h n) (xor_masks h k n) ∙ or_masks (λ j. g j ⊕ h j) (λ j. h j ⊕ k j) n

-- where the words are the sides of the corners
pub cut_is : (row : ℕ → Row) (face : ℕ → Face) (first count : ℕ) (words : List ℕ) (f : Face) → mask_in words f.p
    ≡ sides_of row face first count f.p →
    mask_in words f.q ≡ sides_of row face first count f.q → mask_in words f.r ≡ sides_of row face first count f.r →
    cut_in words f ≡ masks_by (parts row f) face first count
unfolding cut_in masks_by
cut_is row face first count words f p q r =
    (λ i. cut_of (p i) (q i) (r i))
    ∙ (λ i. record {
      low = cut_word (λ k. above row f.p (face (first + 1 + k))) (λ k. above row f.q (face (first + 1 + k)))
          (λ k. above row f.r (face (first + 1 + k))) (first64 count) i;
      high = cut_word (λ k. above row f.p (face (first + 64 + 1 + k))) (λ k. above row f.q (face (first + 64 + 1 + k)))
          (λ k. above row f.r (face (first + 64 + 1 + k))) (count - 64) i;
    })

-- ---- the faces at an edge, from the words of its ends

abbrev pub both_of : Mask → Mask → Mask
both_of a b = record { low = bit_and a.low b.low; high = bit_and a.high b.high }

digit_and : (a b : Bool) → bit_and (digit a) (digit b) ≡ digit (a && b)
digit_and true true = refl
digit_and true false = refl
digit_and false true = refl
digit_and false false = refl

and_masks : (g h : ℕ → Bool) (n : ℕ) → bit_and (mask_of g n) (mask_of h n) ≡ mask_of (λ k. g k && h k) n
unfolding mask_of
and_masks g h zero = refl
and_masks g h (suc n) =
    ap₂ bit_and (add_comm (mask_of g n) (digit (g n) * 2 ^ n)) (add_comm (mask_of h n) (digit (h n) * 2 ^ n))
    ∙ and_block n (digit (g n)) (digit (h n)) (mask_of g n) (mask_of h n) (mask_lt g n) (mask_lt h n)
    ∙ ap₂ (λ (x y : ℕ). x * 2 ^ n + y) (digit_and (g n) (h n)) (and_masks g h n)
    ∙ add_comm (digit (g n && h n) * 2 ^ n) (mask_of (λ k. g k && h k) n)

pub both_is : (face : ℕ → Face) (first count u v : ℕ) {a b : Mask} → a ≡ masks_by (is_corner u) face first count → b
    ≡ masks_by (is_corner v) face first count →
    both_of a b ≡ masks_by (λ g. is_corner u g && is_corner v g) face first count
unfolding masks_by
both_is face first count u v p q =
    (λ i. both_of (p i) (q i)) ∙ (λ i. record {
      low = and_masks (λ k. is_corner u (face (first + 1 + k))) (λ k. is_corner v (face (first + 1 + k))) (first64 count) i;
      high = and_masks (λ k. is_corner u (face (first + 64 + 1 + k))) (λ k. is_corner v (face (first + 64 + 1 + k))) (count - 64) i;
    })

-- ---- every face of the second is one of the first

abbrev pub covers : (c a : Mask) → Bool
covers c a = eqb (bit_and c.low a.low) a.low && eqb (bit_and c.high a.high) a.high

implied : (a b : Bool) → (b ≡ true → a ≡ true) → (a && b) ≡ b
implied true b h = refl
implied false true h = h refl
implied false false h = refl

cover_word : (g h : ℕ → Bool) (n : ℕ) → ((k : ℕ) → k < n → h k ≡ true → g k ≡ true) → eqb (bit_and (mask_of g n) (mask_of h n)) (mask_of h n)
    ≡ true
cover_word g h n e = eq-eqb _ _ (and_masks g h n ∙ mask_same (λ k. g k && h k) h n (λ k b. implied (g k) (h k) (e k b)))

pub cover_is : (face : ℕ → Face) (first count : ℕ) (g h : Face → Bool) {c a : Mask} → c ≡ masks_by g face first count → a
    ≡ masks_by h face first count →
    ((k : ℕ) → k < count → h (face (first + 1 + k)) ≡ true → g (face (first + 1 + k)) ≡ true) → covers c a ≡ true
unfolding masks_by
cover_is face first count g h p q e =
    (λ i. covers (p i) (q i))
    ∙ ap₂ ◌&&◌ (cover_word _ _ (first64 count) (λ k b. e k (omega arith)))
    (cover_word _ _ (count - 64) (λ k b. subst (λ (i : ℕ). h (face i) ≡ true → g (face i) ≡ true) (next k) (e (64 + k) (omega arith))))
  where
    next : (k : ℕ) → first + 1 + (64 + k) ≡ first + 64 + 1 + k
    next k = omega arith

-- ---- so a pierced face is kept

-- the solid of the edge: its vertices are above low, up to high, and its faces those above own, `owns` of them; f is a face of the other
pub record Across (n low high own owns : ℕ) (face : ℕ → Face) (f : Face) : Type 0 where
  pub within : high ≤ n
  pub faces : (j : ℕ) → j < owns → FaceOf low high (face (own + 1 + j))
  pub p : Vertex low high f.p → ⊥
  pub q : Vertex low high f.q → ⊥
  pub r : Vertex low high f.r → ⊥

pub kept_by : (n : ℕ) (row : ℕ → Row) (face : ℕ → Face) (low high own owns u v : ℕ) (f : Face) {c a : Mask} → Weighted n row → 6 ≤ n →
    Beside n u v f →
    Across n low high own owns face f → c ≡ masks_by (parts row f) face own owns → a
    ≡ masks_by (λ g. is_corner u g && is_corner v g) face own owns →
    pierced n row u v f ≡ true → covers c a ≡ true
kept_by n row face low high own owns u v f w l d x p q e =
    cover_is face own owns (parts row f) (λ g. is_corner u g && is_corner v g) p q
    (λ k b h.
    let g = face (own + 1 + k) in
    let t = (and_iff (is_corner u g) (is_corner v g)).0 h in
    pierced_parts n row w low high x.within g (x.faces k b) u v f l d x.p x.q x.r ((corner_iff u g).0 t.0)
    ((corner_iff v g).0 t.1) e)
