-- An edge and a face whose plane parts its ends, a candidate: three signs tell whether the face is pierced. No other face is. Assumes
-- nothing.
use Rattle.std.specs.Prelude.{◌≡◌, Bool, true, false, ◌&&◌, ℕ, ◌+◌, ◌*◌, ◌-◌, ◌≤◌, ◌<◌}
use Rattle.std.proofs.Math.Path.{sym, ap, ap₂}
use Rattle.std.proofs.Common.{◌∙◌, arith}
use Rattle.std.proofs.Math.Bool.{not}
use Rattle.std.specs.Bool.{beq}
use Rattle.std.specs.Int.Bits.{bit_xor}
use Rattle.laws.specs.Bools.{◌⊕◌, all, ◌≐◌, law, differ, alike, unlike}
use Rattle.laws.specs.Mask.{mask_of, xor_masks, mask_same}
use Rattle.scene.specs.Limits.{limits}
use Rattle.scene.specs.declared.Row.{Row}
use Rattle.scene.specs.declared.Face.{Face}
use Rattle.orient.proofs.Rules.{rules}
use Rattle.orient.specs.Signs.{mixed, ne_sym}
use Rattle.orient.specs.Terms.{positive_at}
use Rattle.orient.specs.Weighted.{Weighted, SignDefined}
use Rattle.pierce.specs.Beside.{Beside, BesideAll, beside_low, beside_high}
use Rattle.pierce_masks.specs.Faces.{mask_by, value_of}
use Rattle.pierce.specs.Against.{mask_against}
use Rattle.pierce.specs.Five.{hits}
use Rattle.pierce.specs.Formula.{formula, pierces, pierced}
use Rattle.pierce.specs.Scene.{scene_five}
use Rattle.pierce_masks.specs.declared.Mask.{Mask}
use Rattle.survey_sides.specs.Candidates.{kept, AtEach, kept_mask, each_mask}
use Rattle.survey_sides.specs.Sides.{above, sides_of, low_of, high_of, words_value, first64}

-- seen along the edge from u to v, q has p and r on different hands, and so has r p and q
unfoldable pub crosses : (ℕ → ℕ → ℕ → ℕ → Bool) → (u v : ℕ) → Face → Bool
crosses s u v f = (s u v f.q f.p ⊕ s u v f.q f.r) && (s u v f.q f.r ⊕ s u v f.p f.r)

-- ---- the three signs, one after the other, as the code asks them

-- an edge beside a face, in a scene of some number of points
pub record Faced (row : ℕ → Row) (u v : ℕ) (f : Face) : Type 0 where
  pub points : ℕ
  pub weighted : Weighted points row
  pub beside : Beside points u v f

module _ {row : ℕ → Row} {u v : ℕ} {f : Face} (k : Faced row u v f) where
  pub ask_qp : SignDefined row u v f.q f.p
  ask_qp = let d = k.beside in record { points = k.points; weighted = k.weighted; four = search ne_sym }

  pub ask_qr : SignDefined row u v f.q f.r
  ask_qr = let d = k.beside in record { points = k.points; weighted = k.weighted; four = search }

  pub ask_pr : SignDefined row u v f.p f.r
  ask_pr = let d = k.beside in record { points = k.points; weighted = k.weighted; four = search }

module _ (s : ℕ → ℕ → ℕ → ℕ → Bool) (u v : ℕ) (f : Face) {qp qr : Bool} (x : qp ≡ s u v f.q f.p) (y : qr ≡ s u v f.q f.r) where
  pub one_hand : beq qp qr ≡ true → false ≡ crosses s u v f
  unfolding crosses
  one_hand e = rw (← x, ← y, alike qp qr e)

  module _ {pr : Bool} (z : pr ≡ s u v f.p f.r) where
    pub other_hand : beq qp qr ≡ false → not (beq qr pr) ≡ crosses s u v f
    unfolding crosses
    other_hand e = rw (← x, ← y, ← z, unlike qp qr e) (differ qr pr)

-- ---- where the ends lie on different sides this is piercing

round : (a b c : Bool) → (not a ⊕ b) && (b ⊕ not c) ≡ not (mixed a b c)
round = law (all λ a. all λ b. all λ c. (not a ⊕ b) && (b ⊕ not c) ≐ not (mixed a b c)) tt

twice : (a b : Bool) → (a && (a && b)) ≡ (a && b)
twice = law (all λ a. all λ b. a && (a && b) ≐ a && b) tt

module _ (n : ℕ) (row : ℕ → Row) (w : Weighted n row) (l : 6 ≤ n) (u v : ℕ) (f : Face) (d : Beside n u v f) where
  abbrev s : ℕ → ℕ → ℕ → ℕ → Bool
  s = positive_at row

  crosses_alike : crosses s u v f ≡ not (mixed (s u v f.p f.q) (s u v f.q f.r) (s u v f.r f.p))
  unfolding crosses
  crosses_alike =
      ap₂ (λ (x y : Bool). (x ⊕ s u v f.q f.r) && (s u v f.q f.r ⊕ y)) ((rules n row w).swap3 u v f.p f.q (search))
      ((rules n row w).swap3 u v f.r f.p (search ne_sym)) ∙ round (s u v f.p f.q) (s u v f.q f.r) (s u v f.r f.p)

  pub crosses_pierced : above row u f ⊕ above row v f ≡ true → crosses s u v f ≡ pierced n row u v f
  unfolding above hits
  crosses_pierced e = crosses_alike ∙ ap (λ (a : Bool). a && not (mixed (s u v f.p f.q) (s u v f.q f.r) (s u v f.r f.p)))
      (sym e) ∙ sym (scene_five n row w u v f l d)

-- where they do not, the face is not pierced
pub pierced_differs : (n : ℕ) (row : ℕ → Row) (u v : ℕ) (f : Face) → (above row u f ⊕ above row v f) && pierced n row u v f
    ≡ pierced n row u v f
unfolding above pierces formula
pierced_differs n row u v f = twice (above row u f ⊕ above row v f) _

-- ---- the candidates

pub differs_same : (row : ℕ → Row) (u v : ℕ) {f g : Face} → f ≡ g → above row u g ⊕ above row v g ≡ true → above row u f ⊕ above row v f
    ≡ true
differs_same row u v e h = ap (λ (f : Face). above row u f ⊕ above row v f) e ∙ h

-- a digit of their word: a face of the scene that the edge is beside, and whose plane parts its ends
pub record Candidate (n : ℕ) (row : ℕ → Row) (face : ℕ → Face) (u v first k : ℕ) : Type 0 where
  pub small : k < 64
  pub number : first + 1 + k ≤ 2 * limits.most_faces
  pub beside : Beside n u v (face (first + 1 + k))
  pub differs : above row u (face (first + 1 + k)) ⊕ above row v (face (first + 1 + k)) ≡ true

abbrev pub Candidates : ℕ → (ℕ → Row) → (ℕ → Face) → (u v first w : ℕ) → Type 0
Candidates n row face u v first = AtEach (Candidate n row face u v first)

-- of those in a word, the pierced
abbrev pub crossed_of : ℕ → (ℕ → Row) → (ℕ → Face) → (u v first w : ℕ) → ℕ
crossed_of n row face u v first = kept (λ k. pierced n row u v (face (first + 1 + k)))

-- the words of u and v, for so few faces that one word holds them
module _ (n : ℕ) (row : ℕ → Row) (face : ℕ → Face) (u v first count : ℕ) {x y : ℕ}
    (p : x ≡ mask_by (above row u) face first count) (q : y ≡ mask_by (above row v) face first count) (room : count ≤ 64) where
  abbrev differs : ℕ → Bool
  differs k = above row u (face (first + 1 + k)) ⊕ above row v (face (first + 1 + k))

  differ_word : bit_xor x y ≡ mask_of differs count
  differ_word = ap₂ bit_xor p q ∙ xor_masks _ _ count

  pub candidates : ((j : ℕ) → j < count → first + 1 + j ≤ 2 * limits.most_faces) → BesideAll n u v face first count →
      Candidates n row face u v first (bit_xor x y)
  candidates h d =
      each_mask (Candidate n row face u v first) differs count room differ_word
      (λ j b e. record { small = omega arith; number = h j b; beside = d j b; differs = e })

  pub word_told : {z : ℕ} → z ≡ crossed_of n row face u v first (bit_xor x y) → z ≡ mask_against n row face u v first count
  word_told o =
      o ∙ kept_mask (λ k. pierced n row u v (face (first + 1 + k))) differs count room differ_word
      ∙ mask_same _ _ count (λ k b. pierced_differs n row u v (face (first + 1 + k)))

-- the two words of u and v, and what is crossed of their candidates
module _ (n : ℕ) (row : ℕ → Row) (face : ℕ → Face) (u v first count : ℕ) {a b : Mask}
    (p : a ≡ sides_of row face first count u) (q : b ≡ sides_of row face first count v) where
  module _ (within : first + count ≤ 2 * limits.most_faces) (most : count ≤ limits.most_faces) where
    module _ (d : BesideAll n u v face first count) where
      pub candidates_low : Candidates n row face u v first (bit_xor a.low b.low)
      candidates_low =
          candidates n row face u v first (first64 count) (low_of _ _ _ _ p) (low_of _ _ _ _ q) (omega arith) (λ j b. omega arith)
          (beside_low face first (first64 count) (omega arith) d)

      pub candidates_high : Candidates n row face u v (first + 64) (bit_xor a.high b.high)
      candidates_high =
          candidates n row face u v (first + 64) (count - 64) (high_of _ _ _ _ p) (high_of _ _ _ _ q) (omega arith) (λ j b. omega arith)
          (beside_high face first 64 d)

    pub masks_told : {r : Mask} → r.low ≡ crossed_of n row face u v first (bit_xor a.low b.low) →
        r.high ≡ crossed_of n row face u v (first + 64) (bit_xor a.high b.high) → value_of r ≡ mask_against n row face u v first count
    masks_told x y =
        words_value (pierced n row u v) face first count
        (word_told n row face u v first (first64 count) (low_of _ _ _ _ p) (low_of _ _ _ _ q) (omega arith) x)
        (word_told n row face u v (first + 64) (count - 64) (high_of _ _ _ _ p) (high_of _ _ _ _ q) (omega arith) y)
