-- The word of one face's corners, and how the words of faces join to that of a vertex's neighbours. Assumes nothing.
use Rattle.std.specs.Prelude.{◌≡◌, Bool, cond, ◌&&◌, ◌||◌}
use Rattle.std.proofs.Math.Path.{refl, sym, ap₂}
use Rattle.std.proofs.Common.{◌∙◌, eq-eqb, ne_eqb}
use Rattle.std.proofs.Math.Bool.{true, false}
use Prim.Native.Nat.{ℕ, ◌+◌, ◌^◌, ◌≤◌, ◌<◌, ◌-◌}
use native.Mathlib.Omega.{arith}
use Rattle.std.proofs.Math.Decide.{ℕ_discrete}
use Rattle.std.specs.Int.Bits.{bit_or}
use Rattle.std.proofs.Math.Dec.{eqb}
use Rattle.laws.specs.Range.{any_of, over, fold, any_more}
use Rattle.laws.specs.Mask.{mask_of, or_masks, mask_none, mask_same, mask_one}
use Rattle.scene.specs.Faces.{FaceOf, is_corner, has_both}
use Rattle.scene.specs.declared.Face.{Face}
use Rattle.scene.specs.Edges.{width}

abbrev pub bit_of : (low i : ℕ) → ℕ
bit_of low i = 2 ^ (i - (low + 1))

unfoldable pub face_word : (low u : ℕ) → Face → ℕ
face_word low u f = cond (is_corner u f) (bit_or (bit_or (bit_of low f.p) (bit_of low f.q)) (bit_of low f.r)) 0

-- a test of the bit's own number
same_number : (low i m : ℕ) → low < i → eqb m (i - (low + 1)) ≡ eqb i (low + 1 + m)
same_number low i m h = go (ℕ_discrete i (low + 1 + m))
  where
    go : Dec (i ≡ low + 1 + m) → eqb m (i - (low + 1)) ≡ eqb i (low + 1 + m)
    go (yes e) = eq-eqb m (i - (low + 1)) (omega arith) ∙ sym (eq-eqb i (low + 1 + m) e)
    go (no n) = ne_eqb m (i - (low + 1)) (omega arith) ∙ sym (ne_eqb i (low + 1 + m) n)

module _ (low n : ℕ) where
  bit_is : (i : ℕ) → low < i → i ≤ low + n → bit_of low i ≡ mask_of (λ m. eqb i (low + 1 + m)) n
  bit_is i h k =
      sym (mask_one (i - (low + 1)) n (omega arith))
      ∙ mask_same (λ m. eqb m (i - (low + 1))) (λ m. eqb i (low + 1 + m)) n (λ m b. same_number low i m h)

  -- the word has a bit for each vertex that the face has with u
  pub face_word_law : (u : ℕ) (f : Face) → FaceOf low (low + n) f → face_word low u f ≡ mask_of (λ m. has_both u (low + 1 + m) f) n
  unfolding face_word has_both is_corner
  face_word_law u f ok = go (is_corner u f)
    where
      three : bit_or (bit_or (bit_of low f.p) (bit_of low f.q)) (bit_of low f.r)
          ≡ mask_of (λ m. eqb f.p (low + 1 + m) || (eqb f.q (low + 1 + m) || eqb f.r (low + 1 + m))) n
      three =
          ap₂ bit_or (ap₂ bit_or (bit_is f.p ok.p.0 ok.p.1) (bit_is f.q ok.q.0 ok.q.1) ∙ or_masks _ _ n)
          (bit_is f.r ok.r.0 ok.r.1)
          ∙ or_masks _ _ n
          ∙ mask_same _ _ n (λ m b. or_assoc (eqb f.p (low + 1 + m)) (eqb f.q (low + 1 + m)) (eqb f.r (low + 1 + m)))
        where
          or_assoc : (a b c : Bool) → ((a || b) || c) ≡ (a || (b || c))
          or_assoc true b c = refl
          or_assoc false b c = refl

      go : (b : Bool) → cond b (bit_or (bit_or (bit_of low f.p) (bit_of low f.q)) (bit_of low f.r)) 0
          ≡ mask_of (λ m. b && (eqb f.p (low + 1 + m) || (eqb f.q (low + 1 + m) || eqb f.r (low + 1 + m)))) n
      go true = three
      go false = sym (mask_none (λ m. false) n (λ m b. refl))

-- ---- face by face

module _ (face : ℕ → Face) (a low n u : ℕ) where
  -- u's neighbours by the faces from a up to i
  abbrev pub upto : ℕ → ℕ
  upto i = mask_of (λ m. any_of (λ f. has_both u (low + 1 + m) (face f)) a i) n

  pub upto_start : 0 ≡ upto a
  unfolding any_of over
  upto_start =
      sym (mask_none (λ m. any_of (λ f. has_both u (low + 1 + m) (face f)) a a) n (λ m b. nothing (λ f. has_both u (low + 1 + m) (face f))))
    where
      nothing : (p : ℕ → Bool) → fold (λ k rest. p k || rest) false a (a - a) ≡ false
      nothing p = let e : a - a ≡ 0 = omega arith in rw e

  pub upto_more : (i : ℕ) {w v : ℕ} → a ≤ i → FaceOf low (low + n) (face i) → w ≡ upto i → v ≡ face_word low u (face i) →
      bit_or w v ≡ upto (i + 1)
  upto_more i h ok e d =
      ap₂ bit_or e (d ∙ face_word_law low n u (face i) ok) ∙ or_masks _ _ n
      ∙ mask_same _ _ n (λ m b. sym (any_more (λ f. has_both u (low + 1 + m) (face f)) a i h))

pub in_word : (low n : ℕ) {f : Face} → n ≤ width → FaceOf low (low + n) f → FaceOf low (low + width) f
in_word low n h ok = omega arith
