-- The scenes of a block one by one: at the end there is none, and else there is the one at the front and then those behind it.
-- Assumes nothing.
use Rattle.std.specs.Prelude.{◌≡◌, refl, Bool, true, false, cond, ◌&&◌, List, [], ◌∷◌, ℕ, zero, suc, ◌+◌, ◌-◌, ◌≤◌, ◌<◌, leb, length}
use Rattle.std.proofs.Common.{sym, ◌∙◌, arith, leb-true, drop_of_length-le, take_all, length-take-le}
use Rattle.std.proofs.Math.Path.{ap}
use Rattle.std.proofs.Math.ListN.{take, drop, length-drop}
use Rattle.std.proofs.Math.Seq.{take-nil, drop-drop}
use Rattle.scene.specs.Records.{length_of}
use Rattle.class_block.specs.Block.{headed, whole, size_of, scene_of, behind, scenes_in, scenes_of, end_at}

-- a scene takes a byte at least, where one is left, and no more than are left
record Within (s : List ℕ) (n : ℕ) : Type 0 where
  pub some : 0 < length s → 0 < n
  pub most : n ≤ length s

within : (s : List ℕ) → Within s (size_of s)
unfolding size_of whole
within s = go (headed s) (leb (length_of s) (length s)) refl
  where
    all : Within s (length s)
    all = record { some = λ h. h; most = omega arith }

    go : (a b : Bool) → leb (length_of s) (length s) ≡ b → Within s (cond (a && b) (length_of s) (length s))
    go true true e = record { some = λ h. omega arith; most = leb-true (length_of s) (length s) e }
    go true false e = all
    go false b e = all

pub size_most : (s : List ℕ) → size_of s ≤ length s
size_most s = (within s).most

pub size_some : (s : List ℕ) → 0 < length s → 0 < size_of s
size_some s = (within s).some

behind_shorter : (b : ℕ) (s : List ℕ) (n : ℕ) → length (b ∷ s) ≤ suc n → length (behind (b ∷ s)) ≤ n
behind_shorter b s n h = omega (arith, length-drop (size_of (b ∷ s)) (b ∷ s), size_some (b ∷ s) (omega arith), size_most (b ∷ s))

-- as many as there are bytes are enough
enough : (n m : ℕ) (s : List ℕ) → length s ≤ n → length s ≤ m → scenes_in n s ≡ scenes_in m s
unfolding scenes_in
enough zero zero s h k = refl
enough zero (suc m) [] h k = refl
enough (suc n) zero [] h k = refl
enough (suc n) (suc m) [] h k = refl
enough zero (suc m) (b ∷ s) h k = absurd (omega arith)
enough (suc n) zero (b ∷ s) h k = absurd (omega arith)
enough (suc n) (suc m) (b ∷ s) h k =
    ap (λ (l : List (List ℕ)). scene_of (b ∷ s) ∷ l) (enough n m (behind (b ∷ s)) (behind_shorter b s n h) (behind_shorter b s m k))

pub scenes_end : (s : List ℕ) → length s ≤ 0 → scenes_of s ≡ []
unfolding scenes_of scenes_in
scenes_end [] h = refl
scenes_end (b ∷ s) h = absurd (omega arith)

pub scenes_next : (s : List ℕ) → 0 < length s → scenes_of s ≡ scene_of s ∷ scenes_of (behind s)
unfolding scenes_of scenes_in
scenes_next [] h = absurd (omega arith)
scenes_next (b ∷ s) h =
    ap (λ (l : List (List ℕ)). scene_of (b ∷ s) ∷ l)
    (enough (length s) (length (behind (b ∷ s))) (behind (b ∷ s)) (behind_shorter b s (length s) (omega arith)) (omega arith))

-- no more scenes than bytes
few : (n : ℕ) (s : List ℕ) → length (scenes_in n s) ≤ n
unfolding scenes_in
few zero s = omega arith
few (suc n) [] = omega arith
few (suc n) (b ∷ s) = let h = few n (behind (b ∷ s)) in omega arith

pub scenes_few : (s : List ℕ) → length (scenes_of s) ≤ length s
unfolding scenes_of
scenes_few s = few (length s) s

-- ---- where the scene that starts at `at` ends, of n bytes that what is left begins with

module _ (block : List ℕ) (at : ℕ) where
  left : take (length block - at) (drop at block) ≡ drop at block
  left = take_all (length block - at) (drop at block) (omega (arith, length-drop at block))

  module _ {n : ℕ} (is : n ≡ size_of (take (length block - at) (drop at block))) where
    sized : n ≡ size_of (drop at block)
    sized = is ∙ ap size_of left

    pub part_fits : n ≤ length block - at
    part_fits = omega (arith, sized, size_most (drop at block), length-drop at block)

    pub part_some : at + n ≡ end_at block at
    unfolding end_at
    part_some = ap (λ (k : ℕ). at + k) sized

-- ---- the scene that starts at `at`, where a byte is left, up to its end e

module _ (block : List ℕ) (at : ℕ) (more_left : at < length block) where
  pub byte_left : 0 < length (drop at block)
  byte_left = omega (arith, length-drop at block)

  module _ (e : ℕ) (ends : e ≡ end_at block at) where
    pub end_within : (at < e) × (e ≤ length block)
    unfolding end_at
    end_within = omega (arith, ends, size_some (drop at block) byte_left, size_most (drop at block), length-drop at block)

    pub scene_here : take (e - at) (drop at block) ≡ scene_of (drop at block)
    unfolding end_at
    scene_here = let h : e - at ≡ size_of (drop at block) = omega (arith, ends) in ap (λ (n : ℕ). take n (drop at block)) h

    pub behind_here : behind (drop at block) ≡ drop e block
    unfolding end_at
    behind_here = drop-drop (size_of (drop at block)) at block ∙ ap (λ (n : ℕ). drop n block) (sym ends)

-- it ends as many bytes behind its start as it has, and no later than the block, or where it starts
module _ (block : List ℕ) (at : ℕ) {s : List ℕ} (is : s ≡ scene_of (drop at block)) where
  long : length s ≡ size_of (drop at block)
  long = ap length is ∙ length-take-le (size_of (drop at block)) (drop at block) (size_most (drop at block))

  pub scene_ends : at + length s ≡ end_at block at
  unfolding end_at
  scene_ends = ap (λ (n : ℕ). at + n) long

  pub scene_within_law : {m : ℕ} → at < m → length block < m → at + length s < m
  scene_within_law h k = omega (arith, long, size_most (drop at block), length-drop at block)

-- where none is left
pub scene_none : (block : List ℕ) (at : ℕ) → length block ≤ at → [] ≡ scene_of (drop at block)
scene_none block at h = rw (drop_of_length-le block h) (sym (take-nil (size_of [])))
