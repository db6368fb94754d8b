-- Enclosure spread along the edges: what is known so far is right, and each step makes more of it known. Assumes nothing.
use Rattle.std.specs.Prelude.{◌≡◌, Bool, true, false, cond, ◌&&◌, List, ℕ, ◌+◌, ◌^◌, ◌<◌, get_or}
use Rattle.std.specs.Int.Bits.{bit_and, bit_or, bit_xor}
use Rattle.std.specs.Int.Count.{count_trailing_zeros}
use Rattle.laws.specs.Mask.{mask_of, test_bit}
use Rattle.scene.specs.declared.Solid.{Solid}
use Rattle.questions.specs.Hits.{PierceView, enclosed_vertex}
use Rattle.survey_enclosed.specs.declared.Spread.{Spread}

module _ (s : PierceView) (k : Solid) where
  -- the solid's vertices that the other one encloses: bit m stands for the vertex m + 1
  unfoldable pub inside_word : ℕ
  inside_word = mask_of (λ m. enclosed_vertex s k (k.vert0 + 1 + m)) k.verts

  -- the bits of `inside` are right where they are known; what is not known is left to pass
  pub record Reached (t : Spread) : Type 0 where
    pub inside_in_law : t.inside < 2 ^ k.verts
    pub known_in : t.known < 2 ^ k.verts
    pub left_in : t.left < 2 ^ k.verts
    pub rest : (m : ℕ) → m < k.verts → test_bit t.known m ≡ false → test_bit t.left m ≡ true
    pub right : (m : ℕ) → m < k.verts → test_bit t.inside m ≡ (test_bit t.known m && enclosed_vertex s k (k.vert0 + 1 + m))

  -- some vertex that is known is left to pass
  pub record Started (t r : Spread) : Type 0 where
    pub reached : Reached r
    pub same : r.left ≡ t.left
    pub some : 0 < bit_and r.known r.left

-- the vertex that is passed next, of those known and left; the neighbours that it makes known, of its word of links; and those of them that
-- are enclosed, of its word of odd edges
abbrev pub passed : Spread → ℕ
passed t = count_trailing_zeros 64 (bit_and t.known t.left)

abbrev pub fresh : (link : ℕ) → Spread → ℕ
fresh link t = bit_xor (bit_or link t.known) t.known

abbrev pub flipped : (new odd : ℕ) → Bool → ℕ
flipped new odd c = cond c (bit_xor new odd) odd

unfoldable pub step_of : (links odds : List ℕ) → (low : ℕ) → Spread → Spread
step_of links odds low t = record {
  inside = bit_or t.inside (flipped (fresh (get_or links (low + 1 + passed t) 0) t)
      (bit_and (fresh (get_or links (low + 1 + passed t) 0) t) (get_or odds (low + 1 + passed t) 0)) (test_bit t.inside (passed t)));
  known = bit_or t.known (fresh (get_or links (low + 1 + passed t) 0) t);
  left = bit_xor t.left (2 ^ passed t);
}
