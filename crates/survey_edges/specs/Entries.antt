-- The pairs of one entry: by its mask's two words, how many, and the first. Assumes nothing.
use Rattle.std.specs.Prelude.{◌≡◌, Bool, false, [], ◌++◌, ℕ, ◌+◌, ◌-◌, ◌*◌, ◌^◌, ◌≤◌, ◌<◌, length, Some, None}
use Rattle.std.proofs.Math.Path.{refl, sym, ap}
use Rattle.std.proofs.Common.{ap₂, ◌∙◌, le_refl, mul-le-mul_right, arith, pow-add}
use Rattle.std.proofs.Math.Bool.{true}
use Rattle.std.specs.Int.Count.{ones, count_trailing_zeros}
use Rattle.laws.specs.Mask.{digit, test_bit, test_low, test_high}
use Rattle.laws.specs.Runs.{up_to_same, bounded, only_most, up_to_join}
use Rattle.survey_edges.specs.Bits.{word_bits, word_first, test_zero}
use Rattle.pierce_masks.specs.Faces.{width, value_of}
use Rattle.pierce_masks.specs.declared.Mask.{Mask}
use Rattle.questions.specs.Hits.{Hit}
use Rattle.questions.specs.WritePairs.{mask_hit, mask_hits}
use Rattle.questions.specs.First.{first_of, first_none, first_found}
use Rattle.survey_edges.specs.Table.{Entry, entry_hits}
use Rattle.survey_edges.specs.Sums.{sum_of, ones_sum}
use Rattle.survey_edges.specs.Runs.{up_to_none, up_to_length, only_length}

-- two words have room for twice as many digits
pub words_fit : (n a b : ℕ) → a < 2 ^ n → b < 2 ^ n → a + 2 ^ n * b < 2 ^ (n + n)
words_fit n a b h k =
    let e : (b + 1) * 2 ^ n ≤ 2 ^ n * 2 ^ n = mul-le-mul_right (2 ^ n) (omega arith) in
    omega (arith, e, pow-add 2 n n)

module _ (u v first : ℕ) where
  -- a mask of two words
  pub hits_join : (a b : ℕ) → a < 2 ^ 64 →
      mask_hits (a + 2 ^ 64 * b) u v first width ≡ mask_hits a u v first 64 ++ mask_hits b u v (first + 64) 64
  hits_join a b h =
      up_to_join (λ i. mask_hit (test_bit (a + 2 ^ 64 * b) i) u v (first + 1 + i)) 64 64
      ∙ ap₂ ◌++◌ (up_to_same _ _ 64 (λ i l. ap (λ (t : Bool). mask_hit t u v (first + 1 + i)) (test_low 64 a b i l)))
      (up_to_same _ _ 64 (λ i l. ap₂ (λ (t : Bool) (f : ℕ). mask_hit t u v f)
      (test_high 64 a b (64 + i) h (omega arith) ∙ ap (test_bit b) (behind i)) (next i)))
    where
      behind : (i : ℕ) → 64 + i - 64 ≡ i
      behind i = omega arith

      next : (i : ℕ) → first + 1 + (64 + i) ≡ first + 64 + 1 + i
      next i = omega arith

  pub hits_most : (w n : ℕ) → length (mask_hits w u v first n) ≤ n
  hits_most w n =
      omega (arith, bounded (λ j. mask_hit (test_bit w j) u v (first + 1 + j)) 1 n (λ j. only_most (test_bit w j) _ 1 (omega arith)))

  -- as many as the mask has ones
  pub hits_length : (n : ℕ) {w : ℕ} → w < 2 ^ n → length (mask_hits w u v first n) ≡ ones w
  hits_length n {w} h =
      up_to_length (λ j. mask_hit (test_bit w j) u v (first + 1 + j)) n
      ∙ same n ∙ sym (ones_sum (test_bit w) n) ∙ ap ones (word_bits n h)
    where
      same : (n : ℕ) → sum_of (λ j. length (mask_hit (test_bit w j) u v (first + 1 + j))) n ≡ sum_of (λ j. digit (test_bit w j)) n
      same n =
          ap (λ (g : ℕ → ℕ). sum_of g n) (λ i j. only_length {A = Hit} (test_bit w j) (record { low = u; high = v; face = first + 1 + j }) i)

  none_before : (w n : ℕ) → ((i : ℕ) → i < n → test_bit w i ≡ false) → [] ≡ mask_hits w u v first n
  none_before w n h = sym (up_to_none _ n (λ i b. ap (λ (t : Bool). mask_hit t u v (first + 1 + i)) (h i b)))

  pub hits_none : (n : ℕ) {w : ℕ} → w ≡ 0 → None ≡ first_of (mask_hits w u v first n)
  hits_none n {w} e = first_none (none_before w n (λ i b. ap (λ (x : ℕ). test_bit x i) e ∙ test_zero i))

  -- the first is that of the mask's first one
  pub hits_first : (n : ℕ) {w : ℕ} → w < 2 ^ n → 0 < w → Some (u, v, (first + 1 + count_trailing_zeros n w)) ≡ first_of (mask_hits w u v first n)
  unfolding first_of
  hits_first n {w} h some =
      let f = word_first n n (le_refl n) h some in
      first_found (λ i. mask_hit (test_bit w i) u v (first + 1 + i)) (count_trailing_zeros n w) n (omega (arith, f.below))
      (none_before w (count_trailing_zeros n w) (λ i b. f.none i (omega arith) b)) refl (one (count_trailing_zeros n w) f.passes)
    where
      one : (t : ℕ) → test_bit w t ≡ true → first_of (mask_hit (test_bit w t) u v (first + 1 + t)) ≡ Some (u, v, (first + 1 + t))
      one t e = rw e

-- ---- of an entry whose mask was read

module _ (first : ℕ) (e : Entry) where
  pub entry_most : length (entry_hits first e) ≤ width
  unfolding entry_hits
  entry_most = hits_most e.low e.high first e.mask width

  pub entry_ones : e.mask < 2 ^ width → ones e.mask ≡ length (entry_hits first e)
  unfolding entry_hits
  entry_ones h = sym (hits_length e.low e.high first width h)

  pub entry_none : e.mask ≡ 0 → None ≡ first_of (entry_hits first e)
  unfolding entry_hits
  entry_none h = hits_none e.low e.high first width h

  pub entry_first : e.mask < 2 ^ width → 0 < e.mask →
      Some (e.low, e.high, (first + 1 + count_trailing_zeros width e.mask)) ≡ first_of (entry_hits first e)
  unfolding entry_hits
  entry_first h some = hits_first e.low e.high first width h some

  pub entry_words : (m : Mask) → value_of m ≡ e.mask → m.low < 2 ^ 64 →
      mask_hits m.low e.low e.high first 64 ++ mask_hits m.high e.low e.high (first + 64) 64 ≡ entry_hits first e
  unfolding entry_hits value_of
  entry_words m v h =
      sym (hits_join e.low e.high first m.low m.high h) ∙ ap (λ (w : ℕ). mask_hits w e.low e.high first width) v
