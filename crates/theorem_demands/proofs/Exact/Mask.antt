-- The mask of an edge against a solid: its bits, its ones, and their oddness, by which a vertex is enclosed. Assumes nothing.
use Rattle.std.specs.Prelude.{◌≡◌, ◌↔◌, Bool, true, List, ℕ, ◌+◌, ◌-◌, ◌%◌, ◌<◌}
use Rattle.std.proofs.Common.{sym, ◌∙◌, arith}
use Rattle.std.proofs.Math.Path.{ap}
use mathlib.Core.Logic.Iff
use Rattle.std.specs.Int.Count.{ones}
use Rattle.laws.specs.Decides.{eqb_iff, same_test}
use Rattle.laws.specs.Mask.{test_bit, mask_lt, mask_ones, mask_test}
use Rattle.laws.specs.Lists.{Number, number_iff, number_once}
use Rattle.scene.specs.Tables.{tables_of, row, face}
use Rattle.pierce.specs.Formula.{pierced}
use Rattle.pierce_masks.specs.Faces.{is_odd}
use Rattle.pierce.specs.Against.{mask_against}
use Rattle.scene.specs.declared.Solid.{Solid}
use Rattle.survey_edges.specs.Bits.{same_bits}
use Rattle.questions.specs.Hits.{enclosed_vertex}
use Rattle.theorem_demands.specs.Words.{far_point, Pierces, Enclosed}
use Rattle.theorem_demands.specs.Exact.{numbered, MaskIs, Odd}
use Rattle.theorem_demands.proofs.Words.Solids.{InWords}

-- ---- of u and v, against the n faces behind others

module _ (s : List ℕ) (u v : ℕ) where
  abbrev test : ℕ → Bool
  test f = pierced (far_point s) (row (tables_of s)) u v (face (tables_of s) f)

  abbrev pub mask : (behind n : ℕ) → ℕ
  mask = mask_against (far_point s) (row (tables_of s)) (face (tables_of s)) u v

  module _ (behind n : ℕ) where
    ones_are : Number (Pierces s u v) (numbered (behind + 1) n) (ones (mask behind n))
    ones_are =
        (number_iff (Pierces s u v) test (λ f. Iff.rfl) (numbered (behind + 1) n) (ones (mask behind n))).0
        (sym (mask_ones test (λ f. f) (behind + 1) n))

    bit_is : (k : ℕ) → k < n → test_bit (mask behind n) k ≡ test (behind + (k + 1))
    bit_is k h = let e : behind + 1 + k ≡ behind + (k + 1) = omega arith in mask_test (λ i. test (behind + 1 + i)) n k h ∙ ap test e

    pub mask_is : MaskIs s u v behind n (mask behind n) (ones (mask behind n))
    mask_is =
        record {
          bit = λ k a b.
              let e : k - 1 + 1 ≡ k = omega arith in
              let t : test_bit (mask behind n) (k - 1) ≡ test (behind + k) = bit_is (k - 1) (omega arith)
              ∙ ap (λ (i : ℕ). test (behind + i)) e in
              (λ h. sym t ∙ h, λ h. t ∙ h);
          no_other = mask_lt (λ i. test (behind + 1 + i)) n;
          count = ones_are;
        }

    -- and no other is
    pub mask_once : (m o : ℕ) → MaskIs s u v behind n m o → (m ≡ mask behind n) × (o ≡ ones (mask behind n))
    mask_once m o h = (same_bits n h.no_other mask_is.no_other same, number_once h.count ones_are)
      where
        same : (k : ℕ) → k < n → test_bit m k ≡ test_bit (mask behind n) k
        same k b =
            let e : k + 1 - 1 ≡ k = omega arith in
            let p = h.bit (k + 1) (omega arith) (omega arith) in
            let q = mask_is.bit (k + 1) (omega arith) (omega arith) in
            rw e at (same_test (test_bit m (k + 1 - 1)) (test_bit (mask behind n) (k + 1 - 1)) (Iff.trans p (Iff.symm q)))

    -- odd in number
    odd_iff : (is_odd (mask behind n) ≡ true) ↔ Odd (Pierces s u v) (numbered (behind + 1) n)
    unfolding is_odd
    odd_iff =
        Iff.trans (eqb_iff (ones (mask behind n) % 2) 1)
        (λ e. (ones (mask behind n), ones_are, e), λ h. ap (λ (o : ℕ). o % 2) (number_once ones_are h.1) ∙ h.2)

-- ---- enclosed

pub enclosed_in_law : (s : List ℕ) {k : Solid} {n : ℕ} {Of Own Other : ℕ → Type 0} → InWords s k n Of Own Other → (i : ℕ) → Of i →
    Enclosed s i ↔ Odd (Pierces s i (far_point s)) (numbered (k.other0 + 1) k.others)
unfolding enclosed_vertex
enclosed_in_law s {k} w i h =
    let e = w.inside i h in
    Iff.trans (λ t. e ∙ t, λ t. sym e ∙ t) (odd_iff s i (far_point s) k.other0 k.others)
