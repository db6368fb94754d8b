-- Pouring by the set bits of a word: what is left to pour, and the whole. Assumes nothing.
use Rattle.std.specs.Prelude.{◌≡◌, refl}
use Rattle.std.proofs.Math.Path.{sym, ap}
use Rattle.std.proofs.Common.{◌∙◌, arith}
use mathlib.Core.List.{List, [], ◌∷◌}
use Prim.Native.Nat.{ℕ, ◌+◌, ◌-◌, ◌^◌, ◌<◌}
use Rattle.std.specs.Int.Bits.{bit_and}
use Rattle.std.specs.Int.Count.{count_trailing_zeros}
use Rattle.std.proofs.Math.ListN.{length}
use Rattle.laws.specs.Walk.{places, places_none, walk_turn}
use Rattle.questions.specs.Hits.{Hit}
use Rattle.questions.specs.WritePairs.{WritesPairs, pairs_written, stepped, mask_hits}
use Rattle.survey_edges.specs.Table.{each}
use Rattle.survey_edges.specs.Runs.{each_place}

-- l is left of whole once d has become d₁, and n pairs are behind
pub record Rest (l whole : List Hit) (from seen : ℕ) (d d₁ : List ℕ) (n : ℕ) : Type 0 where
  pub count : n + length l ≡ seen + length whole
  pub held : pairs_written d₁ from n l ≡ pairs_written d from seen whole
  pub long : length d₁ ≡ length d

-- the faces of the bits of w
abbrev pub bit_hits : (u v first w : ℕ) → List Hit
bit_hits u v first w = each (λ t. record { low = u; high = v; face = first + 1 + t } ∷ []) (places 64 0 w)

module _ (u v first : ℕ) where
  pub bits_hits : {w : ℕ} → w < 2 ^ 64 → mask_hits w u v first 64 ≡ bit_hits u v first w
  bits_hits h = each_place (λ t. record { low = u; high = v; face = first + 1 + t } ∷ []) 64 h

  pub rest_start : {w from seen : ℕ} (d : List ℕ) → w < 2 ^ 64 → Rest (bit_hits u v first w) (mask_hits w u v first 64) from seen d d seen
  rest_start {w} {from} {seen} d h =
      record {
        count = ap (λ (l : List Hit). seen + length l) (sym (bits_hits h));
        held = ap (pairs_written d from seen) (sym (bits_hits h));
        long = refl;
      }

  pub rest_turn : (w : ℕ) {whole : List Hit} {from seen n f : ℕ} {d d₁ d₂ : List ℕ} → 0 < w → w < 2 ^ 64 →
      f ≡ first + 1 + count_trailing_zeros 64 w →
      Rest (bit_hits u v first w) whole from seen d d₁ n → d₂ ≡ stepped d₁ from n (record { low = u; high = v; face = f }) →
      length d₂ ≡ length d₁ →
      Rest (bit_hits u v first (bit_and w (w - 1))) whole from seen d d₂ (n + 1)
  unfolding each pairs_written
  rest_turn w {whole} {from} {seen} {n} {f} {d} {d₁} {d₂} some h ef s e l =
      let t = walk_turn 64 w some h in
      let g : List ℕ → List Hit = each (λ t. record { low = u; high = v; face = first + 1 + t } ∷ []) in
      let turn : bit_hits u v first w ≡ g (count_trailing_zeros 64 w ∷ places 64 0 (bit_and w (w - 1))) = ap g t in
      record {
        count = omega (arith, s.count, ap length turn);
        held =
            ap (λ (x : List ℕ). pairs_written x from (n + 1) (bit_hits u v first (bit_and w (w - 1))))
            (e ∙ ap (λ (y : ℕ). stepped d₁ from n (record { low = u; high = v; face = y })) ef)
            ∙ ap (pairs_written d₁ from n) (sym turn) ∙ s.held;
        long = l ∙ s.long;
      }

  pub rest_end : {w : ℕ} {whole : List Hit} {from seen n : ℕ} {d d₁ : List ℕ} → w ≡ 0 → Rest (bit_hits u v first w) whole from seen d d₁ n →
      WritesPairs whole from seen d d₁ n
  unfolding each pairs_written
  rest_end {w} {whole} {from} {seen} {n} {d} {d₁} e s =
      let none : bit_hits u v first w ≡ [] =
      ap (bit_hits u v first) e ∙ ap (each (λ t. record { low = u; high = v; face = first + 1 + t } ∷ [])) (places_none 64 0) in
      record {
        count = omega (arith, s.count, ap length none);
        held = sym (ap (pairs_written d₁ from n) none) ∙ s.held;
        long = s.long;
      }
