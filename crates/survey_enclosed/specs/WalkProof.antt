-- The walk's start, its end, and a vertex asked of the far point: what is known is right. Assumes nothing.
use Rattle.std.specs.Prelude.{◌≡◌, refl, Bool, cond, ◌&&◌, ◌||◌, ℕ, zero, suc, ◌+◌, ◌-◌, ◌^◌, ◌≤◌, ◌<◌, eqb}
use Rattle.std.proofs.Math.Path.{sym, ap}
use Rattle.std.proofs.Common.{ap₂, ◌∙◌, true≢false, pow-suc, arith, eq-eqb, eqb-true, pow_pos}
use Rattle.std.proofs.Math.Bool.{true, false}
use Rattle.std.specs.Int.Bits.{bit_and, bit_or}
use Rattle.std.proofs.lemmas.Nat.{or_lt}
use Rattle.std.specs.Int.Count.{count_trailing_zeros}
use Rattle.std.proofs.Math.Pow.{pow-lt}
use Rattle.laws.specs.Mask.{mask_of, mask_test, mask_same, test_bit}
use Rattle.laws.specs.Walk.{First}
use Rattle.survey_edges.specs.Bits.{test_or, test_and, test_one, test_zero, word_bits, word_first}
use Rattle.scene.specs.declared.Solid.{Solid}
use Rattle.questions.specs.Hits.{PierceView, enclosed_vertex}
use Rattle.survey_enclosed.specs.Walk.{inside_word, Reached, Started}
use Rattle.survey_enclosed.specs.declared.Spread.{Spread}

-- ---- all of n bits

mask_all : (n : ℕ) → mask_of (λ m. true) n + 1 ≡ 2 ^ n
unfolding mask_of
mask_all zero = refl
mask_all (suc n) = omega (arith, mask_all n, pow-suc 2 n)

all_small : (n : ℕ) → 2 ^ n - 1 < 2 ^ n
all_small n = omega (arith, pow_pos n)

all_set : (n m : ℕ) → m < n → test_bit (2 ^ n - 1) m ≡ true
all_set n m h = ap (λ (w : ℕ). test_bit w m) (omega (arith, mask_all n)) ∙ mask_test (λ i. true) n m h

set_some : (m w : ℕ) → test_bit w m ≡ true → 0 < w
set_some m zero e = absurd (true≢false (sym e ∙ test_zero m))
set_some m (suc w) e = omega arith

pub or_false : (a b : Bool) → (a || b) ≡ false → a ≡ false
or_false true b e = e
or_false false b e = refl

asked_law : (known x o q : Bool) → (q ≡ true → o ≡ x) → ((known && x) || (o && q)) ≡ ((known || q) && x)
asked_law known x o true h = rw (h refl) (go known x)
  where
    go : (known x : Bool) → ((known && x) || (x && true)) ≡ ((known || true) && x)
    go true true = refl
    go true false = refl
    go false true = refl
    go false false = refl
asked_law true true o false h = refl
asked_law true false true false h = refl
asked_law true false false false h = refl
asked_law false x true false h = refl
asked_law false x false false h = refl

-- which of two, told
pub told_yes : (x y : ℕ) {o : Bool} → o ≡ true → x ≡ cond o x y
told_yes x y e = rw e

pub told_no : (x y : ℕ) {o : Bool} → o ≡ false → y ≡ cond o x y
told_no x y e = rw e

module _ (s : PierceView) (k : Solid) where
  -- ---- at first nothing is known, and all is left

  pub reached_none : Reached s k (record { inside = 0; known = 0; left = 2 ^ k.verts - 1 })
  reached_none =
      record {
        inside_in_law = pow_pos k.verts;
        known_in = pow_pos k.verts;
        left_in = all_small k.verts;
        rest = λ m h e. all_set k.verts m h;
        right = λ m h. test_zero m ∙ sym (ap (λ (b : Bool). b && enclosed_vertex s k (k.vert0 + 1 + m)) (test_zero m));
      }

  -- in the end all is known
  pub reached_all : {t : Spread} → Reached s k t → t.left ≡ 0 → t.inside ≡ inside_word s k
  unfolding inside_word
  reached_all {t} r e =
      sym (word_bits k.verts r.inside_in_law)
      ∙ mask_same (test_bit t.inside) (λ m. enclosed_vertex s k (k.vert0 + 1 + m)) k.verts
      (λ m h. r.right m h ∙ ap (λ (b : Bool). b && enclosed_vertex s k (k.vert0 + 1 + m)) (known m h (test_bit t.known m) refl))
    where
      known : (m : ℕ) → m < k.verts → (b : Bool) → test_bit t.known m ≡ b → test_bit t.known m ≡ true
      known m h true q = q
      known m h false q = absurd (true≢false (sym (r.rest m h q) ∙ ap (λ (w : ℕ). test_bit w m) e ∙ test_zero m))

  -- ---- the lowest that is left is asked of the far point

  pub started_known : {t : Spread} → Reached s k t → 0 < bit_and t.known t.left → Started s k t t
  started_known r h = record { reached = r; same = refl; some = h }

  pub started_asked : (t : Spread) {i b : ℕ} {o : Bool} (inside : ℕ) → k.verts ≤ 64 → Reached s k t → 0 < t.left →
      i ≡ count_trailing_zeros 64 t.left → b ≡ 2 ^ i →
      o ≡ enclosed_vertex s k (k.vert0 + 1 + i) → inside ≡ cond o (bit_or t.inside b) t.inside →
      Started s k t (record { inside = inside; known = bit_or t.known b; left = t.left })
  started_asked t {i} {b} {o} inside few r some ei eb eo en =
      let f : First (test_bit t.left) 0 k.verts i = rw ei (word_first 64 k.verts few r.left_in some) in
      let here : i < k.verts = omega (arith, f.below) in
      let small : b < 2 ^ k.verts = rw eb (pow-lt here) in
      let bit : (m : ℕ) → m < k.verts → test_bit b m ≡ eqb i m = λ m h. ap (λ (w : ℕ). test_bit w m) eb ∙ test_one i m k.verts here h in
      record {
        reached = record {
          inside_in_law = rw en (asked_small o small);
          known_in = or_lt k.verts t.known b r.known_in small;
          left_in = r.left_in;
          rest = λ m h e. r.rest m h (or_false (test_bit t.known m) (test_bit b m) (sym (test_or t.known b m) ∙ e));
          right = λ m h.
              ap (λ (w : ℕ). test_bit w m) en ∙ asked_bit o m ∙ ap₂ (λ (x y : Bool). x || (o && y)) (r.right m h) (bit m h)
              ∙ asked_law (test_bit t.known m) (enclosed_vertex s k (k.vert0 + 1 + m)) o (eqb i m)
              (λ q. eo ∙ ap (λ (j : ℕ). enclosed_vertex s k (k.vert0 + 1 + j)) (eqb-true i m q))
              ∙ ap (λ (y : Bool). (test_bit t.known m || y) && enclosed_vertex s k (k.vert0 + 1 + m)) (sym (bit m h))
              ∙ ap (λ (y : Bool). y && enclosed_vertex s k (k.vert0 + 1 + m)) (sym (test_or t.known b m));
        };
        same = refl;
        some = set_some i (bit_and (bit_or t.known b) t.left)
            (test_and (bit_or t.known b) t.left i ∙ ap₂ ◌&&◌
            (test_or t.known b i ∙ ap (λ (y : Bool). test_bit t.known i || y) (bit i here ∙ eq-eqb i i refl)
            ∙ or_right (test_bit t.known i)) f.passes);
      }
    where
      or_right : (a : Bool) → (a || true) ≡ true
      or_right true = refl
      or_right false = refl

      asked_small : (o : Bool) → b < 2 ^ k.verts → cond o (bit_or t.inside b) t.inside < 2 ^ k.verts
      asked_small true h = or_lt k.verts t.inside b r.inside_in_law h
      asked_small false h = r.inside_in_law

      asked_bit : (o : Bool) (m : ℕ) → test_bit (cond o (bit_or t.inside b) t.inside) m ≡ (test_bit t.inside m || (o && test_bit b m))
      asked_bit true m = test_or t.inside b m
      asked_bit false m = none (test_bit t.inside m)
        where
          none : (a : Bool) → a ≡ (a || false)
          none true = refl
          none false = refl
