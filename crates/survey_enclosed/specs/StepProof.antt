-- One step of the walk: the neighbours of the vertex that is passed become known, what is known stays right, and less is left.
-- Assumes nothing.
use Rattle.std.specs.Prelude.{◌≡◌, Bool, cond, ◌&&◌, ◌||◌, List, ℕ, ◌+◌, ◌^◌, ◌≤◌, ◌<◌, get_or}
use Rattle.std.proofs.Math.Path.{refl, sym, ap}
use Rattle.std.proofs.Common.{ap₂, ◌∙◌, true≢false, lt_of_le_of_lt, arith, ne_eqb}
use Rattle.std.proofs.Math.Bool.{true, false}
use Rattle.std.proofs.Math.Decide.{ℕ_discrete}
use Rattle.std.specs.Int.Bits.{bit_and, bit_or, bit_xor, and_lt, or_lt, xor_lt, xor_add_and}
use Rattle.std.proofs.lemmas.Nat.{and_le_l}
use Rattle.std.proofs.Math.Dec.{eqb}
use Rattle.std.proofs.Math.Pow.{pow-lt, pow_pos}
use Rattle.laws.specs.Bools.{◌⊕◌}
use Rattle.laws.specs.Mask.{mask_test, test_bit}
use Rattle.laws.specs.Walk.{First}
use Rattle.survey_edges.specs.Bits.{test_or, test_and, test_xor, test_one, same_bits, word_first}
use Rattle.scene.specs.Edges.{joined, neighbours}
use Rattle.scene.specs.declared.Solid.{Solid}
use Rattle.questions.specs.Hits.{PierceView, Own, enclosed_vertex}
use Rattle.survey_edges.specs.Edges.{AreLinks}
use Rattle.survey_edges.specs.Order.{neighbours_small}
use Rattle.survey_enclosed.specs.Ready.{Ready}
use Rattle.survey_enclosed.specs.Odds.{AreOdds}
use Rattle.survey_enclosed.specs.Walk.{Reached, passed, fresh, flipped, step_of}
use Rattle.survey_enclosed.specs.WalkProof.{or_false}
use Rattle.survey_enclosed.specs.declared.Spread.{Spread}

and_true : (a b : Bool) → (a && b) ≡ true → (a ≡ true) × (b ≡ true)
and_true true b e = (refl, e)
and_true false b e = absurd (true≢false (sym e))

-- a bit once a vertex is passed: k known, l linked, o odd; iu and im whether the vertex and the bit's own are enclosed
step_law : (k l o iu im : Bool) → (l ≡ true → k ≡ false → o ≡ iu ⊕ im) →
    ((k && im) || cond iu (((l || k) ⊕ k) ⊕ (((l || k) ⊕ k) && o)) (((l || k) ⊕ k) && o)) ≡ ((k || ((l || k) ⊕ k)) && im)
step_law true true o true true h = refl
step_law true true o true false h = refl
step_law true true o false true h = refl
step_law true true o false false h = refl
step_law true false o true true h = refl
step_law true false o true false h = refl
step_law true false o false true h = refl
step_law true false o false false h = refl
step_law false false o true im h = refl
step_law false false o false im h = refl
step_law false true o true true h = rw (h refl refl)
step_law false true o true false h = rw (h refl refl)
step_law false true o false true h = rw (h refl refl)
step_law false true o false false h = rw (h refl refl)

flipped_bit : (new odd m : ℕ) (c : Bool) → test_bit (flipped new odd c) m ≡ cond c (test_bit new m ⊕ test_bit odd m) (test_bit odd m)
flipped_bit new odd m true = test_xor new odd m
flipped_bit new odd m false = refl

flipped_small : (n new odd : ℕ) (c : Bool) → new < 2 ^ n → odd < 2 ^ n → flipped new odd c < 2 ^ n
flipped_small n new odd true a b = xor_lt n new odd a b
flipped_small n new odd false a b = b

module _ (s : PierceView) (k : Solid) (ready : Ready s k) (links odds : List ℕ) (are-links : AreLinks s k links)
    (are-odds : AreOdds s k odds) (t : Spread) (r : Reached s k t) (some : 0 < bit_and t.known t.left) where
  abbrev i : ℕ
  i = passed t

  abbrev u : ℕ
  u = k.vert0 + 1 + i

  abbrev new : ℕ
  new = fresh (get_or links u 0) t

  few : k.verts ≤ 64
  few = omega (arith, ready.within.sound.vertices.0)

  first : First (test_bit (bit_and t.known t.left)) 0 k.verts i
  first = word_first 64 k.verts few (and_lt k.verts t.known t.left r.known_in r.left_in) some

  pub here : i < k.verts
  here = omega (arith, first.below)

  both : (test_bit t.known i ≡ true) × (test_bit t.left i ≡ true)
  both = and_true (test_bit t.known i) (test_bit t.left i) (sym (test_and t.known t.left i) ∙ first.passes)

  own : Own s k u
  own = (omega (arith, here), omega (arith, here))

  link_small : get_or links u 0 < 2 ^ k.verts
  link_small = rw (are-links u own) (neighbours_small s k ready.within.sound u)

  link_bit : (m : ℕ) → m < k.verts → test_bit (get_or links u 0) m ≡ joined s.face k u (k.vert0 + 1 + m)
  unfolding neighbours
  link_bit m h =
      ap (λ (w : ℕ). test_bit w m) (are-links u own) ∙ mask_test (λ m. joined s.face k u (k.vert0 + 1 + m)) 64 m (omega (arith, few))

  new_small : new < 2 ^ k.verts
  new_small =
      xor_lt k.verts (bit_or (get_or links u 0) t.known) t.known
      (or_lt k.verts (get_or links u 0) t.known link_small r.known_in) r.known_in

  new_bit : (m : ℕ) → test_bit new m ≡ (test_bit (get_or links u 0) m || test_bit t.known m) ⊕ test_bit t.known m
  new_bit m =
      test_xor (bit_or (get_or links u 0) t.known) t.known m
      ∙ ap (λ (b : Bool). b ⊕ test_bit t.known m) (test_or (get_or links u 0) t.known m)

  abbrev enclosed : ℕ → Bool
  enclosed m = enclosed_vertex s k (k.vert0 + 1 + m)

  known_here : test_bit t.inside i ≡ enclosed i
  known_here = r.right i here ∙ ap (λ (b : Bool). b && enclosed i) both.0

  odd_small : bit_and new (get_or odds u 0) < 2 ^ k.verts
  odd_small = lt_of_le_of_lt (and_le_l new (get_or odds u 0)) new_small

  left_bit : (m : ℕ) → m < k.verts → test_bit (bit_xor t.left (2 ^ i)) m ≡ test_bit t.left m ⊕ eqb i m
  left_bit m h = test_xor t.left (2 ^ i) m ∙ ap (λ (b : Bool). test_bit t.left m ⊕ b) (test_one i m k.verts here h)

  rest_kept : (m : ℕ) → m < k.verts → test_bit t.known m ≡ false → test_bit (bit_xor t.left (2 ^ i)) m ≡ true
  rest_kept m h e =
      left_bit m h ∙ ap₂ ◌⊕◌ (r.rest m h e) (ne_eqb i m (λ q. true≢false (sym both.0 ∙ ap (test_bit t.known) q ∙ e)))

  right_kept : (m : ℕ) → m < k.verts →
      test_bit (bit_or t.inside (flipped new (bit_and new (get_or odds u 0)) (test_bit t.inside i))) m
      ≡ (test_bit (bit_or t.known new) m && enclosed m)
  right_kept m h =
      test_or t.inside (flipped new (bit_and new (get_or odds u 0)) (test_bit t.inside i)) m
      ∙ ap₂ ◌||◌ (r.right m h)
      (flipped_bit new (bit_and new (get_or odds u 0)) m (test_bit t.inside i)
      ∙ ap₂ (λ (x y : Bool). cond (test_bit t.inside i) (x ⊕ y) y) (new_bit m)
      (test_and new (get_or odds u 0) m ∙ ap (λ (b : Bool). b && test_bit (get_or odds u 0) m) (new_bit m))
      ∙ ap (λ (c : Bool). cond c (n ⊕ (n && o)) (n && o)) known_here)
      ∙ step_law (test_bit t.known m) (test_bit (get_or links u 0) m) o (enclosed i) (enclosed m)
      (λ l q. are-odds u m own h (sym (link_bit m h) ∙ l))
      ∙ ap (λ (b : Bool). b && enclosed m) (sym (test_or t.known new m ∙ ap (λ (b : Bool). test_bit t.known m || b) (new_bit m)))
    where
      n : Bool
      n = (test_bit (get_or links u 0) m || test_bit t.known m) ⊕ test_bit t.known m

      o : Bool
      o = test_bit (get_or odds u 0) m

  pub step_reached : Reached s k (step_of links odds k.vert0 t)
  unfolding step_of
  step_reached =
      record {
        inside_in_law =
            or_lt k.verts t.inside (flipped new (bit_and new (get_or odds u 0)) (test_bit t.inside i)) r.inside_in_law
            (flipped_small k.verts new (bit_and new (get_or odds u 0)) (test_bit t.inside i) new_small odd_small);
        known_in = or_lt k.verts t.known new r.known_in new_small;
        left_in = xor_lt k.verts t.left (2 ^ i) r.left_in (pow-lt here);
        rest = λ m h e. rest_kept m h (or_false (test_bit t.known m) (test_bit new m) (sym (test_or t.known new m) ∙ e));
        right = right_kept;
      }

  pub step_less : (step_of links odds k.vert0 t).left < t.left
  unfolding step_of
  step_less =
      let e : bit_and t.left (2 ^ i) ≡ 2 ^ i =
      same_bits k.verts (and_lt k.verts t.left (2 ^ i) r.left_in (pow-lt here)) (pow-lt here)
      (λ m h. test_and t.left (2 ^ i) m ∙ ap (λ (b : Bool). test_bit t.left m && b) (test_one i m k.verts here h)
      ∙ at m (ℕ_discrete i m) ∙ sym (test_one i m k.verts here h)) in
      omega (arith, xor_add_and t.left (2 ^ i), e, pow_pos i)
    where
      at : (m : ℕ) → Dec (i ≡ m) → (test_bit t.left m && eqb i m) ≡ eqb i m
      at m (yes q) = ap (λ (b : Bool). b && eqb i m) (ap (test_bit t.left) (sym q) ∙ both.1)
      at m (no q) = rw (ne_eqb i m q) (none (test_bit t.left m))
        where
          none : (b : Bool) → (b && false) ≡ false
          none true = refl
          none false = refl
