-- The lowest helper: it is none of the five, and of six points one can help, so it is at most 6. Assumes nothing.
use Rattle.std.specs.Prelude.{◌≡◌, refl, ◌≢◌, ◌⊎◌, List, [], ◌∷◌, Bool, true, false, not, ◌&&◌, ℕ, zero, suc, ◌+◌, ◌≤◌, ◌<◌, eqb, length}
use Rattle.std.proofs.Common.{ap, inl, inr, arith, ne_eqb}
use Rattle.std.proofs.Math.Decide.{ℕ_discrete}
use Rattle.std.proofs.lemmas.Bool.{eqb-false}
use Rattle.laws.specs.Range.{Lowest, lowest_passes}
use Rattle.scene.specs.declared.Face.{Face}
use Rattle.orient.specs.Signs.{Six, Upto, ne_sym}
use Rattle.pierce.specs.Formula.{none_of, can_help, helper}

-- what the test says
abbrev NoneOf : List ℕ → ℕ → Type 0
NoneOf [] i = Unit {0}
NoneOf (j ∷ js) i = (i ≢ j) × NoneOf js i

none_test : (js : List ℕ) (i : ℕ) → NoneOf js i → none_of js i ≡ true
none_test [] i h = refl
none_test (j ∷ js) i h = rw (ne_eqb i j h.0) (none_test js i h.1)

test_none : (js : List ℕ) (i : ℕ) → none_of js i ≡ true → NoneOf js i
test_none [] i t = tt
test_none (j ∷ js) i t = by (eqb i j) refl t (test_none js i)
  where
    by : (b : Bool) → eqb i j ≡ b → (not b && none_of js i) ≡ true → (none_of js i ≡ true → NoneOf js i) → NoneOf (j ∷ js) i
    by true e q rest = let z : ◌≡◌ {A = ℕ} 0 1 = cc in absurd (omega arith)
    by false e q rest = (eqb-false i j e, rest q)

-- ---- of more points than the list has one is none of it

-- j is none of js, or js has a shorter rest with the same numbers but for j
record Without (j : ℕ) (js : List ℕ) : Type 0 where
  rest : List ℕ
  shorter : suc (length rest) ≡ length js
  others : (i : ℕ) → i ≢ j → NoneOf rest i → NoneOf js i

without : (j : ℕ) (js : List ℕ) → NoneOf js j ⊎ Without j js
without j [] = inl tt
without j (k ∷ ks) = go (ℕ_discrete j k) (without j ks)
  where
    go : Dec (j ≡ k) → NoneOf ks j ⊎ Without j ks → NoneOf (k ∷ ks) j ⊎ Without j (k ∷ ks)
    go (yes e) w = inr (record { rest = ks; shorter = refl; others = λ i n h. (rw (← e) n, h) })
    go (no n) (inl h) = inl (n, h)
    go (no n) (inr w) = inr (record { rest = k ∷ w.rest; shorter = ap suc w.shorter; others = λ i m h. (h.0, w.others i m h.1) })

record Free (n : ℕ) (js : List ℕ) : Type 0 where
  number : ℕ
  within : Upto n number
  none : NoneOf js number

free : (n : ℕ) (js : List ℕ) → length js < n → Free n js
free zero js l = absurd (omega arith)
free (suc n) js l = go (without (suc n) js) (free n)
  where
    go : NoneOf js (suc n) ⊎ Without (suc n) js → ((js : List ℕ) → length js < n → Free n js) → Free (suc n) js
    go (inl h) next = record { number = suc n; within = omega arith; none = h }
    go (inr w) next =
        let f = next w.rest (omega (arith, w.shorter)) in
        record { number = f.number; within = omega arith; none = w.others f.number (omega arith) f.none }

-- ---- the helper

-- the ends of an edge and the corners of a face: no two are the same
pub record Five (In : ℕ → Type 0) (u v p q r : ℕ) : Type 0 where
  pub u_in : In u
  pub v_in : In v
  pub p_in : In p
  pub q_in : In q
  pub r_in : In r
  pub uv : u ≢ v
  pub up : u ≢ p
  pub uq : u ≢ q
  pub ur : u ≢ r
  pub vp : v ≢ p
  pub vq : v ≢ q
  pub vr : v ≢ r
  pub pq : p ≢ q
  pub pr : p ≢ r
  pub qr : q ≢ r

module _ (n u v : ℕ) (f : Face) where
  abbrev five : List ℕ
  five = u ∷ v ∷ f.p ∷ f.q ∷ f.r ∷ []

  -- where h can help, the lowest does, and is at most h
  lowest : (h : ℕ) → NoneOf five h → Upto n h → Lowest (can_help u v f) 1 h (helper n u v f)
  unfolding helper can_help
  lowest h o i = lowest_passes (can_help u v f) 1 (n + 1) h (none_test five h o) i.0 (omega arith)

  -- of six points one can
  one_of_six : Free 6 five
  one_of_six = free 6 five (omega arith)

  pub helper_most : 6 ≤ n → helper n u v f ≤ 6
  helper_most l =
      omega (arith, (lowest one_of_six.number one_of_six.none (omega (arith, one_of_six.within))).upto, one_of_six.within)

  helps : (h : ℕ) → NoneOf five h → Upto n h → Five (Upto n) u v f.p f.q f.r →
      Six (Upto n) u v (helper n u v f) f.p f.q f.r
  unfolding can_help
  helps h o i d =
      let x = lowest h o i in
      let y = test_none five (helper n u v f) x.passes in
      let z : Upto n (helper n u v f) = omega (arith, x.from, x.upto) in
      search ne_sym

  -- so the five and the lowest helper differ: where six points are there, or one is known that can help
  pub helper_found : 6 ≤ n → Five (Upto n) u v f.p f.q f.r → Six (Upto n) u v (helper n u v f) f.p f.q f.r
  helper_found l d = helps one_of_six.number one_of_six.none (omega (arith, one_of_six.within)) d

  pub helper_helps : (h : ℕ) → Six (Upto n) u v h f.p f.q f.r → Six (Upto n) u v (helper n u v f) f.p f.q f.r
  helper_helps h d = helps h (search ne_sym) d.c_in (search)
