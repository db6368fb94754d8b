-- The proofs of `Merging`. Assumes nothing.
use Rattle.std.specs.Prelude.{◌≡◌, refl, Bool, true, false, ◌||◌, List, [], ◌∷◌, ◌++◌, map, ℕ, zero, suc, ◌+◌, ◌≤◌, ◌<◌, eqb}
use Rattle.std.proofs.Common.{sym, ap, ◌∙◌, ⊎_elim, arith, div-add-mod', mod-lt, eq-eqb}
use Rattle.std.proofs.lemmas.List.{map-append}
use Rattle.std.proofs.Math.Decide.{ℕ_discrete}
use Rattle.laws.specs.Range.{more}
use Rattle.class_block.specs.Block.{scenes_of}
use Rattle.class_block.specs.Parts.{Ended}
use Rattle.class_block.proofs.PartsProof.{parts}
use Rattle.class_tally.specs.Tally.{mark_of, counts, in_line, pairs_of, made, tally_of, marks_of, mean_over, mean_of}
use Rattle.class_tally.specs.Most.{pairs_or_line}
use Rattle.class_tally.specs.Counting.{line_some}
use Rattle.class_tally.specs.Merge.{made_same}
use Rattle.class_tally.specs.Merging.{plus, tally, Counted, pairs_back, Merging}
use Rattle.class_tally.specs.declared.Mark.{Mark}
use Rattle.class_tally.specs.declared.Tally.{Tally}
use Rattle.class_tally.specs.declared.Mean.{Mean}

-- ---- two lists of marks

more_sum : (b : Bool) (x y : ℕ) → more b (x + y) ≡ more b x + y
more_sum true x y = omega arith
more_sum false x y = refl

pub in_line_sum : (k : ℕ) (xs ys : List Mark) → in_line k (xs ++ ys) ≡ in_line k xs + in_line k ys
unfolding in_line
in_line_sum k [] ys = omega arith
in_line_sum k (m ∷ xs) ys = ap (more (counts k m)) (in_line_sum k xs ys) ∙ more_sum (counts k m) (in_line k xs) (in_line k ys)

pub pairs_sum : (xs ys : List Mark) → pairs_of (xs ++ ys) ≡ pairs_of xs + pairs_of ys
unfolding pairs_of
pairs_sum [] ys = omega arith
pairs_sum (m ∷ xs) ys = omega (arith, pairs_sum xs ys)

made_sum : (f g : ℕ → ℕ) (p q : ℕ) → made (λ k. f k + g k) (p + q) ≡ plus (made f p) (made g q)
made_sum f g p q =
    let e : f 1 + g 1 + (f 2 + g 2) + (f 3 + g 3) + (f 4 + g 4) ≡ f 1 + f 2 + f 3 + f 4 + (g 1 + g 2 + g 3 + g 4) = omega arith in
    λ i.
    record {
      scenes = f 0 + g 0;
      cross = f 1 + g 1;
      a_in_b = f 2 + g 2;
      b_in_a = f 3 + g 3;
      apart = f 4 + g 4;
      refused_1 = f 5 + g 5;
      refused_2 = f 6 + g 6;
      refused_3 = f 7 + g 7;
      refused_4 = f 8 + g 8;
      refused_5 = f 9 + g 9;
      refused_6 = f 10 + g 10;
      refused_7 = f 11 + g 11;
      refused_8 = f 12 + g 12;
      refused_9 = f 13 + g 13;
      refused_14 = f 14 + g 14;
      accepted = e i;
      pairs = p + q;
    }

sum : (x y : List ℕ) → Ended x → tally (x ++ y) ≡ plus (tally x) (tally y)
unfolding tally_of marks_of
sum x y e =
    let m : marks_of (x ++ y) ≡ marks_of x ++ marks_of y = ap (map mark_of) (parts.joined x y e)
    ∙ map-append mark_of (scenes_of x) (scenes_of y) in
    ap tally_of m
    ∙ made_same (λ k. in_line k (marks_of x ++ marks_of y)) (λ k. in_line k (marks_of x) + in_line k (marks_of y))
    (λ k h. in_line_sum k (marks_of x) (marks_of y)) (pairs_sum (marks_of x) (marks_of y))
    ∙ made_sum (λ k. in_line k (marks_of x)) (λ k. in_line k (marks_of y)) (pairs_of (marks_of x)) (pairs_of (marks_of y))

add_swap : (a b : ℕ) → a + b ≡ b + a
add_swap a b = omega arith

order : (t u : Tally) → plus t u ≡ plus u t
order t u = λ i.
    record {
      scenes = add_swap t.scenes u.scenes i;
      cross = add_swap t.cross u.cross i;
      a_in_b = add_swap t.a_in_b u.a_in_b i;
      b_in_a = add_swap t.b_in_a u.b_in_a i;
      apart = add_swap t.apart u.apart i;
      refused_1 = add_swap t.refused_1 u.refused_1 i;
      refused_2 = add_swap t.refused_2 u.refused_2 i;
      refused_3 = add_swap t.refused_3 u.refused_3 i;
      refused_4 = add_swap t.refused_4 u.refused_4 i;
      refused_5 = add_swap t.refused_5 u.refused_5 i;
      refused_6 = add_swap t.refused_6 u.refused_6 i;
      refused_7 = add_swap t.refused_7 u.refused_7 i;
      refused_8 = add_swap t.refused_8 u.refused_8 i;
      refused_9 = add_swap t.refused_9 u.refused_9 i;
      refused_14 = add_swap t.refused_14 u.refused_14 i;
      accepted = add_swap t.accepted u.accepted i;
      pairs = add_swap t.pairs u.pairs i;
    }

add_shift : (a b c : ℕ) → a + b + c ≡ a + (b + c)
add_shift a b c = omega arith

split : (t u v : Tally) → plus (plus t u) v ≡ plus t (plus u v)
split t u v = λ i.
    record {
      scenes = add_shift t.scenes u.scenes v.scenes i;
      cross = add_shift t.cross u.cross v.cross i;
      a_in_b = add_shift t.a_in_b u.a_in_b v.a_in_b i;
      b_in_a = add_shift t.b_in_a u.b_in_a v.b_in_a i;
      apart = add_shift t.apart u.apart v.apart i;
      refused_1 = add_shift t.refused_1 u.refused_1 v.refused_1 i;
      refused_2 = add_shift t.refused_2 u.refused_2 v.refused_2 i;
      refused_3 = add_shift t.refused_3 u.refused_3 v.refused_3 i;
      refused_4 = add_shift t.refused_4 u.refused_4 v.refused_4 i;
      refused_5 = add_shift t.refused_5 u.refused_5 v.refused_5 i;
      refused_6 = add_shift t.refused_6 u.refused_6 v.refused_6 i;
      refused_7 = add_shift t.refused_7 u.refused_7 v.refused_7 i;
      refused_8 = add_shift t.refused_8 u.refused_8 v.refused_8 i;
      refused_9 = add_shift t.refused_9 u.refused_9 v.refused_9 i;
      refused_14 = add_shift t.refused_14 u.refused_14 v.refused_14 i;
      accepted = add_shift t.accepted u.accepted v.accepted i;
      pairs = add_shift t.pairs u.pairs v.pairs i;
    }

-- ---- a scene with pairs is an accepted one

abbrev accepted : List Mark → ℕ
accepted ms = in_line 1 ms + in_line 2 ms + in_line 3 ms + in_line 4 ms

-- a mark in one of the lines 1 to 4 is counted there
counted_there : (k : ℕ) (m : Mark) (ms : List Mark) → m.line ≡ k → 0 < in_line k (m ∷ ms)
unfolding in_line
counted_there k m ms e = rw (eq-eqb k m.line (sym e)) (go (eqb k 0))
  where
    go : (b : Bool) → 0 < more (b || true) (in_line k ms)
    go true = omega arith
    go false = omega arith

in_four : (m : Mark) (ms : List Mark) → 1 ≤ m.line → m.line ≤ 4 → 0 < accepted (m ∷ ms)
in_four m ms a b = go (ℕ_discrete m.line 1) (ℕ_discrete m.line 2) (ℕ_discrete m.line 3)
  where
    go : Dec (m.line ≡ 1) → Dec (m.line ≡ 2) → Dec (m.line ≡ 3) → 0 < accepted (m ∷ ms)
    go (yes e) x y = omega (arith, counted_there 1 m ms e)
    go (no d) (yes e) y = omega (arith, counted_there 2 m ms e)
    go (no d) (no f) (yes e) = omega (arith, counted_there 3 m ms e)
    go (no d) (no f) (no g) = let e : m.line ≡ 4 = omega arith in omega (arith, counted_there 4 m ms e)

fewer : (k : ℕ) (m : Mark) (ms : List Mark) → in_line k ms ≤ in_line k (m ∷ ms)
unfolding in_line
fewer k m ms = go (counts k m)
  where
    go : (b : Bool) → in_line k ms ≤ more b (in_line k ms)
    go true = omega arith
    go false = omega arith

none : (ss : List (List ℕ)) → accepted (map mark_of ss) ≡ 0 → pairs_of (map mark_of ss) ≡ 0
unfolding pairs_of
none [] e = refl
none (s ∷ ss) e =
    let m : Mark = mark_of s in
    let ms : List Mark = map mark_of ss in
    let rest : pairs_of ms ≡ 0 = none ss (omega (arith, fewer 1 m ms, fewer 2 m ms, fewer 3 m ms, fewer 4 m ms)) in
    ⊎_elim (λ z. omega (arith, rest, z)) (λ l. absurd (omega (arith, in_four m ms (line_some s) l))) (pairs_or_line s)

counted : (x : List ℕ) → Counted (tally x)
unfolding tally_of marks_of
counted x e = none (scenes_of x) e

-- ---- the mean

back : (p n : ℕ) → (n ≡ 0 → p ≡ 0) → pairs_back (mean_over p n) ≡ p
back p zero h = omega (arith, h refl)
back p (suc n) h = div-add-mod' p (suc n)

divisor : (p n : ℕ) → (mean_over p n).divisor ≡ n
divisor p zero = refl
divisor p (suc n) = refl

less : (p n : ℕ) → 0 < n → (mean_over p n).remainder < (mean_over p n).divisor
less p zero h = absurd (omega arith)
less p (suc n) h = mod-lt p (omega arith)

means : (t : Tally) → mean_of t ≡ mean_over t.pairs t.accepted
unfolding mean_of
means t = refl

pub merging : Merging
merging =
    record {
      sum = sum;
      order = order;
      split = split;
      counted = counted;
      counted_sum = λ t u h k e. omega (arith, h (omega arith), k (omega arith));
      back = λ t h. ap pairs_back (means t) ∙ back t.pairs t.accepted h;
      divisor = λ t. ap (λ (m : Mean). m.divisor) (means t) ∙ divisor t.pairs t.accepted;
      less = λ t h. rw (means t) (less t.pairs t.accepted h);
    }
