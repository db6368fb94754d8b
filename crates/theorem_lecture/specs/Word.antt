-- The word of a verdict is told by the counts alone: whether there is a pair, a vertex of A that is enclosed, one of B. Assumes nothing.
use Rattle.std.specs.Prelude.{◌≡◌, refl, Bool, true, false, cond, List, [], ◌∷◌, ℕ, zero, suc, ◌+◌, ◌-◌, ◌≤◌, leb, ltb, length, Ok}
use Rattle.std.proofs.Common.{sym, ap, ◌∙◌, arith, le-leb, lt-ltb}
use Rattle.std.proofs.lemmas.Bool.{lt-leb}
use Rattle.laws.specs.Range.{fold, over, more, count_of, lowest_of}
use Rattle.scene.specs.View.{view_of, solid}
use Rattle.judge.specs.Judge.{judged}
use Rattle.questions.specs.Hits.{Hit, enclosed_vertex, enclosed_count, lowest_enclosed}
use Rattle.questions.specs.First.{first_of}
use Rattle.questions.specs.Answers.{or_refuse, counts_in, inside_in, cross_or, enclosure_in, listing_in, verdict_in, verdict_of, verdict_number}
use Rattle.questions.specs.declared.Counts.{Counts}
use Rattle.questions.specs.declared.Verdict.TheVariants.{AInB, BInA, Apart}
use Rattle.scene.specs.Records.{verts_a, verts_b, verts}
use Rattle.theorem_lecture.specs.Exchange.{seen_of, in_a, in_b}

-- one is found where the count is not 0; m is the last number
found_fold : (p : ℕ → Bool) (m n a : ℕ) → a + n ≤ m + 1 →
    leb (fold (λ k rest. cond (p k) k rest) (m + 1) a n) m ≡ ltb 0 (fold (λ k rest. more (p k) rest) 0 a n)
found_fold p m zero a h = lt-leb (m + 1) m (omega arith)
found_fold p m (suc n) a h = by (p a) _ _ (found_fold p m n (suc a) (omega arith))
  where
    by : (b : Bool) (l c : ℕ) → leb l m ≡ ltb 0 c → leb (cond b a l) m ≡ ltb 0 (more b c)
    by true l c e = le-leb a m (omega arith) ∙ sym (lt-ltb 0 (suc c) (omega arith))
    by false l c e = e

found : (p : ℕ → Bool) (a n m : ℕ) → a + n ≡ m + 1 → leb (lowest_of p a (a + n)) m ≡ ltb 0 (count_of p a (a + n))
unfolding lowest_of count_of over
found p a n m e =
    let d : a + n - a ≡ n = omega arith in
    rw d (ap (λ (z : ℕ). leb (fold (λ k rest. cond (p k) k rest) z a n) m) e ∙ found_fold p m n a (omega arith))

-- cross, a-in-b, b-in-a, apart
abbrev pub word : (pair a b : Bool) → ℕ
word pair a b = cond pair 0 (cond a 1 (cond b 2 3))

abbrev pub word_by : Counts → ℕ
word_by c = word (ltb 0 c.pairs) (ltb 0 c.a_in_b) (ltb 0 c.b_in_a)

word_is : (l : List Hit) (x y : Bool) (p q : ℕ) →
    verdict_number (Ok (cross_or (first_of l) (cond x (AInB p) (cond y (BInA q) Apart)))) ≡ word (ltb 0 (length l)) x y
unfolding first_of
word_is (h ∷ l) x y p q = rw (lt-ltb 0 (suc (length l)) (omega arith))
word_is [] true y p q = refl
word_is [] false true p q = refl
word_is [] false false p q = refl

pub word_by_counts : (s : List ℕ) → judged s ≡ Ok tt → verdict_number (verdict_of s) ≡ word_by (counts_in (view_of s))
unfolding verdict_of verdict_in enclosure_in counts_in inside_in enclosed_count lowest_enclosed solid or_refuse
word_by_counts s ok =
    let x = found (enclosed_vertex (seen_of s) (in_a s)) (0 + 1) (verts_a s) (verts_a s) (omega arith) in
    let y = found (enclosed_vertex (seen_of s) (in_b s)) (verts_a s + 1) (verts_b s) (verts s) (omega arith) in
    rw ok
    (word_is (listing_in (view_of s)) (leb (lowest_enclosed (seen_of s) (in_a s)) (verts_a s)) (leb (lowest_enclosed (seen_of s) (in_b s)) (verts s))
    (lowest_enclosed (seen_of s) (in_a s)) (lowest_enclosed (seen_of s) (in_b s))
    ∙ (λ i. word (ltb 0 (length (listing_in (view_of s)))) (x i) (y i)))
