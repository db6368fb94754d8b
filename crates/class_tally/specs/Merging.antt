-- Reports added: for blocks that end with a whole scene, the tally of two of them end to end is the sum of their tallies, so that neither
-- the order nor the split matters; and the mean's three numbers give back the sum of pairs. The proofs stand in `MergingProof`.
-- Assumes nothing.
use Rattle.std.specs.Prelude.{◌≡◌, List, ◌++◌, ℕ, ◌+◌, ◌*◌, ◌<◌}
use Rattle.class_block.specs.Parts.{Ended}
use Rattle.class_tally.specs.Tally.{tally_of, marks_of, mean_of}
use Rattle.class_tally.specs.declared.Tally.{Tally}
use Rattle.class_tally.specs.declared.Mean.{Mean}

-- line by line
abbrev pub plus : Tally → Tally → Tally
plus t u =
    record {
      scenes = t.scenes + u.scenes;
      cross = t.cross + u.cross;
      a_in_b = t.a_in_b + u.a_in_b;
      b_in_a = t.b_in_a + u.b_in_a;
      apart = t.apart + u.apart;
      refused_1 = t.refused_1 + u.refused_1;
      refused_2 = t.refused_2 + u.refused_2;
      refused_3 = t.refused_3 + u.refused_3;
      refused_4 = t.refused_4 + u.refused_4;
      refused_5 = t.refused_5 + u.refused_5;
      refused_6 = t.refused_6 + u.refused_6;
      refused_7 = t.refused_7 + u.refused_7;
      refused_8 = t.refused_8 + u.refused_8;
      refused_9 = t.refused_9 + u.refused_9;
      refused_14 = t.refused_14 + u.refused_14;
      accepted = t.accepted + u.accepted;
      pairs = t.pairs + u.pairs;
    }

abbrev pub tally : List ℕ → Tally
tally block = tally_of (marks_of block)

-- no pairs without an accepted scene: so it is of every block, and of sums
abbrev pub Counted : Tally → Type 0
Counted t = t.accepted ≡ 0 → t.pairs ≡ 0

-- the pairs that a mean was made of
abbrev pub pairs_back : Mean → ℕ
pairs_back m = m.whole * m.divisor + m.remainder

pub record Merging : Type 0 where
  pub sum : (x y : List ℕ) → Ended x → tally (x ++ y) ≡ plus (tally x) (tally y)
  pub order : (t u : Tally) → plus t u ≡ plus u t
  pub split : (t u v : Tally) → plus (plus t u) v ≡ plus t (plus u v)
  pub counted : (x : List ℕ) → Counted (tally x)
  pub counted_sum : (t u : Tally) → Counted t → Counted u → Counted (plus t u)
  pub back : (t : Tally) → Counted t → pairs_back (mean_of t) ≡ t.pairs
  pub divisor : (t : Tally) → (mean_of t).divisor ≡ t.accepted
  pub less : (t : Tally) → 0 < t.accepted → (mean_of t).remainder < (mean_of t).divisor
