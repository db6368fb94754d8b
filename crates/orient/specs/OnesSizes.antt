-- How large the numbers are that are formed on the way to c1 and c2 of four points of weight 1, and what the code reads back of them.
-- Assumes nothing.
use Rattle.std.specs.Prelude.{◌≡◌, refl, Bool, true, false, ℕ, zero, suc, ◌+◌, ◌*◌, ◌≤◌, eqb, ℤ, pos, negsuc}
use Rattle.std.proofs.Common.{sym, ap, ◌∙◌, le_trans, add-le-add, arith, eqb-true, lit≤, SFits, to_z, of_z}
use Rattle.std.proofs.lemmas.Bool.{eqb-false}
use Rattle.std.specs.Int.{w64}
use Rattle.laws.specs.Size.{◌⊗◌, ◌⊖◌, ◌⊕◌, Held, formed}
use Rattle.scene.specs.Limits.{limits}
use Rattle.orient.specs.Columns.{row_of}
use Rattle.orient.specs.Formed.{most_formed, RowSize, TripleProductWithin, RowMinusWithin, minor_size_law, alternating_size_law}
use Rattle.orient.specs.Sizes.{Within, AreWithin, X, Y, Z, row_size}
use Rattle.orient.specs.Bits.{room, read}
use Rattle.orient.specs.Ones.{is_one, direction_of, directions_part}
use Rattle.orient.specs.declared.Point.{Point}

-- ---- a weight is 1 where its bits are

pub one_read : {w : ℤ} → SFits w64 w → eqb (of_z w64 w) 1 ≡ is_one w
one_read {w} fits = go (eqb (of_z w64 w) 1) refl
  where
    not_one : (w : ℤ) → (of_z w64 w ≡ 1 → ⊥) → false ≡ is_one w
    not_one (pos zero) h = refl
    not_one (pos (suc zero)) h = absurd (h refl)
    not_one (pos (suc (suc n))) h = refl
    not_one (negsuc n) h = refl

    go : (t : Bool) → eqb (of_z w64 w) 1 ≡ t → t ≡ is_one w
    go true e = ap is_one (sym (ap (to_z w64) (eqb-true (of_z w64 w) 1 e)) ∙ read fits)
    go false e = not_one w (eqb-false (of_z w64 w) 1 e)

-- ---- a direction: each entry is the difference of two

module _ (s : Bool) where
  abbrev x2 : ℕ
  x2 = X limits s + X limits s

  abbrev y2 : ℕ
  y2 = Y limits s + Y limits s

  abbrev z2 : ℕ
  z2 = Z limits s + Z limits s

formable : (s : Bool) → x2 s + y2 s + z2 s ≤ most_formed
formable true = lit≤ tt
formable false = lit≤ tt

module _ {p d : Point} (v : Within limits p) (u : Within limits d) (s : Bool) where
  abbrev from : RowSize (X limits s) (Y limits s) (Z limits s) limits.most_weight (row_of p s s s)
  from = row_size limits s s s (lit≤ tt) v

  abbrev last : RowSize (X limits s) (Y limits s) (Z limits s) limits.most_weight (row_of d s s s)
  last = row_size limits s s s (lit≤ tt) u

  seen_size : RowSize (x2 s) (y2 s) (z2 s) 0 (direction_of p d s)
  seen_size =
      record {
        x = from.x ⊖ last.x;
        y = from.y ⊖ last.y;
        z = from.z ⊖ last.z;
        w = record { size = lit≤ tt };
      }

  pub seen_less : RowMinusWithin most_formed (row_of p s s s) (row_of d s s s)
  seen_less =
      let h = formable s in
      record {
        x = le_trans (add-le-add from.x.size last.x.size) (le_trans (omega arith) h);
        y = le_trans (add-le-add from.y.size last.y.size) (le_trans (omega arith) h);
        z = le_trans (add-le-add from.z.size last.z.size) (le_trans (omega arith) h);
      }

-- ---- three directions

module _ (sa sb sc : Bool) where
  -- the minors of the last two
  abbrev yz : ℕ
  yz = y2 sb * z2 sc + z2 sb * y2 sc

  abbrev xz : ℕ
  xz = x2 sb * z2 sc + z2 sb * x2 sc

  abbrev xy : ℕ
  xy = x2 sb * y2 sc + y2 sb * x2 sc

  abbrev pub triple_product_size : ℕ
  triple_product_size = x2 sa * yz + y2 sa * xz + z2 sa * xy

  abbrev all : ℕ
  all = yz + xz + xy + triple_product_size

triple_fits : (sa sb sc : Bool) → all sa sb sc ≤ most_formed
triple_fits true true true = lit≤ tt
triple_fits true true false = lit≤ tt
triple_fits true false true = lit≤ tt
triple_fits true false false = lit≤ tt
triple_fits false true true = lit≤ tt
triple_fits false true false = lit≤ tt
triple_fits false false true = lit≤ tt
triple_fits false false false = lit≤ tt

module _ {a b c d : Point} (sa sb sc : Bool) (v : AreWithin limits a b c d) where
  abbrev p : RowSize (x2 sa) (y2 sa) (z2 sa) 0 (direction_of a d sa)
  p = seen_size v.0 v.3 sa

  abbrev q : RowSize (x2 sb) (y2 sb) (z2 sb) 0 (direction_of b d sb)
  q = seen_size v.1 v.3 sb

  abbrev r : RowSize (x2 sc) (y2 sc) (z2 sc) 0 (direction_of c d sc)
  r = seen_size v.2 v.3 sc

  pub seen_formed : TripleProductWithin most_formed (direction_of a d sa) (direction_of b d sb) (direction_of c d sc)
  seen_formed =
      let h = triple_fits sa sb sc in
      record {
        x = le_trans (minor_size_law q.y q.z r.y r.z) (le_trans (omega arith) h);
        y = le_trans (minor_size_law q.x q.z r.x r.z) (le_trans (omega arith) h);
        z = le_trans (minor_size_law q.x q.y r.x r.y) (le_trans (omega arith) h);
        whole =
            le_trans
            (alternating_size_law p.x (q.y ⊗ r.z ⊖ q.z ⊗ r.y) p.y (q.x ⊗ r.z ⊖ q.z ⊗ r.x) p.z (q.x ⊗ r.y ⊖ q.y ⊗ r.x))
            (le_trans (omega arith) h);
      }

  pub seen_held : {n : ℤ} → n ≡ directions_part a b c d sa sb sc → Held (triple_product_size sa sb sc) n (directions_part a b c d sa sb sc)
  unfolding directions_part
  seen_held e =
      formed e
      (p.x ⊗ (q.y ⊗ r.z ⊖ q.z ⊗ r.y) ⊖ p.y ⊗ (q.x ⊗ r.z ⊖ q.z ⊗ r.x) ⊕ p.z ⊗ (q.x ⊗ r.y ⊖ q.y ⊗ r.x))
      (room (le_trans (omega arith) (triple_fits sa sb sc)))
