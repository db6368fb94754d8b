-- Where no word has a bit set but its own vertex's, no edge lies in an odd number of its solid's faces. Assumes nothing.
use Rattle.std.specs.Prelude.{◌≡◌, refl, ◌≢◌, Bool, true, false, ◌||◌, List, ℕ, ◌+◌, ◌/◌, ◌%◌, ◌^◌, ◌≤◌, ◌<◌, get_or, Ok}
use Rattle.std.proofs.Math.Path.{sym, ap}
use Rattle.std.proofs.Common.{◌∙◌, arith}
use Rattle.std.proofs.Math.Bool.{not}
use Rattle.std.proofs.Math.Decide.{dec_lt}
use borrow.Author.Tests.{eqb-true, ne_eqb}
use Rattle.std.specs.Int.Bits.{bit_or}
use Rattle.std.proofs.Math.Dec.{eqb}
use Rattle.laws.specs.Mask.{mask_of, or_masks, place_mask, mask_test}
use Rattle.laws.specs.Range.{count_of}
use Rattle.scene.specs.Records.{verts_a, verts_b, faces_in_a, faces_in_b, faces}
use Rattle.scene.specs.Tables.{corner_at}
use Rattle.judge.specs.Judge.{refuse_unless, is_edge, edge_ok, sides_ok, closed_at, edge_fault, edges_fault}
use Rattle.judge.specs.Cases.{closed_of_a, closed_of_b, verts_of_a, verts_of_b}
use Rattle.judge.specs.Tests.{first_iff}
use Rattle.judge.specs.Words.{places, CornersIn, FacesIn, AreWords, oddly, word_of, even_odd}
use Rattle.judge.specs.Alone.{is_alone, Alone}

falls : (a b : Bool) → b ≡ false → (a || b) ≡ b → a ≡ false
falls true b z e = e ∙ z
falls false b z e = refl

module _ (s : List ℕ) (a n : ℕ) {words : List ℕ} (are : AreWords s a n words) where
  module _ (v w : ℕ) (hv : v < places) (hw : w < places) (d : v ≢ w) (h : is_alone (get_or words v 0) v ≡ true) where
    own : mask_of (λ k. oddly s a n v k || eqb v k) places ≡ mask_of (λ k. eqb v k) places
    unfolding word_of
    own =
        sym (or_masks (oddly s a n v) (λ k. eqb v k) places)
        ∙ (λ i. bit_or (sym (are.at v hv) i) (sym (place_mask v places hv) i))
        ∙ eqb-true _ _ h
        ∙ place_mask v places hv

    not_odd : oddly s a n v w ≡ false
    not_odd =
        falls (oddly s a n v w) (eqb v w) (ne_eqb v w d)
        (sym (mask_test (λ k. oddly s a n v k || eqb v k) places w hw) ∙ ap (λ (m : ℕ). eqb (m / 2 ^ w % 2) 1) own
        ∙ mask_test (λ k. eqb v k) places w hw)

    edge_even : edge_ok s a (a + n) v w ≡ true
    unfolding edge_ok
    edge_even = even_odd (count_of (is_edge s v w) a (a + n)) ∙ ap not not_odd

  module _ {m : ℕ} (alone : Alone words m) (i : ℕ) (c : CornersIn s i) (p : corner_at s i 0 ≤ m) (q : corner_at s i 1 ≤ m)
      (r : corner_at s i 2 ≤ m) where
    sides_even : sides_ok s a (a + n) i ≡ true
    unfolding sides_ok
    sides_even =
        rw (
          edge_even (corner_at s i 0) (corner_at s i 1) c.p c.q c.pq (alone _ p),
          edge_even (corner_at s i 1) (corner_at s i 2) c.q c.r c.qr (alone _ q),
          edge_even (corner_at s i 2) (corner_at s i 0) c.r c.p c.rp (alone _ r),
        )

module _ (s : List ℕ) {wa wb : List ℕ} (are-a : AreWords s 0 (faces_in_a s) wa) (are-b : AreWords s (faces_in_a s) (faces_in_b s) wb)
    (alone-a : Alone wa (verts_a s)) (alone-b : Alone wb (verts_b s)) (all_in : FacesIn s) where
  closed : (i : ℕ) → i < faces s → closed_at s i ≡ true
  closed i h = go (dec_lt i (faces_in_a s))
    where
      c : CornersIn s i
      c = all_in i h

      go : Dec (i < faces_in_a s) → closed_at s i ≡ true
      go (yes b) =
          let e = verts_of_a s i b in
          let z : 0 + faces_in_a s ≡ faces_in_a s = omega arith in
          closed_of_a s i b ∙ sym (ap (λ (n : ℕ). sides_ok s 0 n i) z)
          ∙ sides_even s 0 (faces_in_a s) are-a alone-a i c (omega (arith, e, c.p_own)) (omega (arith, e, c.q_own))
          (omega (arith, e, c.r_own))
      go (no b) =
          let l : faces_in_a s ≤ i = omega arith in
          let e = verts_of_b s i l in
          closed_of_b s i l
          ∙ sides_even s (faces_in_a s) (faces_in_b s) are-b alone-b i c (omega (arith, e, c.p_own)) (omega (arith, e, c.q_own))
          (omega (arith, e, c.r_own))

  pub none_odd : edges_fault s ≡ Ok tt
  unfolding edges_fault edge_fault refuse_unless
  none_odd = (first_iff (edge_fault s) 0 (faces s)).1 (λ i a h. rw (closed i h))
