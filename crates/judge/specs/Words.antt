-- A word for each vertex of a solid: bit w of the word of v is set exactly when v and w are corners of an odd number of its faces together.
-- One pass over the faces turns the bits; the vertices that are used are a word of their own. Assumes nothing.
use Rattle.std.specs.Prelude.{ℕ, suc, ◌+◌, ◌/◌, ◌%◌, ◌^◌, ◌≤◌, ◌<◌, ◌≡◌, refl, ◌≢◌, Bool, true, false, not, cond, ◌&&◌, ◌||◌, List, eqb, length, set, replicate}
use Rattle.std.proofs.Math.Path.{sym}
use Rattle.std.proofs.Common.{ap, ap₂, ◌∙◌, arith, length-set, get_or-set_same, get_or-set_other}
use Rattle.std.proofs.Math.Decide.{ℕ_discrete}
use borrow.Author.Tests.{eq-eqb, ne_eqb}
use Rattle.std.specs.Int.Bits.{bit_or, bit_xor, xor_zero_r}
use Rattle.std.proofs.Math.ListN.{get_or}
use Rattle.std.proofs.lemmas.List.{length-replicate, get_or-replicate}
use Rattle.laws.specs.Bools.{law, all, ◌≐◌, ◌⊕◌}
use Rattle.laws.specs.Mask.{mask_of, or_masks, xor_masks, mask_none, place_mask, mask_same, mask_test}
use Rattle.laws.specs.Range.{more, any_of, count_of, any_more, count_more, over_stop}
use Rattle.scene.specs.Records.{faces}
use Rattle.scene.specs.Tables.{corner_at}
use Rattle.scene.specs.Faces.{is_corner, has_both}
use Rattle.judge.specs.Judge.{is_corner_of, is_edge, edge_ok, sides_ok, verts_at}

-- the bits of a word
abbrev pub places : ℕ
places = 64

-- the file's face i has three different corners, each a vertex of its solid with a place in a word
pub record CornersIn (s : List ℕ) (i : ℕ) : Type 0 where
  pub p : corner_at s i 0 < places
  pub q : corner_at s i 1 < places
  pub r : corner_at s i 2 < places
  pub pq : corner_at s i 0 ≢ corner_at s i 1
  pub qr : corner_at s i 1 ≢ corner_at s i 2
  pub rp : corner_at s i 2 ≢ corner_at s i 0
  pub p_own : corner_at s i 0 ≤ verts_at s i
  pub q_own : corner_at s i 1 ≤ verts_at s i
  pub r_own : corner_at s i 2 ≤ verts_at s i

abbrev pub FacesIn : List ℕ → Type 0
FacesIn s = (i : ℕ) → i < faces s → CornersIn s i

-- of the file's n faces from a on: v and w are together in an odd number of them, the word of v, and the word of the vertices that are used
abbrev pub oddly : List ℕ → (a n v w : ℕ) → Bool
oddly s a n v w = eqb (count_of (is_edge s v w) a (a + n) % 2) 1

unfoldable pub word_of : List ℕ → (a n v : ℕ) → ℕ
word_of s a n v = mask_of (oddly s a n v) places

unfoldable pub used_word : List ℕ → (a n : ℕ) → ℕ
used_word s a n = mask_of (λ v. any_of (is_corner_of s v) a (a + n)) places

-- the words of all vertices
pub record AreWords (s : List ℕ) (a n : ℕ) (words : List ℕ) : Type 0 where
  pub size : length words ≡ places
  pub at : (v : ℕ) → v < places → get_or words v 0 ≡ word_of s a n v

-- ---- one face more

-- the corners of the file's face i, as a word
unfoldable pub corners_word : List ℕ → ℕ → ℕ
corners_word s i = mask_of (λ w. is_corner_of s w i) places

unfoldable pub xored_at : List ℕ → (p t : ℕ) → List ℕ
xored_at words p t = set words p (bit_xor (get_or words p 0) t)

-- its corners are turned in the words of each of them
pub record TurnsFace (s : List ℕ) (i : ℕ) (before after : List ℕ) : Type 0 where
  pub size : length after ≡ length before
  pub at : (v : ℕ) → v < places → get_or after v 0 ≡ bit_xor (get_or before v 0) (cond (is_corner_of s v i) (corners_word s i) 0)

pub three_places : (s : List ℕ) (i : ℕ) {x y z : ℕ} → CornersIn s i → x ≡ 2 ^ corner_at s i 0 → y ≡ 2 ^ corner_at s i 1 →
    z ≡ 2 ^ corner_at s i 2 →
    bit_or (bit_or x y) z ≡ corners_word s i
unfolding corners_word is_corner_of is_corner
three_places s i h ex ey ez =
    ap₂ bit_or (ap₂ bit_or (ex ∙ place_mask _ places h.p) (ey ∙ place_mask _ places h.q) ∙ or_masks _ _ places)
    (ez ∙ place_mask _ places h.r)
    ∙ or_masks _ _ places
    ∙ mask_same _ _ places
    (λ k b.
    law (all λ a. all λ b. all λ c. (a || b) || c ≐ a || (b || c)) tt (eqb (corner_at s i 0) k) (eqb (corner_at s i 1) k)
    (eqb (corner_at s i 2) k))

module _ (words : List ℕ) (p t : ℕ) (h : p < length words) where
  xored_at_law : (v : ℕ) → get_or (xored_at words p t) v 0 ≡ bit_xor (get_or words v 0) (cond (eqb p v) t 0)
  unfolding xored_at
  xored_at_law v = go (ℕ_discrete v p)
    where
      go : Dec (v ≡ p) → get_or (xored_at words p t) v 0 ≡ bit_xor (get_or words v 0) (cond (eqb p v) t 0)
      go (yes e) = rw (e, eq-eqb p p refl) (get_or-set_same words p (bit_xor (get_or words p 0) t) 0 h)
      go (no d) =
          rw (ne_eqb p v (λ e. d (sym e))) (get_or-set_other words p v (bit_xor (get_or words p 0) t) 0 d ∙ sym (xor_zero_r (get_or words v 0)))

pub xored_size : (words : List ℕ) (p t : ℕ) {after : List ℕ} → after ≡ xored_at words p t → length words ≡ places → length after ≡ places
unfolding xored_at
xored_size words p t e h = ap length e ∙ length-set words p (bit_xor (get_or words p 0) t) ∙ h

-- of three different corners, v is one at most
once : (m t v : ℕ) (p q r : ℕ) → p ≢ q → q ≢ r → r ≢ p →
    bit_xor (bit_xor (bit_xor m (cond (eqb p v) t 0)) (cond (eqb q v) t 0)) (cond (eqb r v) t 0) ≡ bit_xor m
    (cond (eqb p v || (eqb q v || eqb r v)) t 0)
once m t v p q r pq qr rp = go (ℕ_discrete p v) (ℕ_discrete q v) (ℕ_discrete r v)
  where
    go : Dec (p ≡ v) → Dec (q ≡ v) → Dec (r ≡ v) →
        bit_xor (bit_xor (bit_xor m (cond (eqb p v) t 0)) (cond (eqb q v) t 0)) (cond (eqb r v) t 0) ≡ bit_xor m
        (cond (eqb p v || (eqb q v || eqb r v)) t 0)
    go (yes a) (yes b) c = absurd (pq (a ∙ sym b))
    go (yes a) (no b) (yes c) = absurd (rp (c ∙ sym a))
    go (yes a) (no b) (no c) = rw (eq-eqb p v a, ne_eqb q v b, ne_eqb r v c) (xor_zero_r _ ∙ xor_zero_r _)
    go (no a) (yes b) (yes c) = absurd (qr (b ∙ sym c))
    go (no a) (yes b) (no c) = rw (ne_eqb p v a, eq-eqb q v b, ne_eqb r v c) (xor_zero_r _ ∙ ap (λ (x : ℕ). bit_xor x t) (xor_zero_r m))
    go (no a) (no b) (yes c) = rw (ne_eqb p v a, ne_eqb q v b, eq-eqb r v c) (ap (λ (x : ℕ). bit_xor x t) (xor_zero_r _ ∙ xor_zero_r m))
    go (no a) (no b) (no c) = rw (ne_eqb p v a, ne_eqb q v b, ne_eqb r v c) (xor_zero_r _ ∙ xor_zero_r _)

pub turns_face : (s : List ℕ) (i : ℕ) (words : List ℕ) {w1 w2 w3 : List ℕ} {p q r t : ℕ} → CornersIn s i → length words ≡ places →
    p ≡ corner_at s i 0 → q ≡ corner_at s i 1 → r ≡ corner_at s i 2 → t ≡ corners_word s i → w1 ≡ xored_at words p t → w2 ≡ xored_at w1 q t →
    w3 ≡ xored_at w2 r t →
    TurnsFace s i words w3
unfolding is_corner_of is_corner
turns_face s i words {w1} {w2} {w3} {p} {q} {r} {t} h long ep eq er et e1 e2 e3 =
    let l1 : length w1 ≡ places = xored_size words p t e1 long in
    let l2 : length w2 ≡ places = xored_size w1 q t e2 l1 in
    record {
      size = xored_size w2 r t e3 l2 ∙ sym long;
      at = λ v b.
          ap (λ (w : List ℕ). get_or w v 0) e3
          ∙ xored_at_law w2 r t (omega (arith, l2, h.r)) v
          ∙ ap (λ (x : ℕ). bit_xor x (cond (eqb r v) t 0))
          (ap (λ (w : List ℕ). get_or w v 0) e2
          ∙ xored_at_law w1 q t (omega (arith, l1, h.q)) v
          ∙ ap (λ (x : ℕ). bit_xor x (cond (eqb q v) t 0))
          (ap (λ (w : List ℕ). get_or w v 0) e1 ∙ xored_at_law words p t (omega (arith, h.p)) v))
          ∙ once (get_or words v 0) t v p q r (λ e. h.pq (sym ep ∙ e ∙ eq)) (λ e. h.qr (sym eq ∙ e ∙ er)) (λ e. h.rp (sym er ∙ e ∙ ep))
          ∙ (λ j. bit_xor (get_or words v 0) (cond (eqb (ep j) v || (eqb (eq j) v || eqb (er j) v)) (et j) 0));
    }

-- ---- of no faces, and of one face more

pub words_none : (s : List ℕ) (a : ℕ) → AreWords s a 0 (replicate places 0)
unfolding word_of count_of
words_none s a =
    record {
      size = length-replicate {A = ℕ} places 0;
      at = λ v b.
          get_or-replicate places v 0 0 b
          ∙ sym
          (mask_none (oddly s a 0 v) places
          (λ w c. ap (λ (n : ℕ). eqb (n % 2) 1) (over_stop (λ k rest. more (is_edge s v w k) rest) 0 a (a + 0) (omega arith))));
    }

pub used_none : (s : List ℕ) (a : ℕ) → 0 ≡ used_word s a 0
unfolding used_word any_of
used_none s a =
    sym (mask_none (λ v. any_of (is_corner_of s v) a (a + 0)) places
    (λ v b. over_stop (λ k rest. is_corner_of s v k || rest) false a (a + 0) (omega arith)))

odd_more : (b : Bool) (n : ℕ) → eqb (more b n % 2) 1 ≡ eqb (n % 2) 1 ⊕ b
odd_more true n = go (ℕ_discrete (n % 2) 1)
  where
    go : Dec (n % 2 ≡ 1) → eqb (suc n % 2) 1 ≡ eqb (n % 2) 1 ⊕ true
    go (yes e) = rw (eq-eqb (n % 2) 1 e, ne_eqb (suc n % 2) 1 (omega arith))
    go (no d) = rw (ne_eqb (n % 2) 1 d, eq-eqb (suc n % 2) 1 (omega arith))
odd_more false n = law (all λ a. a ≐ a ⊕ false) tt (eqb (n % 2) 1)

oddly_more : (s : List ℕ) (a k v w : ℕ) → oddly s a (k + 1) v w ≡ oddly s a k v w ⊕ (is_corner_of s v (a + k) && is_corner_of s w (a + k))
unfolding is_edge is_corner_of has_both
oddly_more s a k v w =
    let e : a + (k + 1) ≡ a + k + 1 = omega arith in
    rw e
    (ap (λ (n : ℕ). eqb (n % 2) 1) (count_more (is_edge s v w) a (a + k) (omega arith))
    ∙ odd_more (is_edge s v w (a + k)) (count_of (is_edge s v w) a (a + k)))

chosen : (c : Bool) (g : ℕ → Bool) → cond c (mask_of g places) 0 ≡ mask_of (λ w. c && g w) places
chosen true g = refl
chosen false g = sym (mask_none (λ w. false) places (λ w b. refl))

pub words_more : (s : List ℕ) (a k : ℕ) {before after : List ℕ} → AreWords s a k before → TurnsFace s (a + k) before after →
    AreWords s a (k + 1) after
unfolding word_of corners_word
words_more s a k w m =
    record {
      size = m.size ∙ w.size;
      at = λ v b.
          m.at v b
          ∙ ap₂ bit_xor (w.at v b) (chosen (is_corner_of s v (a + k)) (λ w. is_corner_of s w (a + k)))
          ∙ xor_masks (oddly s a k v) (λ w. is_corner_of s v (a + k) && is_corner_of s w (a + k)) places
          ∙ mask_same _ _ places (λ w c. sym (oddly_more s a k v w));
    }

pub used_more : (s : List ℕ) (a k : ℕ) {u t : ℕ} → u ≡ used_word s a k → t ≡ corners_word s (a + k) → bit_or u t ≡ used_word s a (k + 1)
unfolding used_word corners_word
used_more s a k eu et =
    let e : a + k + 1 ≡ a + (k + 1) = omega arith in
    ap₂ bit_or eu et ∙ or_masks _ _ places
    ∙ mask_same _ _ places (λ v b. sym (any_more (is_corner_of s v) a (a + k) (omega arith)) ∙ ap (any_of (is_corner_of s v) a) e)

-- ---- what a bit says

pub even_odd : (n : ℕ) → eqb (n % 2) 0 ≡ not (eqb (n % 2) 1)
even_odd n = go (ℕ_discrete (n % 2) 1)
  where
    go : Dec (n % 2 ≡ 1) → eqb (n % 2) 0 ≡ not (eqb (n % 2) 1)
    go (yes e) = rw (eq-eqb (n % 2) 1 e, ne_eqb (n % 2) 0 (omega arith))
    go (no d) = rw (ne_eqb (n % 2) 1 d, eq-eqb (n % 2) 0 (omega arith))

-- v and w lie in an even number of the faces
pub in_even : (s : List ℕ) (a n v w : ℕ) (words : List ℕ) → AreWords s a n words → v < places → w < places →
    eqb (get_or words v 0 / 2 ^ w % 2) 0 ≡ edge_ok s a (a + n) v w
unfolding word_of edge_ok
in_even s a n v w words are hv hw =
    ap (λ (m : ℕ). eqb (m / 2 ^ w % 2) 0) (are.at v hv)
    ∙ even_odd (mask_of (oddly s a n v) places / 2 ^ w)
    ∙ ap not (mask_test (oddly s a n v) places w hw)
    ∙ sym (even_odd (count_of (is_edge s v w) a (a + n)))

-- v is a corner of one of the faces
pub in_used : (s : List ℕ) (a n v : ℕ) {u : ℕ} → u ≡ used_word s a n → v < places → eqb (u / 2 ^ v % 2) 1 ≡ any_of (is_corner_of s v) a (a + n)
unfolding used_word
in_used s a n v e h = ap (λ (m : ℕ). eqb (m / 2 ^ v % 2) 1) e ∙ mask_test (λ v. any_of (is_corner_of s v) a (a + n)) places v h

-- what a test of one side, or of the three of the file's face i, says, whichever faces the words are of
abbrev pub SideBy : List ℕ → (words : List ℕ) → (v w : ℕ) → Bool → Type 0
SideBy s words v w r = (a n : ℕ) → AreWords s a n words → r ≡ edge_ok s a (a + n) v w

abbrev pub SidesBy : List ℕ → (words : List ℕ) → (i : ℕ) → Bool → Type 0
SidesBy s words i r = (a n : ℕ) → AreWords s a n words → r ≡ sides_ok s a (a + n) i
