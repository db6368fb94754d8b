-- The faces that part any face of the other solid, beside those that part each: their union stands at 0 of the table, where no face is.
-- Assumes nothing.
use Rattle.std.specs.Prelude.{◌≡◌, true, List, ℕ, zero, suc, ◌+◌, ◌*◌, ◌<◌, length}
use Rattle.std.proofs.Common.{sym, ap, ◌∙◌, add-one, arith}
use Rattle.std.proofs.Math.Decide.{ℕ_discrete}
use Rattle.std.specs.Int.Bits.{bit_and, bit_or, and_zero_r}
use Rattle.std.proofs.lemmas.Nat.{or_comm}
use Rattle.laws.specs.Bits.{and_assoc, and_or}
use Rattle.laws.specs.Decides.{and_iff, eqb_iff}
use Rattle.pierce_masks.specs.declared.Mask.{Mask}
use Rattle.survey_sides.specs.Tables.{mask_in, word_set, masks_from, word_keeps, word_same, word_other, masks_at, masks_length}
use Rattle.survey_narrow.specs.Cover.{covers}

abbrev pub no_faces : Mask
no_faces = record { low = 0; high = 0 }

abbrev pub either_of : Mask → Mask → Mask
either_of a b = record { low = bit_or a.low b.low; high = bit_or a.high b.high }

-- of g at each number from 1 to n
unfoldable pub union_of : (ℕ → Mask) → (n : ℕ) → Mask
union_of g zero = no_faces
union_of g (suc n) = either_of (union_of g n) (g (1 + n))

-- one turn of the loop that makes it
pub union_more : (g : ℕ → Mask) (i : ℕ) {u m : Mask} → u ≡ union_of g i → m ≡ g (1 + i) → either_of u m ≡ union_of g (i + 1)
unfolding union_of
union_more g i p q = (λ t. either_of (p t) (q t)) ∙ ap (union_of g) (sym (add-one i))

-- the table that is filled with them
abbrev pub cuts_from : (ℕ → Mask) → (n : ℕ) → List ℕ → List ℕ
cuts_from g n l = word_set (masks_from g 0 n l) 0 (union_of g n)

pub cuts_done : (g : ℕ → Mask) (l : List ℕ) {n i : ℕ} {t : List ℕ} {u : Mask} → i ≡ n → t ≡ masks_from g 0 i l → u ≡ union_of g i →
    word_set t 0 u ≡ cuts_from g n l
cuts_done g l e p q = (λ j. word_set (p j) 0 (q j)) ∙ ap (λ (n : ℕ). cuts_from g n l) e

-- ---- what covers what

module _ (c d a : ℕ) (p : bit_and c d ≡ d) (q : bit_and d a ≡ a) where
  word_trans : bit_and c a ≡ a
  word_trans = ap (bit_and c) (sym q) ∙ sym (and_assoc c d a) ∙ ap (λ (x : ℕ). bit_and x a) p ∙ q

covers_by : (c a : Mask) → bit_and c.low a.low ≡ a.low → bit_and c.high a.high ≡ a.high → covers c a ≡ true
covers_by c a p q = (and_iff _ _).1 ((eqb_iff _ _).1 p, (eqb_iff _ _).1 q)

pub covers_trans : (c d a : Mask) → covers c d ≡ true → covers d a ≡ true → covers c a ≡ true
covers_trans c d a p q =
    let x = (and_iff _ _).0 p in
    let y = (and_iff _ _).0 q in
    covers_by c a (word_trans c.low d.low a.low ((eqb_iff _ _).0 x.0) ((eqb_iff _ _).0 y.0))
    (word_trans c.high d.high a.high ((eqb_iff _ _).0 x.1) ((eqb_iff _ _).0 y.1))

pub covers_none : (c : Mask) → covers c no_faces ≡ true
covers_none c = covers_by c no_faces (and_zero_r c.low) (and_zero_r c.high)

covers_left : (a b : Mask) → covers (either_of a b) a ≡ true
covers_left a b = covers_by (either_of a b) a (and_or a.low b.low) (and_or a.high b.high)

covers_right : (a b : Mask) → covers (either_of a b) b ≡ true
covers_right a b = covers_by (either_of a b) b (word a.low b.low) (word a.high b.high)
  where
    word : (x y : ℕ) → bit_and (bit_or x y) y ≡ y
    word x y = ap (λ (z : ℕ). bit_and z y) (or_comm x y) ∙ and_or y x

union_covers : (g : ℕ → Mask) (n k : ℕ) → k < n → covers (union_of g n) (g (1 + k)) ≡ true
unfolding union_of
union_covers g zero k b = absurd (omega arith)
union_covers g (suc n) k b = by (ℕ_discrete k n) (union_covers g n k)
  where
    u : Mask
    u = union_of g n

    by : Dec (k ≡ n) → (k < n → covers u (g (1 + k)) ≡ true) → covers (either_of u (g (1 + n))) (g (1 + k)) ≡ true
    by (yes e) before = rw e (covers_right u (g (1 + n)))
    by (no d) before = covers_trans (either_of u (g (1 + n))) u (g (1 + k)) (covers_left u (g (1 + n))) (before (omega arith))

-- ---- what the table holds

module _ (g : ℕ → Mask) (n : ℕ) (l : List ℕ) where
  abbrev made : List ℕ
  made = masks_from g 0 n l

  pub cuts_length : length (cuts_from g n l) ≡ length l
  cuts_length = word_keeps made 0 (union_of g n) ∙ masks_length g 0 n l

  module _ (r : 2 * n + 1 < length l) where
    pub cuts_at : (k : ℕ) → k < n → mask_in (cuts_from g n l) (1 + k) ≡ g (1 + k)
    cuts_at k b =
        word_other made 0 (1 + k) (union_of g n) (λ e. omega (arith, e)) ∙ masks_at g 0 n l (omega arith) (1 + k) (omega arith) (omega arith)

    -- what stands at 0 covers each of them
    pub cuts_covered : (k : ℕ) → k < n → covers (mask_in (cuts_from g n l) 0) (mask_in (cuts_from g n l) (1 + k)) ≡ true
    cuts_covered k b =
        let any : mask_in (cuts_from g n l) 0 ≡ union_of g n = word_same made 0 (union_of g n) (omega (arith, masks_length g 0 n l)) in
        (λ i. covers (any i) (cuts_at k b i)) ∙ union_covers g n k b
