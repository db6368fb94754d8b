-- The candidates of an edge that each face at the edge parts: the pierced among them are all that the edge pierces. Where one of those
-- parts no face at all there are none. Assumes nothing.
use Rattle.std.specs.Prelude.{◌≡◌, refl, Bool, true, false, ◌&&◌, ℕ, ◌+◌, ◌-◌, ◌*◌, ◌≤◌, ◌<◌}
use Rattle.std.proofs.Math.Path.{sym}
use Rattle.std.proofs.Common.{ap, ap₂, ◌∙◌, arith}
use Rattle.std.proofs.Math.Bool.{true≢false}
use Rattle.std.specs.Int.Bits.{bit_xor}
use Rattle.laws.specs.Bools.{◌⊕◌}
use Rattle.laws.specs.Decides.{fails_iff}
use Rattle.laws.specs.Mask.{mask_of, xor_masks, mask_none, mask_same}
use Rattle.scene.specs.Limits.{limits}
use Rattle.scene.specs.Faces.{is_corner}
use Rattle.scene.specs.declared.Row.{Row}
use Rattle.scene.specs.declared.Face.{Face}
use Rattle.orient.specs.Weighted.{Weighted}
use Rattle.pierce.specs.Beside.{BesideAll, beside_low, beside_high}
use Rattle.pierce_masks.specs.Faces.{mask_by, value_of}
use Rattle.pierce.specs.Against.{mask_against}
use Rattle.pierce.specs.Formula.{pierced}
use Rattle.pierce_masks.specs.declared.Mask.{Mask}
use Rattle.survey_sides.specs.Candidates.{kept, AtEach, kept_mask, each_mask}
use Rattle.survey_sides.specs.Crossing.{Candidate, Candidates, crossed_of, pierced_differs}
use Rattle.survey_sides.specs.Sides.{above, sides_of, low_of, high_of, words_value, masks_by, first64}
use Rattle.survey_narrow.specs.Separated.{parts}
use Rattle.survey_narrow.specs.Cover.{covers, both_of, both_is, Across, kept_by}
use Rattle.survey_narrow.specs.Union.{no_faces, covers_trans}

-- a digit that is a face's, by its number within its solid
pub record Numbered (from k : ℕ) : Type 0 where
  pub small : k < 64
  pub number : from + 1 + k ≤ limits.most_faces

-- of a word, the faces that each of the faces `at` parts
abbrev pub narrowed_of : (ℕ → Mask) → (from : ℕ) → Mask → (w : ℕ) → ℕ
narrowed_of cut from at = kept (λ k. covers (cut (from + 1 + k)) at)

-- the words of both ends are their sides
abbrev pub EndsTold : (ℕ → Row) → (ℕ → Face) → (word : ℕ → Mask) → (u v first count : ℕ) → Type 0
EndsTold row face word u v first count = (word u ≡ sides_of row face first count u) × (word v ≡ sides_of row face first count v)

-- the solid of the edge, the faces at its ends, and those that part the corners of the other's faces, by their numbers within it
pub record Around (n : ℕ) (row : ℕ → Row) (face : ℕ → Face) (own cut : ℕ → Mask) (u v first count : ℕ) : Type 0 where
  pub low : ℕ
  pub high : ℕ
  pub owned : ℕ
  pub owns : ℕ
  pub u_own : own u ≡ masks_by (is_corner u) face owned owns
  pub v_own : own v ≡ masks_by (is_corner v) face owned owns
  pub separating : (k : ℕ) → k < count → cut (1 + k) ≡ masks_by (parts row (face (first + 1 + k))) face owned owns
  pub any : (k : ℕ) → k < count → covers (cut 0) (cut (1 + k)) ≡ true
  pub across : (k : ℕ) → k < count → Across n low high owned owns face (face (first + 1 + k))

-- all of `at` part each face that is pierced
abbrev pub AllParted : (n : ℕ) (row : ℕ → Row) (face : ℕ → Face) (cut : ℕ → Mask) (at : Mask) (u v first count : ℕ) → Type 0
AllParted n row face cut at u v first count =
    (k : ℕ) → k < count → pierced n row u v (face (first + 1 + k)) ≡ true → covers (cut (1 + k)) at ≡ true

-- as the faces at an edge do
module _ (n : ℕ) (row : ℕ → Row) (face : ℕ → Face) (own cut : ℕ → Mask) (u v first count : ℕ) {at : Mask}
    (s : at ≡ both_of (own u) (own v)) (w : Weighted n row) (six : 6 ≤ n) (d : BesideAll n u v face first count)
    (h : Around n row face own cut u v first count) where
  pub all_parted : AllParted n row face cut at u v first count
  all_parted k l e =
      kept_by n row face h.low h.high h.owned h.owns u v (face (first + 1 + k)) w six (d k l) (h.across k l)
      (h.separating k l)
      (s ∙ both_is face h.owned h.owns u v h.u_own h.v_own) e

  -- so where one of them parts no face at all, none is pierced
  pub none_pierced : covers (cut 0) at ≡ false → value_of no_faces ≡ mask_against n row face u v first count
  unfolding value_of
  none_pierced e =
      sym (mask_none (λ k. pierced n row u v (face (first + 1 + k))) count
      (λ k l. (fails_iff (pierced n row u v (face (first + 1 + k))) (λ t. t, λ t. t)).1
      (λ t. true≢false (sym (covers_trans (cut 0) (cut (1 + k)) at (h.any k l) (all_parted k l t)) ∙ e))))

three : (a b c : Bool) → (a && c) ≡ c → (c ≡ true → b ≡ true) → ((a && b) && c) ≡ c
three true b true e h = ap (λ (x : Bool). x && true) (h refl)
three true true false e h = refl
three true false false e h = refl
three false b true e h = e
three false b false e h = refl

-- one word of the candidates
module _ (n : ℕ) (row : ℕ → Row) (face : ℕ → Face) (u v first count : ℕ) (keep : ℕ → Bool) {x y : ℕ}
    (p : x ≡ mask_by (above row u) face first count) (q : y ≡ mask_by (above row v) face first count) (room : count ≤ 64) where
  abbrev differs : ℕ → Bool
  differs k = above row u (face (first + 1 + k)) ⊕ above row v (face (first + 1 + k))

  differ_word : bit_xor x y ≡ mask_of differs count
  differ_word = ap₂ bit_xor p q ∙ xor_masks _ _ count

  pub numbered : (from : ℕ) → from + count ≤ limits.most_faces → AtEach (Numbered from) (bit_xor x y)
  numbered from most =
      each_mask (Numbered from) differs count room differ_word (λ k b e. record { small = omega arith; number = omega arith })

  pub narrow_candidates : {z : ℕ} → ((k : ℕ) → k < count → first + 1 + k ≤ 2 * limits.most_faces) → BesideAll n u v face first count → z
      ≡ kept keep (bit_xor x y) → Candidates n row face u v first z
  narrow_candidates number d e =
      each_mask (Candidate n row face u v first) (λ k. differs k && keep k) count room (e ∙ kept_mask keep differs count room differ_word)
      (λ k b t. record { small = omega arith; number = number k b; beside = d k b; differs = left_true (differs k) (keep k) t })
    where
      left_true : (a b : Bool) → (a && b) ≡ true → a ≡ true
      left_true true b t = refl
      left_true false b t = t

  pub narrow_told : {z o : ℕ} → ((k : ℕ) → k < count → pierced n row u v (face (first + 1 + k)) ≡ true → keep k ≡ true) → z
      ≡ kept keep (bit_xor x y) →
      o ≡ crossed_of n row face u v first z → o ≡ mask_against n row face u v first count
  narrow_told h e d =
      d ∙ kept_mask (λ k. pierced n row u v (face (first + 1 + k))) (λ k. differs k && keep k) count room
      (e ∙ kept_mask keep differs count room differ_word)
      ∙ mask_same _ _ count (λ k b. three (differs k) (keep k) (pierced n row u v (face (first + 1 + k)))
      (pierced_differs n row u v (face (first + 1 + k))) (h k b))

-- both words
module _ (n : ℕ) (row : ℕ → Row) (face : ℕ → Face) (cut : ℕ → Mask) (at : Mask) (u v first count : ℕ) {a b : Mask}
    (p : a ≡ sides_of row face first count u) (q : b ≡ sides_of row face first count v)
    (within : first + count ≤ 2 * limits.most_faces) (most : count ≤ limits.most_faces) where
  abbrev keep : ℕ → ℕ → Bool
  keep from k = covers (cut (from + 1 + k)) at

  pub numbered_low : AtEach (Numbered 0) (bit_xor a.low b.low)
  numbered_low = numbered n row face u v first (first64 count) (keep 0) (low_of _ _ _ _ p) (low_of _ _ _ _ q) (omega arith) 0 (omega arith)

  pub numbered_high : AtEach (Numbered 64) (bit_xor a.high b.high)
  numbered_high = numbered n row face u v (first + 64) (count - 64) (keep 64) (high_of _ _ _ _ p) (high_of _ _ _ _ q) (omega arith) 64
      (omega arith)

  module _ (d : BesideAll n u v face first count) where
    pub narrow_low : {z : ℕ} → z ≡ narrowed_of cut 0 at (bit_xor a.low b.low) → Candidates n row face u v first z
    narrow_low e =
        narrow_candidates n row face u v first (first64 count) (keep 0) (low_of _ _ _ _ p) (low_of _ _ _ _ q) (omega arith)
        (λ k l. omega arith) (beside_low face first (first64 count) (omega arith) d) e

    pub narrow_high : {z : ℕ} → z ≡ narrowed_of cut 64 at (bit_xor a.high b.high) → Candidates n row face u v (first + 64) z
    narrow_high e =
        narrow_candidates n row face u v (first + 64) (count - 64) (keep 64) (high_of _ _ _ _ p) (high_of _ _ _ _ q) (omega arith)
        (λ k l. omega arith)
        (beside_high face first 64 d) e

  module _ (h : AllParted n row face cut at u v first count) where
    kept_high : (k : ℕ) → k < count - 64 → pierced n row u v (face (first + 64 + 1 + k)) ≡ true → keep 64 k ≡ true
    kept_high k l t =
        let e : first + 1 + (64 + k) ≡ first + 64 + 1 + k = omega arith in
        let d : 64 + 1 + k ≡ 1 + (64 + k) = omega arith in
        ap (λ (i : ℕ). covers (cut i) at) d ∙ h (64 + k) (omega arith) (ap (λ (i : ℕ). pierced n row u v (face i)) e ∙ t)

    pub narrow_masks : {r : Mask} {y z : ℕ} → y ≡ narrowed_of cut 0 at (bit_xor a.low b.low) → z
        ≡ narrowed_of cut 64 at (bit_xor a.high b.high) →
        r.low ≡ crossed_of n row face u v first y → r.high ≡ crossed_of n row face u v (first + 64) z → value_of r
        ≡ mask_against n row face u v first count
    narrow_masks ey ez x o =
        words_value (pierced n row u v) face first count
        (narrow_told n row face u v first (first64 count) (keep 0) (low_of _ _ _ _ p) (low_of _ _ _ _ q) (omega arith)
        (λ k l. h k (omega arith)) ey x)
        (narrow_told n row face u v (first + 64) (count - 64) (keep 64) (high_of _ _ _ _ p) (high_of _ _ _ _ q) (omega arith)
        kept_high ez o)
