-- A word for each vertex: the neighbours to which an edge of an odd mask leads. Assumes nothing.
use Rattle.std.specs.Prelude.{◌≡◌, refl, Bool, true, false, cond, ◌&&◌, ◌||◌, List, [], ◌∷◌, ◌++◌, ℕ, ◌+◌, ◌-◌, ◌^◌, ◌≤◌, ◌<◌, eqb, length, get_or}
use Rattle.std.proofs.Common.{sym, ap, ap₂, ◌∙◌, arith, eq-eqb, ne_eqb}
use Rattle.std.proofs.Math.Decide.{ℕ_discrete}
use Rattle.std.specs.Int.Bits.{bit_or}
use Rattle.laws.specs.Bools.{◌⊕◌}
use Rattle.laws.specs.Mask.{mask_of, mask_same, mask_none, or_masks, place_mask, test_bit}
use Rattle.laws.specs.Runs.{up_to, up_to_more}
use Rattle.survey_edges.specs.Links.{words, ored, ored_at, ored_size, Cleared}
use Rattle.scene.specs.Faces.{Vertex}
use Rattle.scene.specs.Edges.{joined}
use Rattle.scene.specs.declared.Solid.{Solid}
use Rattle.pierce_masks.specs.Faces.{is_odd}
use Rattle.questions.specs.Hits.{PierceView, Own, enclosed_vertex}
use Rattle.survey_edges.specs.Table.{Entry, entry_in, entries_in}

-- p passes for one of the list
abbrev pub any_in : {A : Type 0} → (A → Bool) → List A → Bool
any_in p [] = false
any_in p (x ∷ l) = p x || any_in p l

-- the entry is an edge of u and v
abbrev pub joins : (u v : ℕ) → Entry → Bool
joins u v e = (eqb e.low u && eqb e.high v) || (eqb e.high u && eqb e.low v)

-- and its mask is odd
unfoldable pub marks : (u v : ℕ) → Entry → Bool
marks u v e = is_odd e.mask && joins u v e

-- the words of the n points above low, by the entries l: bit m of that of u stands for the point low + 1 + m
pub record Marked (low n : ℕ) (l : List Entry) (odds : List ℕ) : Type 0 where
  pub size : length odds ≡ words
  pub at : (u : ℕ) → Vertex low (low + n) u → get_or odds u 0 ≡ mask_of (λ m. any_in (marks u (low + 1 + m)) l) 64

-- an edge's oddness is that of its ends' enclosure
abbrev pub AreOdds : (s : PierceView) (k : Solid) → List ℕ → Type 0
AreOdds s k odds = (u m : ℕ) → Own s k u → m < k.verts → joined s.face k u (k.vert0 + 1 + m) ≡ true →
    test_bit (get_or odds u 0) m ≡ enclosed_vertex s k u ⊕ enclosed_vertex s k (k.vert0 + 1 + m)

-- one entry more
pub record MarksEntry (low n : ℕ) (e : Entry) (before after : List ℕ) : Type 0 where
  pub size : length after ≡ length before
  pub at : (u : ℕ) → Vertex low (low + n) u → (f : ℕ → Bool) → get_or before u 0 ≡ mask_of f 64 →
      get_or after u 0 ≡ mask_of (λ m. f m || marks u (low + 1 + m) e) 64

-- the ends are those of vertices of the solid
pub record EndsIn (low n : ℕ) (e : Entry) : Type 0 where
  pub low_end : Vertex low (low + n) e.low
  pub high_end : Vertex low (low + n) e.high

or_none : (a : Bool) → a ≡ (a || false)
or_none true = refl
or_none false = refl

pub marks_none : (low n : ℕ) (e : Entry) (l : List ℕ) {o : Bool} → o ≡ is_odd e.mask → o ≡ false → MarksEntry low n e l l
unfolding marks
marks_none low n e l p q =
    record {
      size = refl;
      at = λ u h f b. b ∙ mask_same _ _ 64 (λ m c. or_none (f m) ∙ ap (λ (o : Bool). f m || (o && joins u (low + 1 + m) e)) (sym q ∙ p));
    }

-- a point's bit, where c holds
one_bit : (low i : ℕ) (c : Bool) → low < i → i ≤ low + 64 → cond c (2 ^ (i - (low + 1))) 0 ≡ mask_of (λ m. c && eqb i (low + 1 + m)) 64
one_bit low i true h l = place_mask (i - (low + 1)) 64 (omega arith) ∙ mask_same _ _ 64 (λ m b. same m (ℕ_discrete i (low + 1 + m)))
  where
    same : (m : ℕ) → Dec (i ≡ low + 1 + m) → eqb (i - (low + 1)) m ≡ eqb i (low + 1 + m)
    same m (yes e) = eq-eqb (i - (low + 1)) m (omega arith) ∙ sym (eq-eqb i (low + 1 + m) e)
    same m (no d) = ne_eqb (i - (low + 1)) m (λ e. d (omega arith)) ∙ sym (ne_eqb i (low + 1 + m) d)
one_bit low i false h l = sym (mask_none (λ m. false) 64 (λ m b. refl))

or_three : (a b c : Bool) → ((a || b) || c) ≡ (a || (b || c))
or_three true b c = refl
or_three false b c = refl

pub marks_both : (low n : ℕ) (e : Entry) (l : List ℕ) {l1 l2 : List ℕ} {x y a b : ℕ} {o : Bool} → n ≤ 64 → low + n < words →
    length l ≡ words → EndsIn low n e →
    o ≡ is_odd e.mask → o ≡ true → x ≡ e.low → y ≡ e.high → a ≡ 2 ^ (y - (low + 1)) → b ≡ 2 ^ (x - (low + 1)) →
    l1 ≡ ored l x a → l2 ≡ ored l1 y b → MarksEntry low n e l l2
unfolding marks
marks_both low n e l {l1} {l2} {x} {y} {a} {b} {o} few room long ends p q ex ey ea eb e1 e2 =
    let s1 : length l1 ≡ length l = ored_size l x a e1 in
    let hx : Vertex low (low + n) x = rw ex ends.low_end in
    let hy : Vertex low (low + n) y = rw ey ends.high_end in
    record {
      size = ored_size l1 y b e2 ∙ s1;
      at = λ u h f g.
          ap (λ (w : List ℕ). get_or w u 0) e2 ∙ ored_at l1 y b (omega arith) u
          ∙ ap₂ bit_or (ap (λ (w : List ℕ). get_or w u 0) e1 ∙ ored_at l x a (omega arith) u
          ∙ ap₂ bit_or g (ap (λ (w : ℕ). cond (eqb x u) w 0) ea ∙ one_bit low y (eqb x u) (omega arith) (omega arith)) ∙ or_masks _ _ 64)
          (ap (λ (w : ℕ). cond (eqb y u) w 0) eb ∙ one_bit low x (eqb y u) (omega arith) (omega arith))
          ∙ or_masks _ _ 64
          ∙ mask_same _ _ 64
          (λ m c. or_three (f m) (eqb x u && eqb y (low + 1 + m)) (eqb y u && eqb x (low + 1 + m))
          ∙ ap (λ (t : Bool). f m || (t && ((eqb x u && eqb y (low + 1 + m)) || (eqb y u && eqb x (low + 1 + m))))) (sym q ∙ p)
          ∙ ap₂ (λ (v w : ℕ). f m || (is_odd e.mask && ((eqb v u && eqb w (low + 1 + m)) || (eqb w u && eqb v (low + 1 + m))))) ex ey);
    }

-- ---- entry after entry

pub any_append : {A : Type 0} (p : A → Bool) (l r : List A) → any_in p (l ++ r) ≡ (any_in p l || any_in p r)
any_append p [] r = refl
any_append p (x ∷ l) r = ap (λ (b : Bool). p x || b) (any_append p l r) ∙ sym (or_three (p x) (any_in p l) (any_in p r))

pub marked_none : (low n : ℕ) (ends masks : List ℕ) {before odds : List ℕ} → length before ≡ words → Cleared low n before odds →
    Marked low n (entries_in ends masks 0) odds
unfolding entries_in up_to
marked_none low n ends masks long c =
    record { size = c.size ∙ long; at = λ u h. c.own u h ∙ sym (mask_none (λ m. false) 64 (λ m b. refl)) }

pub marked_more : (low n j : ℕ) (ends masks : List ℕ) {odds after : List ℕ} → Marked low n (entries_in ends masks j) odds →
    MarksEntry low n (entry_in ends masks j) odds after → Marked low n (entries_in ends masks (j + 1)) after
unfolding entries_in
marked_more low n j ends masks k m =
    record {
      size = m.size ∙ k.size;
      at = λ u h.
          m.at u h (λ i. any_in (marks u (low + 1 + i)) (entries_in ends masks j)) (k.at u h)
          ∙ mask_same _ _ 64
          (λ i b. ap (λ (t : Bool). any_in (marks u (low + 1 + i)) (entries_in ends masks j) || t)
          (or_none (marks u (low + 1 + i) (entry_in ends masks j)))
          ∙ sym (any_append (marks u (low + 1 + i)) (entries_in ends masks j) (entry_in ends masks j ∷ []))
          ∙ ap (any_in (marks u (low + 1 + i))) (sym (up_to_more (λ j. entry_in ends masks j ∷ []) j)));
    }
