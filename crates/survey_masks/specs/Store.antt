-- An entry stored behind those that the table has, and a run of entries stored one by one: what is left, and the whole. Assumes nothing.
use Rattle.std.specs.Prelude.{◌≡◌, refl, ◌≢◌, ℕ, ◌+◌, ◌-◌, ◌*◌, ◌^◌, ◌<◌, get_or, set}
use Rattle.std.proofs.Common.{sym, ◌∙◌, arith, length-append}
use Rattle.std.proofs.Math.Path.{ap, ap₂}
use mathlib.Core.List.{List, [], ◌∷◌, ◌++◌, append_assoc, append-nil}
use Rattle.std.specs.Int.Bits.{bit_and}
use Rattle.std.specs.Int.Count.{count_trailing_zeros}
use Rattle.std.proofs.Math.ListN.{length, length-set}
use Rattle.std.proofs.Math.Seq.{get_or-set_same, get_or-set_other}
use Rattle.laws.specs.Walk.{places_none, walk_turn}
use Rattle.laws.specs.Runs.{up_to, up_to_more, up_to_same}
use Rattle.scene.specs.declared.Solid.{Solid}
use Rattle.pierce_masks.specs.Faces.{value_of}
use Rattle.pierce_masks.specs.declared.Mask.{Mask}
use Rattle.questions.specs.Hits.{PierceView, edge_mask}
use Rattle.survey_edges.specs.Table.{Entry, entry_in, entries_in, each}
use Rattle.survey_edges.specs.Edges.{entry, bit_edges, Filled}

-- two numbers stored at 2j and 2j + 1
unfoldable pub pair_set : List ℕ → (j x y : ℕ) → List ℕ
pair_set l j x y = set (set l (2 * j) x) (2 * j + 1) y

module _ (l : List ℕ) (j x y : ℕ) where
  pub pair_size : {after : List ℕ} → after ≡ pair_set l j x y → length after ≡ length l
  unfolding pair_set
  pair_size e = ap length e ∙ length-set (set l (2 * j) x) (2 * j + 1) y ∙ length-set l (2 * j) x

  elsewhere : (i : ℕ) → i ≢ 2 * j → i ≢ 2 * j + 1 → get_or (pair_set l j x y) i 0 ≡ get_or l i 0
  unfolding pair_set
  elsewhere i a b = get_or-set_other (set l (2 * j) x) (2 * j + 1) i y 0 b ∙ get_or-set_other l (2 * j) i x 0 a

  module _ (h : 2 * j + 1 < length l) where
    pair_first : get_or (pair_set l j x y) (2 * j) 0 ≡ x
    unfolding pair_set
    pair_first =
        get_or-set_other (set l (2 * j) x) (2 * j + 1) (2 * j) y 0 (λ e. omega (arith, e)) ∙ get_or-set_same l (2 * j) x 0 (omega arith)

    pair_second : get_or (pair_set l j x y) (2 * j + 1) 0 ≡ y
    unfolding pair_set
    pair_second = get_or-set_same (set l (2 * j) x) (2 * j + 1) y 0 (omega (arith, length-set l (2 * j) x))

same_entry : {a b c d m n : ℕ} → a ≡ b → c ≡ d → m ≡ n →
    ◌≡◌ {A = Entry} (record { low = a; high = c; mask = m }) (record { low = b; high = d; mask = n })
same_entry p q r i = record { low = p i; high = q i; mask = r i }

module _ (ends masks : List ℕ) (j u v : ℕ) (m : Mask) (he : 2 * j + 1 < length ends) (hm : 2 * j + 1 < length masks) where
  pub entries_put : entries_in (pair_set ends j u v) (pair_set masks j m.low m.high) (j + 1)
      ≡ entries_in ends masks j ++ (record { low = u; high = v; mask = value_of m } ∷ [])
  unfolding entries_in value_of
  entries_put =
      up_to_more _ j
      ∙ ap₂ ◌++◌ (up_to_same _ _ j (λ i b. ap (λ (e : Entry). e ∷ []) (other i (λ e. omega arith))))
      (ap (λ (e : Entry). e ∷ [])
      (same_entry (pair_first ends j u v he) (pair_second ends j u v he)
      (ap₂ (λ (a b : ℕ). a + 2 ^ 64 * b) (pair_first masks j m.low m.high hm) (pair_second masks j m.low m.high hm))))
    where
      other : (i : ℕ) → i ≢ j → entry_in (pair_set ends j u v) (pair_set masks j m.low m.high) i ≡ entry_in ends masks i
      other i d =
          same_entry (elsewhere ends j u v (2 * i) (λ e. omega (arith, e)) (λ e. omega (arith, e)))
          (elsewhere ends j u v (2 * i + 1) (λ e. omega (arith, e)) (λ e. omega (arith, e)))
          (ap₂ (λ (a b : ℕ). a + 2 ^ 64 * b)
          (elsewhere masks j m.low m.high (2 * i) (λ e. omega (arith, e)) (λ e. omega (arith, e)))
          (elsewhere masks j m.low m.high (2 * i + 1) (λ e. omega (arith, e)) (λ e. omega (arith, e))))

-- ---- by the bits of a word

pub record Filling (rest whole : List Entry) (at : ℕ) (ends masks ends' masks' : List ℕ) (c : ℕ) : Type 0 where
  pub count : c + length rest ≡ at + length whole
  pub ends_size : length ends' ≡ length ends
  pub masks_size : length masks' ≡ length masks
  pub entries : entries_in ends' masks' c ++ rest ≡ entries_in ends masks at ++ whole

module _ (s : PierceView) (k : Solid) (u : ℕ) where
  pub filling_start : (w : ℕ) {whole : List Entry} (at : ℕ) (ends masks : List ℕ) → bit_edges s k u w ≡ whole →
      Filling (bit_edges s k u w) whole at ends masks ends masks at
  filling_start w at ends masks e =
      record {
        count = ap (λ (l : List Entry). at + length l) e;
        ends_size = refl;
        masks_size = refl;
        entries = ap (λ (l : List Entry). entries_in ends masks at ++ l) e;
      }

  pub edges_turn : (w : ℕ) → 0 < w → w < 2 ^ 64 →
      bit_edges s k u w ≡ entry s k u (u + 1 + count_trailing_zeros 64 w) ∷ bit_edges s k u (bit_and w (w - 1))
  unfolding each
  edges_turn w some h = ap (each (λ t. entry s k u (u + 1 + t) ∷ [])) (walk_turn 64 w some h)

  pub filling_room : (w : ℕ) {whole : List Entry} {at c : ℕ} {ends masks ends' masks' : List ℕ} → 0 < w → w < 2 ^ 64 →
      Filling (bit_edges s k u w) whole at ends masks ends' masks' c → c < at + length whole
  filling_room w some h f = omega (arith, f.count, ap length (edges_turn w some h))

  pub filling_turn : (w : ℕ) (m : Mask) {whole : List Entry} {at c v x y : ℕ} {ends masks e1 m1 e2 m2 : List ℕ} → 0 < w → w < 2 ^ 64 →
      2 * c + 1 < length ends → 2 * c + 1 < length masks → v ≡ u + 1 + count_trailing_zeros 64 w → value_of m ≡ edge_mask s k u v →
      Filling (bit_edges s k u w) whole at ends masks e1 m1 c → x ≡ u → y ≡ v → e2 ≡ pair_set e1 c x y →
      m2 ≡ pair_set m1 c m.low m.high →
      Filling (bit_edges s k u (bit_and w (w - 1))) whole at ends masks e2 m2 (c + 1)
  filling_turn w m {whole} {at} {c} {v} {x} {y} {ends} {masks} {e1} {m1} {e2} {m2} some h he hm ev em f ex ey px pm =
      let pe : e2 ≡ pair_set e1 c u v = px ∙ ap₂ (pair_set e1 c) ex ey in
      let rest : List Entry = bit_edges s k u (bit_and w (w - 1)) in
      let t : bit_edges s k u w ≡ entry s k u (u + 1 + count_trailing_zeros 64 w) ∷ rest = edges_turn w some h in
      let new : ◌≡◌ {A = Entry} (record { low = u; high = v; mask = value_of m }) (entry s k u (u + 1 + count_trailing_zeros 64 w)) =
      same_entry refl ev (em ∙ ap (edge_mask s k u) ev) in
      record {
        count = omega (arith, f.count, ap length t);
        ends_size = pair_size e1 c u v pe ∙ f.ends_size;
        masks_size = pair_size m1 c m.low m.high pm ∙ f.masks_size;
        entries =
            ap (λ (l : List Entry). l ++ rest)
            (ap₂ (λ (a b : List ℕ). entries_in a b (c + 1)) pe pm
            ∙ entries_put e1 m1 c u v m (omega (arith, f.ends_size)) (omega (arith, f.masks_size)))
            ∙ append_assoc (entries_in e1 m1 c) (record { low = u; high = v; mask = value_of m } ∷ []) rest
            ∙ ap (λ (e : Entry). entries_in e1 m1 c ++ (e ∷ rest)) new
            ∙ ap (λ (l : List Entry). entries_in e1 m1 c ++ l) (sym t) ∙ f.entries;
      }

  pub edges_none : {w : ℕ} → w ≡ 0 → bit_edges s k u w ≡ []
  unfolding each
  edges_none e = ap (bit_edges s k u) e ∙ ap (each (λ t. entry s k u (u + 1 + t) ∷ [])) (places_none 64 0)

  pub filling_end : {w : ℕ} {whole : List Entry} {at c : ℕ} {ends masks e1 m1 : List ℕ} → w ≡ 0 →
      Filling (bit_edges s k u w) whole at ends masks e1 m1 c →
      Filled whole at ends masks e1 m1 c
  filling_end {w} {whole} {at} {c} {ends} {masks} {e1} {m1} e f =
      let none : bit_edges s k u w ≡ [] = edges_none e in
      record {
        count = omega (arith, f.count, ap length none);
        ends_size = f.ends_size;
        masks_size = f.masks_size;
        entries = sym (append-nil (entries_in e1 m1 c)) ∙ ap (λ (l : List Entry). entries_in e1 m1 c ++ l) (sym none) ∙ f.entries;
      }

-- ---- run after run

pub filled_none : (g : ℕ → List Entry) (ends masks : List ℕ) → Filled (up_to g 0) 0 ends masks ends masks 0
unfolding up_to entries_in
filled_none g ends masks = record { count = refl; ends_size = refl; masks_size = refl; entries = refl }

pub filled_more : (g : ℕ → List Entry) (i : ℕ) {c r : ℕ} {ends masks e1 m1 e2 m2 : List ℕ} → Filled (up_to g i) 0 ends masks e1 m1 c →
    Filled (g i) c e1 m1 e2 m2 r →
    Filled (up_to g (i + 1)) 0 ends masks e2 m2 r
filled_more g i {c} {r} {ends} {masks} f n =
    record {
      count = omega (arith, f.count, n.count, ap length (up_to_more g i), length-append (up_to g i) (g i));
      ends_size = n.ends_size ∙ f.ends_size;
      masks_size = n.masks_size ∙ f.masks_size;
      entries =
          n.entries ∙ ap (λ (l : List Entry). l ++ g i) f.entries ∙ append_assoc (entries_in ends masks 0) (up_to g i) (g i)
          ∙ ap (λ (l : List Entry). entries_in ends masks 0 ++ l) (sym (up_to_more g i));
    }
