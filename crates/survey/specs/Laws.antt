-- What was surveyed is the listing, and where the ends of its edges lie. Assumes nothing.
use Rattle.std.specs.Prelude.{◌≡◌, ◌&&◌, List, [], ◌∷◌, ◌++◌, ltb, length}
use Rattle.std.proofs.Common.{sym, ap₂, ◌∙◌, subst, arith, length-append}
use Prim.Native.Nat.{ℕ, zero, suc, ◌+◌, ◌*◌, ◌≤◌, ◌<◌}
use Rattle.std.proofs.Math.Decide.{ℕ_discrete}
use Rattle.laws.specs.Lists.{Each, each_left, each_right}
use Rattle.laws.specs.Runs.{up_to, bounded, each_up_to, each_only}
use Rattle.scene.specs.Edges.{joined}
use Rattle.scene.specs.declared.Solid.{Solid}
use Rattle.questions.specs.Hits.{PierceView, Sound, solid_hits}
use Rattle.pierce_masks.specs.Faces.{width}
use Rattle.survey_edges.specs.Table.{Entry, entry_in, entries_in, entry_hits, table_hits}
use Rattle.survey_edges.specs.Entries.{entry_most}
use Rattle.survey_edges.specs.Edges.{entry, vertex_edges, solid_edges, Filled}
use Rattle.survey_edges.specs.Order.{table_hits_law}
use Rattle.survey_enclosed.specs.Odds.{EndsIn, Marked}
use Rattle.survey.specs.Survey.{Surveyed, pairs_of}
use Rattle.survey.specs.declared.Survey.{Survey}

-- ---- what was filled

pub filled_edges : {l : List Entry} {ends masks e m : List ℕ} {r : ℕ} → Filled l 0 ends masks e m r → entries_in e m r ≡ l
unfolding entries_in up_to
filled_edges f = f.entries

pub marked_edges : (low n : ℕ) {l m : List Entry} {odds : List ℕ} → l ≡ m → Marked low n l odds → Marked low n m odds
marked_edges low n {l} {m} {odds} e h = subst (λ (x : List Entry). Marked low n x odds) e h

-- ---- the listing

pub surveyed_pairs : (s : PierceView) (a b : Solid) (t : Survey) (ends-a masks-a ends-b masks-b : List ℕ) → Sound s a → Sound s b →
    Surveyed s a ends-a masks-a t.a → Surveyed s b ends-b masks-b t.b →
    pairs_of t a.other0 b.other0 ends-a masks-a ends-b masks-b ≡ solid_hits s a ++ solid_hits s b
unfolding pairs_of
surveyed_pairs s a b t ends-a masks-a ends-b masks-b sa sb p q =
    ap₂ ◌++◌ (table_hits_law s a sa ends-a masks-a t.a.edges p.edges) (table_hits_law s b sb ends-b masks-b t.b.edges q.edges)

pub table_most : (first : ℕ) (ends masks : List ℕ) (n : ℕ) → length (table_hits first ends masks n) ≤ n * width
table_most first ends masks n = bounded (λ j. entry_hits first (entry_in ends masks j)) width n (λ j. entry_most first (entry_in ends masks j))

pub pairs_count : (t : Survey) (a b : ℕ) (ends-a masks-a ends-b masks-b : List ℕ) {x y : ℕ} →
    x ≡ length (table_hits a ends-a masks-a t.a.edges) →
    y ≡ length (table_hits b ends-b masks-b t.b.edges) → x + y ≡ length (pairs_of t a b ends-a masks-a ends-b masks-b)
unfolding pairs_of
pairs_count t a b ends-a masks-a ends-b masks-b p q =
    ap₂ ◌+◌ p q ∙ sym (length-append (table_hits a ends-a masks-a t.a.edges) (table_hits b ends-b masks-b t.b.edges))

-- ---- the ends of a table's edges

module _ (P : Entry → Type 0) where
  each_at : (f : ℕ → Entry) (n j : ℕ) → Each P (up_to (λ i. f i ∷ []) n) → j < n → P (f j)
  unfolding up_to
  each_at f zero j h b = absurd (omega arith)
  each_at f (suc n) j h b = by (ℕ_discrete j n) (λ c. each_at f n j (each_left P (up_to (λ i. f i ∷ []) n) (f n ∷ []) h) c)
    where
      by : Dec (j ≡ n) → (j < n → P (f j)) → P (f j)
      by (yes e) before = rw e (each_right P (up_to (λ i. f i ∷ []) n) (f n ∷ []) h).0
      by (no d) before = before (omega arith)

pub ends_in : (s : PierceView) (k : Solid) (ends masks : List ℕ) (n : ℕ) → entries_in ends masks n ≡ solid_edges s k →
    (j : ℕ) → j < n → EndsIn k.vert0 k.verts (entry_in ends masks j)
unfolding entries_in solid_edges vertex_edges
ends_in s k ends masks n e j b =
    let P : Entry → Type 0 = EndsIn k.vert0 k.verts in
    let all : Each P (solid_edges s k) =
    each_up_to P (λ i. vertex_edges s k (k.vert0 + 1 + i)) k.verts
    (λ i h. each_up_to P _ k.verts
    (λ m c. each_only P (ltb (k.vert0 + 1 + i) (k.vert0 + 1 + m) && joined s.face k (k.vert0 + 1 + i) (k.vert0 + 1 + m))
    (entry s k (k.vert0 + 1 + i) (k.vert0 + 1 + m) ∷ [])
    (record { low_end = (omega arith, omega arith); high_end = (omega arith, omega arith) }, tt))) in
    each_at P (entry_in ends masks) n j (rw e all) b
