-- The pairs of a solid's edges, vertex by vertex and edge by edge, and the first of them. Assumes nothing.
use Rattle.std.specs.Prelude.{◌≡◌, refl, ℕ, ◌+◌, ◌-◌, ◌^◌, ◌≤◌, ◌<◌, Some, None}
use Rattle.std.proofs.Math.Path.{sym, ap}
use Rattle.std.proofs.Common.{◌∙◌, lt_of_le_of_lt, arith}
use mathlib.Core.List.{List, [], ◌++◌}
use Rattle.std.specs.Int.Bits.{bit_and}
use Rattle.std.specs.Int.Count.{count_trailing_zeros}
use Rattle.survey_edges.specs.Bits.{word_first}
use Rattle.scene.specs.declared.Solid.{Solid}
use Rattle.laws.specs.Runs.{up_to}
use Rattle.questions.specs.Hits.{PierceView, Hit, Own, Sound, solid_hits}
use Rattle.questions.specs.First.{first_of, first_left, first_right, first_found, first_end}
use Rattle.questions.specs.Types.{Found}
use Rattle.survey_edges.specs.Table.{Entry, entry_hits, each}
use Rattle.survey_edges.specs.Runs.{each_up_to}
use Rattle.survey_edges.specs.Edges.{Higher, entry, bit_edges, vertex_edges, solid_edges}
use Rattle.survey_edges.specs.Order.{edges_hits}
use Rattle.survey_masks.specs.Store.{edges_turn, edges_none}

module _ (s : PierceView) (k : Solid) where
  -- the pairs of the edges l
  abbrev pub hits_of : List Entry → List Hit
  hits_of = each (entry_hits k.other0)

  -- the pairs of the edges from the solid's first m vertices
  abbrev pub hits_to : ℕ → List Hit
  hits_to = up_to (λ i. hits_of (vertex_edges s k (k.vert0 + 1 + i)))

  hits_all : Sound s k → hits_to k.verts ≡ solid_hits s k
  unfolding solid_edges
  hits_all sound = sym (each_up_to (entry_hits k.other0) (λ i. vertex_edges s k (k.vert0 + 1 + i)) k.verts) ∙ edges_hits s k sound

  -- the first of a vertex's pairs, where those before it have none; and none up to the last
  module _ (sound : Sound s k) where
    pub all_found : (i : ℕ) {o : Found} {a b f : ℕ} → i < k.verts → [] ≡ hits_to i →
        o ≡ first_of (hits_of (vertex_edges s k (k.vert0 + 1 + i))) → o ≡ Some (a, b, f) → Some (a, b, f) ≡ first_of (solid_hits s k)
    all_found i h e p q = first_found _ i k.verts h e p q ∙ ap first_of (hits_all sound)

    pub all_end : {i : ℕ} → i ≤ k.verts → k.verts ≤ i → [] ≡ hits_to i → None ≡ first_of (solid_hits s k)
    all_end a b e = first_end _ a b e ∙ ap first_of (hits_all sound)

  -- ---- along the bits of a word: what is left has the first of all

  abbrev pub Left : (u w : ℕ) → Type 0
  Left u w = first_of (hits_of (bit_edges s k u w)) ≡ first_of (hits_of (vertex_edges s k u))

  -- the lowest bit is a vertex
  pub left_own : (u w : ℕ) {h : ℕ} → Sound s k → Own s k u → Higher s k u h → w ≤ h → 0 < w → Own s k (u + 1 + count_trailing_zeros 64 w)
  left_own u w sound own high l some =
      let n : k.vert0 + k.verts - u ≤ 64 = omega (arith, sound.vertices.0) in
      let t = (word_first 64 (k.vert0 + k.verts - u) n (lt_of_le_of_lt l high.small) some).below in
      (omega arith, omega (arith, t))

  module _ (u w : ℕ) {v : ℕ} {o : Found} (some : 0 < w) (small : w < 2 ^ 64) (is-v : v ≡ u + 1 + count_trailing_zeros 64 w)
      (is-o : o ≡ first_of (entry_hits k.other0 (entry s k u v))) (left : Left u w) where
    abbrev here : List Hit
    here = entry_hits k.other0 (entry s k u v)

    abbrev behind : List Hit
    behind = hits_of (bit_edges s k u (bit_and w (w - 1)))

    split : hits_of (bit_edges s k u w) ≡ here ++ behind
    unfolding each
    split = ap hits_of (edges_turn s k u w some small) ∙ ap (λ (x : ℕ). entry_hits k.other0 (entry s k u x) ++ behind) (sym is-v)

    pub left_found : {a b f : ℕ} → o ≡ Some (a, b, f) → Some (a, b, f) ≡ first_of (hits_of (vertex_edges s k u))
    left_found e = first_left here behind is-o e ∙ ap first_of (sym split) ∙ left

    pub left_more : o ≡ None → Left u (bit_and w (w - 1))
    left_more e = first_right here behind is-o e refl ∙ ap first_of (sym split) ∙ left

  pub left_end : (u : ℕ) {w : ℕ} → w ≡ 0 → Left u w → None ≡ first_of (hits_of (vertex_edges s k u))
  unfolding each first_of
  left_end u e left = ap (λ (l : List Entry). first_of (hits_of l)) (sym (edges_none s k u e)) ∙ left
