-- What the tally rests on of the kernel's answers, and is not in its contracts: a scene has no more pierced pairs than its limits allow,
-- and a refused scene has none. Assumes nothing.
use Rattle.std.specs.Prelude.{◌≡◌, refl, ◌⊎◌, Bool, true, false, cond, ◌&&◌, List, ℕ, ◌+◌, ◌*◌, ◌≤◌, ltb, leb, length, Ok, Err, Some, None}
use Rattle.std.proofs.Common.{inl, inr, length-append}
use native.Mathlib.Omega.{arith}
use Rattle.laws.specs.Runs.{bounded, only_most}
use Rattle.scene.specs.Limits.{limits}
use Rattle.scene.specs.Records.{verts_a, verts}
use Rattle.judge.specs.Judge.{judged}
use Rattle.judge.specs.Judge.{Judged}
use Rattle.rules.proofs.Given as given
use Rattle.scene.specs.Edges.{joined}
use Rattle.scene.specs.declared.Solid.{Solid}
use Rattle.pierce.specs.Formula.{pierced}
use Rattle.questions.specs.Hits.{PierceView, face_hits, edge_hits, pair_hits, pairs_at, vertex_hits, solid_hits, lowest_enclosed}
use Rattle.scene.specs.View.{view_of, solid_a, solid_b, solid}
use Rattle.questions.specs.First.{first_of}
use Rattle.questions.specs.Types.{Found}
use Rattle.questions.specs.Answers.{or_refuse, counts_in, counted_of, cross_or, enclosure_in, verdict_in, verdict_of, listing_in, pierce_view}
use Rattle.questions.specs.declared.Verdict.TheVariants as verdict
use Rattle.class_tally.specs.Tally.{line_of, pairs_in, mark_of}

abbrev pub most_pairs : ℕ
most_pairs = 2 * (limits.most_vertices * (limits.most_vertices * limits.most_faces))

module _ (s : PierceView) (k : Solid) (hv : k.verts ≤ limits.most_vertices) (hf : k.others ≤ limits.most_faces) where
  face_most : (u v i : ℕ) → length (face_hits s k u v i) ≤ 1
  unfolding face_hits
  face_most u v i = only_most (pierced s.points s.row u v (s.face (k.other0 + 1 + i))) _ 1 (omega arith)

  pair_most : (u v : ℕ) (b : Bool) → length (pair_hits s k u v b) ≤ limits.most_faces
  unfolding pair_hits edge_hits
  pair_most u v b = only_most (ltb u v && b) _ limits.most_faces (omega (arith, bounded (face_hits s k u v) 1 k.others (face_most u v)))

  vertex_most : (u : ℕ) → length (vertex_hits s k u) ≤ limits.most_vertices * limits.most_faces
  unfolding vertex_hits
  vertex_most u =
      omega (
        arith,
        bounded (pairs_at s k u) limits.most_faces k.verts
            (λ m. pair_most u (k.vert0 + 1 + m) (joined s.face k u (k.vert0 + 1 + m))),
      )

  solid_most : length (solid_hits s k) ≤ limits.most_vertices * (limits.most_vertices * limits.most_faces)
  unfolding solid_hits
  solid_most =
      omega (
        arith,
        bounded (λ i. vertex_hits s k (k.vert0 + 1 + i)) (limits.most_vertices * limits.most_faces) k.verts
            (λ i. vertex_most (k.vert0 + 1 + i)),
      )

listing_most : (s : List ℕ) → judged s ≡ Ok tt → length (listing_in (view_of s)) ≤ most_pairs
unfolding listing_in solid
listing_most s ok =
    let c = given.counts limits s ok in
    omega (
      arith,
      length-append (solid_hits (pierce_view (view_of s)) (solid_a (view_of s))) (solid_hits (pierce_view (view_of s)) (solid_b (view_of s))),
      solid_most (pierce_view (view_of s)) (solid_a (view_of s)) (omega (arith, c.vertices_a_law)) (omega (arith, c.faces_b_law)),
      solid_most (pierce_view (view_of s)) (solid_b (view_of s)) (omega (arith, c.vertices_b_law)) (omega (arith, c.faces_a_law)),
    )

pub pairs_most : (s : List ℕ) → pairs_in (counted_of s) ≤ most_pairs
unfolding counted_of counts_in or_refuse
pairs_most s = go (judged s) refl
  where
    go : (j : Judged) → judged s ≡ j → pairs_in (or_refuse Err j (Ok (counts_in (view_of s)))) ≤ most_pairs
    go (Ok _) e = listing_most s e
    go (Err r) e = omega arith

-- a scene has no pairs, or its verdict is one of the four words
pub within_words : (s : List ℕ) → line_of (Ok (verdict_in (view_of s))) ≤ 4
unfolding verdict_in enclosure_in solid
within_words s = go (first_of (listing_in (view_of s))) (leb p (verts_a s)) (leb q (verts s)) p q
  where
    p : ℕ
    p = lowest_enclosed (pierce_view (view_of s)) (solid_a (view_of s))

    q : ℕ
    q = lowest_enclosed (pierce_view (view_of s)) (solid_b (view_of s))

    go : (f : Found) (a b : Bool) (p q : ℕ) → line_of (Ok (cross_or f (cond a (verdict.AInB p) (cond b (verdict.BInA q) verdict.Apart)))) ≤ 4
    go (Some (u, v, f)) a b p q = omega arith
    go None true b p q = omega arith
    go None false true p q = omega arith
    go None false false p q = omega arith

pub pairs_or_line : (s : List ℕ) → ((mark_of s).pairs ≡ 0) ⊎ ((mark_of s).line ≤ 4)
unfolding mark_of counted_of verdict_of or_refuse
pairs_or_line s = go (judged s)
  where
    go : (j : Judged) → (pairs_in (or_refuse Err j (Ok (counts_in (view_of s)))) ≡ 0)
        ⊎ (line_of (or_refuse Err j (Ok (verdict_in (view_of s)))) ≤ 4)
    go (Ok _) = inr (within_words s)
    go (Err r) = inl refl
