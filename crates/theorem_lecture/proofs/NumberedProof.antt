-- That numbers play no part where no tie is broken is proved. Assumes nothing.
use Rattle.std.proofs.Math.Path.{◌≡◌, refl, sym, ap, ap₂}
use Rattle.std.proofs.Common.{subst, ◌∙◌}
use Rattle.std.specs.Prelude.{◌≢◌, Bool, cond, ◌&&◌, List, ℕ, ◌+◌, ◌-◌, ◌≤◌, ◌<◌, eqb, leb, length, Ok, Err}
use Rattle.std.proofs.Math.Bool.{true, false, not}
use Rattle.std.proofs.Math.Decide.{dec_lt}
use Rattle.std.proofs.Math.Nat.{le_antisymm}
use native.Mathlib.Omega.{arith}
use borrow.Author.Tests.{le-leb, lt-leb}
use Rattle.laws.specs.Range.{count_of}
use Rattle.scene.specs.Faces.{FaceOf}
use Rattle.scene.specs.Limits.{limits}
use Rattle.scene.specs.Records.{verts_a, verts_b, faces_in_a, faces_in_b, verts, faces}
use Rattle.scene.specs.Tables.{tables_of, face}
use Rattle.scene.specs.View.{view_of, solid}
use Rattle.scene.specs.declared.Face.{Face}
use Rattle.scene.specs.declared.Refusal.TheVariants.{NoSuchNumber}
use Rattle.judge.specs.Judge.{refuse_unless, judged}
use Rattle.rules.proofs.Given.{counts, face_of_a, face_of_b}
use Rattle.orient.specs.Signs.{Upto}
use Rattle.orient.specs.Weighted.{Weighted}
use Rattle.pierce.specs.Beside.{Beside, beside}
use Rattle.pierce_masks.specs.Faces.{is_odd}
use Rattle.pierce.specs.Against.{mask_against}
use Rattle.pierce.specs.Formula.{pierced}
use Rattle.questions.specs.Hits.{Hit, enclosed_vertex, enclosed_count}
use Rattle.questions.specs.Answers.{or_refuse, is_point, is_vertex, is_solid, is_vertex_of, ends_off_solid, mask_in, refused, masked_of}
use Rattle.questions.specs.Answers.{other_solid, is_enclosed, enclosed_fault, enclosed_in, enclosed_of, counts_in, counted_of, inside_in}
use Rattle.questions.specs.Answers.{inside_fault, enclosing_in, inside_of, listing_in, verdict_number, verdict_of}
use Rattle.questions.specs.Asked.{Outside, enclosed_vertex_law, far_outside}
use Rattle.survey_scene.specs.Ready.{scene_weighted}
use Rattle.theorem_demands.specs.Words.{VertexOfA, VertexOfB, FaceOfA, FaceOfB, Point, Pierces}
use Rattle.theorem_demands.specs.Exact.{PiercedPair}
use Rattle.theorem_lecture.specs.Lecture.{rows_of, points_of}
use Rattle.theorem_lecture.specs.Renumbered.{Renumbering, Untied, pierced_renamed, mask_renamed}
use Rattle.theorem_lecture.specs.Exchange.{NoTies, seen_of, in_a, in_b}
use Rattle.theorem_lecture.proofs.Numbers.{within_same}
use Rattle.theorem_lecture.specs.Scenes.{answered_same}
use Rattle.theorem_lecture.specs.Asked.{other_same, either_number, other_is, masked_same}
use Rattle.theorem_lecture.specs.Counterpart.{Clear}
use Rattle.theorem_lecture.proofs.ExchangeSolids.{untied_a, untied_b}
use Rattle.theorem_lecture.specs.Fewer.{fewer}
use Rattle.theorem_lecture.specs.Pairs.{pair_iff, ends_in, pair_carried, no_more_pairs}
use Rattle.theorem_lecture.specs.Word.{word_by, word_by_counts}
use Rattle.theorem_lecture.specs.Numbered.{Numbered, carried, AnyNumbers}

-- ---- the two scenes

module _ (to back : ℕ → ℕ) (s t : List ℕ) (ok : judged s ≡ Ok tt) (ok' : judged t ≡ Ok tt) (h : Numbered to back s t)
    (ties : NoTies s) where
  abbrev n : ℕ
  n = points_of s

  same_points : points_of t ≡ n
  same_points = omega (arith, h.there.verts_a_law, h.there.verts_b_law)

  -- a point is a vertex of A, a vertex of B or the far point
  into : (i : ℕ) → Upto n i → Upto n (to i)
  into i p = by (dec_lt (verts_a s) i) (dec_lt (verts s) i)
    where
      by : Dec (verts_a s < i) → Dec (verts s < i) → Upto n (to i)
      by (no l) k = omega (arith, h.there.of_a i (omega arith))
      by (yes l) (no k) = omega (arith, h.there.of_b i (omega arith))
      by (yes l) (yes k) = let e : i ≡ n = omega arith in omega (arith, ap to e, h.there.far)

  apart : (i j : ℕ) → Upto n i → Upto n j → i ≢ j → to i ≢ to j
  apart i j p q d e = d (sym (h.back_to i p) ∙ ap back e ∙ h.back_to j q)

  renumbering : Renumbering n to (rows_of s) (rows_of t)
  renumbering = record { into = into; apart = apart; rows = h.there.rows }

  six : 6 ≤ n
  six = let c = counts limits s ok in omega (arith, c.vertices_a_law, c.vertices_b_law)

  weights : Weighted n (rows_of t)
  weights i l b = scene_weighted t ok' i l (omega (arith, same_points))

  -- ---- the faces of A, and of B, with two points that are none of the solid's vertices

  module _ (low high first count : ℕ) (numbered : first + count ≤ faces s) (within : high ≤ n)
      (corners : (i : ℕ) → i < count → FaceOf low high (face (tables_of s) (first + 1 + i)))
      (untied : (i : ℕ) → i < count → (u v : ℕ) → Clear n low high u → Clear n low high v → u ≢ v →
      Untied (rows_of s) u v (face (tables_of s) (first + 1 + i)))
      (u v : ℕ) (cu : Clear n low high u) (cv : Clear n low high v) (d : u ≢ v) where
    besides : (i : ℕ) → i < count → Beside n u v (face (tables_of s) (first + 1 + i))
    besides i l = beside within cu.point cv.point d cu.out cv.out _ (corners i l)

    mask_same : mask_against (points_of t) (rows_of t) (face (tables_of t)) (to u) (to v) first count
        ≡ mask_against n (rows_of s) (face (tables_of s)) u v first count
    mask_same =
        ap (λ (m : ℕ). mask_against m (rows_of t) (face (tables_of t)) (to u) (to v) first count) same_points
        ∙ mask_renamed n to (rows_of s) (rows_of t) renumbering six (scene_weighted s ok) weights (face (tables_of s))
        (face (tables_of t)) first first count u v
        besides (λ i l. untied i l u v cu cv d) (λ i l. h.there.faces (first + 1 + i) (omega arith))

    pierced_same : (f : ℕ) → first < f → f ≤ first + count →
        pierced (points_of t) (rows_of t) (to u) (to v) (face (tables_of t) f) ≡ pierced n (rows_of s) u v (face (tables_of s) f)
    pierced_same f a b =
        let i : ℕ = f - (first + 1) in
        let e : first + 1 + i ≡ f = omega arith in
        subst (λ (f : ℕ). pierced (points_of t) (rows_of t) (to u) (to v) (face (tables_of t) f) ≡ pierced n (rows_of s) u v
        (face (tables_of s) f)) e
        (ap₂ (λ (m : ℕ) (g : Face). pierced m (rows_of t) (to u) (to v) g) same_points (h.there.faces (first + 1 + i) (omega arith))
        ∙ pierced_renamed n to (rows_of s) (rows_of t) renumbering six (scene_weighted s ok) weights u v (face (tables_of s) (first + 1 + i))
        (besides i (omega arith)) (untied i (omega arith) u v cu cv d))

  ties_a : (i : ℕ) → i < faces_in_a s → (u v : ℕ) → Clear n 0 (verts_a s) u → Clear n 0 (verts_a s) v → u ≢ v →
      Untied (rows_of s) u v (face (tables_of s) (0 + 1 + i))
  ties_a i l u v cu cv d = untied_a s ties i u v l cu cv d

  ties_b : (i : ℕ) → i < faces_in_b s → (u v : ℕ) → Clear n (verts_a s) (verts s) u → Clear n (verts_a s) (verts s) v → u ≢ v →
      Untied (rows_of s) u v (face (tables_of s) (faces_in_a s + 1 + i))
  ties_b i l u v cu cv d = untied_b s ties i u v l cu cv d

  corners_a : (i : ℕ) → i < faces_in_a s → FaceOf 0 (verts_a s) (face (tables_of s) (0 + 1 + i))
  corners_a i l = face_of_a limits s ok (0 + 1 + i) (omega arith) (omega arith)

  corners_b : (i : ℕ) → i < faces_in_b s → FaceOf (verts_a s) (verts s) (face (tables_of s) (faces_in_a s + 1 + i))
  corners_b i l = face_of_b limits s ok (faces_in_a s + 1 + i) (omega arith) (omega arith)

  mask_a : (u v : ℕ) → Outside (view_of s) u v 1 → mask_in (view_of t) (to u) (to v) 1 ≡ mask_in (view_of s) u v 1
  unfolding mask_in solid
  mask_a u v o =
      ap (mask_against (points_of t) (rows_of t) (face (tables_of t)) (to u) (to v) 0) h.there.faces_a_law
      ∙ mask_same 0 (verts_a s) 0 (faces_in_a s) (omega arith) (omega arith) corners_a ties_a u v
      (record { point = o.u_point; out = λ x. o.u_out (omega arith) })
      (record { point = o.w_point; out = λ x. o.w_out (omega arith) }) o.differ

  mask_b : (u v : ℕ) → Outside (view_of s) u v 2 → mask_in (view_of t) (to u) (to v) 2 ≡ mask_in (view_of s) u v 2
  unfolding mask_in solid
  mask_b u v o =
      ap₂ (mask_against (points_of t) (rows_of t) (face (tables_of t)) (to u) (to v)) h.there.faces_a_law h.there.faces_b_law
      ∙ mask_same (verts_a s) (verts s) (faces_in_a s) (faces_in_b s) (omega arith) (omega arith) corners_b ties_b u v
      (record { point = o.u_point; out = o.u_out }) (record { point = o.w_point; out = o.w_out }) o.differ

  mask : (u v k : ℕ) → is_solid k ≡ true → Outside (view_of s) u v k → mask_in (view_of t) (to u) (to v) k ≡ mask_in (view_of s) u v k
  mask u v =
      either_number (λ k. Outside (view_of s) u v k → mask_in (view_of t) (to u) (to v) k ≡ mask_in (view_of s) u v k) (mask_a u v)
      (mask_b u v)

  -- ---- vertices of A with faces of B, and of B with faces of A

  a_clear : (i : ℕ) → VertexOfA s i → Clear n (verts_a s) (verts s) i
  a_clear i l = record { point = omega arith; out = λ o. omega arith }

  b_clear : (i : ℕ) → VertexOfB s i → Clear n 0 (verts_a s) i
  b_clear i l = record { point = omega arith; out = λ o. omega arith }

  of_a : (u v f : ℕ) → VertexOfA s u → VertexOfA s v → u ≢ v → FaceOfB s f →
      pierced (points_of t) (rows_of t) (to u) (to v) (face (tables_of t) f) ≡ pierced n (rows_of s) u v (face (tables_of s) f)
  of_a u v f a b d o =
      pierced_same (verts_a s) (verts s) (faces_in_a s) (faces_in_b s) (omega arith) (omega arith) corners_b ties_b u v (a_clear u a)
      (a_clear v b) d f (omega (arith, o)) (omega (arith, o))

  of_b : (u v f : ℕ) → VertexOfB s u → VertexOfB s v → u ≢ v → FaceOfA s f →
      pierced (points_of t) (rows_of t) (to u) (to v) (face (tables_of t) f) ≡ pierced n (rows_of s) u v (face (tables_of s) f)
  of_b u v f a b d o =
      pierced_same 0 (verts_a s) 0 (faces_in_a s) (omega arith) (omega arith) corners_a ties_a u v (b_clear u a) (b_clear v b) d f
      (omega (arith, o)) (omega (arith, o))

  -- ---- pairs

  pairs : (x : Hit) → PiercedPair s x → PiercedPair t (carried to x)
  pairs =
      pair_carried to s t ok ok' h.there (λ i j p q. apart i j p q)
      (λ u v f a b d o p. of_a u v f (omega (arith, a)) (omega (arith, b)) d o ∙ p)
      (λ u v f a b d o p. of_b u v f (omega (arith, a)) (omega (arith, b)) d o ∙ p)

  here : (i : ℕ) → Point t i → to (back i) ≡ i
  here i p = h.to_back i (omega (arith, same_points))

  back_a : (i : ℕ) → VertexOfA s i → VertexOfA s (back i)
  back_a i l = omega (arith, h.again.of_a i (omega (arith, h.there.verts_a_law)), h.there.verts_a_law)

  back_b : (i : ℕ) → VertexOfB s i → VertexOfB s (back i)
  back_b i l = omega (arith, h.again.of_b i (omega (arith, h.there.verts_a_law, h.there.verts_b_law)), h.there.verts_a_law, h.there.verts_b_law)

  -- what pierces in t, of the numbers of s
  told_back : (u v f : ℕ) → Point t u → Point t v →
      pierced (points_of t) (rows_of t) (to (back u)) (to (back v)) (face (tables_of t) f)
      ≡ pierced n (rows_of s) (back u) (back v) (face (tables_of s) f) → Pierces t u v f → Pierces s (back u) (back v) f
  told_back u v f a b e p =
      sym e ∙ ap₂ (λ (u v : ℕ). pierced (points_of t) (rows_of t) u v (face (tables_of t) f)) (here u a) (here v b) ∙ p

  apart_back : (i j : ℕ) → Point t i → Point t j → i ≢ j → back i ≢ back j
  apart_back i j p q d e = d (sym (here i p) ∙ ap to e ∙ here j q)

  pairs_back_law : (x : Hit) → PiercedPair t x → PiercedPair s (carried back x)
  pairs_back_law =
      pair_carried back t s ok' ok h.again apart_back
      (λ u v f a b d o p.
      told_back u v f (omega (arith, a)) (omega (arith, b))
      (of_a (back u) (back v) f (back_a u (omega (arith, a, h.there.verts_a_law))) (back_a v (omega (arith, b, h.there.verts_a_law)))
      (apart_back u v (omega (arith, a)) (omega (arith, b)) d) (omega (arith, o, h.there.faces_a_law, h.there.faces_b_law))) p)
      (λ u v f a b d o p.
      told_back u v f (omega (arith, a)) (omega (arith, b))
      (of_b (back u) (back v) f (back_b u (omega (arith, a, h.there.verts_a_law, h.there.verts_b_law)))
      (back_b v (omega (arith, b, h.there.verts_a_law, h.there.verts_b_law)))
      (apart_back u v (omega (arith, a)) (omega (arith, b)) d) (omega (arith, o, h.there.faces_a_law))) p)

  as_many : length (listing_in (view_of t)) ≡ length (listing_in (view_of s))
  as_many =
      le_antisymm
      (no_more_pairs back to t s ok' ok (λ x p. let e = ends_in t ok' x p in (here x.low e.0, here x.high e.1)) pairs_back_law)
      (no_more_pairs to back s t ok ok' (λ x p. let e = ends_in s ok x p in
      (h.back_to x.low e.0, h.back_to x.high e.1)) pairs)

  -- ---- enclosed vertices

  far_is : points_of t ≡ to n
  far_is = same_points ∙ sym h.there.far

  in_a_law : (i : ℕ) → VertexOfA s i → enclosed_vertex (seen_of t) (in_a t) (to i) ≡ enclosed_vertex (seen_of s) (in_a s) i
  unfolding enclosed_vertex mask_in solid
  in_a_law i a =
      ap (λ (m : ℕ). is_odd (mask_in (view_of t) (to i) m 2)) far_is
      ∙ ap is_odd (mask_b i n
      (record { u_point = omega arith; w_point = omega arith; differ = omega arith; u_out = λ o. omega arith; w_out = λ o. omega arith }))

  in_b_law : (i : ℕ) → VertexOfB s i → enclosed_vertex (seen_of t) (in_b t) (to i) ≡ enclosed_vertex (seen_of s) (in_b s) i
  unfolding enclosed_vertex mask_in solid
  in_b_law i b =
      ap (λ (m : ℕ). is_odd (mask_in (view_of t) (to i) m 1)) far_is
      ∙ ap is_odd (mask_a i n
      (record { u_point = omega arith; w_point = omega arith; differ = omega arith; u_out = λ o. omega arith; w_out = λ o. omega arith }))

  inside_a : enclosed_count (seen_of t) (in_a t) ≡ enclosed_count (seen_of s) (in_a s)
  unfolding enclosed_count
  inside_a =
      let p = enclosed_vertex (seen_of s) (in_a s) in
      let q = enclosed_vertex (seen_of t) (in_a t) in
      ap (λ (m : ℕ). count_of q (0 + 1) (0 + 1 + m)) h.there.verts_a_law
      ∙ le_antisymm
      (fewer q p (0 + 1) (verts_a s) back to (λ i l. omega (arith, back_a i (omega arith))) (λ i l. here i (omega (arith, same_points)))
      (λ i l. sym (in_a_law (back i) (back_a i (omega arith))) ∙ ap q (here i (omega (arith, same_points)))))
      (fewer p q (0 + 1) (verts_a s) to back (λ i l. omega (arith, h.there.of_a i (omega arith))) (λ i l. h.back_to i (omega arith))
      (λ i l. in_a_law i (omega arith)))

  inside_b : enclosed_count (seen_of t) (in_b t) ≡ enclosed_count (seen_of s) (in_b s)
  unfolding enclosed_count
  inside_b =
      let p = enclosed_vertex (seen_of s) (in_b s) in
      let q = enclosed_vertex (seen_of t) (in_b t) in
      ap₂ (λ (a b : ℕ). count_of q (a + 1) (a + 1 + b)) h.there.verts_a_law h.there.verts_b_law
      ∙ le_antisymm
      (fewer q p (verts_a s + 1) (verts_b s) back to (λ i l. omega (arith, back_b i (omega arith)))
      (λ i l. here i (omega (arith, same_points)))
      (λ i l. sym (in_b_law (back i) (back_b i (omega arith))) ∙ ap q (here i (omega (arith, same_points)))))
      (fewer p q (verts_a s + 1) (verts_b s) to back (λ i l. omega (arith, h.there.of_b i (omega arith)))
      (λ i l. h.back_to i (omega arith)) (λ i l. in_b_law i (omega arith)))

  -- ---- the kernel's answers

  counts_same : counts_in (view_of t) ≡ counts_in (view_of s)
  unfolding counts_in inside_in solid
  counts_same = λ i. record { pairs = as_many i; a_in_b = inside_a i; b_in_a = inside_b i }

  counted : counted_of t ≡ counted_of s
  unfolding counted_of or_refuse
  counted = rw (ok, ok') (ap Ok counts_same)

  verdict : verdict_number (verdict_of t) ≡ verdict_number (verdict_of s)
  verdict = word_by_counts t ok' ∙ ap word_by counts_same ∙ sym (word_by_counts s ok)

  inside_same : (k : ℕ) → inside_in (view_of t) k ≡ inside_in (view_of s) k
  unfolding inside_in solid
  inside_same k = by (eqb k 1)
    where
      by : (b : Bool) → enclosed_count (seen_of t) (cond b (in_a t) (in_b t)) ≡ enclosed_count (seen_of s) (cond b (in_a s) (in_b s))
      by true = inside_a
      by false = inside_b

  inside : (k : ℕ) → inside_of t k ≡ inside_of s k
  unfolding inside_of enclosing_in
  inside k =
      answered_same Err (ok' ∙ sym ok)
      (λ _. ap (λ (m : ℕ). or_refuse Err (inside_fault k) (Ok m)) (inside_same k))

  -- ---- masks and enclosed vertices, with their refusals

  point_same : (i : ℕ) → Upto n i → is_point (view_of t) (to i) ≡ is_point (view_of s) i
  unfolding is_point
  point_same i p =
      within_same 1 (points_of t) (to i) 1 n i (λ _. p, λ _. omega (arith, into i p, same_points))

  vertex_same : (i k : ℕ) → Upto n i → is_solid k ≡ true → is_vertex_of (view_of t) k (to i) ≡ is_vertex_of (view_of s) k i
  unfolding is_vertex_of solid
  vertex_same i k p =
      either_number (λ k. is_vertex_of (view_of t) k (to i) ≡ is_vertex_of (view_of s) k i)
      (within_same (0 + 1) (0 + verts_a t) (to i) (0 + 1) (0 + verts_a s) i (
        λ x. omega (arith, back_a (to i) (omega (arith, x, h.there.verts_a_law)), h.back_to i p),
        λ x. omega (arith, h.there.of_a i (omega arith), h.there.verts_a_law),
      ))
      (within_same (verts_a t + 1) (verts_a t + verts_b t) (to i) (verts_a s + 1) (verts_a s + verts_b s) i (
        λ x. omega (arith, back_b (to i) (omega (arith, x, h.there.verts_a_law, h.there.verts_b_law)), h.back_to i p),
        λ x. omega (arith, h.there.of_b i (omega arith), h.there.verts_a_law, h.there.verts_b_law),
      )) k

  outside_same : (u v k : ℕ) → Upto n u → Upto n v → is_solid k ≡ true → ends_off_solid (view_of t) (to u) (to v) k ≡ ends_off_solid (view_of s) u
      v k
  unfolding ends_off_solid
  outside_same u v k a b is =
      let d = other_same u v (to u) (to v) (ap to) (apart u v a b) in
      let x = vertex_same u k a is in
      let y = vertex_same v k b is in
      λ i. d i && (not (x i) && not (y i))

  masks : (u v k : ℕ) → Point s u → Point s v → masked_of t (to u) (to v) k ≡ masked_of s u v k
  unfolding masked_of
  masks u v k a b =
      answered_same refused (ok' ∙ sym ok)
      (λ _.
      masked_same (view_of s) (view_of t) u v k (to u) (to v) k (point_same u a) (point_same v b) refl (outside_same u v k) (mask u v k))

  -- a vertex stays one, of the same solid, and the far point stays
  is_vertex_law : (i : ℕ) → Upto n i → is_vertex (view_of t) (to i) ≡ is_vertex (view_of s) i
  unfolding is_vertex
  is_vertex_law i p = within_same 1 (verts t) (to i) 1 (verts s) i (from (dec_lt (verts s) i), λ x. stays (omega arith) (dec_lt (verts_a s) i))
    where
      from : Dec (verts s < i) → Upto (verts t) (to i) → Upto (verts s) i
      from (no l) x = omega arith
      from (yes l) x = let e : i ≡ n = omega arith in absurd (omega (arith, ap to e, h.there.far, h.there.verts_a_law, h.there.verts_b_law))

      stays : Upto (verts s) i → Dec (verts_a s < i) → Upto (verts t) (to i)
      stays x (no l) = omega (arith, h.there.of_a i (omega arith), h.there.verts_a_law, h.there.verts_b_law)
      stays x (yes l) = omega (arith, h.there.of_b i (omega arith), h.there.verts_a_law, h.there.verts_b_law)

  by_other : (i : ℕ) → Upto (verts s) i → other_solid (view_of t) (to i) ≡ other_solid (view_of s) i
  unfolding other_solid
  by_other i u = by (dec_lt (verts_a s) i)
    where
      by : Dec (verts_a s < i) → ◌≡◌ {A = ℕ} (cond (leb (to i) (verts_a t)) 2 1) (cond (leb i (verts_a s)) 2 1)
      by (no l) =
          rw (
            le-leb (to i) (verts_a t) (omega (arith, h.there.of_a i (omega arith), h.there.verts_a_law)),
            le-leb i (verts_a s) (omega arith),
          )
      by (yes l) = rw (lt-leb (to i) (verts_a t) (omega (arith, h.there.of_b i (omega arith), h.there.verts_a_law)), lt-leb i (verts_a s) l)

  odd_same : (i : ℕ) → Upto (verts s) i → is_enclosed (view_of t) (to i) ≡ is_enclosed (view_of s) i
  unfolding is_enclosed
  odd_same i u =
      ap₂ (λ (m k : ℕ). is_odd (mask_in (view_of t) (to i) m k)) far_is (by_other i u)
      ∙ ap is_odd (mask i n (other_solid (view_of s) i) (other_is (view_of s) i) (far_outside (view_of s) i u refl refl))

  enclosed_same : (i : ℕ) → Point s i → enclosed_in (view_of t) (to i) ≡ enclosed_in (view_of s) i
  unfolding enclosed_in enclosed_fault
  enclosed_same i p =
      answered_same Err (ap (λ (b : Bool). refuse_unless b NoSuchNumber (Ok tt)) (is_vertex_law i p))
      (λ e. ap Ok (odd_same i (enclosed_vertex_law (view_of s) i e)))

  enclosed : (i : ℕ) → Point s i → enclosed_of t (to i) ≡ enclosed_of s i
  unfolding enclosed_of
  enclosed i p = answered_same Err (ok' ∙ sym ok) (λ _. enclosed_same i p)

pub any_numbers : AnyNumbers
any_numbers to back s t ok ok' h ties =
    record {
      masks = masks to back s t ok ok' h ties;
      enclosed = enclosed to back s t ok ok' h ties;
      pairs = λ x p. (pair_iff t ok' (carried to x)).1 (pairs to back s t ok ok' h ties x ((pair_iff s ok x).0 p));
      pairs_back_law = λ x p. (pair_iff s ok (carried back x)).1 (pairs_back_law to back s t ok ok' h ties x ((pair_iff t ok' x).0 p));
      inside = inside to back s t ok ok' h ties;
      counted = counted to back s t ok ok' h ties;
      verdict = verdict to back s t ok ok' h ties;
    }
