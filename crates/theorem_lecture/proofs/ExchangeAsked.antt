-- With A and B exchanged a mask, an enclosed vertex and the number of them are answered as before, and refused as before, whatever numbers
-- they are asked with. Assumes nothing.
use Rattle.std.specs.Prelude.{◌≡◌, Bool, true, ◌&&◌, List, ℕ, ◌+◌, ◌<◌, leb, Ok, Err}
use Rattle.std.proofs.Math.Path.{refl, sym, ap, ap₂}
use Rattle.std.proofs.Common.{◌∙◌, arith}
use Rattle.std.proofs.Math.Bool.{not, cond}
use Rattle.std.proofs.Math.Decide.{dec_lt}
use borrow.Author.Tests.{le-leb, lt-leb}
use Rattle.scene.specs.Limits.{within}
use Rattle.scene.specs.Records.{verts_a, verts_b, verts}
use Rattle.scene.specs.View.{view_of, solid}
use Rattle.scene.specs.declared.Refusal.TheVariants.{NoSuchNumber}
use Rattle.judge.specs.Judge.{refuse_unless, judged}
use Rattle.judge.specs.Laws.{rule_ok}
use Rattle.orient.specs.Signs.{Upto}
use Rattle.pierce_masks.specs.Faces.{is_odd}
use Rattle.questions.specs.Answers.{is_point, is_vertex, is_solid, is_vertex_of, ends_off_solid, mask_in, refused, masked_of}
use Rattle.questions.specs.Answers.{other_solid, is_enclosed, enclosed_fault, enclosed_in, enclosed_of, inside_in}
use Rattle.questions.specs.Answers.{inside_fault, enclosing_in, inside_of}
use Rattle.questions.specs.Asked.{Outside, enclosed_vertex_law, far_outside}
use Rattle.theorem_lecture.specs.Lecture.{points_of}
use Rattle.theorem_lecture.specs.Exchange.{exchanged, to, face_to, solid_to, Exchanged, NoTies, seen_of, in_a, in_b}
use Rattle.theorem_lecture.proofs.Numbers.{of_a, of_b, within_all, within_a, within_b, apart}
use Rattle.theorem_lecture.specs.Scenes.{answered_same}
use Rattle.theorem_lecture.specs.Asked.{other_same, either_number, other_is, masked_same}
use Rattle.theorem_lecture.specs.Counterpart.{mask_same, count_same}
use Rattle.theorem_lecture.proofs.ExchangeSolids.{same_points, renumbered, far_stays, a_is_b, b_is_a}

to_b : solid_to 1 ≡ 2
unfolding exchanged
to_b = refl

to_a : solid_to 2 ≡ 1
unfolding exchanged
to_a = refl

solid_same : (k : ℕ) → is_solid (solid_to k) ≡ is_solid k
unfolding is_solid
solid_same k = within_all 1 1 2 k (omega arith)

module _ (s t : List ℕ) (ok : judged s ≡ Ok tt) (ok' : judged t ≡ Ok tt) (h : Exchanged s t) (ties : NoTies s) where
  abbrev n : ℕ
  n = points_of s

  -- ---- masks

  mask_a : (u w : ℕ) → Outside (view_of s) u w 1 → mask_in (view_of t) (to s u) (to s w) (solid_to 1) ≡ mask_in (view_of s) u w 1
  unfolding mask_in solid
  mask_a u w o =
      rw to_b
      (mask_same (seen_of s) (seen_of t) (to s) (face_to s) (renumbered s t ok ok' h ties) (in_b s) (in_a t) 0 (verts_a s)
      (b_is_a s t ok ok' h ties) u w (record { point = o.u_point; out = λ x. o.u_out (omega arith) })
      (record { point = o.w_point; out = λ x. o.w_out (omega arith) }) o.differ)

  mask_b : (u w : ℕ) → Outside (view_of s) u w 2 → mask_in (view_of t) (to s u) (to s w) (solid_to 2) ≡ mask_in (view_of s) u w 2
  unfolding mask_in solid
  mask_b u w o =
      rw to_a
      (mask_same (seen_of s) (seen_of t) (to s) (face_to s) (renumbered s t ok ok' h ties) (in_a s) (in_b t) (verts_a s) (verts s)
      (a_is_b s t ok ok' h ties) u w (record { point = o.u_point; out = o.u_out }) (record { point = o.w_point; out = o.w_out })
      o.differ)

  mask : (u w k : ℕ) → is_solid k ≡ true → Outside (view_of s) u w k →
      mask_in (view_of t) (to s u) (to s w) (solid_to k) ≡ mask_in (view_of s) u w k
  mask u w =
      either_number (λ k. Outside (view_of s) u w k → mask_in (view_of t) (to s u) (to s w) (solid_to k) ≡ mask_in (view_of s) u w k)
      (mask_a u w) (mask_b u w)

  -- ---- the numbers that are asked with

  point_same : (i : ℕ) → is_point (view_of t) (to s i) ≡ is_point (view_of s) i
  unfolding is_point
  point_same i =
      ap (λ (m : ℕ). within 1 m (to s i)) (same_points s t ok ok' h ties) ∙ within_all (verts_a s) (verts_b s) n i (omega arith)

  vertex_same : (i k : ℕ) → is_solid k ≡ true → is_vertex_of (view_of t) (solid_to k) (to s i) ≡ is_vertex_of (view_of s) k i
  unfolding is_vertex_of solid
  vertex_same i =
      either_number (λ k. is_vertex_of (view_of t) (solid_to k) (to s i) ≡ is_vertex_of (view_of s) k i)
      (rw to_b
      (ap₂ (λ (a b : ℕ). within (a + 1) (a + b) (to s i)) h.verts_a_law h.verts_b_law ∙ within_a (verts_a s) (verts_b s) i))
      (rw to_a (ap (λ (b : ℕ). within (0 + 1) (0 + b) (to s i)) h.verts_a_law ∙ within_b (verts_a s) (verts_b s) i))

  outside_same : (u w k : ℕ) → Upto n u → Upto n w → is_solid k ≡ true →
      ends_off_solid (view_of t) (to s u) (to s w) (solid_to k) ≡ ends_off_solid (view_of s) u w k
  unfolding ends_off_solid
  outside_same u w k a b is =
      let d = other_same u w (to s u) (to s w) (ap (to s)) (apart (verts_a s) (verts_b s) u w a b) in
      let x = vertex_same u k is in
      let y = vertex_same w k is in
      λ i. d i && (not (x i) && not (y i))

  pub masks : (u w k : ℕ) → masked_of t (to s u) (to s w) (solid_to k) ≡ masked_of s u w k
  unfolding masked_of
  masks u w k =
      answered_same refused (ok' ∙ sym ok)
      (λ _.
      masked_same (view_of s) (view_of t) u w k (to s u) (to s w) (solid_to k) (point_same u) (point_same w) (solid_same k)
      (outside_same u w k) (mask u w k))

  -- ---- enclosed vertices

  is_vertex_law : (i : ℕ) → is_vertex (view_of t) (to s i) ≡ is_vertex (view_of s) i
  unfolding is_vertex
  is_vertex_law i =
      let e : verts t ≡ verts s = omega (arith, h.verts_a_law, h.verts_b_law) in
      ap (λ (m : ℕ). within 1 m (to s i)) e ∙ within_all (verts_a s) (verts_b s) (verts s) i (omega arith)

  -- the solid that a vertex may be enclosed by
  by_other : (i : ℕ) → Upto (verts s) i → other_solid (view_of t) (to s i) ≡ solid_to (other_solid (view_of s) i)
  unfolding other_solid
  by_other i u = by (dec_lt (verts_a s) i)
    where
      by : Dec (verts_a s < i) → cond (leb (to s i) (verts_a t)) 2 1 ≡ solid_to (cond (leb i (verts_a s)) 2 1)
      by (no l) =
          rw (
            lt-leb (to s i) (verts_a t) (omega (arith, of_a (verts_a s) (verts_b s) i u.0 (omega arith), h.verts_a_law)),
            le-leb i (verts_a s) (omega arith),
          ) (sym to_a)
      by (yes l) =
          rw (le-leb (to s i) (verts_a t) (omega (arith, of_b (verts_a s) (verts_b s) i l u.1, h.verts_a_law)), lt-leb i (verts_a s) l)
          (sym to_b)

  odd_same : (i : ℕ) → Upto (verts s) i → is_enclosed (view_of t) (to s i) ≡ is_enclosed (view_of s) i
  unfolding is_enclosed
  odd_same i u =
      ap₂ (λ (m k : ℕ). is_odd (mask_in (view_of t) (to s i) m k)) (same_points s t ok ok' h ties ∙ sym (far_stays s t ok ok' h ties))
      (by_other i u)
      ∙ ap is_odd (mask i n (other_solid (view_of s) i) (other_is (view_of s) i) (far_outside (view_of s) i u refl refl))

  enclosed_same : (i : ℕ) → enclosed_in (view_of t) (to s i) ≡ enclosed_in (view_of s) i
  unfolding enclosed_in enclosed_fault
  enclosed_same i =
      answered_same Err (ap (λ (b : Bool). refuse_unless b NoSuchNumber (Ok tt)) (is_vertex_law i))
      (λ e. ap Ok (odd_same i (enclosed_vertex_law (view_of s) i e)))

  pub enclosed : (i : ℕ) → enclosed_of t (to s i) ≡ enclosed_of s i
  unfolding enclosed_of
  enclosed i = answered_same Err (ok' ∙ sym ok) (λ _. enclosed_same i)

  -- ---- how many are enclosed

  inside_same : (k : ℕ) → is_solid k ≡ true → inside_in (view_of t) (solid_to k) ≡ inside_in (view_of s) k
  unfolding inside_in solid
  inside_same =
      either_number (λ k. inside_in (view_of t) (solid_to k) ≡ inside_in (view_of s) k)
      (rw to_b
      (count_same (seen_of s) (seen_of t) (to s) (face_to s) (renumbered s t ok ok' h ties) (in_a s) (in_b t) (verts_a s) (verts s)
      (a_is_b s t ok ok' h ties)))
      (rw to_a
      (count_same (seen_of s) (seen_of t) (to s) (face_to s) (renumbered s t ok ok' h ties) (in_b s) (in_a t) 0 (verts_a s)
      (b_is_a s t ok ok' h ties)))

  enclosing_same : (k : ℕ) → enclosing_in (view_of t) (solid_to k) ≡ enclosing_in (view_of s) k
  unfolding enclosing_in inside_fault
  enclosing_same k =
      answered_same Err (ap (λ (b : Bool). refuse_unless b NoSuchNumber (Ok tt)) (solid_same k))
      (λ e. ap Ok (inside_same k (rule_ok _ _ _ e)))

  pub inside : (k : ℕ) → inside_of t (solid_to k) ≡ inside_of s k
  unfolding inside_of
  inside k = answered_same Err (ok' ∙ sym ok) (λ _. enclosing_same k)
