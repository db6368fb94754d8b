-- With A and B exchanged t is s with other numbers, in each solid in the same order: A of s is B of t, and B of s is A of t.
-- Assumes nothing.
use Rattle.std.specs.Prelude.{◌≡◌, ◌≢◌, List, ℕ, ◌+◌, ◌<◌, Ok}
use Rattle.std.proofs.Common.{ap, ◌∙◌, arith}
use Rattle.scene.specs.Limits.{limits}
use Rattle.scene.specs.Records.{verts_a, verts_b, faces_in_a, faces_in_b, verts}
use Rattle.scene.specs.View.{view_of, solid}
use Rattle.judge.specs.Judge.{judged}
use Rattle.rules.proofs.Given.{counts, face_of_a, face_of_b}
use Rattle.survey_scene.specs.Ready.{scene_weighted}
use Rattle.theorem_lecture.specs.Lecture.{rows_of, points_of}
use Rattle.theorem_lecture.specs.Renumbered.{Untied}
use Rattle.theorem_lecture.specs.Exchange.{to, face_to, Exchanged, NoTies, seen_of, in_a, in_b}
use Rattle.theorem_lecture.proofs.Numbers.{of_a, of_b, of_far, into, apart}
use Rattle.theorem_lecture.specs.Counterpart.{Clear, Counterpart, Renumbered}

-- no tie is broken, said of A and of B
module _ (s : List ℕ) (ties : NoTies s) (i u v : ℕ) where
  pub untied_a : i < faces_in_a s → Clear (points_of s) 0 (verts_a s) u → Clear (points_of s) 0 (verts_a s) v → u ≢ v →
      Untied (rows_of s) u v ((view_of s).face (0 + 1 + i))
  unfolding solid
  untied_a l cu cv d =
      ties u v 1
      (record {
        u_point = cu.point;
        w_point = cv.point;
        differ = d;
        u_out = λ h. cu.out (omega arith);
        w_out = λ h. cv.out (omega arith);
      }) i l

  pub untied_b : i < faces_in_b s → Clear (points_of s) (verts_a s) (verts s) u → Clear (points_of s) (verts_a s) (verts s) v → u ≢ v →
      Untied (rows_of s) u v ((view_of s).face (faces_in_a s + 1 + i))
  unfolding solid
  untied_b l cu cv d =
      ties u v 2 (record { u_point = cu.point; w_point = cv.point; differ = d; u_out = cu.out; w_out = cv.out }) i l

module _ (s t : List ℕ) (ok : judged s ≡ Ok tt) (ok' : judged t ≡ Ok tt) (h : Exchanged s t) (ties : NoTies s) where
  abbrev n : ℕ
  n = points_of s

  pub same_points : points_of t ≡ n
  same_points = omega (arith, h.verts_a_law, h.verts_b_law)

  pub renumbered : Renumbered (seen_of s) (seen_of t) (to s)
  renumbered =
      record {
        points = same_points;
        six = let c = counts limits s ok in omega (arith, c.vertices_a_law, c.vertices_b_law);
        numbers = record { into = into (verts_a s) (verts_b s); apart = apart (verts_a s) (verts_b s); rows = h.rows };
        weighted = scene_weighted s ok;
        weighted' = λ i l b. scene_weighted t ok' i l (omega (arith, same_points));
      }

  pub far_stays : to s n ≡ n
  far_stays = of_far (verts_a s) (verts_b s) n (omega arith)

  pub a_is_b : Counterpart (seen_of s) (seen_of t) (to s) (face_to s) (in_a s) (in_b t) (verts_a s) (verts s)
  a_is_b =
      record {
        vertices = h.verts_b_law;
        own_count = h.faces_b_law;
        other_count = h.faces_a_law;
        number = λ i l. of_a (verts_a s) (verts_b s) (0 + 1 + i) (omega arith) (omega arith) ∙ omega (arith, h.verts_a_law);
        face_number = λ j l. of_b (faces_in_a s) (faces_in_b s) (faces_in_a s + 1 + j) (omega arith) (omega arith) ∙ omega arith;
        own_faces = λ j l. ap (λ (f : ℕ). (view_of t).face (f + 1 + j)) h.faces_a_law ∙ h.of_a j l;
        other_faces = h.of_b;
        own_corners = λ j l. let e : 0 + verts_a s ≡ verts_a s = omega arith in
            rw e (face_of_a limits s ok (0 + 1 + j) (omega arith) (omega arith));
        other_corners = λ j l. face_of_b limits s ok (faces_in_a s + 1 + j) (omega arith) (omega arith);
        untied = λ j l u v cu cv d. untied_b s ties j u v l cu cv d;
        within = omega arith;
        own = λ i l. record { point = omega arith; out = λ o. omega arith };
        before_far = omega arith;
        far = record { point = omega arith; out = λ o. omega arith };
        far_number = far_stays;
      }

  pub b_is_a : Counterpart (seen_of s) (seen_of t) (to s) (face_to s) (in_b s) (in_a t) 0 (verts_a s)
  b_is_a =
      record {
        vertices = h.verts_a_law;
        own_count = h.faces_a_law;
        other_count = h.faces_b_law;
        number = λ i l. of_b (verts_a s) (verts_b s) (verts_a s + 1 + i) (omega arith) (omega arith) ∙ omega arith;
        face_number = λ j l. of_a (faces_in_a s) (faces_in_b s) (0 + 1 + j) (omega arith) (omega arith) ∙ omega (arith, h.faces_a_law);
        own_faces = h.of_b;
        other_faces = λ j l. ap (λ (f : ℕ). (view_of t).face (f + 1 + j)) h.faces_a_law ∙ h.of_a j l;
        own_corners = λ j l. face_of_b limits s ok (faces_in_a s + 1 + j) (omega arith) (omega arith);
        other_corners = λ j l. face_of_a limits s ok (0 + 1 + j) (omega arith) (omega arith);
        untied = λ j l u v cu cv d. untied_a s ties j u v l cu cv d;
        within = omega arith;
        own = λ i l. record { point = omega arith; out = λ o. omega arith };
        before_far = omega arith;
        far = record { point = omega arith; out = λ o. let c = counts limits s ok in omega (arith, c.vertices_b_law) };
        far_number = far_stays;
      }
