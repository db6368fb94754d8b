-- The judge's five tests of a record decide the five rules of that record, and the record is refused by the first that fails.
-- Assumes nothing.
use Rattle.std.specs.Prelude.{◌≡◌, ◌↔◌, Bool, true, false, ◌&&◌, List, eqb, ℤ, pos, negsuc, Ok}
use Rattle.std.proofs.Math.Path.{refl, ap}
use Rattle.std.proofs.Common.{sym, ◌∙◌, subst, arith}
use mathlib.Core.Logic.Iff
use Prim.Native.Nat.{ℕ, zero, suc, ◌+◌, ◌-◌, ◌≤◌, ◌<◌}
use Rattle.std.proofs.Math.Decide.{dec_lt}
use Rattle.std.proofs.Math.IntN.{nat_abs}
use Rattle.std.proofs.lemmas.Bool.{not-true}
use Rattle.laws.specs.Decides.{decides, eqb_iff, always, fails_iff}
use Rattle.scene.specs.Limits.{Limits, least_weight}
use Rattle.scene.specs.Bytes.{two_at}
use Rattle.scene.specs.Records.{verts_a, verts_b, faces_in_a, verts, faces, face_record, last_record, point_start, face_start, end_start, markvx}
use Rattle.scene.specs.Records.{markfc, marken}
use Rattle.scene.specs.Tables.{row_at, face_at}
use Rattle.scene.specs.Faces.{FaceOf}
use Rattle.scene.specs.declared.Refusal.{Refusal}
use Rattle.scene.specs.declared.Refusal.TheVariants.{Mark, Coordinate, Weight, FarAllZero, Corner}
use Rattle.judge.specs.Judge.{refuse_unless, coordinate_ok, weight_ok, nowhere, somewhere_ok, point_mark, point_fault}
use Rattle.judge.specs.Judge.{are_corners, verts_at, corners_ok, face_fault, end_fault, record_fault}
use Rattle.judge.specs.Cases.{vertex_mark, verts_of_a, verts_of_b, record_point, record_face, record_end}
use Rattle.judge.specs.Judge.{Judged}
use Rattle.rules.specs.Rules.{MarkOk, CoordinatesIn, WeightIn, Zeros, CoordinatesOk, WeightOk, SomewhereOk, CornersOk}
use Rattle.judge.specs.Tests.{accepts, within_iff}

-- the rules of record k in the order of checking, by their tests
abbrev pub in_order : (k : ℕ) (mark coordinates weight somewhere corners : Bool) → Judged
in_order k mark coordinates weight somewhere corners =
    refuse_unless mark (Mark k)
    (refuse_unless coordinates (Coordinate k)
    (refuse_unless weight (Weight k) (refuse_unless somewhere (FarAllZero k) (refuse_unless corners (Corner k) (Ok tt)))))

pub record Tested (l : Limits) (s : List ℕ) (k : ℕ) : Type 0 where
  pub mark : Bool
  pub coordinates : Bool
  pub weight : Bool
  pub somewhere : Bool
  pub corners : Bool
  pub mark_iff : (mark ≡ true) ↔ MarkOk s k
  pub coordinates_iff : (coordinates ≡ true) ↔ CoordinatesOk l s k
  pub weight_iff : (weight ≡ true) ↔ WeightOk l s k
  pub somewhere_iff : (somewhere ≡ true) ↔ SomewhereOk s k
  pub corners_iff : (corners ≡ true) ↔ CornersOk s k
  pub fault : record_fault l s k ≡ in_order k mark coordinates weight somewhere corners

size_zero : (z : ℤ) → nat_abs z ≡ 0 → z ≡ pos 0
size_zero (pos n) e = ap pos e
size_zero (negsuc n) e = absurd (omega arith)

-- three tests with one refusal
together : (a b c : Bool) (r : Refusal) (k : Judged) → refuse_unless a r (refuse_unless b r (refuse_unless c r k)) ≡ refuse_unless
    (a && (b && c)) r k
unfolding refuse_unless
together true true c r k = refl
together true false c r k = refl
together false b c r k = refl

module _ (l : Limits) (s : List ℕ) where
  -- ---- a point

  abbrev coordinates : ℕ → Bool
  coordinates at = coordinate_ok l s (at + 2) && (coordinate_ok l s (at + 4) && coordinate_ok l s (at + 6))

  coordinates_in : (j : ℕ) → (coordinates (point_start j) ≡ true) ↔ CoordinatesIn l (row_at s j)
  unfolding coordinate_ok
  coordinates_in j = (
    λ p. let c = simp decides at p in record { x = c.0; y = c.1.0; z = c.1.1 },
    λ h. simp decides (h.x, (h.y, h.z)),
  )

  weight_in : (j : ℕ) → (weight_ok l s j ≡ true) ↔ WeightIn (least_weight j) l (row_at s j)
  unfolding weight_ok
  weight_in j = within_iff _ _ _

  point_order : (j : ℕ) →
      point_fault l s j
      ≡ in_order (j + 1) (eqb (two_at s (point_start j)) (point_mark j)) (coordinates (point_start j)) (weight_ok l s j) (somewhere_ok s j) true
  unfolding point_fault refuse_unless
  point_order j =
      let at : ℕ = point_start j in
      ap (refuse_unless (eqb (two_at s at) (point_mark j)) (Mark (j + 1)))
      (together (coordinate_ok l s (at + 2)) (coordinate_ok l s (at + 4)) (coordinate_ok l s (at + 6)) (Coordinate (j + 1))
      (refuse_unless (weight_ok l s j) (Weight (j + 1)) (refuse_unless (somewhere_ok s j) (FarAllZero (j + 1)) (Ok tt))))

  -- what holds of the file's point j, said of its record
  of_point : (X : ℕ → Type 0) (j : ℕ) → j ≤ verts s → X j ↔ ((i : ℕ) → i ≤ verts s → j + 1 ≡ i + 1 → X i)
  of_point X j b = (λ x i c e. subst X (omega arith) x, λ h. h j b refl)

  point_mark_law : (j : ℕ) → j ≤ verts s → (two_at s (point_start j) ≡ point_mark j) ↔ MarkOk s (j + 1)
  point_mark_law zero b = (
    λ e.
        record {
          far = λ h. e;
          vertex = λ i a c h. absurd (omega arith);
          face = λ i a h. absurd (omega arith);
          end = λ h. absurd (omega arith);
        },
    λ m. m.far refl,
  )
  point_mark_law (suc j) b = (
    λ e.
        record {
          far = λ h. absurd (omega arith);
          vertex = λ i a c h. subst (λ (n : ℕ). two_at s (point_start n) ≡ markvx) (omega arith) (e ∙ vertex_mark (suc j) (omega arith));
          face = λ i a h. absurd (omega arith);
          end = λ h. absurd (omega arith);
        },
    λ m. m.vertex (suc j) (omega arith) b refl ∙ sym (vertex_mark (suc j) (omega arith)),
  )

  zeros_iff : (nowhere s ≡ true) ↔ Zeros (row_at s 0)
  unfolding nowhere
  zeros_iff = (
    λ p. let c = simp decides at p in
        record { x = size_zero _ c.0; y = size_zero _ c.1.0; z = size_zero _ c.1.1.0; w = size_zero _ c.1.1.1 },
    λ h. simp decides (ap nat_abs h.x, (ap nat_abs h.y, (ap nat_abs h.z, ap nat_abs h.w))),
  )

  point_somewhere : (j : ℕ) → (somewhere_ok s j ≡ true) ↔ SomewhereOk s (j + 1)
  unfolding somewhere_ok
  point_somewhere zero =
      (λ e q. (fails_iff (nowhere s) zeros_iff).0 (not-true (nowhere s) e), λ n. rw ((fails_iff (nowhere s) zeros_iff).1 (n refl)))
  point_somewhere (suc j) = always (λ e. absurd (omega arith))

  point_tested : (j : ℕ) → j ≤ verts s → Tested l s (j + 1)
  point_tested j b =
      let at : ℕ = point_start j in
      record {
        mark = eqb (two_at s at) (point_mark j);
        coordinates = coordinates at;
        weight = weight_ok l s j;
        somewhere = somewhere_ok s j;
        corners = true;
        mark_iff = Iff.trans (eqb_iff _ _) (point_mark_law j b);
        coordinates_iff = Iff.trans (coordinates_in j) (of_point (λ i. CoordinatesIn l (row_at s i)) j b);
        weight_iff = Iff.trans (weight_in j) (of_point (λ i. WeightIn (least_weight i) l (row_at s i)) j b);
        somewhere_iff = point_somewhere j;
        corners_iff = always (record { of_a = λ i a e. absurd (omega arith); of_b = λ i a c e. absurd (omega arith) });
        fault = record_point s l (j + 1) (omega arith) ∙ ap (point_fault l s) (omega arith) ∙ point_order j;
      }

  -- ---- a face

  face_of_law : (i v : ℕ) → verts_at s i ≡ v → (corners_ok s i ≡ true) ↔ FaceOf 0 v (face_at s i)
  unfolding corners_ok are_corners
  face_of_law i v e =
      rw e (
        λ p.
            let c = simp accepts at p in
            let d = c.1.1.1 in
            record { p = c.0; q = c.1.0; r = c.1.1.0; proper = record { pq = d.0; qr = d.1.0; rp = d.1.1 } },
        λ h. simp accepts (h.p, (h.q, (h.r, (h.proper.pq, (h.proper.qr, h.proper.rp))))),
      )

  face_order : (i : ℕ) → face_fault s i ≡ in_order (face_record s i) (eqb (two_at s (face_start s i)) markfc) true true true (corners_ok s i)
  unfolding face_fault refuse_unless
  face_order i = refl

  face_mark : (i : ℕ) → i < faces s → two_at s (face_start s i) ≡ markfc → MarkOk s (face_record s i)
  face_mark i b e =
      record {
        far = λ h. absurd (omega arith);
        vertex = λ j a c h. absurd (omega arith);
        face = λ j a h. subst (λ (n : ℕ). two_at s (face_start s n) ≡ markfc) (omega arith) e;
        end = λ h. absurd (omega arith);
      }

  face_corners : (i : ℕ) → i < faces s → Dec (i < faces_in_a s) → (corners_ok s i ≡ true) ↔ CornersOk s (face_record s i)
  face_corners i b (yes a) =
      Iff.trans (face_of_law i (verts_a s) (verts_of_a s i a)) (
        λ h.
            record {
              of_a = λ j c e. subst (λ (n : ℕ). FaceOf 0 (verts_a s) (face_at s n)) (omega arith) h;
              of_b = λ j c d e. absurd (omega arith);
            },
        λ h. h.of_a i a refl,
      )
  face_corners i b (no a) =
      Iff.trans (face_of_law i (verts_b s) (verts_of_b s i (omega arith))) (
        λ h.
            record {
              of_a = λ j c e. absurd (omega arith);
              of_b = λ j c d e. subst (λ (n : ℕ). FaceOf 0 (verts_b s) (face_at s n)) (omega arith) h;
            },
        λ h. h.of_b i (omega arith) b refl,
      )

  face_tested : (i : ℕ) → i < faces s → Tested l s (face_record s i)
  face_tested i b =
      record {
        mark = eqb (two_at s (face_start s i)) markfc;
        coordinates = true;
        weight = true;
        somewhere = true;
        corners = corners_ok s i;
        mark_iff = Iff.trans (eqb_iff _ _) (face_mark i b, λ m. m.face i b refl);
        coordinates_iff = always (λ j a e. absurd (omega arith));
        weight_iff = always (λ j a e. absurd (omega arith));
        somewhere_iff = always (λ e. absurd (omega arith));
        corners_iff = face_corners i b (dec_lt i (faces_in_a s));
        fault = record_face s l (face_record s i) (omega arith) (omega arith) ∙ ap (face_fault s) (omega arith) ∙ face_order i;
      }

  -- ---- the last record

  end_order : end_fault s ≡ in_order (last_record s) (eqb (two_at s (end_start s)) marken) true true true true
  unfolding end_fault refuse_unless
  end_order = refl

  end_mark : two_at s (end_start s) ≡ marken → MarkOk s (last_record s)
  end_mark e =
      record {
        far = λ h. absurd (omega arith);
        vertex = λ j a c h. absurd (omega arith);
        face = λ j a h. absurd (omega arith);
        end = λ h. e;
      }

  end_tested : Tested l s (last_record s)
  end_tested =
      record {
        mark = eqb (two_at s (end_start s)) marken;
        coordinates = true;
        weight = true;
        somewhere = true;
        corners = true;
        mark_iff = Iff.trans (eqb_iff _ _) (end_mark, λ m. m.end refl);
        coordinates_iff = always (λ j a e. absurd (omega arith));
        weight_iff = always (λ j a e. absurd (omega arith));
        somewhere_iff = always (λ e. absurd (omega arith));
        corners_iff = always (record { of_a = λ i a e. absurd (omega arith); of_b = λ i a c e. absurd (omega arith) });
        fault = record_end s l (last_record s) (omega arith) ∙ end_order;
      }

  -- ---- each record

  pub tested : (k : ℕ) → 1 ≤ k → k ≤ last_record s → Tested l s k
  tested k a b = go (dec_lt k (2 + verts s)) (dec_lt k (last_record s))
    where
      go : Dec (k < 2 + verts s) → Dec (k < last_record s) → Tested l s k
      go (yes c) d = subst (Tested l s) (omega arith) (point_tested (k - 1) (omega arith))
      go (no c) (yes d) = subst (Tested l s) (omega arith) (face_tested (k - (2 + verts s)) (omega arith))
      go (no c) (no d) = subst (Tested l s) (omega arith) end_tested
