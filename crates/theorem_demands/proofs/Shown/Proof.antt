-- Each record begins where the one before it ends. Assumes nothing.
use Rattle.std.specs.Prelude.{◌≡◌, refl, ℕ, zero, suc, ◌+◌, ◌*◌, ◌-◌, ◌≤◌, ◌<◌, take, drop, Ok}
use Rattle.std.proofs.Common.{sym, ◌∙◌, add-one, arith, take-add, get_or-take}
use Rattle.std.proofs.Math.Path.{ap, ap₂}
use mathlib.Core.List.{List, [], ◌++◌}
use Rattle.std.proofs.Math.ListN.{length, length-drop}
use Rattle.std.proofs.Math.Seq.{take-length, length-take-le, get_or-drop}
use Rattle.scene.specs.Bytes.{byte_at, two_at}
use Rattle.scene.specs.Limits.{limits}
use Rattle.scene.specs.Records.{verts, faces, last_record, length_of, point_start, face_start, end_start}
use Rattle.judge.specs.Judge.{judged}
use Rattle.rules.specs.Rules.{FileOk}
use Rattle.rules.proofs.Accepted.{accepted}
use Rattle.record.specs.Shown.{part, part_at, shown}
use Rattle.record.specs.Cases.{at_header, at_point, at_face, at_end, shown_all, had}
use Rattle.theorem_demands.specs.Shown.{end_to_end, Is, Records}

module _ (s : List ℕ) (ok : judged s ≡ Ok tt) where
  rules : FileOk limits s
  rules = (accepted limits s).0 ok

  long : length s ≡ length_of s
  long = rules.header.long

  by_part : (k a n : ℕ) → k ≤ last_record s → part s a n ≡ part_at s k → shown s k ≡ part s a n
  by_part k a n h e = sym (shown_all s k (had s k refl ok h) refl e)

  header_part : shown s 0 ≡ part s 0 6
  header_part = by_part 0 0 6 (omega arith) (at_header s 0 refl refl)

  point_part : (j : ℕ) → j ≤ verts s → shown s (suc j) ≡ part s (point_start j) 9
  point_part j h =
      let e : suc j - 1 ≡ j = omega arith in
      by_part (suc j) (point_start j) 9 (omega arith) (at_point s (suc j) (λ z. omega (arith, z)) (omega arith)
      (ap (λ (i : ℕ). part s (point_start i) 9) (sym e)))

  face_part : (i : ℕ) → i < faces s → shown s (2 + verts s + i) ≡ part s (face_start s i) 5
  face_part i h =
      let e : 2 + verts s + i - (2 + verts s) ≡ i = omega arith in
      by_part (2 + verts s + i) (face_start s i) 5 (omega arith)
      (at_face s (2 + verts s + i) (λ z. omega (arith, z)) (omega arith) (omega arith) (ap (λ (j : ℕ). part s (face_start s j) 5) (sym e)))

  end_part : shown s (last_record s) ≡ part s (end_start s) 2
  end_part =
      by_part (last_record s) (end_start s) 2 (omega arith) (at_end s (last_record s) (λ z. omega (arith, z)) (omega arith) (omega arith) refl)

  -- ---- end to end

  further : {l : List ℕ} (a n e : ℕ) → l ≡ take a s → a + n ≡ e → l ++ part s a n ≡ take e s
  further a n e p q = ap (λ (x : List ℕ). x ++ part s a n) p ∙ sym (take-add a n s) ∙ ap (λ (k : ℕ). take k s) q

  to_point : (j : ℕ) → j ≤ verts s + 1 → end_to_end s (suc j) ≡ take (point_start j) s
  to_point zero h = ap (λ (x : List ℕ). [] ++ x) header_part
  to_point (suc j) h =
      ap (λ (x : List ℕ). end_to_end s (suc j) ++ x) (point_part j (omega arith))
      ∙ further (point_start j) 9 (point_start (suc j)) (to_point j (omega arith)) (omega arith)

  to_face : (i : ℕ) → i ≤ faces s → end_to_end s (2 + verts s + i) ≡ take (face_start s i) s
  to_face zero h =
      let e : 2 + verts s + 0 ≡ suc (verts s + 1) = omega arith in
      let d : point_start (verts s + 1) ≡ face_start s 0 = omega arith in
      ap (end_to_end s) e ∙ to_point (verts s + 1) (omega arith) ∙ ap (λ (k : ℕ). take k s) d
  to_face (suc i) h =
      let e : 2 + verts s + suc i ≡ suc (2 + verts s + i) = omega arith in
      ap (end_to_end s) e ∙ ap (λ (x : List ℕ). end_to_end s (2 + verts s + i) ++ x) (face_part i (omega arith))
      ∙ further (face_start s i) 5 (face_start s (suc i)) (to_face i (omega arith)) (omega arith)

  file : end_to_end s (last_record s + 1) ≡ s
  file =
      ap (end_to_end s) (add-one (last_record s)) ∙ ap (λ (x : List ℕ). end_to_end s (last_record s) ++ x) end_part
      ∙ further (end_start s) 2 (length s) (to_face (faces s) (omega arith)) (omega (arith, long)) ∙ take-length s

  -- ---- lengths and marks

  is : {l : List ℕ} (a n : ℕ) {mark : ℕ} → 2 ≤ n → a + n ≤ length s → l ≡ part s a n → two_at s a ≡ mark → Is l n mark
  unfolding two_at
  is a n h fits e m =
      record {
        long = ap length e ∙ length-take-le n (drop a s) (omega (arith, length-drop a s));
        mark = ap (λ (l : List ℕ). two_at l 0) e
            ∙ ap₂ (λ (x y : ℕ). x + y * 256)
            (get_or-take n (drop a s) 0 0 (omega arith) ∙ get_or-drop a s 0 0 ∙ ap (λ (k : ℕ). byte_at s k) (omega arith))
            (get_or-take n (drop a s) (0 + 1) 0 (omega arith) ∙ get_or-drop a s (0 + 1) 0 ∙ ap (λ (k : ℕ). byte_at s k) (omega arith))
            ∙ m;
      }

pub records : Records
records s ok =
    let r = rules s ok in
    let l = long s ok in
    record {
      file = file s ok;
      header = is s ok 0 6 (omega arith) (omega (arith, l)) (header_part s ok) r.header.opens.1;
      far_point_law = is s ok 6 9 (omega arith) (omega (arith, l)) (point_part s ok 0 (omega arith))
          ((r.records 1 (omega arith) (omega arith)).mark.far refl);
      vertices =
          λ k a b.
          let j : ℕ = k - 1 in
          let e : k ≡ suc j = omega arith in
          rw e (is s ok (point_start j) 9 (omega arith) (omega (arith, l)) (point_part s ok j (omega arith))
          ((r.records (suc j) (omega arith) (omega arith)).mark.vertex j (omega arith) (omega arith) (omega arith)));
      faces =
          λ k a b.
          let i : ℕ = k - (2 + verts s) in
          let e : k ≡ 2 + verts s + i = omega arith in
          rw e (is s ok (face_start s i) 5 (omega arith) (omega (arith, l)) (face_part s ok i (omega arith))
          ((r.records (2 + verts s + i) (omega arith) (omega arith)).mark.face i (omega arith) refl));
      end = is s ok (end_start s) 2 (omega arith) (omega (arith, l)) (end_part s ok)
          ((r.records (last_record s) (omega arith) (omega arith)).mark.end refl);
    }
