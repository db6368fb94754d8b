-- A file that keeps the rules is written back from its tables byte for byte. Assumes nothing.
use Rattle.std.specs.Prelude.{◌≡◌, refl, ℕ, suc, ◌+◌, ◌*◌, ◌≤◌, length, Ok}
use Rattle.std.proofs.Common.{sym, ◌∙◌, length-append}
use Rattle.std.proofs.Math.Path.{ap}
use mathlib.Core.List.{List, [], ◌∷◌, ◌++◌, flat_map}
use native.Mathlib.Omega.{arith}
use Rattle.laws.specs.Lists.{run, length_run}
use Rattle.scene.specs.Limits.{Limits}
use Rattle.scene.specs.Bytes.{byte_at, two_at, coordinate_at, weight_at}
use Rattle.scene.specs.Records.{verts_a, verts_b, verts, faces_in_a, faces_in_b, faces, point_start, face_start, end_start}
use Rattle.scene.specs.Records.{marksc, markfp, markvx, markfc, marken}
use Rattle.scene.specs.Tables.{Tables, size, row_at, face_at, corner_at, tables_of}
use Rattle.scene.specs.Read.{size_a, size_b}
use Rattle.judge.specs.Judge.{judged_at}
use Rattle.rules.specs.TableRules.{Marked}
use Rattle.rules.proofs.Accepted.{accepted}
use Rattle.rules.proofs.Bridge.{by_tables}
use Rattle.scene.specs.Write.{two, unsigned}
use Rattle.scene.specs.Written.{unsigned_signed}
use Rattle.rules.specs.Write.{point_bytes, face_bytes, header, bytes_of}
use Rattle.rules.specs.Held.{Held, join, whole, length_all, all_held}
use Rattle.rules.specs.Write.{Bytes}

module _ (s : List ℕ) (bytes : Bytes s) where
  two_held : (k n : ℕ) → two_at s k ≡ n → Held s k (two n)
  unfolding two_at
  two_held k n e =
      let a = bytes k in
      let b = bytes (k + 1) in
      let c : byte_at s (suc k) ≡ byte_at s (k + 1) = ap (byte_at s) (omega arith) in
      record { from = (omega arith, (omega arith, tt)) }

  coordinate_held : (k : ℕ) → Held s k (two (unsigned 32768 (coordinate_at s k)))
  unfolding coordinate_at two_at
  coordinate_held k = two_held k _ (sym (unsigned_signed 32768 (two_at s k) (let a = bytes k in let b = bytes (k + 1) in omega arith)))

  weight_held : (k : ℕ) → Held s k (unsigned 128 (weight_at s k) ∷ [])
  unfolding weight_at
  weight_held k = record { from = (sym (unsigned_signed 128 (byte_at s k) (bytes k)), tt) }

  point_held : (m j : ℕ) → two_at s (point_start j) ≡ m → Held s (point_start j) (point_bytes m (row_at s j))
  point_held m j e =
      let k = point_start j in
      join (two_held k m e) (omega arith)
      (join (coordinate_held (k + 2)) (omega arith)
      (join (coordinate_held (k + 4)) (omega arith)
      (join (coordinate_held (k + 6)) (omega arith)
      (weight_held (k + 8)))))

  corners_held : (k i : ℕ) → k ≡ face_start s i + 2 → Held s k (corner_at s i 0 ∷ corner_at s i 1 ∷ corner_at s i 2 ∷ [])
  unfolding corner_at
  corners_held k i e = record { from = (ap (byte_at s) (omega arith), (ap (byte_at s) (omega arith), (ap (byte_at s) (omega arith), tt))) }

  face_held : (i : ℕ) → two_at s (face_start s i) ≡ markfc → Held s (face_start s i) (face_bytes (face_at s i))
  face_held i e = join (two_held (face_start s i) markfc e) (omega arith) (corners_held (face_start s i + 2) i refl)

  module _ (m : Marked s) where
    abbrev t : Tables
    t = tables_of s

    header_held : Held s 0 (header t)
    header_held =
        let a = length_run (face_at s) 0 (faces_in_a s) in
        let b = length_run (face_at s) (faces_in_a s) (faces_in_b s) in
        join (two_held 0 marksc m.opening) (omega arith) (record { from = (sym (size_a s), (sym a, (sym (size_b s), (sym b, tt)))) })

    rows_length : (k n : ℕ) → length (flat_map (point_bytes markvx) (run (row_at s) k n)) ≡ n * 9
    rows_length k n = length_all (point_bytes markvx) 9 (λ r. refl) (run (row_at s) k n) ∙ ap (λ (n : ℕ). n * 9) (length_run (row_at s) k n)

    faces_length : (k n : ℕ) → length (flat_map face_bytes (run (face_at s) k n)) ≡ n * 5
    faces_length k n = length_all face_bytes 5 (λ f. refl) (run (face_at s) k n) ∙ ap (λ (n : ℕ). n * 5) (length_run (face_at s) k n)

    rows_held : (k n : ℕ) → 1 ≤ k → k + n ≤ verts s + 1 → Held s (point_start k) (flat_map (point_bytes markvx) (run (row_at s) k n))
    rows_held k n a b =
        all_held (point_bytes markvx) 9 (λ r. refl) s point_start (λ i. omega arith) (row_at s) k n
        (λ i c d. point_held markvx i (m.vertex i (omega arith) (omega arith)))

    faces_held : (k n : ℕ) → k + n ≤ faces s → Held s (face_start s k) (flat_map face_bytes (run (face_at s) k n))
    faces_held k n b =
        all_held face_bytes 5 (λ f. refl) s (face_start s) (λ i. omega arith) (face_at s) k n (λ i c d. face_held i (m.face i (omega arith)))

    file_held : Held s 0 (bytes_of t)
    file_held =
        join header_held (omega arith)
        (join (point_held markfp 0 m.far) (omega arith)
        (join (rows_held 1 (verts_a s) (omega arith) (omega arith)) (omega (arith, rows_length 1 (verts_a s)))
        (join (rows_held (verts_a s + 1) (verts_b s) (omega arith) (omega arith)) (omega (arith, rows_length (verts_a s + 1) (verts_b s)))
        (join (faces_held 0 (faces_in_a s) (omega arith)) (omega (arith, faces_length 0 (faces_in_a s)))
        (join (faces_held (faces_in_a s) (faces_in_b s) (omega arith)) (omega (arith, faces_length (faces_in_a s) (faces_in_b s)))
        (two_held (end_start s) marken m.end))))))

pub file_length : (t : Tables) →
    length (bytes_of t) ≡ 17 + (size t.a + size t.b) * 9 + (length t.a.faces + length t.b.faces) * 5
file_length t =
    let va = flat_map (point_bytes markvx) t.a.rows in
    let vb = flat_map (point_bytes markvx) t.b.rows in
    let fa = flat_map face_bytes t.a.faces in
    let fb = flat_map face_bytes t.b.faces in
    omega (
      arith,
      length-append va (vb ++ (fa ++ (fb ++ two marken))),
      length-append vb (fa ++ (fb ++ two marken)),
      length-append fa (fb ++ two marken),
      length-append fb (two marken),
      length_all (point_bytes markvx) 9 (λ r. refl) t.a.rows,
      length_all (point_bytes markvx) 9 (λ r. refl) t.b.rows,
      length_all face_bytes 5 (λ f. refl) t.a.faces,
      length_all face_bytes 5 (λ f. refl) t.b.faces,
    )

pub written_back : (s : List ℕ) → Bytes s → Marked s → bytes_of (tables_of s) ≡ s
written_back s bytes m =
    let n = length_run (face_at s) 0 (faces_in_a s) in
    let o = length_run (face_at s) (faces_in_a s) (faces_in_b s) in
    sym (whole (omega (arith, m.long, file_length (tables_of s), size_a s, size_b s, n, o)) (file_held s bytes m))

-- an accepted scene is what its tables are written as
pub accepted_written : (l : Limits) (s : List ℕ) → Bytes s → judged_at l s ≡ Ok tt → bytes_of (tables_of s) ≡ s
accepted_written l s bytes p = written_back s bytes ((by_tables l s).0 ((accepted l s).0 p)).0
