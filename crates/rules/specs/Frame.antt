-- A row reads only its record, and a face only its record and the header's counts: where the bytes of those are the same, so is the row or
-- the face. Assumes nothing.
use Rattle.std.specs.Prelude.{◌≡◌, List, ℕ, ◌+◌, ◌*◌, ◌≤◌, ◌<◌, length}
use Rattle.std.proofs.Math.Path.{ap, ap₂}
use Rattle.std.proofs.Common.{◌∙◌, arith}
use Rattle.scene.specs.Bytes.{byte_at, two_at, coordinate_at, weight_at, signed}
use Rattle.scene.specs.Records.{verts_a, verts_b, verts, point_start, face_start}
use Rattle.scene.specs.Tables.{row_at, face_at, corner_at}

-- r has the n bytes from k on that s has there
abbrev pub Same : (r s : List ℕ) (k n : ℕ) → Type 0
Same r s k n = (m : ℕ) → k ≤ m → m < k + n → byte_at r m ≡ byte_at s m

-- the header's counts
abbrev pub SameCounts : (r s : List ℕ) → Type 0
SameCounts r s = Same r s 2 4

-- t has the bytes of s, but for what stands behind the marks of the points
pub record Rerowed (s t : List ℕ) : Type 0 where
  pub long : length t ≡ length s
  pub header : Same t s 0 6
  pub mark : (j : ℕ) → j ≤ verts s → Same t s (point_start j) 2
  pub behind : (k n : ℕ) → 15 + verts s * 9 ≤ k → Same t s k n

module _ (r s : List ℕ) where
  pub two_frame : (k : ℕ) → Same r s k 2 → two_at r k ≡ two_at s k
  unfolding two_at
  two_frame k h = ap₂ (λ (a b : ℕ). a + b * 256) (h k (omega arith) (omega arith)) (h (k + 1) (omega arith) (omega arith))

  coordinate_frame : (k : ℕ) → Same r s k 2 → coordinate_at r k ≡ coordinate_at s k
  unfolding coordinate_at
  coordinate_frame k h = ap (signed 32768) (two_frame k h)

  pub row_frame : (j : ℕ) → Same r s (point_start j) 9 → row_at r j ≡ row_at s j
  unfolding weight_at
  row_frame j h =
      let at = point_start j in
      let x = coordinate_frame (at + 2) (λ m a b. h m (omega arith) (omega arith)) in
      let y = coordinate_frame (at + 4) (λ m a b. h m (omega arith) (omega arith)) in
      let z = coordinate_frame (at + 6) (λ m a b. h m (omega arith) (omega arith)) in
      let w : weight_at r (at + 8) ≡ weight_at s (at + 8) = ap (signed 128) (h (at + 8) (omega arith) (omega arith)) in
      λ i. record { x = x i; y = y i; z = z i; w = w i }

  pub face_frame : SameCounts r s → (i : ℕ) → Same r s (face_start s i) 5 → face_at r i ≡ face_at s i
  unfolding corner_at
  face_frame counts i h =
      let a : verts_a r ≡ verts_a s = counts 2 (omega arith) (omega arith) in
      let b : verts_b r ≡ verts_b s = counts 4 (omega arith) (omega arith) in
      let corner : (m : ℕ) → m < 3 → corner_at r i m ≡ corner_at s i m =
      λ m l. ap (byte_at r) (omega arith) ∙ h (face_start s i + 2 + m) (omega arith) (omega arith) in
      let p = corner 0 (omega arith) in
      let q = corner 1 (omega arith) in
      let o = corner 2 (omega arith) in
      λ i. record { p = p i; q = q i; r = o i }
