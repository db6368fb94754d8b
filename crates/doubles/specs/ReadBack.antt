-- The nine bytes of a record read back, by the definitions of a scene: wherever a file has them at a vertex's record, it has the mark there
-- and that vertex's row is the one written. Assumes nothing.
use Rattle.std.specs.Prelude.{◌≡◌, ℕ, ◌+◌, ◌-◌, ◌/◌, ◌%◌, ◌<◌, List, ℤ, pos, negsuc, slice_index, unsigned_abs, Ok}
use Rattle.std.proofs.Math.Path.{ap}
use Rattle.std.proofs.Common.{◌∙◌, arith}
use Rattle.scene.specs.Limits.{limits}
use Rattle.scene.specs.Bytes.{byte_at, two_at, coordinate_at, weight_at, signed}
use Rattle.scene.specs.Records.{point_start, markvx}
use Rattle.scene.specs.Tables.{row_at}
use Rattle.scene.specs.Signed.{signed_low, signed_high}
use Rattle.scene.specs.Arrays.{RowWithin}
use Rattle.scene.specs.declared.Row.{Row}
use Rattle.doubles.specs.Record.{unsigned, vertex_bytes}
use Rattle.doubles.specs.Taken.{taken_of}
use Rattle.doubles.specs.Taking.{taken_takes}
use Rattle.doubles.specs.declared.Vertex.{Vertex}

-- the record of row r stands in s from k on
abbrev pub Stands : List ℕ → ℕ → Row → Type 0
Stands s k r = (i : ℕ) → i < 9 → byte_at s (k + i) ≡ slice_index (vertex_bytes r) i

signed_unsigned : (h : ℕ) (z : ℤ) → unsigned_abs z < h → signed h (unsigned h z) ≡ z
signed_unsigned h (pos n) l = signed_low h n l
signed_unsigned h (negsuc n) l = signed_high h (h + h - 1 - n) (omega arith) ∙ ap negsuc (omega arith)

two_read : (s : List ℕ) (k n : ℕ) → byte_at s k ≡ n % 256 → byte_at s (k + 1) ≡ n / 256 → two_at s k ≡ n
unfolding two_at
two_read s k n p q = omega arith

coordinate_read : (s : List ℕ) (k : ℕ) (z : ℤ) → unsigned_abs z < 32768 → byte_at s k ≡ unsigned 32768 z % 256 →
    byte_at s (k + 1) ≡ unsigned 32768 z / 256 → coordinate_at s k ≡ z
unfolding coordinate_at
coordinate_read s k z l p q = ap (signed 32768) (two_read s k (unsigned 32768 z) p q) ∙ signed_unsigned 32768 z l

module _ (s : List ℕ) (j : ℕ) (r : Row) (h : Stands s (point_start j) r) where
  abbrev k : ℕ
  k = point_start j

  next : (m i : ℕ) → m ≡ k + i → i < 9 → byte_at s m ≡ slice_index (vertex_bytes r) i
  next m i e l = ap (byte_at s) e ∙ h i l

  pub mark_back : two_at s k ≡ markvx
  mark_back = two_read s k markvx (next k 0 (omega arith) (omega arith)) (next (k + 1) 1 (omega arith) (omega arith))

  pub row_back : RowWithin limits r → row_at s j ≡ r
  unfolding weight_at
  row_back b =
      let x = coordinate_read s (k + 2) r.x (omega (arith, b.x)) (next (k + 2) 2 (omega arith) (omega arith))
      (next (k + 2 + 1) 3 (omega arith) (omega arith)) in
      let y = coordinate_read s (k + 4) r.y (omega (arith, b.y)) (next (k + 4) 4 (omega arith) (omega arith))
      (next (k + 4 + 1) 5 (omega arith) (omega arith)) in
      let z = coordinate_read s (k + 6) r.z (omega (arith, b.z)) (next (k + 6) 6 (omega arith) (omega arith))
      (next (k + 6 + 1) 7 (omega arith) (omega arith)) in
      let w : weight_at s (k + 8) ≡ r.w = ap (signed 128) (next (k + 8) 8 (omega arith) (omega arith))
      ∙ signed_unsigned 128 r.w (omega (arith, b.w)) in
      (λ i. record { x = x i; y = y i; z = z i; w = w i })

-- the record of a vertex that is taken
pub taken_back : (v : Vertex) (r : Row) → taken_of v ≡ Ok r → (s : List ℕ) (j : ℕ) → Stands s (point_start j) r →
    (two_at s (point_start j) ≡ markvx) × (row_at s j ≡ r)
taken_back v r e s j h = (mark_back s j r h, row_back s j r h (taken_takes v r e).within)
