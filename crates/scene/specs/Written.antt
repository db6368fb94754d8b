-- What was written is read back, and every other byte is as it was. Assumes nothing.
use Rattle.std.specs.Prelude.{◌≡◌, List, [], ◌∷◌, ℕ, zero, suc, ◌+◌, ◌-◌, ◌/◌, ◌%◌, ◌≤◌, ◌<◌, ℤ, pos, negsuc, nat_abs, length, get_or, set}
use Rattle.std.proofs.Math.Path.{refl, ap}
use Rattle.std.proofs.Common.{◌∙◌, length-set, get_or-set_same, get_or-set_other}
use Rattle.std.proofs.Math.Decide.{dec_lt}
use Rattle.std.proofs.Math.Numerals.{towards_suc}
use native.Mathlib.Omega.{arith}
use Rattle.std.proofs.lemmas.List.Edits.{sets}
use Rattle.std.proofs.Math.Seq.{length-sets}
use Rattle.scene.specs.Bytes.{byte_at, two_at, coordinate_at, weight_at, signed}
use Rattle.scene.specs.Records.{verts_a, verts_b, point_start, face_start, counts_of, marksc}
use Rattle.scene.specs.Tables.{row_at, face_at, corner_at}
use Rattle.scene.specs.Signed.{signed_low, signed_high}
use Rattle.scene.specs.Write.{unsigned, row_bytes, corner_bytes, header_bytes, two, RowFits, row_put, corners_put, two_put, header_put}
use Rattle.scene.specs.declared.Scene.{Scene}
use Rattle.scene.specs.declared.Row.{Row}
use Rattle.scene.specs.declared.Face.{Face}

-- ---- a signed number and the one that stands for it

pub signed_unsigned : (h : ℕ) (z : ℤ) → nat_abs z < h → signed h (unsigned h z) ≡ z
signed_unsigned h (pos n) l = signed_low h n l
signed_unsigned h (negsuc n) l = signed_high h (h + h - 1 - n) (omega arith) ∙ ap negsuc (omega arith)

pub unsigned_signed : (h n : ℕ) → n < h + h → unsigned h (signed h n) ≡ n
unsigned_signed h n l = go (dec_lt n h)
  where
    go : Dec (n < h) → unsigned h (signed h n) ≡ n
    go (yes k) = ap (unsigned h) (signed_low h n k)
    go (no k) = ap (unsigned h) (signed_high h n (omega arith)) ∙ omega arith

-- ---- bytes stored from i on: below them, above them, and among them

pub sets_below : (vs l : List ℕ) (i k : ℕ) → k < i → byte_at (sets l i vs) k ≡ byte_at l k
sets_below [] l i k h = refl
sets_below (a ∷ vs) l i k h = sets_below vs (set l i a) (suc i) k (omega arith) ∙ get_or-set_other l i k a 0 (λ e. omega (arith, e))

pub sets_above : (vs l : List ℕ) (i k : ℕ) → i + length vs ≤ k → byte_at (sets l i vs) k ≡ byte_at l k
sets_above [] l i k h = refl
sets_above (a ∷ vs) l i k h = sets_above vs (set l i a) (suc i) k (omega arith) ∙ get_or-set_other l i k a 0 (λ e. omega (arith, e))

pub sets_at : (vs l : List ℕ) (i m : ℕ) → i + length vs ≤ length l → m < length vs → byte_at (sets l i vs) (i + m) ≡ get_or vs m 0
sets_at [] l i m h b = absurd (omega arith)
sets_at (a ∷ vs) l i zero h b =
    ap (byte_at (sets l i (a ∷ vs))) (omega arith) ∙ sets_below vs (set l i a) (suc i) i (omega arith) ∙ get_or-set_same l i a 0 (omega arith)
sets_at (a ∷ vs) l i (suc m) h b =
    ap (byte_at (sets l i (a ∷ vs))) (omega arith) ∙ sets_at vs (set l i a) (suc i) m (omega (arith, length-set l i a)) (omega arith)

-- ---- a row

module _ (l : List ℕ) (j : ℕ) (r : Row) where
  pub row_length : length (row_put l j r) ≡ length l
  unfolding row_put
  row_length = length-sets l (point_start j + 2) (row_bytes r)

  pub row_below : (k : ℕ) → k < point_start j + 2 → byte_at (row_put l j r) k ≡ byte_at l k
  unfolding row_put
  row_below k h = sets_below (row_bytes r) l (point_start j + 2) k h

  pub row_above : (k : ℕ) → point_start j + 9 ≤ k → byte_at (row_put l j r) k ≡ byte_at l k
  unfolding row_put
  row_above k h = sets_above (row_bytes r) l (point_start j + 2) k (omega arith)

  module _ (fits : RowFits r) (room : point_start j + 9 ≤ length l) where
    abbrev s : List ℕ
    s = row_put l j r

    row_byte : (i m : ℕ) → m < 7 → i ≡ point_start j + 2 + m → byte_at s i ≡ get_or (row_bytes r) m 0
    unfolding row_put
    row_byte i m h e = ap (byte_at s) e ∙ sets_at (row_bytes r) l (point_start j + 2) m (omega arith) h

    row_coordinate : (i m : ℕ) (z : ℤ) → nat_abs z < 32768 → m < 6 → i ≡ point_start j + 2 + m →
        get_or (row_bytes r) m 0 ≡ unsigned 32768 z % 256 → get_or (row_bytes r) (m + 1) 0 ≡ unsigned 32768 z / 256 → coordinate_at s i ≡ z
    unfolding coordinate_at two_at
    row_coordinate i m z small h e low high =
        let a = row_byte i m (omega arith) e in
        let b = row_byte (i + 1) (m + 1) (omega arith) (omega arith) in
        let n : two_at s i ≡ unsigned 32768 z = omega arith in
        ap (signed 32768) n ∙ signed_unsigned 32768 z small

    pub row_back : row_at (row_put l j r) j ≡ r
    unfolding weight_at
    row_back =
        let k = point_start j in
        let x : coordinate_at s (k + 2) ≡ r.x = row_coordinate (k + 2) 0 r.x fits.x (omega arith) (omega arith) refl refl in
        let y : coordinate_at s (k + 4) ≡ r.y = row_coordinate (k + 4) 2 r.y fits.y (omega arith) (omega arith) refl refl in
        let z : coordinate_at s (k + 6) ≡ r.z = row_coordinate (k + 6) 4 r.z fits.z (omega arith) (omega arith) refl refl in
        let w : weight_at s (k + 8) ≡ r.w = ap (signed 128) (row_byte (k + 8) 6 (omega arith) (omega arith))
        ∙ signed_unsigned 128 r.w fits.w in
        λ i. record { x = x i; y = y i; z = z i; w = w i }

-- ---- the corners of a face

module _ (l : List ℕ) (k : ℕ) (f : Face) where
  pub corners_length : length (corners_put l k f) ≡ length l
  unfolding corners_put
  corners_length = length-sets l (k + 2) (corner_bytes f)

  pub corners_below : (m : ℕ) → m < k + 2 → byte_at (corners_put l k f) m ≡ byte_at l m
  unfolding corners_put
  corners_below m h = sets_below (corner_bytes f) l (k + 2) m h

  pub corners_above : (m : ℕ) → k + 5 ≤ m → byte_at (corners_put l k f) m ≡ byte_at l m
  unfolding corners_put
  corners_above m h = sets_above (corner_bytes f) l (k + 2) m (omega arith)

module _ (l : List ℕ) (i : ℕ) (f : Face) (room : face_start l i + 5 ≤ length l) where
  abbrev fs : List ℕ
  fs = corners_put l (face_start l i) f

  corner_back : (m : ℕ) → m < 3 → corner_at fs i m ≡ get_or (corner_bytes f) m 0
  unfolding corner_at corners_put
  corner_back m h =
      let k = face_start l i in
      let a : verts_a fs ≡ verts_a l = corners_below l k f 2 (omega arith) in
      let b : verts_b fs ≡ verts_b l = corners_below l k f 4 (omega arith) in
      ap (byte_at fs) (omega arith) ∙ sets_at (corner_bytes f) l (k + 2) m (omega arith) h

  pub corners_back : face_at (corners_put l (face_start l i) f) i ≡ f
  corners_back =
      let p = corner_back 0 (omega arith) in
      let q = corner_back 1 (omega arith) in
      let r = corner_back 2 (omega arith) in
      λ i. record { p = p i; q = q i; r = r i }

-- ---- two bytes, and the header

module _ (l : List ℕ) (k n : ℕ) where
  pub two_length : length (two_put l k n) ≡ length l
  unfolding two_put
  two_length = length-sets l k (two n)

  pub two_below : (m : ℕ) → m < k → byte_at (two_put l k n) m ≡ byte_at l m
  unfolding two_put
  two_below m h = sets_below (two n) l k m h

  pub two_above : (m : ℕ) → k + 2 ≤ m → byte_at (two_put l k n) m ≡ byte_at l m
  unfolding two_put
  two_above m h = sets_above (two n) l k m (omega arith)

  pub two_back : k + 2 ≤ length l → two_at (two_put l k n) k ≡ n
  unfolding two_put two_at
  two_back h =
      let a : byte_at (two_put l k n) k ≡ n % 256 =
      ap (byte_at (two_put l k n)) {x = k} {y = k + 0} (omega arith) ∙ sets_at (two n) l k 0 (omega arith) (omega arith) in
      let b = sets_at (two n) l k 1 (omega arith) (omega arith) in
      omega arith

module _ (l : List ℕ) (c : Scene) where
  pub header_length : length (header_put l c) ≡ length l
  unfolding header_put
  header_length = length-sets l 0 (header_bytes c)

  pub header_above : (m : ℕ) → 6 ≤ m → byte_at (header_put l c) m ≡ byte_at l m
  unfolding header_put
  header_above m h = sets_above (header_bytes c) l 0 m (omega arith)

  pub header_back : 6 ≤ length l → counts_of (header_put l c) ≡ c
  unfolding header_put
  header_back h =
      let at = sets_at (header_bytes c) l 0 in
      let va = at 2 (omega arith) (omega arith) in
      let fa = at 3 (omega arith) (omega arith) in
      let vb = at 4 (omega arith) (omega arith) in
      let fb = at 5 (omega arith) (omega arith) in
      λ i. record { vertices_a = va i; faces_a = fa i; vertices_b = vb i; faces_b = fb i }

-- ---- as straight-line code stores them

pub row_stored : (l : List ℕ) (j : ℕ) (r : Row) {a b c d : ℕ} {l1 l2 l3 : List ℕ} →
    l1 ≡ two_put l (point_start j + 2) a → l2 ≡ two_put l1 (point_start j + 4) b → l3 ≡ two_put l2 (point_start j + 6) c →
    a ≡ unsigned 32768 r.x → b ≡ unsigned 32768 r.y → c ≡ unsigned 32768 r.z → d ≡ unsigned 128 r.w →
    set l3 (point_start j + 8) d ≡ row_put l j r
unfolding two_put row_put
row_stored l j r e1 e2 e3 a b c d = rw (e3, e2, e1, a, b, c, d) (simp towards_suc)

pub header_stored : (l : List ℕ) (c : Scene) {l1 : List ℕ} → l1 ≡ two_put l 0 marksc →
    set (set (set (set l1 2 c.vertices_a) 3 c.faces_a) 4 c.vertices_b) 5 c.faces_b ≡ header_put l c
unfolding two_put header_put
header_stored l c e = rw e
