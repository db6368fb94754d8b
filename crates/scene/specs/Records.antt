-- The records of a scene file: the header's counts, where each record starts, and its mark. Assumes nothing.
use Rattle.std.specs.Prelude.{ℕ, ◌+◌, ◌*◌, List}
use Rattle.scene.specs.Bytes.{byte_at}
use Rattle.scene.specs.declared.Scene.{Scene}

abbrev pub verts_a : List ℕ → ℕ
verts_a s = byte_at s 2

abbrev pub faces_in_a : List ℕ → ℕ
faces_in_a s = byte_at s 3

abbrev pub verts_b : List ℕ → ℕ
verts_b s = byte_at s 4

abbrev pub faces_in_b : List ℕ → ℕ
faces_in_b s = byte_at s 5

abbrev pub counts_of : List ℕ → Scene
counts_of s = record { vertices_a = verts_a s; faces_a = faces_in_a s; vertices_b = verts_b s; faces_b = faces_in_b s }

abbrev pub verts : List ℕ → ℕ
verts s = verts_a s + verts_b s

abbrev pub faces : List ℕ → ℕ
faces s = faces_in_a s + faces_in_b s

-- the records are numbered from 0 (SC): the far point is 1, a vertex 1 more than its point number, then come the faces, and EN is the last
abbrev pub face_record : List ℕ → ℕ → ℕ
face_record s i = 2 + verts s + i

abbrev pub last_record : List ℕ → ℕ
last_record s = 2 + verts s + faces s

abbrev pub length_of : List ℕ → ℕ
length_of s = 17 + verts s * 9 + faces s * 5

-- the first byte of the file's point j (0 the far point, then the vertices), of its face i (from 0), and of EN
abbrev pub point_start : ℕ → ℕ
point_start j = 6 + j * 9

abbrev pub face_start : List ℕ → ℕ → ℕ
face_start s i = 15 + verts s * 9 + i * 5

abbrev pub end_start : List ℕ → ℕ
end_start s = face_start s (faces s)

-- the marks, as two-byte numbers: `SC`, `FP`, `VX`, `FC`, `EN`
abbrev pub marksc : ℕ
marksc = 83 + 67 * 256

abbrev pub markfp : ℕ
markfp = 70 + 80 * 256

abbrev pub markvx : ℕ
markvx = 86 + 88 * 256

abbrev pub markfc : ℕ
markfc = 70 + 67 * 256

abbrev pub marken : ℕ
marken = 69 + 78 * 256
