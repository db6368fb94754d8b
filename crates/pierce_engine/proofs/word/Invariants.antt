-- The loop's invariant: the word is the mask against the first k faces.
use mathlib.Core.Path.{◌≡◌}
use Rattle.scene.specs.Arrays.{row_in, face_in}
use Rattle.pierce.specs.Against.{mask_against}
use Rattle.pierce_engine.proofs.word.Given as goal

abbrev pub invariant-loop-k : goal.invariant-loop-k
invariant-loop-k g l =
    l.word ≡ mask_against l.n (row_in l.rows) (face_in l.corners) l.u l.v l.first l.k
