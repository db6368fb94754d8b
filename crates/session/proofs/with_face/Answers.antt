use mathlib.Core.Path.{sym, ap, ap₂, ◌∙◌}
use Prim.Native.Nat.{ℕ}
use mathlib.Core.List.{List}
use native.Mathlib.Omega.{arith}
use lib.Seq.{length-take-le}
use Rattle.scene.specs.Write.{corners_put}
use Rattle.session.specs.Session.{fresh}
use Rattle.session.proofs.with_face.Goals as goal

pub slice_bounds-face_start-end : goal.slice_bounds-face_start-end
slice_bounds-face_start-end c = sym (length-take-le _ _ (omega arith))

pub slice_bounds-reversed_face-end : goal.slice_bounds-reversed_face-end
slice_bounds-reversed_face-end c = sym (length-take-le _ _ (omega arith))

pub returns : goal.returns
returns c =
    c.fresh.ensures
    ∙ ap (λ (l : List ℕ). fresh l c.args.n)
    (c.put_corners.ensures ∙ ap₂ (corners_put _) c.face_start-at.ensures.0 c.reversed_face-f.ensures.0)
