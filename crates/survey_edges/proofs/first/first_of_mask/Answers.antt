-- A mask of 0 has no pair; else the first is that of its lowest one.
use Rattle.std.specs.Prelude.{Some}
use Prim.Native.Nat.{ℕ, ◌+◌}
use mathlib.Core.Path.{ap, ◌∙◌}
use native.Mathlib.Omega.{arith}
use lib.Count.{trailing_le}
use Rattle.pierce_masks.specs.Faces.{width, value_of, some_face, no_face_law}
use Rattle.survey_edges.specs.Table.{entry_of}
use Rattle.survey_edges.specs.Entries.{words_fit, entry_none, entry_first}
use borrow.Author.Rules.{rules}
use Rattle.survey_edges.proofs.first.first_of_mask.Goals as goal

pub returns-then-not-has_face : goal.returns-then-not-has_face
returns-then-not-has_face c = entry_none _ _ (no_face_law _ c.has_face.ensures c.if-not-has_face.true)

pub overflow_add-result-2 : goal.overflow_add-result-2
overflow_add-result-2 c = omega (arith, c.first_face.ensures, trailing_le width (value_of c.args.m))

pub returns : goal.returns
unfolding value_of
returns c =
    let some = some_face _ c.has_face.ensures c.if-not-has_face.false in
    ap (λ (x : ℕ). Some (c.args.u, c.args.v, (c.args.first + 1 + x))) c.first_face.ensures
    ∙ entry_first c.args.first (entry_of c.args.u c.args.v c.args.m) (words_fit 64 c.args.m.low c.args.m.high (search rules) (search rules)) some
