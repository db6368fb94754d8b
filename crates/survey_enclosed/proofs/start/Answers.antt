-- Where none is known and left, the lowest that is left becomes known.
use mathlib.Core.Path.{refl}
use native.Mathlib.Omega.{arith}
use lib.Bits.{bit_or}
use lib.Count.{trailing_le}
use Rattle.survey_edges.specs.Bits.{word_first}
use Rattle.survey_enclosed.specs.WalkProof.{started_known, started_asked, told_yes, told_no}
use Rattle.survey_enclosed.proofs.start.Goals as goal

pub returns-then-known-left-ne0 : goal.returns-then-known-left-ne0
returns-then-known-left-ne0 g c = started_known _ _ c.requires.solid.1 (omega arith)

pub overflow_cast-i : goal.overflow_cast-i
overflow_cast-i g c = omega (arith, trailing_le 64 c.args.t.left)

pub bit-b-requires : goal.bit-b-requires
bit-b-requires g c =
    omega (
      arith,
      (word_first 64 c.args.k.verts (omega (arith, c.requires.solid.0.within.sound.vertices.0)) c.requires.solid.1.left_in
          c.requires.solid.2).below,
      c.requires.solid.0.within.sound.vertices.0,
    )

pub overflow_add-k-2 : goal.overflow_add-k-2
overflow_add-k-2 g c =
    omega (arith, trailing_le 64 c.args.t.left, c.requires.solid.0.within.sound.vertices.1)

pub is_enclosed-requires : goal.is_enclosed-requires
is_enclosed-requires g c =
    let b = (word_first 64 c.args.k.verts (omega (arith, c.requires.solid.0.within.sound.vertices.0)) c.requires.solid.1.left_in
    c.requires.solid.2).below in
    record { solid = (c.requires.solid.0.within.sound, (omega arith, omega (arith, b))); sides = c.requires.sides }

pub returns-then-is_enclosed : goal.returns-then-is_enclosed
returns-then-is_enclosed g c =
    started_asked _ _ c.args.t _ (omega (arith, c.requires.solid.0.within.sound.vertices.0)) c.requires.solid.1 c.requires.solid.2 refl
    c.bit-b.ensures c.is_enclosed.ensures
    (told_yes (bit_or c.args.t.inside c.bit-b.result) c.args.t.inside c.if-is_enclosed.true)

pub returns : goal.returns
returns g c =
    started_asked _ _ c.args.t _ (omega (arith, c.requires.solid.0.within.sound.vertices.0)) c.requires.solid.1 c.requires.solid.2 refl
    c.bit-b.ensures c.is_enclosed.ensures
    (told_no (bit_or c.args.t.inside c.bit-b.result) c.args.t.inside c.if-is_enclosed.false)
