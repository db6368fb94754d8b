-- The faces that the first word holds are all, or the second goes on from there.
use native.Mathlib.Omega.{arith}
use borrow.Author.Rules.{rules}
use Rattle.scene.specs.Arrays.{row_in, face_in}
use Rattle.pierce.specs.Beside.{beside_low, beside_high}
use Rattle.pierce.specs.Formula.{pierced}
use Rattle.pierce_masks.specs.Faces.{value_of, mask_words}
use Rattle.pierce_engine.proofs.mask.Goals as goal

pub word-low-requires : goal.word-low-requires
word-low-requires g c = record { rows = search rules; points = search rules; faces = search rules; edge = c.requires.edge }

pub returns-then-count-le-WORD : goal.returns-then-count-le-WORD
unfolding value_of
returns-then-count-le-WORD g c = omega (arith, c.word-low.ensures)

pub word-low-requires-2 : goal.word-low-requires-2
word-low-requires-2 g c =
    let e = c.requires.edge in
    record {
      rows = search rules;
      points = search rules;
      faces = search rules;
      edge = (e.0, beside_low (face_in c.args.corners.now) c.args.first 64 (omega arith) e.1);
    }

pub word-high-requires : goal.word-high-requires
word-high-requires g c =
    let e = c.requires.edge in
    record {
      rows = search rules;
      points = search rules;
      faces = search rules;
      edge = (e.0, beside_high (face_in c.args.corners.now) c.args.first 64 e.1);
    }

pub returns : goal.returns
unfolding value_of
returns g c =
    mask_words (pierced c.args.n (row_in c.args.rows.now) c.args.u c.args.v) (face_in c.args.corners.now)
    c.args.first _
    c.if-count-le-WORD.false c.word-low-2.ensures c.word-high.ensures
