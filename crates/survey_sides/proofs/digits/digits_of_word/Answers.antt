-- The row that is handed on is the point's: where its weight is 1, written so.
use borrow.Author.Rules.{rules}
use mathlib.Core.Path.{◌∙◌}
use Rattle.survey_sides.specs.Bits.{unit_row}
use Rattle.survey_sides.proofs.digits.digits_of_word.Goals as goal

pub digits_at-requires : goal.digits_at-requires
digits_at-requires c =
    record {
      rows = (c.requires.rows.0, c.requires.rows.1);
      point = (c.requires.rows.2, unit_row (search rules) c.if-r-eq1.true ∙ c.row_in-r.ensures);
      faces = c.requires.faces;
      ready = c.requires.ready;
    }

pub digits_at-requires-2 : goal.digits_at-requires-2
digits_at-requires-2 c =
    record {
      rows = (c.requires.rows.0, c.requires.rows.1);
      point = (c.requires.rows.2, c.row_in-r.ensures);
      faces = c.requires.faces;
      ready = c.requires.ready;
    }
