-- The rows of what was poured into the lent list.
use Rattle.print_lines.specs.Report.{rows_refused, rows_listed, lent_is}
use Rattle.print_answers.proofs.reports.part.Goals as goal

pub returns-in-Err : goal.returns-in-Err
returns-in-Err g c =
    record { rows = rows_refused _ _ c.listing_part-answer.ensures c.in-Err.is c.rows.ensures; lent = lent_is c.listing_part-answer.ensures }

pub returns-in-Ok : goal.returns-in-Ok
returns-in-Ok g c =
    record {
      rows = rows_listed _ _ c.listing_part-answer.ensures c.in-Ok.is c.left.ensures c.rows-in-Ok.ensures;
      lent = lent_is c.listing_part-answer.ensures;
    }
