use native.Mathlib.Omega.{arith}
use Rattle.pierce_masks.specs.Faces.{width}
use Rattle.questions.specs.PairsWritten.{writes_start, writes_next, reached}
use Rattle.survey_edges.specs.Table.{entry_in, entry_hits}
use Rattle.survey_edges.specs.Entries.{entry_most}
use Rattle.survey_edges.proofs.pairs.write_pairs.Goals as goal

pub loop-j-init : goal.loop-j-init
loop-j-init c = writes_start _ _ _ _

pub write_pairs_of_entry-c-requires : goal.write_pairs_of_entry-c-requires
write_pairs_of_entry-c-requires c =
    let r = reached (λ i. entry_hits c.args.first (entry_in c.args.ends.now c.args.masks.now i)) width c.loop-j.j
    (λ i. entry_most c.args.first (entry_in c.args.ends.now c.args.masks.now i)) c.loop-j.invariant in
    (omega arith, omega arith, omega (arith, r))

pub loop-j-preserved : goal.loop-j-preserved
loop-j-preserved c =
    writes_next _ _ c.loop-j.invariant c.write_pairs_of_entry-c.ensures
