-- The faces of the first word, then those of the second.
use native.Mathlib.Omega.{arith}
use lib.ListN.{get_or}
use Prim.Native.Nat.{◌+◌, ◌*◌}
use Rattle.questions.specs.PairsWritten.{writes_same, writes_more}
use Rattle.survey_edges.specs.Table.{entry_in}
use Rattle.survey_edges.specs.Entries.{hits_most, entry_words}
use borrow.Author.Rules.{rules}
use Rattle.survey_edges.proofs.pairs.write_pairs_of_entry.Goals as goal

pub write_pairs_of_word-requires : goal.write_pairs_of_word-requires
write_pairs_of_word-requires c = (
  search rules,
  omega (
    arith,
    c.write_pairs_of_word-c.ensures.count,
    hits_most (get_or c.args.ends.now (2 * c.args.j) 0) (get_or c.args.ends.now (2 * c.args.j + 1) 0) c.args.first c.mask_at-m.result.low 64,
  ),
)

pub returns : goal.returns
returns c =
    writes_same (entry_words c.args.first (entry_in c.args.ends.now c.args.masks.now c.args.j) c.mask_at-m.result c.mask_at-m.ensures.value (search rules))
    (writes_more c.write_pairs_of_word-c.ensures c.write_pairs_of_word.ensures)
