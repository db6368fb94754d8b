-- Each turn pours the face of the lowest bit that is left.
use Prim.Native.Nat.{◌<◌, ◌^◌}
use Rattle.questions.specs.WritePairs.{mask_hits}
use Rattle.survey_edges.specs.Rest.{Rest, bit_hits}
use Rattle.survey_edges.proofs.pairs.write_pairs_of_word.Given as goal

abbrev pub invariant-loop-left : goal.invariant-loop-left
invariant-loop-left l =
    (l.left < 2 ^ 64) × Rest (bit_hits l.u l.v l.first l.left) (mask_hits l.w l.u l.v l.first 64) l.from l.seen l.initial.out l.out l.n

abbrev pub decreases-loop-left : goal.decreases-loop-left
decreases-loop-left l = l.left
