use Rattle.judge.specs.Words.{words_more, used_none, used_more}
use Rattle.judge.proofs.words.words_of.Goals as goal

pub loop-k-init : goal.loop-k-init
loop-k-init c = (c.requires.words, used_none _ _)

pub loop-k-preserved : goal.loop-k-preserved
loop-k-preserved c =
    (words_more _ _ _ c.loop-k.invariant.0 c.turn_face-used.ensures.0, used_more _ _ _ c.loop-k.invariant.1 c.turn_face-used.ensures.1)
