use Rattle.survey_enclosed.specs.Odds.{marked_none, marked_more}
use Rattle.survey_enclosed.proofs.odds.fill_odds.Goals as goal

pub loop-j-init : goal.loop-j-init
loop-j-init c = marked_none _ _ _ _ c.requires.room.3 c.clear.ensures

pub loop-j-preserved : goal.loop-j-preserved
loop-j-preserved c = marked_more _ _ _ _ _ c.loop-j.invariant c.mark_entry.ensures
