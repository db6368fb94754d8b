-- By where the text ends, and by the refusal.
use Rattle.off_words.specs.Stands.{ends_here, corners_here, outside_here}
use Rattle.off_words.proofs.stands.standing.Goals as goal

pub returns-then-text-k : goal.returns-then-text-k
returns-then-text-k c =
    ends_here _ _ _ c.if-text-k.true c.word.ensures

pub returns-then-sides : goal.returns-then-sides
returns-then-sides c =
    corners_here _ _ _ c.if-text-k.false c.next-i.ensures.0 c.next-i.ensures.1 c.if-sides.true c.corners.ensures

pub returns : goal.returns
returns c =
    outside_here _ _ _ c.if-text-k.false c.next-i.ensures.0 c.next-i.ensures.1 c.if-sides.false c.next.ensures.0 c.outside.ensures
