-- By its tests.
use Rattle.off_words.specs.Stands.{stand_of, is_so, is_not_so}
use Rattle.off_words.proofs.stands.stand_of.Goals as goal

pub returns-then-is_marked : goal.returns-then-is_marked
unfolding stand_of
returns-then-is_marked c = search (is_so, is_not_so) depth 16

pub returns-then-holds : goal.returns-then-holds
unfolding stand_of
returns-then-holds c = search (is_so, is_not_so) depth 16

pub returns-then-holds-2 : goal.returns-then-holds-2
unfolding stand_of
returns-then-holds-2 c = search (is_so, is_not_so) depth 16

pub returns-then-first : goal.returns-then-first
unfolding stand_of
returns-then-first c = search (is_so, is_not_so) depth 16

pub returns-then-is_whole : goal.returns-then-is_whole
unfolding stand_of
returns-then-is_whole c = search (is_so, is_not_so) depth 16

pub returns-then-is_whole-2 : goal.returns-then-is_whole-2
unfolding stand_of
returns-then-is_whole-2 c = search (is_so, is_not_so) depth 16

pub returns : goal.returns
unfolding stand_of
returns c = search (is_so, is_not_so) depth 16
