-- Only where all are asked for.
use mathlib.Core.Bool.{Bool, ◌&&◌}
use mathlib.Core.Path.{sym, ap}
use Prim.Native.Nat.{◌/◌}
use lib.Dec.{ltb}
use Rattle.questions.specs.Listings.{lacks_room}
use Rattle.survey_scene.proofs.lacks_room.Goals as goal

pub returns-then-all : goal.returns-then-all
unfolding lacks_room
returns-then-all c = sym (ap (λ (b : Bool). b && ltb (c.args.places / 3) c.args.n) c.if-all.true)

pub returns : goal.returns
unfolding lacks_room
returns c = sym (ap (λ (b : Bool). b && ltb (c.args.places / 3) c.args.n) c.if-all.false)
