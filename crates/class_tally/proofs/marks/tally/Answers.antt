-- Each turn counts the scene that starts where the last one ended; at the end nothing is left.
use Rattle.std.proofs.Common.{◌∙◌, arith}
use Rattle.class_tally.specs.Counting.{sofar_next, sofar_end, ends_here, counting_here, sum_fits}
use Rattle.class_tally.proofs.marks.tally.Goals as goal

pub count_in-requires : goal.count_in-requires
count_in-requires c =
    let l = c.loop-at in
    counting_here c.args.block.now l.at l.lines l.pairs l.invariant (omega arith) c.read_scene-s.result.now
    c.read_scene-s.ensures c.mark_of-m.result c.mark_of-m.ensures c.requires

pub overflow_add-pairs : goal.overflow_add-pairs
overflow_add-pairs c =
    let l = c.loop-at in
    omega (
      arith,
      sum_fits c.args.block.now l.at l.lines l.pairs l.invariant (omega arith) c.read_scene-s.result.now
          c.read_scene-s.ensures c.mark_of-m.result c.mark_of-m.ensures c.requires,
    )

pub loop-at-smaller : goal.loop-at-smaller
loop-at-smaller c =
    let l = c.loop-at in
    let w = ends_here c.args.block.now l.at l.lines l.pairs l.invariant (omega arith) c.read_scene-s.result.now
    c.read_scene-s.ensures in
    omega (arith, w)

pub loop-at-preserved : goal.loop-at-preserved
loop-at-preserved c =
    let l = c.loop-at in
    sofar_next c.args.block.now l.at l.lines l.pairs l.invariant (omega arith) c.read_scene-s.result.now
    c.read_scene-s.ensures c.mark_of-m.result c.mark_of-m.ensures c.count_in.ensures

pub returns : goal.returns
returns c =
    let l = c.loop-at in
    c.tally_of.ensures ∙ sofar_end c.args.block.now l.at l.lines l.pairs l.invariant (omega arith) c.requires
