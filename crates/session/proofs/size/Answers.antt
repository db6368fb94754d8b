use mathlib.Core.Path.{◌≡◌, refl, sym, ◌∙◌}
use Prim.Native.Nat.{◌≤◌}
use native.Mathlib.Omega.{arith}
use borrow.Author.Rules.{rules}
use lib.ListN.{length, length-take}
use lib.Seq.{take_all}
use Rattle.scene.specs.Limits.{limits, longest}
use Rattle.session.proofs.size.Goals as goal

pub returns-then-s-lt-LONGEST : goal.returns-then-s-lt-LONGEST
returns-then-s-lt-LONGEST c =
    let h : length c.args.s.bytes ≡ longest limits = search rules in
    let l : length c.args.s.bytes ≤ longest limits = omega arith in
    record { long = simp length-take (omega arith); fits = omega arith; within = omega arith; same = refl }

pub returns-else-s-lt-LONGEST : goal.returns-else-s-lt-LONGEST
returns-else-s-lt-LONGEST c =
    let h : length c.args.s.bytes ≡ longest limits = search rules in
    let l : length c.args.s.bytes ≤ longest limits = omega arith in
    record {
      long = simp length-take (omega arith);
      fits = omega arith;
      within = omega arith;
      same = take_all _ _ l ∙ sym (take_all c.args.s.len _ (omega arith));
    }
