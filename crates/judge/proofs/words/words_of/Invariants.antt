-- The words are those of the first k faces.
use mathlib.Core.Path.{◌≡◌}
use Rattle.judge.specs.Words.{AreWords, used_word}
use Rattle.judge.proofs.words.words_of.Given as goal

abbrev pub invariant-loop-k : goal.invariant-loop-k
invariant-loop-k l = AreWords l.s l.a l.k l.words × (l.used ≡ used_word l.s l.a l.k)
