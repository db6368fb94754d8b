-- The rule that a refusal says was broken, in words. Assumes nothing.
use Rattle.std.specs.Prelude.{ℕ, ◌≡◌, cond, List, [], ◌∷◌, ◌++◌, eqb}
use Rattle.std.proofs.Common.{eq-eqb, ne_eqb}
use Rattle.print.specs.Put.{Put}
use Rattle.print.specs.Text.{ascii, decimal}
use Rattle.scene.specs.Limits.{limits}

-- words, and the numbers of no larger size than n behind them
abbrev pub beyond : List ℕ → ℕ → List ℕ
beyond w n = w ++ (ascii " is outside -" ++ (decimal n ++ (ascii " to" ++ (32 ∷ decimal n))))

-- these words where n is k, and else those
unfoldable pub unless : (n k : ℕ) → List ℕ → List ℕ → List ℕ
unless n k t u = cond (eqb n k) t u

abbrev pub weight_rule : List ℕ
weight_rule = beyond (ascii "a weight") limits.most_weight ++ ascii ", or it is 0 and not the far point's"

-- of a map, of a bench, and of an empty session
abbrev pub other_rule : ℕ → List ℕ
other_rule n =
    unless n 17 (ascii "an entry of the map is outside -100 to 100")
    (unless n 18 (ascii "the determinant of the map is 0")
    (unless n 19 (ascii "only the lecturer moves the fixture and the far point")
    (unless n 22 (ascii "the two scenes differ in solid B or in the far point")
    (ascii "there is no scene"))))

-- of a question, and of a lent buffer
abbrev pub question_rule : ℕ → List ℕ
question_rule n =
    unless n 10 (ascii "the listing needs more places than are lent")
    (unless n 11 (ascii "the scene has no such point, face, record or solid, or a vertex is asked for and this is the far point")
    (unless n 12 (ascii "points that must differ are the same, or an end of the edge is a corner of the face or a vertex of the solid")
    (unless n 13 (ascii "the scene is longer than the room that is lent for it")
    (other_rule n))))

-- of a point
abbrev pub rule_of : ℕ → List ℕ
rule_of n =
    unless n 5 (beyond (ascii "a coordinate") limits.most_coordinate)
    (unless n 6 weight_rule
    (unless n 14 (ascii "the far point's four numbers are all 0")
    (question_rule n)))

abbrev pub why_of : ℕ → List ℕ
why_of n = ascii "why: " ++ (rule_of n ++ (10 ∷ []))

-- ---- by which case the words were put

module _ {l : List ℕ} {at : ℕ} {m : List ℕ} {p : ℕ} (n k : ℕ) (t u : List ℕ) where
  pub picked : n ≡ k → Put l at t m p → Put l at (unless n k t u) m p
  unfolding unless
  picked e x = rw (eq-eqb n k e) x

  pub passed : (n ≡ k → ⊥) → Put l at u m p → Put l at (unless n k t u) m p
  unfolding unless
  passed e x = rw (ne_eqb n k e) x
