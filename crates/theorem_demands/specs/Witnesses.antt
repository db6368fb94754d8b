-- One accepted scene for each verdict, so that no demand is about nothing: the printed scene, which crosses, and a small solid beside,
-- within and around another; and the printed scene with a direction as far point, and with an edge of A in four faces. Assumes nothing.
use Rattle.std.specs.Prelude.{◌≡◌, List, [], ◌∷◌, ℕ, pos, length, Ok}
use Rattle.scene.specs.Tables.{Table}
use Rattle.judge.specs.Judge.{judged}
use Rattle.rules.specs.Write.{bytes_of}
use Rattle.questions.specs.Hits.{Hit}
use Rattle.scene.specs.View.{view_of}
use Rattle.questions.specs.Answers.{counted_of, verdict_of, listing_in}
use Rattle.questions.specs.declared.Counts.{Counts}
use Rattle.questions.specs.declared.Verdict.{Verdict}
use Rattle.questions.specs.declared.Verdict.TheVariants.{Cross, AInB, BInA, Apart}
use Rattle.theorem_demands.specs.Marked.Scenes.{minus, at, corners, four, scene, scene_to}

-- ---- the solids: that at the origin, the printed one that it crosses, one beside it and one around it

abbrev small : Table
small =
    record {
      rows = at (pos 0) (pos 0) (pos 0) ∷ at (pos 4) (pos 0) (pos 0) ∷ at (pos 0) (pos 4) (pos 0) ∷ at (pos 0) (pos 0) (pos 4) ∷ [];
      faces = four;
    }

abbrev crossing : Table
crossing =
    record {
      rows = at (pos 1) (pos 1) (pos 1) ∷ at (minus 8) (minus 7) (minus 9) ∷ at (pos 9) (minus 6) (minus 9) ∷ at (pos 2)
          (pos 10) (minus 9) ∷ [];
      faces = four;
    }

abbrev beside : Table
beside = record {
  rows =
      at (pos 20) (pos 0) (pos 0) ∷ at (pos 24) (pos 1) (pos 0) ∷ at (pos 20) (pos 5) (pos 0) ∷ at (pos 21) (pos 0) (pos 4) ∷ [];
  faces = four;
}

abbrev around : Table
around =
    record {
      rows = at (minus 30) (minus 30) (minus 30) ∷ at (pos 60) (minus 20) (minus 25) ∷ at (minus 20) (pos 60) (minus 25) ∷ at (minus 25)
          (minus 20) (pos 60) ∷ [];
      faces = four;
    }

-- two faces twice: the edge of 1 and 2 is in four
abbrev shared : Table
shared = record { rows = small.rows; faces = corners 1 2 3 ∷ corners 1 2 3 ∷ corners 1 2 4 ∷ corners 1 2 4 ∷ [] }

-- ---- the bytes

abbrev pub printed : List ℕ
printed = bytes_of (scene small crossing)

abbrev pub outside : List ℕ
outside = bytes_of (scene small beside)

abbrev pub inner : List ℕ
inner = bytes_of (scene small around)

abbrev pub outer : List ℕ
outer = bytes_of (scene around small)

abbrev pub direction : List ℕ
direction = bytes_of (scene_to (pos 100) (pos 101) (pos 103) small crossing)

abbrev pub in_four : List ℕ
in_four = bytes_of (scene shared crossing)

-- ---- what is said of them

abbrev pub hit : (low high face : ℕ) → Hit
hit low high face = record { low = low; high = high; face = face }

-- how many pairs, vertices of A enclosed by B, and of B by A
abbrev pub numbers : (pairs a b : ℕ) → Counts
numbers p a b = record { pairs = p; a_in_b = a; b_in_a = b }

pub record Witness (s : List ℕ) (pairs : List Hit) (a b : ℕ) (v : Verdict) : Type 0 where
  pub long : length s ≡ 129
  pub accepted : judged s ≡ Ok tt
  pub listing : listing_in (view_of s) ≡ pairs
  pub counts : counted_of s ≡ Ok (numbers (length pairs) a b)
  pub verdict : verdict_of s ≡ Ok v

pub record Witnesses : Type 0 where
  pub cross : Witness printed (hit 5 6 1 ∷ hit 5 7 1 ∷ hit 5 8 1 ∷ []) 0 1 (Cross 5 6 1)
  pub a_in_b_law : Witness inner [] 4 0 (AInB 1)
  pub b_in_a_law : Witness outer [] 0 4 (BInA 5)
  pub apart : Witness outside [] 0 0 Apart
  pub to_infinity : Witness direction (hit 5 6 1 ∷ hit 5 7 1 ∷ hit 5 8 1 ∷ []) 0 1 (Cross 5 6 1)
  pub edge_in_four : Witness in_four (hit 5 6 1 ∷ hit 5 6 2 ∷ hit 5 7 1 ∷ hit 5 7 2 ∷ hit 5 8 1 ∷ hit 5 8 2 ∷ []) 0 0 (Cross 5 6 1)
