-- "Any one record can be shown: the answer is the part of the caller's own bytes from its mark to its last byte." Of every accepted scene:
-- its records, end to end, are the file, and each has its kind's length and begins with its kind's mark. The statement is `Records`; its
-- proof is `Shown.Proof.records`. Assumes nothing.
use Rattle.std.specs.Prelude.{◌≡◌, List, [], ◌++◌, ℕ, zero, suc, ◌+◌, ◌≤◌, ◌<◌, length, Ok}
use Rattle.scene.specs.Bytes.{two_at}
use Rattle.scene.specs.Records.{verts, last_record, marksc, markfp, markvx, markfc, marken}
use Rattle.judge.specs.Judge.{judged}
use Rattle.record.specs.Shown.{shown}

-- records 0 to n - 1, one behind the other
abbrev pub end_to_end : List ℕ → ℕ → List ℕ
end_to_end s zero = []
end_to_end s (suc n) = end_to_end s n ++ shown s n

-- so long, and with this mark
pub record Is (l : List ℕ) (n m : ℕ) : Type 0 where
  pub long : length l ≡ n
  pub mark : two_at l 0 ≡ m

pub record RecordsAre (s : List ℕ) : Type 0 where
  pub file : end_to_end s (last_record s + 1) ≡ s
  pub header : Is (shown s 0) 6 marksc
  pub far_point_law : Is (shown s 1) 9 markfp
  pub vertices : (k : ℕ) → 2 ≤ k → k < 2 + verts s → Is (shown s k) 9 markvx
  pub faces : (k : ℕ) → 2 + verts s ≤ k → k < last_record s → Is (shown s k) 5 markfc
  pub end : Is (shown s (last_record s)) 2 marken

abbrev pub Records : Type 0
Records = (s : List ℕ) → judged s ≡ Ok tt → RecordsAre s
