-- The longest listing: that of an accepted scene has no more than 2 × A's faces × B's faces pairs, and so fits the room that is kept for
-- any scene. The statement is `LongestListing`; its proof is `LongestProof.longest_listing`. Assumes nothing.
use Rattle.std.specs.Prelude.{◌≡◌, List, ℕ, ◌*◌, ◌≤◌, length, Ok}
use Rattle.scene.specs.Limits.{limits}
use Rattle.scene.specs.Records.{faces_in_a, faces_in_b}
use Rattle.scene.specs.View.{view_of}
use Rattle.judge.specs.Judge.{judged}
use Rattle.questions.specs.Answers.{listing_in}

-- as `questions::MOST_PAIRS` has it
abbrev pub most_pairs : ℕ
most_pairs = 2 * limits.most_faces * limits.most_faces

pub record Longest (s : List ℕ) : Type 0 where
  pub by_faces : length (listing_in (view_of s)) ≤ 2 * faces_in_a s * faces_in_b s
  pub by_limits : length (listing_in (view_of s)) ≤ most_pairs

abbrev pub LongestListing : Type 0
LongestListing = (s : List ℕ) → judged s ≡ Ok tt → Longest s
