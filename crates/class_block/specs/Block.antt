-- The scenes of a block, end to end: each ends where its header's length says, and a block with no byte left has ended. Assumes nothing.
use Rattle.std.specs.Prelude.{Bool, cond, ◌&&◌, List, [], ◌∷◌, ℕ, zero, suc, ◌+◌, leb, length, take, drop}
use Rattle.scene.specs.Limits.{limits}
use Rattle.scene.specs.Records.{length_of}
use Rattle.judge.specs.Judge.{opens, counts_ok}

-- the longest block
abbrev pub most_bytes : ℕ
most_bytes = 65536

-- the header is sound: it gives neither 1 nor 2
unfoldable pub headed : List ℕ → Bool
headed s = opens s && counts_ok limits s

-- and the block has all of the scene, so that it does not give 3
unfoldable pub whole : List ℕ → Bool
whole s = headed s && leb (length_of s) (length s)

-- how long the scene at the front is. One that gives 1, 2 or 3 takes all that is left, and so ends the report
unfoldable pub size_of : List ℕ → ℕ
size_of s = cond (whole s) (length_of s) (length s)

abbrev pub scene_of : List ℕ → List ℕ
scene_of s = take (size_of s) s

abbrev pub behind : List ℕ → List ℕ
behind s = drop (size_of s) s

-- the scenes, n at most; every scene has a byte, so that there are no more than bytes
unfoldable pub scenes_in : ℕ → List ℕ → List (List ℕ)
scenes_in zero s = []
scenes_in (suc n) [] = []
scenes_in (suc n) (b ∷ s) = scene_of (b ∷ s) ∷ scenes_in n (behind (b ∷ s))

unfoldable pub scenes_of : List ℕ → List (List ℕ)
scenes_of s = scenes_in (length s) s

-- what is left from `at` on, and where the scene that starts there ends
abbrev pub start_at : List ℕ → ℕ → List ℕ
start_at block at = drop at block

unfoldable pub end_at : List ℕ → ℕ → ℕ
end_at block at = at + size_of (drop at block)
