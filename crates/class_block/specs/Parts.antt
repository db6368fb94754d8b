-- What the scenes of a block are, in the words of the request; what a reader hands out; and the scenes of two blocks end to end. The proofs
-- stand in `proofs/PartsProof`. Assumes nothing.
use Rattle.std.specs.Prelude.{◌≡◌, true, false, List, [], ◌∷◌, ◌++◌, ℕ, ◌≤◌, ◌<◌, length, take, drop, Ok, Err}
use Rattle.std.specs.Borrow.{Bor}
use Rattle.laws.specs.Lists.{Each}
use Rattle.scene.specs.Limits.{limits}
use Rattle.scene.specs.Records.{length_of}
use Rattle.scene.specs.declared.Refusal.{Refusal}
use Rattle.scene.specs.declared.Refusal.TheVariants.{Opening, Counts, Length}
use Rattle.judge.specs.Judge.{opens, counts_ok, header_fault, judged}
use Rattle.class_block.specs.Block.{headed, whole, scenes_of}
use Rattle.class_block.specs.Reading.{Handed}
use Rattle.class_block.specs.declared.Reader.{Reader}

-- s is the last scene, whatever follows its header, and is refused with r
abbrev pub Last : List ℕ → Refusal → Type 0
Last s r = (scenes_of s ≡ s ∷ []) × (judged s ≡ Err r)

-- the scenes of a block that begins with s
pub record Scenes (s : List ℕ) : Type 0 where
  -- no byte left: it has ended
  pub ended : length s ≤ 0 → scenes_of s ≡ []
  -- 1 or 2 in the header, or 3 where the block ends inside the scene, counts once as a scene and ends the report
  pub opening : 0 < length s → opens s ≡ false → Last s Opening
  pub counts : 0 < length s → opens s ≡ true → counts_ok limits s ≡ false → Last s Counts
  pub inside : headed s ≡ true → length s < length_of s → Last s Length
  -- any other scene ends where its header's length says, is not refused 1, 2 or 3, and the next begins behind it
  pub passed : headed s ≡ true → length_of s ≤ length s →
      (scenes_of s ≡ take (length_of s) s ∷ scenes_of (drop (length_of s) s)) × (header_fault limits (take (length_of s) s) ≡ Ok tt)

-- a reader, asked again and again while a byte is left, hands out ss
pub data Runs : Reader → List (List ℕ) → Type 0 where
  over : {r : Reader} → length r.block.now ≤ r.at → Runs r []
  then : {r r' : Reader} {s : Bor (List ℕ)} {ss : List (List ℕ)} → r.at < length r.block.now → Handed r s r' → Runs r' ss →
      Runs r (s.now ∷ ss)

-- each scene of the block is whole, so that another block may follow
abbrev pub Ended : List ℕ → Type 0
Ended block = Each (λ s. whole s ≡ true) (scenes_of block)

pub record Parts : Type 1 where
  pub scenes : (s : List ℕ) → Scenes s
  -- a new reader hands out the scenes of its block, and nothing else
  pub read : (block : Bor (List ℕ)) (r : Reader) (ss : List (List ℕ)) → (r.block ≡ block) × (r.at ≡ 0) → Runs r ss →
      ss ≡ scenes_of block.now
  -- two blocks end to end
  pub joined : (x y : List ℕ) → Ended x → scenes_of (x ++ y) ≡ scenes_of x ++ scenes_of y
