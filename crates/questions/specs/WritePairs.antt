-- What a lent list of numbers holds once a run of hits is poured in: three numbers for each, the one numbered `from` at the front, and what
-- has no room left out. Assumes nothing.
use Rattle.std.specs.Prelude.{◌≡◌, ℕ, ◌+◌, ◌*◌, ◌/◌, ◌^◌, ◌-◌, Bool, cond, List, [], ◌∷◌, ◌++◌, leb, length, take, drop}
use Rattle.std.proofs.lemmas.List.Edits.{sets}
use Rattle.laws.specs.Mask.{test_bit}
use Rattle.laws.specs.Runs.{up_to, only}
use Rattle.questions.specs.Hits.{Hit}

abbrev pub three : Hit → List ℕ
three h = h.low ∷ h.high ∷ h.face ∷ []

unfoldable pub flat : List Hit → List ℕ
flat [] = []
flat (h ∷ l) = h.low ∷ h.high ∷ h.face ∷ flat l

-- d after the hit that is number seen
unfoldable pub stepped : List ℕ → (from seen : ℕ) → Hit → List ℕ
stepped d from seen h = cond (leb from seen) (cond (leb (3 * (seen - from) + 3) (length d)) (sets d (3 * (seen - from)) (three h)) d) d

-- d after a run of hits of which the first is number seen
unfoldable pub pairs_written : List ℕ → (from seen : ℕ) → List Hit → List ℕ
pairs_written d from seen [] = d
pairs_written d from seen (h ∷ l) = pairs_written (stepped d from seen h) from (seen + 1) l

-- what a function that pours the hits l leaves: the count, and the list
pub record WritesPairs (l : List Hit) (from seen : ℕ) (d d' : List ℕ) (r : ℕ) : Type 0 where
  pub count : r ≡ seen + length l
  pub held : d' ≡ pairs_written d from seen l
  pub long : length d' ≡ length d

-- the part of the hits from number `from` on for which there is room, and what stood behind it
unfoldable pub part_in : List Hit → ℕ → List ℕ → List ℕ
part_in l from d = flat (take (length d / 3) (drop from l)) ++ drop (3 * length (take (length d / 3) (drop from l))) d

-- all of them, and what stood behind them
unfoldable pub all_in : List Hit → List ℕ → List ℕ
all_in l d = flat l ++ drop (3 * length l) d

-- ---- the faces of an edge's mask

abbrev pub mask_hit : Bool → (u v f : ℕ) → List Hit
mask_hit b u v f = only b (record { low = u; high = v; face = f } ∷ [])

abbrev pub mask_hits : (word u v first count : ℕ) → List Hit
mask_hits word u v first count = up_to (λ i. mask_hit (test_bit word i) u v (first + 1 + i)) count

-- more pairs than there can be: a count of them has room
abbrev pub most : ℕ
most = 2 ^ 32
