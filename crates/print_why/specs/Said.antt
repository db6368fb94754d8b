-- What a sentence leaves in a lent buffer: some text was put at a place. So the place behind is within the buffer, and every byte before
-- the text is as it was. Assumes nothing.
use Rattle.std.specs.Prelude.{ℕ, suc, ◌≤◌, ◌<◌, ◌≡◌, length, set}
use Rattle.std.proofs.Math.Path.{ap}
use Rattle.std.proofs.Common.{◌∙◌, arith, get_or-set_other}
use mathlib.Core.List.{List, [], ◌∷◌, ◌++◌}
use Rattle.std.proofs.Math.ListN.{get_or}
use Rattle.std.proofs.lemmas.List.Edits.{sets}
use Rattle.print.specs.Put.{put, behind, Put, end_to_end}

pub record Said (l : List ℕ) (at : ℕ) (m : List ℕ) (p : ℕ) : Type 0 where
  pub said : List ℕ
  pub put : Put l at said m p

pub one : {l : List ℕ} {at : ℕ} {t m : List ℕ} {p : ℕ} → Put l at t m p → Said l at m p
one {t} x = record { said = t; put = x }

pub and : {l : List ℕ} {at : ℕ} {m : List ℕ} {p : ℕ} {n : List ℕ} {q : ℕ} → Said l at m p → Said m p n q → Said l at n q
and x y = record { said = x.said ++ y.said; put = end_to_end x.put y.put }

-- ---- what it bounds

before_text : (l : List ℕ) (at : ℕ) (t : List ℕ) (i : ℕ) → i < at → get_or (sets l at t) i 0 ≡ get_or l i 0
before_text l at [] i h = λ _. get_or l i 0
before_text l at (b ∷ t) i h = before_text (set l at b) (suc at) t i (omega arith) ∙ get_or-set_other l at i b 0 (omega arith)

module _ {l : List ℕ} {at : ℕ} {m : List ℕ} {p : ℕ} (s : Said l at m p) where
  pub place_within : p ≤ length l
  place_within = omega (arith, s.put.within, s.put.kept)

  pub place_behind : at ≤ length l → at ≤ p
  unfolding behind
  place_behind h = omega (arith, s.put.place)

  pub before_kept : (i : ℕ) → i < at → get_or m i 0 ≡ get_or l i 0
  unfolding put
  before_kept i h = ap (λ (k : List ℕ). get_or k i 0) s.put.held ∙ before_text l at s.said i h
