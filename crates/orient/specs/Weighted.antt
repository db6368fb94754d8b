-- A scene's points have weights that are not 0, but for the last, which has the highest number; hence c3 of four different points is not 0,
-- they have a sign, and the slide tells that of c3. Assumes nothing.
use Rattle.std.specs.Prelude.{◌≢◌, ℕ, ◌≤◌, ◌<◌, pos}
use Rattle.scene.specs.declared.Row.{Row}
use Rattle.orient.specs.Signs.{Four, Upto}

-- of the points 1 to n, all but point n
abbrev pub Weighted : ℕ → (ℕ → Row) → Type 0
Weighted n row = (i : ℕ) → 1 ≤ i → i < n → (row i).w ≢ pos 0

-- four different points of such a scene
pub record SignDefined (row : ℕ → Row) (a b c d : ℕ) : Type 0 where
  pub points : ℕ
  pub weighted : Weighted points row
  pub four : Four (Upto points) a b c d
