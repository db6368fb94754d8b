-- Of a scene whose points all have a weight: piercing is the test of five signs, and the parity of its masks says that enclosure does not
-- depend on the way out. Assumes nothing.
use Rattle.std.specs.Prelude.{◌≡◌, ℕ, ◌+◌, ◌%◌, ◌≤◌}
use Rattle.std.specs.Int.Count.{ones}
use Rattle.laws.specs.Bools.{◌⊕◌}
use Rattle.laws.specs.Lists.{run}
use Rattle.scene.specs.declared.Row.{Row}
use Rattle.scene.specs.declared.Face.{Face}
use Rattle.orient.specs.Terms.{positive_at}
use Rattle.orient.specs.Weighted.{Weighted}
use Rattle.orient.proofs.Rules.{rules}
use Rattle.orient.specs.Signs.{Upto}
use Rattle.pierce.specs.Formula.{pierced}
use Rattle.pierce.specs.Helper.{Five}
use Rattle.pierce.specs.Five.{hits_face, by_five}
use Rattle.pierce_masks.specs.Faces.{is_odd}
use Rattle.pierce.specs.Against.{mask_against, enclosed}
use Rattle.pierce.specs.Parity.{Solid, Triangle, mask_parity, mask_route}

module _ (n : ℕ) (row : ℕ → Row) (weighted : Weighted n row) where
  pub scene_five : (u v : ℕ) (f : Face) → 6 ≤ n → Five (Upto n) u v f.p f.q f.r →
      pierced n row u v f ≡ hits_face (positive_at row) u v f
  scene_five = by_five n (positive_at row) (rules n row weighted)

  module _ {low high : ℕ} (face : ℕ → Face) (first count : ℕ) (solid : Solid n low high (run face (first + 1) count)) where
    abbrev mask : (u v : ℕ) → ℕ
    mask u v = mask_against n row face u v first count

    pub scene_parity : (u v w : ℕ) → Triangle n low high u v w → (ones (mask u v) + ones (mask v w) + ones (mask w u)) % 2 ≡ 0
    scene_parity = mask_parity n (positive_at row) (rules n row weighted) face first count solid

    pub scene_route : (u v w : ℕ) → Triangle n low high u v w → is_odd (mask u v) ≡ is_odd (mask u w) ⊕ is_odd (mask v w)
    scene_route = mask_route n (positive_at row) (rules n row weighted) face first count solid

    -- by the far point: u to v pierces an odd number of faces exactly where one of u and v is enclosed and the other is not
    pub scene_enclosed : (u v : ℕ) → Triangle n low high u v n →
        is_odd (mask u v) ≡ enclosed n row face u first count ⊕ enclosed n row face v first count
    scene_enclosed u v = scene_route u v n
