-- What a mask says of an edge's hits. Assumes nothing.
use Rattle.std.specs.Prelude.{◌≡◌, Bool, ℕ, ◌+◌}
use Rattle.std.proofs.Math.Path.{ap}
use Rattle.std.proofs.Common.{◌∙◌}
use Rattle.laws.specs.Mask.{mask_test, test_bit}
use Rattle.laws.specs.Runs.{up_to_same}
use Rattle.scene.specs.declared.Solid.{Solid}
use Rattle.pierce.specs.Formula.{pierced}
use Rattle.questions.specs.WritePairs.{mask_hit, mask_hits}
use Rattle.questions.specs.Hits.{PierceView, edge_mask, face_hits, edge_hits}

module _ (s : PierceView) (k : Solid) where
  -- an edge's hits are those of its mask's bits
  pub edge_hits_law : (u v : ℕ) {w : ℕ} → w ≡ edge_mask s k u v → mask_hits w u v k.other0 k.others ≡ edge_hits s k u v
  unfolding edge_mask edge_hits face_hits
  edge_hits_law u v e =
      up_to_same _ (face_hits s k u v) k.others
      (λ i b. ap (λ (t : Bool). mask_hit t u v (k.other0 + 1 + i))
      (ap (λ (m : ℕ). test_bit m i) e ∙ mask_test (λ j. pierced s.points s.row u v (s.face (k.other0 + 1 + j))) k.others i b))
