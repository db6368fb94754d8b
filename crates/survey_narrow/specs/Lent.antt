-- The tables that are lent to the edges of a solid to narrow the questions about them. Assumes nothing.
use Rattle.std.specs.Prelude.{◌≡◌, true, List, ℕ, ◌+◌, ◌<◌}
use Rattle.scene.specs.Faces.{is_corner}
use Rattle.scene.specs.declared.Solid.{Solid}
use Rattle.questions.specs.Hits.{PierceView, Own}
use Rattle.survey_sides.specs.Sides.{masks_by}
use Rattle.survey_sides.specs.Tables.{mask_in}
use Rattle.survey_narrow.specs.Separated.{parts}
use Rattle.survey_narrow.specs.Cover.{covers, Across}
use Rattle.survey_narrow.specs.Narrow.{Around}

-- the tables that narrow the questions: the faces at each vertex, of `owns` faces above `owned`, and those of them that part each face of
-- the other, by its number within it; at 0 of these there are at least all that part any
pub record Separated (s : PierceView) (k : Solid) (own separating : List ℕ) : Type 0 where
  pub low : ℕ
  pub high : ℕ
  pub owned : ℕ
  pub owns : ℕ
  pub at : (u : ℕ) → Own s k u → mask_in own u ≡ masks_by (is_corner u) s.face owned owns
  pub cut : (j : ℕ) → j < k.others →
      mask_in separating (1 + j) ≡ masks_by (parts s.row (s.face (k.other0 + 1 + j))) s.face owned owns
  pub any : (j : ℕ) → j < k.others → covers (mask_in separating 0) (mask_in separating (1 + j)) ≡ true
  pub across : (j : ℕ) → j < k.others → Across s.points low high owned owns s.face (s.face (k.other0 + 1 + j))

pub around : (s : PierceView) (k : Solid) {own separating : List ℕ} → Separated s k own separating → (u v : ℕ) → Own s k u → Own s k v →
    Around s.points s.row s.face (mask_in own) (mask_in separating) u v k.other0 k.others
around s k p u v a b = record {
  low = p.low;
  high = p.high;
  owned = p.owned;
  owns = p.owns;
  u_own = p.at u a;
  v_own = p.at v b;
  separating = p.cut;
  any = p.any;
  across = p.across;
}
