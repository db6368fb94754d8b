-- What the code reads back of the numbers that it holds as bits, on the way to a plane and to a plane at a row. Assumes nothing.
use Rattle.std.specs.Prelude.{◌≡◌, ◌^◌, ◌≤◌, ◌<◌, ℤ, pos, ◌+ℤ◌}
use Rattle.std.proofs.Common.{sym, ap, ◌∙◌, lt_of_le_of_lt, lit<, to_z, of_z}
use Rattle.std.specs.Int.Signed.{mag}
use Rattle.std.specs.Int.{w64}
use Rattle.laws.specs.Size.{exactly, ◌⊗◌, ◌⊖◌, ◌⊕◌, reread, Held, formed}
use Rattle.scene.specs.declared.Row.{Row}
use Rattle.orient.specs.Bits.{read, RowFits, crossed}
use Rattle.orient.specs.Minors.{minor_of}
use Rattle.orient.specs.Formed.{most_formed}
use Rattle.survey_sides.specs.Planes.{dot_of}
use Rattle.survey_sides.specs.Sizes.{dot_size}

-- a row of weight 1, written anew with that number
pub unit_row : {r : Row} → RowFits r → of_z w64 r.w ≡ 1 →
    ◌≡◌ {A = Row} (record { x = reread r.x; y = reread r.y; z = reread r.z; w = pos 1 }) r
unit_row f e = λ i. record { x = read f.x i; y = read f.y i; z = read f.z i; w = (sym (ap (to_z w64) e) ∙ read f.w) i }

-- the two halves of `dot`, and their sum
module _ {p t : Row} (f : RowFits p) (g : RowFits t) (h : dot_size p t ≤ most_formed) where
  pub dot_held : {r s : ℤ} → mag r < 2 ^ 63 → r ≡ minor_of (reread p.w) (reread p.z) (reread t.z) (reread t.w) →
      mag s < 2 ^ 63 → s ≡ minor_of (reread p.y) (reread p.x) (reread t.x) (reread t.y) →
      Held (dot_size p t) (reread r +ℤ reread s) (dot_of p t)
  dot_held ok e ko d =
      formed (λ i. crossed f.w f.z g.z g.w ok e i +ℤ crossed f.y f.x g.x g.y ko d i)
      ((exactly p.w ⊗ exactly t.w ⊖ exactly p.z ⊗ exactly t.z) ⊕ (exactly p.y ⊗ exactly t.y ⊖ exactly p.x ⊗ exactly
      t.x))
      (lt_of_le_of_lt h (lit< tt))
