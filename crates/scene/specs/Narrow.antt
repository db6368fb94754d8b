-- The numbers of a row in 16 bits: those within the limits fit, and are read back as they were. Assumes nothing.
use Rattle.std.specs.Prelude.{◌≡◌, ℕ, ◌≤◌, ◌<◌, ◌^◌, ℤ, nat_abs}
use Rattle.std.proofs.Common.{ap, ◌∙◌, le_trans, lt_of_le_of_lt, lt_of_lt_of_le, lit≤, lit<, to_z-of_z}
use Rattle.std.specs.Int.Signed.{mag}
use Rattle.std.specs.Int.{w16, w64}
use mir.Val.{SFits, hbits, to_z, of_z}
use Rattle.laws.specs.Size.{mag_size, reread}
use Rattle.scene.specs.Limits.{limits}
use Rattle.scene.specs.Arrays.{RowWithin}
use Rattle.scene.specs.declared.Row.{Row}

pub widens : {z : ℤ} → mag z < 2 ^ hbits w16 → SFits w64 z
widens h = record { sfits = lt_of_lt_of_le h (lit≤ tt) }

pub narrows : (n : ℕ) {z : ℤ} → nat_abs z ≤ n → n < 2 ^ hbits w16 → SFits w16 z
narrows n {z} h l = record { sfits = lt_of_le_of_lt (le_trans (mag_size z) h) l }

-- a number that is stored, and one that is read: it goes through an i64 on either way
abbrev stored : ℤ → ℤ
stored z = to_z w16 (of_z w16 (reread z))

abbrev read : ℤ → ℤ
read z = reread (to_z w16 (of_z w16 z))

module _ (z : ℤ) (f : SFits w16 z) where
  is_stored : stored z ≡ z
  is_stored = let e : reread z ≡ z = to_z-of_z (widens f.sfits) in ap (λ (x : ℤ). to_z w16 (of_z w16 x)) e ∙ to_z-of_z f

  is_read : read z ≡ z
  is_read = let e : to_z w16 (of_z w16 z) ≡ z = to_z-of_z f in ap reread e ∙ to_z-of_z (widens f.sfits)

-- so of a row
abbrev each : (ℤ → ℤ) → Row → Row
each f p = record { x = f p.x; y = f p.y; z = f p.z; w = f p.w }

pub row_stored : (p : Row) → RowWithin limits p → each stored p ≡ p
row_stored p h i =
    record {
      x = is_stored p.x (narrows _ h.x (lit< tt)) i;
      y = is_stored p.y (narrows _ h.y (lit< tt)) i;
      z = is_stored p.z (narrows _ h.z (lit< tt)) i;
      w = is_stored p.w (narrows _ h.w (lit< tt)) i;
    }

pub row_read : (p : Row) → SFits w16 p.x → SFits w16 p.y → SFits w16 p.z → SFits w16 p.w → each read p ≡ p
row_read p x y z w i = record { x = is_read p.x x i; y = is_read p.y y i; z = is_read p.z z i; w = is_read p.w w i }
