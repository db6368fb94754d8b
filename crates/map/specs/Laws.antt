-- What the definitions give in each case, as a branch arrives; and an image that is written fits its buffer. Assumes nothing.
use Rattle.std.specs.Prelude.{◌≡◌, List, ℕ, ◌+◌, ◌≤◌, ℤ, Option, Some, None, length, drop, Ok}
use Rattle.std.proofs.Common.{ap, subst, arith, length-append, SFits}
use mir.Syntax.{w64}
use mir.ValLaws.{to_z-of_z}
use Rattle.laws.specs.Size.{reread}
use Rattle.scene.specs.Records.{verts}
use Rattle.scene.specs.declared.Row.{Row}
use Rattle.map_image.specs.declared.Map.{Map}
use Rattle.map_image.specs.Image.{Imaged}
use Rattle.map_image.proofs.Faults.{wrote}
use Rattle.map_image.specs.Image.{IsImage, image_bytes, image_row}
use Rattle.map_image.specs.Filling.{filled_length}
use Rattle.map.specs.Asked.{row_of, map_of}

module _ (x y z w : Option ℤ) where
  pub row_none : x ≡ None → None ≡ row_of x y z w
  unfolding row_of
  row_none p = rw p

  pub row_one : {a : ℤ} → x ≡ Some a → y ≡ None → None ≡ row_of x y z w
  unfolding row_of
  row_one p q = rw (p, q)

  pub row_two : {a b : ℤ} → x ≡ Some a → y ≡ Some b → z ≡ None → None ≡ row_of x y z w
  unfolding row_of
  row_two p q r = rw (p, q, r)

  pub row_three : {a b c : ℤ} → x ≡ Some a → y ≡ Some b → z ≡ Some c → w ≡ None → None ≡ row_of x y z w
  unfolding row_of
  row_three p q r t = rw (p, q, r, t)

  -- each number is read from its bits
  pub row_four : {a b c d : ℤ} → SFits w64 a → SFits w64 b → SFits w64 c → SFits w64 d → x ≡ Some a → y ≡ Some b →
      z ≡ Some c → w ≡ Some d →
      Some (record { x = reread a; y = reread b; z = reread c; w = reread d }) ≡ row_of x y z w
  unfolding row_of
  row_four {a} {b} {c} {d} fa fb fc fd p q r t =
      rw (p, q, r, t)
      (λ i. Some (record { x = to_z-of_z w64 a fa i; y = to_z-of_z w64 b fb i; z = to_z-of_z w64 c fc i; w = to_z-of_z w64 d fd i }))

module _ (x y z w : Option Row) where
  pub map_none : x ≡ None → None ≡ map_of x y z w
  unfolding map_of
  map_none p = rw p

  pub map_one : {a : Row} → x ≡ Some a → y ≡ None → None ≡ map_of x y z w
  unfolding map_of
  map_one p q = rw (p, q)

  pub map_two : {a b : Row} → x ≡ Some a → y ≡ Some b → z ≡ None → None ≡ map_of x y z w
  unfolding map_of
  map_two p q r = rw (p, q, r)

  pub map_three : {a b c : Row} → x ≡ Some a → y ≡ Some b → z ≡ Some c → w ≡ None →
      None ≡ map_of x y z w
  unfolding map_of
  map_three p q r t = rw (p, q, r, t)

  pub map_four : {a b c d : Row} → x ≡ Some a → y ≡ Some b → z ≡ Some c → w ≡ Some d →
      Some (record { x = a; y = b; z = c; w = d }) ≡ map_of x y z w
  unfolding map_of
  map_four p q r t = rw (p, q, r, t)

pub image_fits : {s : List ℕ} {m : Map} {d d' : List ℕ} {o : Imaged} {n : ℕ} → IsImage s m d d' o → o ≡ Ok n → n ≤ length d'
unfolding image_bytes
image_fits {s} {m} {d} {d'} {n = n} h e =
    let w = wrote s m d d' n (subst (IsImage s m d d') e h) in
    omega (
      arith,
      w.long,
      ap length w.held,
      length-append (image_bytes m s) (drop (length s) d),
      filled_length (image_row m s) (verts s + 1) s,
    )
