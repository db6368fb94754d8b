-- Vertices that show the order of the tests, as one checked table. Assumes nothing.
use Rattle.std.specs.Prelude.{◌≡◌, true, false, pos, negsuc, refl, Float, Ok, Err}
use Rattle.std.specs.Float.{nan, inf, fin}
use Rattle.scene.specs.declared.Refusal.TheVariants.{Coordinate, Weight}
use Rattle.doubles.specs.Taken.{taken_of}
use Rattle.doubles.specs.declared.Fault.TheVariants.{NotWhole, OfScene}
use Rattle.doubles.specs.declared.Vertex.{Vertex}

abbrev vertex : Float → Float → Float → Float → Vertex
vertex x y z w = record { x = x; y = y; z = z; w = w }

abbrev one : Float
one = fin false 1 (pos 0)

-- minus zero; a half below zero; 4095, 4096, 4096 and a half
abbrev minus_zero : Float
minus_zero = fin true 0 (pos 0)

abbrev minus_half : Float
minus_half = fin true 1 (negsuc 0)

abbrev most : Float
most = fin false 4095 (pos 0)

abbrev above : Float
above = fin false 1 (pos 12)

abbrev above_and_a_half : Float
above_and_a_half = fin false 8193 (negsuc 0)

pub record Marked : Type 0 where
  pub zeros : taken_of (vertex minus_zero minus_zero minus_zero one) ≡ Ok (record { x = pos 0; y = pos 0; z = pos 0; w = pos 1 })
  pub limits : taken_of (vertex most (fin true 4095 (pos 0)) most (fin true 1 (pos 4)))
      ≡ Ok (record { x = pos 4095; y = negsuc 4094; z = pos 4095; w = negsuc 15 })
  pub half : taken_of (vertex one minus_half one one) ≡ Err (NotWhole 2)
  pub half_beyond : taken_of (vertex above_and_a_half one one one) ≡ Err (NotWhole 1)
  pub beyond : taken_of (vertex one one above one) ≡ Err (OfScene (Coordinate 3))
  pub first_of_two : taken_of (vertex above nan one one) ≡ Err (OfScene (Coordinate 1))
  pub no_number : taken_of (vertex one nan above one) ≡ Err (NotWhole 2)
  pub infinite : taken_of (vertex one one one (inf true)) ≡ Err (NotWhole 4)
  pub weight_zero : taken_of (vertex one one one minus_zero) ≡ Err (OfScene (Weight 4))
  pub weight_above : taken_of (vertex one one one (fin false 17 (pos 0))) ≡ Err (OfScene (Weight 4))

pub marked : Marked
marked =
    record {
      zeros = refl;
      limits = refl;
      half = refl;
      half_beyond = refl;
      beyond = refl;
      first_of_two = refl;
      no_number = refl;
      infinite = refl;
      weight_zero = refl;
      weight_above = refl;
    }
