-- What is taken of a vertex in doubles, and what is refused: each of x, y, z, weight in turn, 15 where it is no whole number, then 5 or 6
-- where it is outside its limits; the place is 1 to 4. Minus zero is zero. Assumes nothing.
use Rattle.std.specs.Prelude.{ℕ, zero, suc, cond, ℤ, pos, negsuc, nat_le, unsigned_abs, Float, Result, Ok, Err}
use Rattle.scene.specs.Limits.{limits}
use Rattle.scene.specs.Refusal.{number_of, place_of}
use Rattle.scene.specs.declared.Refusal.{Refusal}
use Rattle.scene.specs.declared.Refusal.TheVariants.{Coordinate, Weight}
use Rattle.scene.specs.declared.Row.{Row}
use Rattle.doubles.specs.Whole.{is_whole, value_of}
use Rattle.doubles.specs.declared.Fault.{Fault}
use Rattle.doubles.specs.declared.Fault.TheVariants as fault
use Rattle.doubles.specs.declared.Vertex.{Vertex}
use Rattle.doubles.specs.declared.whole.Unfit.{Unfit}
use Rattle.doubles.specs.declared.whole.Unfit.TheVariants.{NotWhole, Outside}

abbrev pub fault_number : Fault → ℕ
fault_number (fault.NotWhole p) = 15
fault_number (fault.OfScene r) = number_of r

abbrev pub fault_place : Fault → ℕ
fault_place (fault.NotWhole p) = p
fault_place (fault.OfScene r) = place_of r

-- a whole number from -most to most
abbrev pub reading_of : Float → ℕ → Result ℤ Unfit
reading_of x most =
    cond (is_whole x) (cond (nat_le (unsigned_abs (value_of x)) most) (Ok (value_of x)) (Err Outside)) (Err NotWhole)

abbrev pub coordinate_of : Float → Result ℤ Unfit
coordinate_of x = reading_of x limits.most_coordinate

-- a weight is not 0
abbrev pub weighed : Result ℤ Unfit → Result ℤ Unfit
weighed (Err e) = Err e
weighed (Ok (pos zero)) = Err Outside
weighed (Ok (pos (suc n))) = Ok (pos (suc n))
weighed (Ok (negsuc n)) = Ok (negsuc n)

abbrev pub weight_of : Float → Result ℤ Unfit
weight_of x = weighed (reading_of x limits.most_weight)

-- why the number at the place p is refused: with 15, or with r where it is outside its limits
abbrev pub fault_at : Unfit → ℕ → Refusal → Fault
fault_at NotWhole p r = fault.NotWhole p
fault_at Outside p r = fault.OfScene r

-- the number at the place p goes on, or is refused
abbrev pub step : Result ℤ Unfit → ℕ → Refusal → (ℤ → Result Row Fault) → Result Row Fault
step (Err e) p r next = Err (fault_at e p r)
step (Ok z) p r next = next z

abbrev pub taken_by : Result ℤ Unfit → Result ℤ Unfit → Result ℤ Unfit → Result ℤ Unfit → Result Row Fault
taken_by x y z w =
    step x 1 (Coordinate 1)
    (λ a. step y 2 (Coordinate 2)
    (λ b. step z 3 (Coordinate 3)
    (λ c. step w 4 (Weight 4) (λ d. Ok (record { x = a; y = b; z = c; w = d })))))

abbrev pub taken_of : Vertex → Result Row Fault
taken_of v = taken_by (coordinate_of v.x) (coordinate_of v.y) (coordinate_of v.z) (weight_of v.w)
