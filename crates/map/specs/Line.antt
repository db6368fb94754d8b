-- The line that says why there is no image: the refusal's number and its place. Assumes nothing.
use Rattle.std.specs.Prelude.{[], ◌∷◌}
use Rattle.print.specs.Text.{ascii, decimal}
use Rattle.print.specs.Back.{Words}
use Rattle.map_image.specs.declared.Fault.{Fault}
use Rattle.map_image.specs.Image.{fault_number, fault_place}

abbrev pub refused_line : Fault → Words
refused_line f = ascii "refused" ∷ decimal (fault_number f) ∷ decimal (fault_place f) ∷ []
