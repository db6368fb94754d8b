-- The marked examples, computed. Assumes nothing.
use Rattle.std.specs.Prelude.{refl}
use Rattle.scene.specs.Faces.{is_corner}
use Rattle.orient.specs.Terms.{terms_at}
use Rattle.questions.specs.Answers.{or_refuse, is_point, is_face, differ, are_points, sign_fault, sign_of, ends_off_face}
use Rattle.questions.specs.Answers.{edge_and_face, pierces_fault, pierces_of, sign_in, pierces_in}
use Rattle.theorem_demands.specs.Marked.Computing.{judging, piercing}
use Rattle.theorem_demands.specs.Marked.{Marked}

pub marked : Marked
unfolding judging piercing terms_at is_corner or_refuse is_point is_face differ are_points sign_fault sign_of sign_in ends_off_face edge_and_face
    pierces_fault
    pierces_of pierces_in
marked =
    record {
      s1 = record { accepted = refl; leads = refl; sign = refl };
      s2 = record { accepted = refl; leads = refl; sign = refl };
      s3 = record { accepted = refl; leads = refl; sign = refl };
      s4 = record { accepted = refl; leads = refl; sign = refl };
      s5 = record { accepted = refl; leads = refl; sign = refl };
      s6 = record { accepted = refl; leads = refl; sign = refl };
      s7 = record { accepted = refl; leads = refl; sign = refl };
      s8 = record { accepted = refl; leads = refl; sign = refl };
      e1 = record { accepted = refl; helps = refl; pierced = refl };
      e2 = record { accepted = refl; helps = refl; pierced = refl };
      e3 = record { accepted = refl; helps = refl; pierced = refl };
      e4 = record { accepted = refl; helps = refl; pierced = refl };
      e5 = record { accepted = refl; helps = refl; pierced = refl };
    }
