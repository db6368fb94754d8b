-- The class report as text, line by line in the order of the request. Assumes nothing.
use Rattle.std.specs.Prelude.{ℕ, ◌≡◌, List, [], ◌∷◌, ◌++◌, Ok, Err}
use Rattle.std.proofs.Common.{ap, sym}
use Rattle.std.proofs.Math.Path.{subst}
use Prim.Native.String.{String}
use Rattle.print.specs.Put.{Put}
use Rattle.print.specs.Text.{ascii, decimal, line}
use Rattle.class_tally.specs.Tally.{number_in, place_in, mean_of}
use Rattle.class_tally.specs.declared.Tally.{Tally}
use Rattle.class_tally.specs.declared.Mean.{Mean}
use Rattle.class_tally.specs.Tally.{Report}
use Rattle.class_tally.specs.declared.BlockError.{BlockError}

-- a line's words, and its number
abbrev pub counted : String → ℕ → List ℕ
counted w n = line (ascii w ∷ decimal n ∷ [])

abbrev pub verdicts : Tally → List ℕ
verdicts t =
    counted "scenes" t.scenes
    ++ (counted "cross" t.cross ++ (counted "a-in-b" t.a_in_b ++ (counted "b-in-a" t.b_in_a ++ counted "apart" t.apart)))

abbrev pub refused_low : Tally → List ℕ
refused_low t =
    counted "refused 1" t.refused_1
    ++ (counted "refused 2" t.refused_2
    ++ (counted "refused 3" t.refused_3 ++ (counted "refused 4" t.refused_4 ++ counted "refused 5" t.refused_5)))

abbrev pub refused_high : Tally → List ℕ
refused_high t =
    counted "refused 6" t.refused_6
    ++ (counted "refused 7" t.refused_7
    ++ (counted "refused 8" t.refused_8 ++ (counted "refused 9" t.refused_9 ++ counted "refused 14" t.refused_14)))

abbrev pub mean_line : Mean → List ℕ
mean_line m = line (ascii "mean" ∷ decimal m.whole ∷ decimal m.remainder ∷ decimal m.divisor ∷ [])

unfoldable pub tallied : Tally → List ℕ
tallied t = verdicts t ++ (refused_low t ++ (refused_high t ++ mean_line (mean_of t)))

-- a refused block has one line
abbrev pub refused : Report → List ℕ
refused r = line (ascii "refused" ∷ decimal (number_in r) ∷ decimal (place_in r) ∷ [])

unfoldable pub sheet_of : Report → List ℕ
sheet_of (Err e) = refused (Err e)
sheet_of (Ok t) = tallied t

-- ---- from the calls' answers: the text that was put, in other words

module _ {l : List ℕ} {at : ℕ} {m : List ℕ} {p : ℕ} where
  put_as : {t u : List ℕ} → t ≡ u → Put l at t m p → Put l at u m p
  put_as e x = subst (λ (t : List ℕ). Put l at t m p) e x

  pub mean_put : {n k : Mean} → n ≡ k → Put l at (mean_line n) m p → Put l at (mean_line k) m p
  mean_put e x = put_as (ap mean_line e) x

  pub longer_put : {r : Report} {e : BlockError} → r ≡ Err e → Put l at (refused (Err e)) m p → Put l at (sheet_of r) m p
  unfolding sheet_of
  longer_put e x = put_as (sym (ap sheet_of e)) x

  pub tallied_put : {r : Report} {t : Tally} → r ≡ Ok t → Put l at (tallied t) m p → Put l at (sheet_of r) m p
  unfolding sheet_of
  tallied_put {t = t} e x = put_as (sym (ap sheet_of e)) x
