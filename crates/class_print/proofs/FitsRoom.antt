-- A report fits its room. Assumes nothing.
use Rattle.std.specs.Prelude.{◌≡◌, List, [], ◌∷◌, ◌++◌, ℕ, zero, suc, ◌+◌, ◌%◌, ◌≤◌, ◌<◌, ◌^◌, length, take, drop, Ok, Err}
use Rattle.std.proofs.Common.{ap₂, ◌∙◌, arith, div-le_self, mod-lt, lit≤, length-append}
use Prim.Native.String.{String}
use Rattle.std.proofs.Math.Seq.{take-append_seam}
use Rattle.print.specs.Put.{Put, put_fits, behind_fits}
use Rattle.print.specs.Text.{ascii, decimal_in, decimal, line}
use Rattle.print.specs.Decimal.{decimal_short}
use Rattle.class_tally.specs.Tally.{mean_over, mean_of, report_of}
use Rattle.class_tally.specs.Words.{Words, TallyWords, ReportWords, report_words}
use Rattle.class_tally.specs.declared.Tally.{Tally}
use Rattle.class_tally.specs.declared.Mean.{Mean}
use Rattle.class_tally.specs.Tally.{Report}
use Rattle.class_tally.specs.declared.BlockError.TheVariants.{Longer}
use Rattle.class_print.specs.Sheet.{counted, verdicts, refused_low, refused_high, mean_line, tallied, sheet_of}
use Rattle.class_print.specs.Fits.{room, Fits}

-- ---- a line of a word of no more than 10 bytes and a number

counted_most : (w : List ℕ) (n : ℕ) → length w ≤ 10 → n < 2 ^ 64 → length (line (w ∷ decimal n ∷ [])) ≤ 32
counted_most w n h k =
    omega (arith, length-append w (32 ∷ decimal n ++ (10 ∷ [])), length-append (decimal n) (10 ∷ []), decimal_short n k)

-- five of them
module _ (u v w x y : String) (a b c d e : ℕ) where
  abbrev lines : List ℕ
  lines = counted u a ++ (counted v b ++ (counted w c ++ (counted x d ++ counted y e)))

  abbrev Short : String → Type 0
  Short s = length (ascii s) ≤ 10

  five : Short u → Short v → Short w → Short x → Short y → Words (a ∷ b ∷ c ∷ d ∷ e ∷ []) → length lines ≤ 160
  five hu hv hw hx hy n =
      omega (
        arith,
        length-append (counted u a) (counted v b ++ (counted w c ++ (counted x d ++ counted y e))),
        length-append (counted v b) (counted w c ++ (counted x d ++ counted y e)),
        length-append (counted w c) (counted x d ++ counted y e),
        length-append (counted x d) (counted y e),
        counted_most (ascii u) a hu n.0,
        counted_most (ascii v) b hv n.1.0,
        counted_most (ascii w) c hw n.1.1.0,
        counted_most (ascii x) d hx n.1.1.1.0,
        counted_most (ascii y) e hy n.1.1.1.1.0,
      )

module _ (t : Tally) (h : TallyWords t) where
  verdicts_most : length (verdicts t) ≤ 160
  verdicts_most =
      five "scenes" "cross" "a-in-b" "b-in-a" "apart" t.scenes t.cross t.a_in_b t.b_in_a t.apart (lit≤ tt) (lit≤ tt)
      (lit≤ tt) (lit≤ tt) (lit≤ tt) h.verdicts

  low_most : length (refused_low t) ≤ 160
  low_most =
      five "refused 1" "refused 2" "refused 3" "refused 4" "refused 5" t.refused_1 t.refused_2 t.refused_3
      t.refused_4 t.refused_5 (lit≤ tt) (lit≤ tt) (lit≤ tt) (lit≤ tt) (lit≤ tt) h.low

  high_most : length (refused_high t) ≤ 160
  high_most =
      five "refused 6" "refused 7" "refused 8" "refused 9" "refused 14" t.refused_6 t.refused_7 t.refused_8
      t.refused_9 t.refused_14 (lit≤ tt) (lit≤ tt) (lit≤ tt) (lit≤ tt) (lit≤ tt) h.high

-- ---- the mean's line

record MeanWords (m : Mean) : Type 0 where
  pub whole : m.whole < 2 ^ 64
  pub remainder : m.remainder < 2 ^ 64
  pub divisor : m.divisor < 2 ^ 64

mean_words : (p n : ℕ) → p < 2 ^ 64 → n < 2 ^ 64 → MeanWords (mean_over p n)
mean_words p zero h k = record { whole = omega arith; remainder = omega arith; divisor = omega arith }
mean_words p (suc n) h k =
    let r : p % suc n < suc n = mod-lt p (omega arith) in
    record { whole = omega (arith, div-le_self p (suc n)); remainder = omega arith; divisor = k }

mean_most : (m : Mean) → MeanWords m → length (mean_line m) ≤ 68
mean_most m h =
    omega (
      arith,
      length-append (decimal m.whole) (32 ∷ decimal m.remainder ++ (32 ∷ decimal m.divisor ++ (10 ∷ []))),
      length-append (decimal m.remainder) (32 ∷ decimal m.divisor ++ (10 ∷ [])),
      length-append (decimal m.divisor) (10 ∷ []),
      decimal_short m.whole h.whole,
      decimal_short m.remainder h.remainder,
      decimal_short m.divisor h.divisor,
    )

-- ---- the whole

tallied_most : (t : Tally) → TallyWords t → length (tallied t) ≤ room
unfolding tallied mean_of
tallied_most t h =
    let m = mean_line (mean_of t) in
    omega (
      arith,
      length-append (verdicts t) (refused_low t ++ (refused_high t ++ m)),
      length-append (refused_low t) (refused_high t ++ m),
      length-append (refused_high t) m,
      verdicts_most t h,
      low_most t h,
      high_most t h,
      mean_most (mean_of t) (mean_words t.pairs t.accepted h.pairs h.accepted),
    )

sheet_most : (r : Report) → ReportWords r → length (sheet_of r) ≤ room
unfolding sheet_of decimal decimal_in
sheet_most (Err Longer) h = lit≤ tt
sheet_most (Ok t) h = tallied_most t h

-- a text put at a buffer's start, where there is room
put_whole : (t l m : List ℕ) (p : ℕ) → length t ≤ length l → Put l 0 t m p → take p m ≡ t
put_whole t l m p h x =
    let k : 0 + length t ≤ length l = omega arith in
    let n : p ≡ length t = x.place ∙ behind_fits l 0 t k ∙ omega arith in
    ap₂ take n (x.held ∙ put_fits l 0 t k) ∙ take-append_seam t (drop (0 + length t) l)

pub fits : Fits
fits =
    record {
      sheet = sheet_most;
      block = λ b. sheet_most (report_of b) (report_words b);
      printed = λ r h l m p e x. put_whole (sheet_of r) l m p (omega (arith, sheet_most r h)) x;
    }
