-- What a class report's text makes of what is known before it. Assumes nothing.
use Rattle.std.specs.Prelude.{◌≡◌, Bool, true, ℕ, ◌+◌, Err}
use Rattle.std.proofs.Math.Path.{refl}
use Rattle.std.proofs.Common.{ap, ◌∙◌}
use mathlib.Core.List.{List, [], ◌∷◌, ◌++◌, append_assoc}
use Rattle.print.specs.Text.{decimal, decimal_in}
use Rattle.scene.specs.Bytes.{byte_at}
use Rattle.off_items.specs.Numbers.{is_digit}
use Rattle.class_tally.specs.Tally.{mean_of}
use Rattle.class_tally.specs.declared.Tally.{Tally}
use Rattle.class_tally.specs.declared.Mean.{Mean}
use Rattle.class_tally.specs.declared.BlockError.TheVariants.{Longer}
use Rattle.class_print.specs.Sheet.{counted, verdicts, refused_low, refused_high, mean_line, tallied, refused}
use Rattle.class_read.specs.declared.Reading.{Reading}
use Rattle.class_read.specs.Totals.{reports, is_letter, held, number_of, ends, whole_of, counted_of}
use Rattle.class_read.specs.Totals.{turned, met_at, first_at, more_at, onward, begins, start_of, finished, next_of, read_of}
use Rattle.class_read.specs.Leads.{known, is_lettered, lettered, number_leads}

-- the text t leads from r to q, whatever stands behind it
pub record Leads (r : Reading) (t : List ℕ) (q : Reading) : Type 0 where
  pub on : (rest : List ℕ) → read_of reports r (t ++ rest) ≡ read_of reports q rest

pub then : {r q s : Reading} {t u : List ℕ} → Leads r t q → Leads q u s → Leads r (t ++ u) s
then {r} {t} {u} f g = record { on = λ rest. ap (read_of reports r) (append_assoc t u rest) ∙ f.on (u ++ rest) ∙ g.on rest }

-- the totals with the number n of the letter c, which ends at a line's end
abbrev pub one : List ℕ → (w c n : ℕ) → List ℕ
one T w c n = counted_of T c 10 (held n) w

abbrev pub five : List ℕ → (w c n1 n2 n3 n4 n5 : ℕ) → List ℕ
five T w c n1 n2 n3 n4 n5 = one (one (one (one (one T w c n1) w (c + 1) n2) w (c + 2) n3) w (c + 3) n4) w (c + 4) n5

-- and with those of a mean
abbrev pub mean : List ℕ → ℕ → Mean → List ℕ
mean T w m =
    counted_of (counted_of (counted_of T 87 32 (held m.whole) w) 80 32 (held m.remainder) (held m.whole)) 81 10 (held m.divisor)
    (held m.whole)

module _ (w : ℕ) (T : List ℕ) (l : Bool) (k n : ℕ) where
  -- a number, and what stands behind it
  number_then : (p : ℕ) → is_lettered reports p ≡ true → (u : List ℕ) (rest : List ℕ) →
      read_of reports (known p 0 w T l k) ((decimal n ++ (byte_at reports (p + 1 + 1) ∷ u)) ++ rest)
      ≡ read_of reports (known (turned reports (p + 1 + 1 + 1)) 0
      (whole_of (byte_at reports (p + 1)) (byte_at reports (p + 1 + 1)) (held n) w)
      (counted_of T (byte_at reports (p + 1)) (byte_at reports (p + 1 + 1)) (held n) w) l
      (finished (turned reports (p + 1 + 1 + 1)) k)) (u ++ rest)
  number_then p ok u rest =
      ap (read_of reports (known p 0 w T l k)) (append_assoc (decimal n) (byte_at reports (p + 1 + 1) ∷ u) rest)
      ∙ number_leads reports p (byte_at reports (p + 1)) (byte_at reports (p + 1 + 1)) (lettered reports p ok) w T l k n (u ++ rest)

  -- ---- the lines that count scenes, each computed but for its number

  scenes : Leads (known 0 0 w T l k) (counted "scenes" n) (known 10 0 w (one T w 65 n) l k)
  unfolding reports read_of next_of start_of begins onward met_at first_at more_at number_of is_digit is_letter ends whole_of counted_of finished
      is_lettered
  scenes = record { on = number_then 7 refl [] }

  cross : Leads (known 10 0 w T l k) (counted "cross" n) (known 19 0 w (one T w 66 n) l k)
  unfolding reports read_of next_of start_of begins onward met_at first_at more_at number_of is_digit is_letter ends whole_of counted_of finished
      is_lettered
  cross = record { on = number_then 16 refl [] }

  a_in_b_law : Leads (known 19 0 w T l k) (counted "a-in-b" n) (known 29 0 w (one T w 67 n) l k)
  unfolding reports read_of next_of start_of begins onward met_at first_at more_at number_of is_digit is_letter ends whole_of counted_of finished
      is_lettered
  a_in_b_law = record { on = number_then 26 refl [] }

  b_in_a_law : Leads (known 29 0 w T l k) (counted "b-in-a" n) (known 39 0 w (one T w 68 n) l k)
  unfolding reports read_of next_of start_of begins onward met_at first_at more_at number_of is_digit is_letter ends whole_of counted_of finished
      is_lettered
  b_in_a_law = record { on = number_then 36 refl [] }

  apart : Leads (known 39 0 w T l k) (counted "apart" n) (known 48 0 w (one T w 69 n) l k)
  unfolding reports read_of next_of start_of begins onward met_at first_at more_at number_of is_digit is_letter ends whole_of counted_of finished
      is_lettered
  apart = record { on = number_then 45 refl [] }

  refused_1_law : Leads (known 48 0 w T l k) (counted "refused 1" n) (known 61 0 w (one T w 70 n) l k)
  unfolding reports read_of next_of start_of begins onward met_at first_at more_at number_of is_digit is_letter ends whole_of counted_of finished
      is_lettered
  refused_1_law = record { on = number_then 58 refl [] }

  refused_2_law : Leads (known 61 0 w T l k) (counted "refused 2" n) (known 74 0 w (one T w 71 n) l k)
  unfolding reports read_of next_of start_of begins onward met_at first_at more_at number_of is_digit is_letter ends whole_of counted_of finished
      is_lettered
  refused_2_law = record { on = number_then 71 refl [] }

  refused_3_law : Leads (known 74 0 w T l k) (counted "refused 3" n) (known 87 0 w (one T w 72 n) l k)
  unfolding reports read_of next_of start_of begins onward met_at first_at more_at number_of is_digit is_letter ends whole_of counted_of finished
      is_lettered
  refused_3_law = record { on = number_then 84 refl [] }

  refused_4_law : Leads (known 87 0 w T l k) (counted "refused 4" n) (known 100 0 w (one T w 73 n) l k)
  unfolding reports read_of next_of start_of begins onward met_at first_at more_at number_of is_digit is_letter ends whole_of counted_of finished
      is_lettered
  refused_4_law = record { on = number_then 97 refl [] }

  refused_5_law : Leads (known 100 0 w T l k) (counted "refused 5" n) (known 113 0 w (one T w 74 n) l k)
  unfolding reports read_of next_of start_of begins onward met_at first_at more_at number_of is_digit is_letter ends whole_of counted_of finished
      is_lettered
  refused_5_law = record { on = number_then 110 refl [] }

  refused_6_law : Leads (known 113 0 w T l k) (counted "refused 6" n) (known 126 0 w (one T w 75 n) l k)
  unfolding reports read_of next_of start_of begins onward met_at first_at more_at number_of is_digit is_letter ends whole_of counted_of finished
      is_lettered
  refused_6_law = record { on = number_then 123 refl [] }

  refused_7_law : Leads (known 126 0 w T l k) (counted "refused 7" n) (known 139 0 w (one T w 76 n) l k)
  unfolding reports read_of next_of start_of begins onward met_at first_at more_at number_of is_digit is_letter ends whole_of counted_of finished
      is_lettered
  refused_7_law = record { on = number_then 136 refl [] }

  refused_8_law : Leads (known 139 0 w T l k) (counted "refused 8" n) (known 152 0 w (one T w 77 n) l k)
  unfolding reports read_of next_of start_of begins onward met_at first_at more_at number_of is_digit is_letter ends whole_of counted_of finished
      is_lettered
  refused_8_law = record { on = number_then 149 refl [] }

  refused_9_law : Leads (known 152 0 w T l k) (counted "refused 9" n) (known 165 0 w (one T w 78 n) l k)
  unfolding reports read_of next_of start_of begins onward met_at first_at more_at number_of is_digit is_letter ends whole_of counted_of finished
      is_lettered
  refused_9_law = record { on = number_then 162 refl [] }

  refused_14_law : Leads (known 165 0 w T l k) (counted "refused 14" n) (known 179 0 w (one T w 79 n) l k)
  unfolding reports read_of next_of start_of begins onward met_at first_at more_at number_of is_digit is_letter ends whole_of counted_of finished
      is_lettered
  refused_14_law = record { on = number_then 176 refl [] }

module _ (w : ℕ) (T : List ℕ) (l : Bool) (k : ℕ) (t : Tally) where
  verdicts_lead : Leads (known 0 0 w T l k) (verdicts t)
      (known 48 0 w (five T w 65 t.scenes t.cross t.a_in_b t.b_in_a t.apart) l k)
  verdicts_lead =
      then (scenes w T l k t.scenes)
      (then (cross w _ l k t.cross)
      (then (a_in_b_law w _ l k t.a_in_b)
      (then (b_in_a_law w _ l k t.b_in_a)
      (apart w _ l k t.apart))))

  low_lead :
      Leads (known 48 0 w T l k) (refused_low t)
      (known 113 0 w (five T w 70 t.refused_1 t.refused_2 t.refused_3 t.refused_4 t.refused_5) l k)
  low_lead =
      then (refused_1_law w T l k t.refused_1)
      (then (refused_2_law w _ l k t.refused_2)
      (then (refused_3_law w _ l k t.refused_3)
      (then (refused_4_law w _ l k t.refused_4)
      (refused_5_law w _ l k t.refused_5))))

  high_lead :
      Leads (known 113 0 w T l k) (refused_high t)
      (known 179 0 w (five T w 75 t.refused_6 t.refused_7 t.refused_8 t.refused_9 t.refused_14) l k)
  high_lead =
      then (refused_6_law w T l k t.refused_6)
      (then (refused_7_law w _ l k t.refused_7)
      (then (refused_8_law w _ l k t.refused_8)
      (then (refused_9_law w _ l k t.refused_9)
      (refused_14_law w _ l k t.refused_14))))

-- ---- the mean, and the line of a refused block

module _ (w : ℕ) (T : List ℕ) (l : Bool) (k : ℕ) where
  mean_lead : (m : Mean) →
      Leads (known 179 0 w T l k) (mean_line m) (known 0 0 (held m.whole) (mean T w m) l (held (k + 1)))
  unfolding reports read_of next_of start_of begins onward met_at first_at more_at number_of is_digit is_letter ends whole_of counted_of finished
      is_lettered
  mean_lead m =
      let T1 = counted_of T 87 32 (held m.whole) w in
      let T2 = counted_of T1 80 32 (held m.remainder) (held m.whole) in
      record {
        on = λ rest.
            number_then w T l k m.whole 184 refl (decimal m.remainder ++ (32 ∷ decimal m.divisor ++ (10 ∷ []))) rest
            ∙ number_then (held m.whole) T1 l k m.remainder 187 refl (decimal m.divisor ++ (10 ∷ [])) rest
            ∙ number_then (held m.whole) T2 l k m.divisor 190 refl [] rest;
      }

  pub refused_lead : Leads (known 0 0 w T l k) (refused (Err Longer)) (known 0 0 w T true (held (k + 1)))
  unfolding reports read_of next_of start_of begins onward met_at first_at more_at number_of is_digit is_letter ends whole_of counted_of finished
      decimal decimal_in
  refused_lead = record { on = λ rest. refl }

-- ---- a whole report

-- the totals with those of the tally t
abbrev pub after : List ℕ → ℕ → Tally → List ℕ
after T w t =
    mean
    (five
    (five (five T w 65 t.scenes t.cross t.a_in_b t.b_in_a t.apart)
    w 70 t.refused_1 t.refused_2 t.refused_3 t.refused_4 t.refused_5)
    w 75 t.refused_6 t.refused_7 t.refused_8 t.refused_9 t.refused_14)
    w (mean_of t)

pub tallied_lead : (w : ℕ) (T : List ℕ) (l : Bool) (k : ℕ) (t : Tally) →
    Leads (known 0 0 w T l k) (tallied t) (known 0 0 (held (mean_of t).whole) (after T w t) l (held (k + 1)))
unfolding tallied
tallied_lead w T l k t =
    then (verdicts_lead w T l k t) (then (low_lead w _ l k t) (then (high_lead w _ l k t) (mean_lead w _ l k (mean_of t))))
