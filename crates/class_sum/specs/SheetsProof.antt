-- The proofs of `Sheets`. Assumes nothing.
use Rattle.std.specs.Prelude.{◌≡◌, refl, Bool, true, false, cond, List, [], ◌∷◌, ◌++◌, map, ℕ, ◌+◌, ◌*◌, ◌<◌, leb, length, Result, Ok, Err}
use Rattle.std.proofs.Common.{sym, ap, ap₂, ◌∙◌, subst, append-nil, append_assoc, arith, mul_comm, le-leb, leb-false}
use Rattle.std.proofs.lemmas.Bool.{false≢true}
use Rattle.std.proofs.Math.Decide.{dec_lt}
use Rattle.laws.specs.Lists.{Each, each_append}
use Rattle.class_block.specs.Block.{scenes_of, whole}
use Rattle.class_block.specs.Parts.{Ended}
use Rattle.class_block.proofs.PartsProof.{parts}
use Rattle.class_block.specs.Scenes.{scenes_end}
use Rattle.off_items.specs.Numbers.{is_digit, largest, at_most}
use Rattle.off_items.specs.Laws.{at_most_low, at_most_high}
use Rattle.class_tally.specs.Tally.{mean_of, in_line, pairs_of, tally_of, marks_of, report_of}
use Rattle.class_tally.specs.Counting.{report_tallied}
use Rattle.class_tally.specs.Merging.{plus, tally, Counted}
use Rattle.class_tally.proofs.MergingProof.{merging}
use Rattle.class_tally.specs.declared.Tally.{Tally}
use Rattle.class_tally.specs.Tally.{Report}
use Rattle.class_tally.specs.declared.BlockError.TheVariants.{Longer}
use Rattle.class_print.specs.Sheet.{sheet_of}
use Rattle.class_read.specs.declared.Reading.{Reading}
use Rattle.class_read.specs.Totals.{reports, is_letter, held, ends, plus as added, paired, counted_of, next_of, read_of}
use Rattle.class_read.specs.Leads.{known, held_left, held_sum, held_times}
use Rattle.class_sum.specs.Merged.{nothing, tally_in, reaches, sum_of}
use Rattle.class_sum.specs.declared.SumError.{SumError}
use Rattle.class_sum.specs.declared.SumError.TheVariants.{TooLarge}
use Rattle.class_sum.specs.Lines.{after, tallied_lead, refused_lead}
use Rattle.class_sum.specs.Sheets.{both, all_from, none, sheets, numbers_of, told, Whole, Kept, end_to_end, reports_of, ReadAs, Sheets}

-- ---- the totals behind a report

held_product : (a b : ℕ) → held (held a * held b) ≡ held (a * b)
held_product a b = held_times a (held b) ∙ ap held (mul_comm a (held b)) ∙ held_times b a ∙ ap held (mul_comm b a)

pairs_held : (a r w d : ℕ) {p : ℕ} → w * d + r ≡ p → held (held (held a + held r) + held (held w * held d)) ≡ held (a + p)
pairs_held a r w d {p} e =
    ap₂ (λ (x y : ℕ). held (x + y)) (held_sum a r) (held_product w d) ∙ held_sum (a + r) (w * d) ∙ ap held (omega arith)

after_is : (s t : Tally) (w : ℕ) → Counted t → after (map held (numbers_of s)) w t ≡ map held (numbers_of (plus s t))
unfolding counted_of ends is_letter is_digit paired added
after_is s t w h = λ i.
    held_sum s.scenes t.scenes i
    ∷ held_sum s.cross t.cross i
    ∷ held_sum s.a_in_b t.a_in_b i
    ∷ held_sum s.b_in_a t.b_in_a i
    ∷ held_sum s.apart t.apart i
    ∷ held_sum s.refused_1 t.refused_1 i
    ∷ held_sum s.refused_2 t.refused_2 i
    ∷ held_sum s.refused_3 t.refused_3 i
    ∷ held_sum s.refused_4 t.refused_4 i
    ∷ held_sum s.refused_5 t.refused_5 i
    ∷ held_sum s.refused_6 t.refused_6 i
    ∷ held_sum s.refused_7 t.refused_7 i
    ∷ held_sum s.refused_8 t.refused_8 i
    ∷ held_sum s.refused_9 t.refused_9 i
    ∷ held_sum s.refused_14 t.refused_14 i
    ∷ pairs_held s.pairs (mean_of t).remainder (mean_of t).whole (mean_of t).divisor (merging.back t h) i
    ∷ (held_sum s.accepted (mean_of t).divisor ∙ ap (λ (n : ℕ). held (s.accepted + n)) (merging.divisor t)) i
    ∷ []

-- ---- what is told of them

held_reaches : (n : ℕ) → leb largest (held n) ≡ leb largest n
held_reaches n = by (dec_lt n largest)
  where
    by : Dec (n < largest) → leb largest (held n) ≡ leb largest n
    by (yes h) = ap (leb largest) (at_most_low largest n (omega arith))
    by (no h) =
        ap (leb largest) (at_most_high largest n (omega arith)) ∙ le-leb largest largest (omega arith)
        ∙ sym (le-leb largest n (omega arith))

reaches_held : (l : List ℕ) → reaches (map held l) ≡ reaches l
unfolding reaches
reaches_held [] = refl
reaches_held (n ∷ l) = ap₂ (λ (x y : Bool). cond x true y) (held_reaches n) (reaches_held l)

held_same : (l : List ℕ) → reaches l ≡ false → map held l ≡ l
unfolding reaches
held_same [] h = refl
held_same (n ∷ l) h = go (leb largest n) refl h (held_same l)
  where
    go : (b : Bool) → leb largest n ≡ b → cond b true (reaches l) ≡ false → (reaches l ≡ false → map held l ≡ l) → map held (n ∷ l) ≡ n ∷ l
    go true e z rest = absurd (false≢true (sym z))
    go false e z rest = let k = leb-false largest n e in λ i. at_most_low largest n (omega arith) i ∷ rest z i

sum_told : (w k : ℕ) (t : Tally) → sum_of (known 0 0 w (map held (numbers_of t)) false k) ≡ told (Ok t)
unfolding sum_of
sum_told w k t = go (reaches (numbers_of t)) refl
  where
    go : (b : Bool) → reaches (numbers_of t) ≡ b →
        ◌≡◌ {A = Result Report SumError} (cond (reaches (map held (numbers_of t))) (Err TooLarge) (Ok (Ok (tally_in (map held (numbers_of t))))))
        (cond (reaches (numbers_of t)) (Err TooLarge) (Ok (Ok t)))
    go true e = rw (reaches_held (numbers_of t), e)
    go false e = rw (reaches_held (numbers_of t), e) (ap (λ (l : List ℕ). Ok (Ok (tally_in l))) (held_same (numbers_of t) e))

-- ---- reports end to end

longer_stays : (l : List Report) → all_from (Err Longer) l ≡ Err Longer
longer_stays [] = refl
longer_stays (s ∷ l) = longer_stays l

longer_all : (l : List Report) (w : ℕ) (T : List ℕ) (k : ℕ) → sum_of (read_of reports (known 0 0 w T true k) (sheets l)) ≡ Ok (Err Longer)
unfolding sum_of sheet_of read_of
longer_all [] w T k = refl
longer_all (Err Longer ∷ l) w T k = ap sum_of ((refused_lead w T true k).on (sheets l)) ∙ longer_all l w T _
longer_all (Ok t ∷ l) w T k = ap sum_of ((tallied_lead w T true k t).on (sheets l)) ∙ longer_all l _ _ _

tallied_all : (l : List Report) (w k : ℕ) (t : Tally) → Each Whole l →
    sum_of (read_of reports (known 0 0 w (map held (numbers_of t)) false k) (sheets l)) ≡ told (all_from (Ok t) l)
unfolding sheet_of read_of
tallied_all [] w k t h = sum_told w k t
tallied_all (Err Longer ∷ l) w k t h =
    ap sum_of ((refused_lead w (map held (numbers_of t)) false k).on (sheets l)) ∙ longer_all l w (map held (numbers_of t)) _
    ∙ sym (ap told (longer_stays l))
tallied_all (Ok u ∷ l) w k t h =
    ap sum_of ((tallied_lead w (map held (numbers_of t)) false k u).on (sheets l)
    ∙ ap (λ (T : List ℕ). read_of reports (known 0 0 (held (mean_of u).whole) T false (held (k + 1))) (sheets l)) (after_is t u w h.0))
    ∙ tallied_all l (held (mean_of u).whole) (held (k + 1)) (plus t u) h.1

read_back : (l : List Report) → Each Whole l → sum_of (read_of reports nothing (sheets l)) ≡ told (all_from (Ok none) l)
unfolding at_most
read_back l h = tallied_all l 0 0 none h

-- ---- how many reports were read

one_more : (n : ℕ) {k : ℕ} → k ≡ held n → held (k + 1) ≡ held (n + 1)
one_more n e = ap (λ (x : ℕ). held (x + 1)) e ∙ held_left n 1

-- m in all, of which n were read before
number_from_law : (l : List Report) (w : ℕ) (T : List ℕ) (o : Bool) (k n m : ℕ) → k ≡ held n → n + length l ≡ m →
    ReadAs m (read_of reports (known 0 0 w T o k) (sheets l))
unfolding sheet_of read_of
number_from_law [] w T o k n m e f = (refl, e ∙ ap held (omega arith))
number_from_law (Err Longer ∷ l) w T o k n m e f =
    rw ((refused_lead w T o k).on (sheets l)) (number_from_law l w T true _ (n + 1) m (one_more n e) (omega arith))
number_from_law (Ok t ∷ l) w T o k n m e f =
    rw ((tallied_lead w T o k t).on (sheets l)) (number_from_law l _ _ o _ (n + 1) m (one_more n e) (omega arith))

number : (l : List Report) → ReadAs (length l) (read_of reports nothing (sheets l))
unfolding at_most
number l = number_from_law l 0 (map held (numbers_of none)) false 0 0 (length l) refl (omega arith)

-- ---- blocks end to end

tally_none : tally [] ≡ none
unfolding tally_of marks_of in_line pairs_of
tally_none = rw (scenes_end [] (omega arith))

ended_none : Ended []
ended_none = rw (scenes_end [] (omega arith)) tt

ended_join : (x y : List ℕ) → Ended x → Ended y → Ended (x ++ y)
ended_join x y h k = rw (parts.joined x y h) (each_append (λ s. whole s ≡ true) (scenes_of x) (scenes_of y) h k)

report_is : (x : List ℕ) → Kept x → Ok (tally x) ≡ report_of x
report_is x k = report_tallied x k.fits refl

counted_each : (l : List (List ℕ)) → Each Kept l → Each Whole (reports_of l)
counted_each [] h = tt
counted_each (x ∷ l) h = (subst Whole (report_is x h.0) (merging.counted x), counted_each l h.1)

joined : (x : List ℕ) → Ended x → (l : List (List ℕ)) → Each Kept l →
    all_from (Ok (tally x)) (reports_of l) ≡ Ok (tally (x ++ end_to_end l))
joined x e [] h = ap (λ (s : List ℕ). Ok (tally s)) (sym (append-nil x))
joined x e (y ∷ l) h =
    ap (λ (r : Report). all_from (both (Ok (tally x)) r) (reports_of l)) (sym (report_is y h.0))
    ∙ ap (λ (t : Tally). all_from (Ok t) (reports_of l)) (sym (merging.sum x y e))
    ∙ joined (x ++ y) (ended_join x y e h.0.ended) l h.1
    ∙ ap (λ (s : List ℕ). Ok (tally s)) (append_assoc x y (end_to_end l))

blocks : (l : List (List ℕ)) → Each Kept l → sum_of (read_of reports nothing (sheets (reports_of l))) ≡ told (Ok (tally (end_to_end l)))
blocks l h =
    read_back (reports_of l) (counted_each l h)
    ∙ ap told (ap (λ (t : Tally). all_from (Ok t) (reports_of l)) (sym tally_none) ∙ joined [] ended_none l h)

-- ---- order and grouping

order : (r s : Report) → both r s ≡ both s r
order (Err Longer) (Err Longer) = refl
order (Err Longer) (Ok u) = refl
order (Ok t) (Err Longer) = refl
order (Ok t) (Ok u) = ap Ok (merging.order t u)

split : (r s q : Report) → both (both r s) q ≡ both r (both s q)
split (Err Longer) s q = refl
split (Ok t) (Err Longer) q = refl
split (Ok t) (Ok u) (Err Longer) = refl
split (Ok t) (Ok u) (Ok v) = ap Ok (merging.split t u v)

-- ---- a text in pieces

stays : (r : Reading) (t : List ℕ) → leb (length reports) r.at ≡ true → read_of reports r t ≡ r
unfolding read_of
stays r [] e = refl
stays r (b ∷ t) e = rw e

pieces : (r : Reading) (s t : List ℕ) → read_of reports r (s ++ t) ≡ read_of reports (read_of reports r s) t
unfolding read_of
pieces r [] t = refl
pieces r (b ∷ s) t = go (leb (length reports) r.at) refl (pieces (next_of reports r b) s t)
  where
    go : (o : Bool) → leb (length reports) r.at ≡ o →
        read_of reports (next_of reports r b) (s ++ t) ≡ read_of reports (read_of reports (next_of reports r b) s) t →
        cond o r (read_of reports (next_of reports r b) (s ++ t)) ≡ read_of reports (cond o r (read_of reports (next_of reports r b) s)) t
    go true e rest = sym (stays r t e)
    go false e rest = rest

pub sheets_back : Sheets
sheets_back = record { read_back = read_back; number = number; blocks = blocks; order = order; split = split; pieces = pieces }
