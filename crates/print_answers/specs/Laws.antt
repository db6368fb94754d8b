-- A mask's line by its words, a record's by its refusal, and the turns of filling lent places. Assumes nothing.
use Rattle.std.specs.Prelude.{ℕ, ◌+◌, ◌-◌, ◌*◌, ◌/◌, ◌%◌, ◌^◌, ◌≤◌, ◌<◌, min, Bool, not, ◌≡◌, refl, List, [], ◌∷◌, ◌++◌, length, take, drop, set, Ok, Err}
use Rattle.std.proofs.Common.{sym, ap, ap₂, ◌∙◌, subst, add-one, arith, take-suc-set, take_all, take_at, drop_at, length-take-le}
use Rattle.laws.specs.Lists.{run_append}
use Rattle.scene.specs.declared.Refusal.{Refusal}
use Rattle.judge.specs.Judge.{Judged}
use Rattle.record.specs.Shown.{shown, refusal}
use Rattle.pierce_masks.specs.Faces.{value_of}
use Rattle.pierce_masks.specs.declared.Mask.{Mask}
use Rattle.questions.specs.Answers.{faces_are, IsListed}
use Rattle.questions.specs.Types.{Listed}
use Rattle.print.specs.Text.{ascii, decimal, line, text}
use Rattle.print.specs.Back.{Words}
use Rattle.print.specs.Put.{behind, Put, end_to_end}
use Rattle.print_lines.specs.Lines.{mask_line, refused_line, record_line, kept_line}
use Rattle.print_lines.specs.Rows.{rows_in, fitting, IsRows}
use Rattle.print_lines.specs.declared.rows.RowsPut.{RowsPut}
use Rattle.print_lines.specs.Laws.{by_case}
use Rattle.print_answers.specs.Said.{words_line, shown_line, listed_line}
use Rattle.print_answers.specs.Lent.{pattern, filled, are_touched, IsLent, rows_of, lent_text}

pub words_are : (m : Mask) (ones : ℕ) → m.low < 2 ^ 64 → {l : List ℕ} {at : ℕ} {l' : List ℕ} {p : ℕ} →
    Put l at (line (mask_line (Ok (m, ones)))) l' p → Put l at (line (words_line (faces_are (value_of m) ones))) l' p
unfolding value_of
words_are m ones h {l} {at} {l'} {p} x =
    let low : m.low ≡ (m.low + 2 ^ 64 * m.high) % 2 ^ 64 = omega arith in
    let high : m.high ≡ (m.low + 2 ^ 64 * m.high) / 2 ^ 64 = omega arith in
    subst (λ (w : Words). Put l at (line w) l' p)
    (ap₂ (λ (a b : ℕ). ascii "mask" ∷ decimal a ∷ decimal b ∷ decimal ones ∷ []) low high) x

-- of o, what `record_refusal` answered
module _ (s : List ℕ) (k : ℕ) {o : Judged} (j : o ≡ refusal s k) {l : List ℕ} {at : ℕ} {l' : List ℕ} {p : ℕ} where
  pub shown_refused : {r : Refusal} → o ≡ Err r → Put l at (line (refused_line r)) l' p →
      Put l at (line (shown_line (refusal s k) (shown s k))) l' p
  shown_refused e x = by_case (λ (i : Judged). shown_line i (shown s k)) (sym j ∙ e) x

  pub shown_all : {t : List ℕ} → o ≡ Ok tt → t ≡ shown s k → Put l at (line (record_line t)) l' p →
      Put l at (line (shown_line (refusal s k) (shown s k))) l' p
  shown_all e q x = by_case (λ (i : Judged). shown_line i (shown s k)) (sym j ∙ e) (by_case record_line (sym q) x)

-- the first i places are filled
pub fill_none : (l : List ℕ) → take 0 l ≡ filled 0
unfolding filled
fill_none l = refl

pub fill_more : (l : List ℕ) (i : ℕ) {b : ℕ} → i < length l → take i l ≡ filled i → b ≡ pattern i →
    take (i + 1) (set l i b) ≡ filled (i + 1)
unfolding filled
fill_more l i {b} h so_far e =
    let k : 0 + i ≡ i = omega arith in
    ap (λ (k : ℕ). take k (set l i b)) (add-one i) ∙ take-suc-set l i b h
    ∙ ap₂ (λ (t : List ℕ) (x : ℕ). t ++ (x ∷ [])) so_far (e ∙ ap pattern (sym k)) ∙ run_append pattern 0 i 1

pub fill_all : (l : List ℕ) (i n : ℕ) → length l ≡ n → length l ≤ i → i ≤ length l → take i l ≡ filled i → l ≡ filled n
fill_all l i n e h k so_far =
    let q : i ≡ n = omega arith in
    sym (take_all i l h) ∙ so_far ∙ ap filled q

-- the front of the places is what the listing left, behind it they are as they were filled
pub lent_is : (s : List ℕ) (places : ℕ) (d : List ℕ) {n : ℕ} {f front : List ℕ} {r : Listed} → f ≡ filled (length d) →
    n ≡ min places (length f) →
    length f ≡ length d → length front ≡ length (take n f) → IsListed s (take n f) front r → IsLent s places d (front ++ drop n f) r
lent_is s places d {n} {f} {front} {r} e k len same x =
    let m : min places (length d) ≡ n = omega arith in
    let size : length front ≡ n = same ∙ length-take-le n f (omega arith) in
    record {
      listed =
          subst (λ (i : ℕ). IsListed s (take i (filled (length d))) (take i (front ++ drop n f)) r) (sym m)
          (subst (λ (g : List ℕ). IsListed s (take n g) (take n (front ++ drop n f)) r) e
          (subst (λ (t : List ℕ). IsListed s (take n f) t r) (sym (take_at front (drop n f) n size)) x));
      rest =
          ap (λ (i : ℕ). drop i (front ++ drop n f)) m ∙ drop_at front (drop n f) n size
          ∙ ap₂ (λ (i : ℕ) (g : List ℕ). drop i g) (sym m) e;
    }

-- the line, the rows and the last line, one after the other
pub lent_put : (a : Listed) (list : List ℕ) {l : List ℕ} {at : ℕ} {m₁ : List ℕ} {q : ℕ} {m₂ : List ℕ} {part : RowsPut} {m₃ : List ℕ} {p : ℕ}
    {n k : ℕ} {b : Bool} →
    n ≡ rows_of a → k ≡ min n (length list / 3) → b ≡ are_touched list (3 * k) → Put l at (line (listed_line a)) m₁ q →
    IsRows (rows_in list n) m₁ q m₂ part → Put m₂ part.end (line (kept_line (not b))) m₃ p →
    Put l at (lent_text (length l - at) a list) m₃ p
unfolding lent_text behind
lent_put a list {l} {at} {m₁} {q} {m₂} {part} {m₃} {p} {n} {b} e h t x y z =
    let room : length m₁ - q ≡ length l - at - length (line (listed_line a)) = omega (arith, x.kept, x.place) in
    let left : not b ≡ not (are_touched list (3 * min (rows_of a) (length list / 3))) =
    ap not (t ∙ ap (λ (i : ℕ). are_touched list (3 * i)) (h ∙ ap (λ (i : ℕ). min i (length list / 3)) e)) in
    end_to_end x
    (end_to_end
    (subst (λ (i : ℕ). Put m₁ q (text (fitting i (rows_in list (rows_of a)))) m₂ part.end) room
    (subst (λ (i : ℕ). Put m₁ q (text (fitting (length m₁ - q) (rows_in list i))) m₂ part.end) e y.held))
    (by_case kept_line (sym left) z))
