-- Where a line ends, and that a comment's gap goes on there. Assumes nothing.
use Rattle.std.specs.Prelude.{ℕ, suc, ◌+◌, ◌<◌, ◌≤◌, ◌≡◌, refl, Bool, true, false, not, eqb, length, get_or, drop}
use Rattle.std.proofs.Common.{sym, ◌∙◌, arith, add-one, rules, eqb-true, eq-eqb, ne_eqb, drop_of_length-le, drop-cons, drop-drop}
use Rattle.std.proofs.Math.Path.{ap}
use mathlib.Core.List.{List, [], ◌∷◌}
use Rattle.std.proofs.Math.Bool.{cond}
use Rattle.off_items.specs.Items.{newline, separates, begins, comments, gap}

-- how many bytes come before the line's end
unfoldable pub line : List ℕ → ℕ
line [] = 0
line (c ∷ s) = cond (eqb c newline) 0 (suc (line s))

unfoldable pub line_end : List ℕ → ℕ → ℕ
line_end s i = i + line (drop i s)

-- ---- the loop over a line: the rest ends where the line does

module _ (s : List ℕ) (i : ℕ) {w : ℕ} (inv : i + line (drop i s) ≡ w) where
  pub line_stop : length s ≤ i → i ≡ w
  unfolding line
  line_stop h = omega (arith, ap line (drop_of_length-le s h), inv)

  module _ (h : i < length s) where
    line_turn : {b : Bool} → eqb (get_or s i 0) newline ≡ b → i + cond b 0 (suc (line (drop (suc i) s))) ≡ w
    unfolding line
    line_turn e =
        ap (λ (b : Bool). i + cond b 0 (suc (line (drop (suc i) s)))) (sym e)
        ∙ ap (λ (l : List ℕ). i + line l) (sym (drop-cons s i 0 h)) ∙ inv

    pub line_found : get_or s i 0 ≡ newline → i ≡ w
    line_found e = omega (arith, line_turn (eq-eqb (get_or s i 0) newline e))

    pub line_next : (get_or s i 0 ≡ newline → ⊥) → (i + 1) + line (drop (i + 1) s) ≡ w
    line_next e =
        let f : line (drop (i + 1) s) ≡ line (drop (suc i) s) = ap (λ (k : ℕ). line (drop k s)) (add-one i) in
        omega (arith, line_turn (ne_eqb (get_or s i 0) newline e))

-- ---- the gap inside a comment is that from the line's end on

gap_line : (l : List ℕ) → gap true l ≡ line l + gap false (drop (line l) l)
unfolding gap line begins comments separates
gap_line [] = refl
gap_line (c ∷ l) = by (eqb c newline) refl (gap_line l)
  where
    by : (b : Bool) → eqb c newline ≡ b → gap true l ≡ line l + gap false (drop (line l) l) →
        suc (gap (not b) l) ≡ cond b 0 (suc (line l)) + gap false (drop (cond b 0 (suc (line l))) (c ∷ l))
    by true e h =
        let f : suc (gap false l) ≡ 0 + suc (gap false l) = omega arith in
        f ∙ sym (ap (λ (k : ℕ). 0 + gap false (k ∷ l)) (eqb-true c newline e))
    by false e h = omega arith

pub comment_passed : (s : List ℕ) (i : ℕ) {k : ℕ} → k ≡ line_end s i → k + gap false (drop k s) ≡ i + gap true (drop i s)
unfolding line_end
comment_passed s i {k} e =
    let f : gap false (drop k s) ≡ gap false (drop (line (drop i s)) (drop i s)) =
    ap (λ (n : ℕ). gap false (drop n s)) e ∙ sym (ap (gap false) (drop-drop (line (drop i s)) i s)) in
    omega (arith, gap_line (drop i s))

pub ruleset ends = (line_stop, line_found, line_next, rules)
