-- What each call adds to the text. Assumes nothing.
use Prim.Native.Nat.{ℕ, suc, ◌+◌, ◌-◌, ◌<◌, ◌≤◌}
use Rattle.std.specs.Prelude.{◌≡◌, refl, Bool, true, false, ◌&&◌, ◌||◌, ℤ, pos, length}
use Rattle.std.proofs.Math.Path.{sym, ap, ap₂}
use Rattle.std.proofs.Common.{◌∙◌, subst, SFits}
use Rattle.std.proofs.Math.Bool.{not}
use mathlib.Core.List.{List, [], ◌∷◌, ◌++◌, map, append_assoc, append-nil}
use native.Mathlib.Omega.{arith}
use Rattle.std.specs.Int.Signed.{lt_z}
use Rattle.std.specs.Int.{w64}
use Rattle.std.proofs.lemmas.Int.{to_z-of_z}
use Rattle.laws.specs.Lists.{run, run_append, length_run}
use Rattle.print.specs.Text.{decimal, signed_decimal, line, text}
use Rattle.print.specs.Back.{Words}
use Rattle.print.specs.Size.{reread}
use Rattle.print.specs.Put.{Put, end_to_end, put_nothing}
use Rattle.scene.specs.Tables.{tables_of, row, face}
use Rattle.scene.specs.View.{view_of, solid}
use Rattle.scene.specs.declared.Row.{Row}
use Rattle.scene.specs.declared.Solid.{Solid}
use Rattle.off_write.specs.Drawing.{is_one, weighted, keyword_line, counts_line, row_words, face_words, lowered, rows_in, faces_in, table_in}
use Rattle.off_write.specs.Drawing.{drawn, drawn_of}

-- ---- a weight

module _ (z : ℤ) (fits : SFits w64 z) where
  below : {o : Bool} → lt_z (reread z) (pos 1) ≡ o → lt_z z (pos 1) ≡ o
  below e = ap (λ (y : ℤ). lt_z y (pos 1)) (sym (to_z-of_z w64 z fits)) ∙ e

  above : {o : Bool} → lt_z (pos 1) (reread z) ≡ o → lt_z (pos 1) z ≡ o
  above e = ap (λ (y : ℤ). lt_z (pos 1) y) (sym (to_z-of_z w64 z fits)) ∙ e

  pub one_below : lt_z (reread z) (pos 1) ≡ true → false ≡ is_one z
  unfolding is_one
  one_below e = sym (ap (λ (b : Bool). not b && not (lt_z (pos 1) z)) (below e))

  module _ (h : lt_z (reread z) (pos 1) ≡ false) where
    pub one_above : lt_z (pos 1) (reread z) ≡ true → false ≡ is_one z
    unfolding is_one
    one_above e = sym (ap₂ (λ (a b : Bool). not a && not b) (below h) (above e))

    pub one_is : lt_z (pos 1) (reread z) ≡ false → true ≡ is_one z
    unfolding is_one
    one_is e = sym (ap₂ (λ (a b : Bool). not a && not b) (below h) (above e))

-- ---- whether one of the points has another weight: the rest says what all say

pub weighted_start : (g : ℕ → Row) (k n : ℕ) → weighted (run g (k + 0) (n - 0)) ≡ weighted (run g k n)
weighted_start g k n =
    let e : k + 0 ≡ k = omega arith in
    let d : n - 0 ≡ n = omega arith in
    ap₂ (λ (a b : ℕ). weighted (run g a b)) e d

module _ (g : ℕ → Row) (k n i : ℕ) {w : Bool} (inv : weighted (run g (k + i) (n - i)) ≡ w) where
  pub weighted_stop : n ≤ i → false ≡ w
  unfolding weighted
  weighted_stop h = let e : n - i ≡ 0 = omega arith in sym (ap (λ (m : ℕ). weighted (run g (k + i) m)) e) ∙ inv

  module _ {r : Row} {o : Bool} (h : i < n) (p : r ≡ g (k + i)) (q : o ≡ is_one r.w) where
    turn : (not o || weighted (run g (k + (i + 1)) (n - (i + 1)))) ≡ w
    unfolding weighted
    turn =
        let e : n - i ≡ suc (n - (i + 1)) = omega arith in
        let d : suc (k + i) ≡ k + (i + 1) = omega arith in
        ap₂ (λ (b : Bool) (m : ℕ). not b || weighted (run g m (n - (i + 1)))) (q ∙ ap (λ (r : Row). is_one r.w) p) (sym d)
        ∙ sym (ap (λ (m : ℕ). weighted (run g (k + i) m)) e) ∙ inv

    pub weighted_found : not o ≡ true → true ≡ w
    weighted_found f = ap (λ (b : Bool). b || weighted (run g (k + (i + 1)) (n - (i + 1)))) (sym f) ∙ turn

    pub weighted_next : not o ≡ false → weighted (run g (k + (i + 1)) (n - (i + 1))) ≡ w
    weighted_next f = ap (λ (b : Bool). b || weighted (run g (k + (i + 1)) (n - (i + 1)))) (sym f) ∙ turn

-- ---- lines

map_append : {A : Type 0} (f : A → Words) (xs ys : List A) → map f (xs ++ ys) ≡ map f xs ++ map f ys
map_append f [] ys = refl
map_append f (x ∷ xs) ys = ap (λ (l : List Words). f x ∷ l) (map_append f xs ys)

text_append : (a b : List Words) → text (a ++ b) ≡ text a ++ text b
unfolding text
text_append [] b = refl
text_append (w ∷ a) b = ap (λ (t : List ℕ). line w ++ t) (text_append a b) ∙ sym (append_assoc (line w) (text a) (text b))

-- none yet, and one line more
module _ {A : Type 0} (f : A → Words) (g : ℕ → A) (k : ℕ) where
  pub lines_none : (l : List ℕ) (at : ℕ) → at ≤ length l → Put l at (text (map f (run g k 0))) l at
  unfolding text
  lines_none l at h = put_nothing l at h

  one_more : (i : ℕ) → text (map f (run g k (i + 1))) ≡ text (map f (run g k i)) ++ line (f (g (k + i)))
  unfolding text
  one_more i =
      ap (λ (xs : List A). text (map f xs)) (sym (run_append g k i 1)) ∙ ap text (map_append f (run g k i) (run g (k + i) 1))
      ∙ text_append (map f (run g k i)) (map f (run g (k + i) 1))
      ∙ ap (λ (t : List ℕ). text (map f (run g k i)) ++ t) (append-nil (line (f (g (k + i)))))

  pub lines_more : (i : ℕ) {l : List ℕ} {at : ℕ} {m n : List ℕ} {p q : ℕ} {x : A} →
      Put l at (text (map f (run g k i))) m p → x ≡ g (k + i) → Put m p (line (f x)) n q →
      Put l at (text (map f (run g k (i + 1)))) n q
  lines_more i {l} {at} {n = n} {q = q} {x = x} a e b =
      subst (λ (t : List ℕ). Put l at t n q) (ap (λ (y : A). text (map f (run g k i)) ++ line (f y)) e ∙ sym (one_more i)) (end_to_end a b)

  pub lines_all : {n i : ℕ} {l : List ℕ} {at : ℕ} {m : List ℕ} {p : ℕ} → i ≤ n → n ≤ i →
      Put l at (text (map f (run g k i))) m p → Put l at (text (map f (run g k n))) m p
  lines_all {n} {i} {l} {at} {m} {p} h j x =
      let e : i ≡ n = omega arith in
      subst (λ (i : ℕ). Put l at (text (map f (run g k i))) m p) e x

-- ---- what was put, in other words

module _ {l : List ℕ} {at : ℕ} {m : List ℕ} {p : ℕ} where
  pub put_as : {t u : List ℕ} → t ≡ u → Put l at t m p → Put l at u m p
  put_as e x = subst (λ (t : List ℕ). Put l at t m p) e x

  pub number_put : {n k : ℕ} → n ≡ k → Put l at (32 ∷ decimal n) m p → Put l at (32 ∷ decimal k) m p
  number_put e x = put_as (ap (λ (n : ℕ). 32 ∷ decimal n) e) x

  pub first_put : (z : ℤ) → SFits w64 z → Put l at (signed_decimal (reread z)) m p → Put l at (signed_decimal z) m p
  first_put z fits x = put_as (ap signed_decimal (to_z-of_z w64 z fits)) x

  pub signed_put : (z : ℤ) → SFits w64 z → Put l at (32 ∷ signed_decimal (reread z)) m p → Put l at (32 ∷ signed_decimal z) m p
  signed_put z fits x = put_as (ap (λ (y : ℤ). 32 ∷ signed_decimal y) (to_z-of_z w64 z fits)) x

  pub keyword_put : {o b : Bool} → o ≡ b → Put l at (keyword_line b) m p → Put l at (keyword_line o) m p
  keyword_put e x = put_as (ap keyword_line (sym e)) x

  pub row_put : {o b : Bool} (r : Row) → o ≡ b → Put l at (line (row_words b r)) m p → Put l at (line (row_words o r)) m p
  row_put r e x = put_as (ap (λ (b : Bool). line (row_words b r)) (sym e)) x

-- ---- the whole: its parts by the solid's numbers

abbrev parts : List ℕ → Solid → Bool → List ℕ
parts s o b =
    keyword_line b
    ++ (counts_line o.verts o.faces
    ++ (rows_in s (o.vert0 + 1) o.verts b ++ faces_in s (o.face0 + 1) o.faces o.vert0))

module _ {A B : Type 0} (f : A → B) where
  length_map : (xs : List A) → length (map f xs) ≡ length xs
  length_map [] = refl
  length_map (x ∷ xs) = ap suc (length_map xs)

  map_map : {C : Type 0} (g : B → C) (xs : List A) → map (λ (x : A). g (f x)) xs ≡ map g (map f xs)
  map_map g [] = refl
  map_map {C} g (x ∷ xs) = ap (λ (l : List C). g (f x) ∷ l) (map_map g xs)

parts_drawn : (s : List ℕ) (o : Solid) {b : Bool} → b ≡ weighted (table_in s o).rows → parts s o b ≡ drawn (table_in s o)
parts_drawn s o eb =
    let fs = run (face (tables_of s)) (o.face0 + 1) o.faces in
    let ev : o.verts ≡ length (table_in s o).rows = sym (length_run (row (tables_of s)) (o.vert0 + 1) o.verts) in
    let ec : o.faces ≡ length (table_in s o).faces =
    sym (length_map (lowered o.vert0) fs ∙ length_run (face (tables_of s)) (o.face0 + 1) o.faces) in
    let ef = ap text (map_map (lowered o.vert0) face_words fs) in
    λ i. keyword_line (eb i) ++ (counts_line (ev i) (ec i) ++ (text (map (row_words (eb i)) (table_in s o).rows) ++ ef i))

pub drawing_put : {l : List ℕ} {at : ℕ} {m : List ℕ} {p : ℕ} (s : List ℕ) (k : ℕ) {o : Solid} {b : Bool} → o ≡ solid (view_of s) k →
    b ≡ weighted (run (row (tables_of s)) (o.vert0 + 1) o.verts) → Put l at (parts s o b) m p → Put l at (drawn_of s k) m p
drawing_put s k {o} e q x = put_as (parts_drawn s o q ∙ ap (λ (o : Solid). drawn (table_in s o)) e) x
