-- A drawing reads back: it has the form of a text, and the solid that it denotes is the one that was drawn. Assumes nothing.
use Rattle.std.specs.Prelude.{ℕ, ◌-◌, ◌≡◌, refl, Bool, true, false, not, ◌&&◌, ◌||◌, ltb, ℤ, pos, negsuc, length, drop}
use Rattle.std.proofs.Common.{sym, ap, subst, arith, ltb-false}
use mathlib.Core.List.{List, [], ◌∷◌, ◌++◌, map, flat_map, append-nil}
use Rattle.laws.specs.Lists.{Each}
use Rattle.print.specs.Text.{ascii, decimal, decimal_in, line, text}
use Rattle.scene.specs.Tables.{Table, size}
use Rattle.scene.specs.declared.Row.{Row}
use Rattle.scene.specs.declared.Face.{Face}
use Rattle.off_items.specs.Items.{separates, begins, comments, gap, word, start_of, word_end, after}
use Rattle.off_form.specs.Form.{is_off, is_three, is_four, keyword, numbers_of}
use Rattle.off_write.specs.Drawing.{is_one, weighted, keyword_line, counts_line, row_words, face_words, drawn}
use Rattle.theorem_off.specs.Words.{Word, OneWord, Rest, behind, Tells, none, a_newline, decimal_worded}
use Rattle.theorem_off.specs.Words.{signed_worded, Line, lines_tell, text_tells}
use Rattle.theorem_off.specs.Redrawn.{per, Shown, Cornered, Denotes, told}

-- ---- the keyword

keyword_told : (four : Bool) (t : List ℕ) →
    (numbers_of (keyword_line four ++ t) ≡ per four) × (drop (after (keyword_line four ++ t) 1) (keyword_line four ++ t) ≡ 10 ∷ t)
unfolding keyword is_three is_four is_off start_of word_end gap word begins comments separates
keyword_told true t = (refl, refl)
keyword_told false t = (refl, refl)

-- ---- where no weight is written, each is 1

both_not : (a b : Bool) → (not a && not b) ≡ true → (a ≡ false) × (b ≡ false)
both_not false false h = (refl, refl)
both_not false true h = (refl, sym h)
both_not true b h = (sym h, let z : ◌≡◌ {A = ℕ} 0 1 = cc in absurd (omega arith))

one_only : (z : ℤ) → is_one z ≡ true → z ≡ pos 1
unfolding is_one
one_only (pos n) h =
    let p = both_not (ltb n 1) (ltb 1 n) h in
    let e : n ≡ 1 = omega (arith, ltb-false n 1 p.0, ltb-false 1 n p.1) in
    ap pos e
one_only (negsuc n) h = let z : ◌≡◌ {A = ℕ} 0 1 = cc in absurd (omega arith)

neither : (a b : Bool) → (not a || b) ≡ false → (a ≡ true) × (b ≡ false)
neither true b h = (refl, h)
neither false b h = let z : ◌≡◌ {A = ℕ} 0 1 = cc in absurd (omega arith)

turned : (r : Row) (rs : List Row) → weighted (r ∷ rs) ≡ false → (is_one r.w ≡ true) × (weighted rs ≡ false)
unfolding weighted
turned r rs e = neither (is_one r.w) (weighted rs) e

shown : (four : Bool) (rs : List Row) → weighted rs ≡ four → Each (Shown four) rs
shown true rs e = all rs
  where
    all : (rs : List Row) → Each (Shown true) rs
    all [] = tt
    all (r ∷ rs) = (tt, all rs)
shown false [] e = tt
shown false (r ∷ rs) e = let p = turned r rs e in (one_only r.w p.0, shown false rs p.1)

-- ---- its lines

zero_is : ascii "0" ≡ decimal 0
unfolding decimal decimal_in
zero_is = refl

three_worded : OneWord (ascii "3")
unfolding separates
three_worded = record { some = omega arith; bare = (refl, tt) }

row_line : (four : Bool) (r : Row) → Line (row_words four r)
row_line true r =
    record {
      first = _;
      others = _;
      is = refl;
      worded = (signed_worded r.x, (signed_worded r.y, (signed_worded r.z, (signed_worded r.w, tt))));
    }
row_line false r =
    record { first = _; others = _; is = refl; worded = (signed_worded r.x, (signed_worded r.y, (signed_worded r.z, tt))) }

face_line : (f : Face) → Line (face_words f)
face_line f =
    record {
      first = _;
      others = _;
      is = refl;
      worded = (three_worded, (decimal_worded (f.p - 1), (decimal_worded (f.q - 1), (decimal_worded (f.r - 1), tt))));
    }

counts_line_law : (v f : ℕ) → Line (decimal v ∷ decimal f ∷ decimal 0 ∷ [])
counts_line_law v f = record { first = _; others = _; is = refl; worded = (decimal_worded v, (decimal_worded f, (decimal_worded 0, tt))) }

-- ---- the theorem

pub drawing_back : (t : Table) → Each Cornered t.faces → Denotes (drawn t) t
drawing_back t h =
    let four = weighted t.rows in
    let shapes = text (map face_words t.faces) in
    let body = text (map (row_words four) t.rows) ++ shapes in
    let faces-tell : Tells shapes (flat_map face_words t.faces ++ []) =
    subst (λ (l : List ℕ). Tells l (flat_map face_words t.faces ++ [])) (append-nil shapes)
    (text_tells face_words face_line t.faces none) in
    let all_tell = lines_tell (decimal (size t) ∷ decimal (length t.faces) ∷ decimal 0 ∷ []) (counts_line_law (size t) (length t.faces))
    (text_tells (row_words four) (row_line four) t.rows faces-tell) in
    let counts_same : line (decimal (size t) ∷ decimal (length t.faces) ∷ decimal 0 ∷ []) ++ body ≡ counts_line (size t)
    (length t.faces) ++ body =
    ap (λ (w : Word). line (decimal (size t) ∷ decimal (length t.faces) ∷ w ∷ []) ++ body) (sym zero_is) in
    let words : List Word =
    decimal (size t) ∷ decimal (length t.faces) ∷ decimal 0 ∷
    (flat_map (row_words four) t.rows ++ (flat_map face_words t.faces ++ [])) in
    let k = keyword_told four (counts_line (size t) (length t.faces) ++ body) in
    told (drawn t) four k.0 t (shown four t.rows refl) h
    (subst (λ (l : List ℕ). Rest l words) (sym k.1) (behind a_newline (subst (λ (l : List ℕ). Tells l words) counts_same all_tell)))
