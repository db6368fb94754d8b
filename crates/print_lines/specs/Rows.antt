-- The rows of a lent list, three numbers a row, and as many of them as have room. Assumes nothing.
use Rattle.std.specs.Prelude.{ℕ, ◌+◌, ◌-◌, ◌*◌, ◌/◌, ◌^◌, ◌≤◌, ◌<◌, min, ◌≡◌, Bool, true, false, not, cond, leb, take, drop, get_or}
use Rattle.std.proofs.Math.Path.{refl, sym, subst}
use Rattle.std.proofs.Common.{ap, ap₂, ◌∙◌, add-one, arith, le-leb, leb-true, leb-false, length-append, drop_of_length-le, take-suc, take_all, drop-cons, length-take-le}
use mathlib.Core.List.{List, [], ◌∷◌, ◌++◌, map, append-nil, append_assoc}
use Rattle.std.proofs.lemmas.Bool.{lt-leb, not-true, not-false}
use Rattle.std.proofs.Math.ListN.{length}
use Rattle.laws.specs.Lists.{run, length_run, run_at}
use Rattle.print.specs.Text.{ascii, decimal, ending, line, text}
use Rattle.print.specs.Decimal.{decimal_length}
use Rattle.print.specs.Back.{Words}
use Rattle.print.specs.Put.{Put, end_to_end, put_nothing, put_full, behind_fits}
use Rattle.print_lines.specs.Lines.{pair_line, record_line}
use Rattle.print_lines.specs.declared.rows.RowsPut.{RowsPut}

-- row i of a list
abbrev pub row_in : List ℕ → ℕ → Words
row_in l i = pair_line (get_or l (3 * i) 0) (get_or l (3 * i + 1) 0) (get_or l (3 * i + 2) 0)

-- the first n rows, or all that it has
unfoldable pub rows_in : List ℕ → ℕ → List Words
rows_in l n = run (row_in l) 0 (min n (length l / 3))

-- room for any row: three numbers of five digits, two spaces and the newline
abbrev pub longest : ℕ
longest = 18

-- the rows that are put where so many bytes are left: each while any row has room
unfoldable pub fitting : ℕ → List Words → List Words
fitting room [] = []
fitting room (w ∷ ws) = cond (leb longest room) (w ∷ fitting (room - length (line w)) ws) []

-- what rendering rows into a buffer at a place leaves, and answers; no row is cut
pub record IsRows (rows : List Words) (l : List ℕ) (at : ℕ) (m : List ℕ) (r : RowsPut) : Type 0 where
  pub count : r.count ≡ length (fitting (length l - at) rows)
  pub held : Put l at (text (fitting (length l - at) rows)) m r.end
  pub whole : at ≤ length l → r.end ≡ at + length (text (fitting (length l - at) rows))

-- numbers of 16 bits make a row that fits
pub record IsRow (u v f : ℕ) (l : List ℕ) (at : ℕ) (m : List ℕ) (p : ℕ) : Type 0 where
  pub held : Put l at (line (pair_line u v f)) m p
  pub short : length (line (pair_line u v f)) ≤ longest

-- bytes with a space before each
unfoldable pub spaced : List ℕ → List ℕ
spaced [] = []
spaced (b ∷ t) = 32 ∷ decimal b ++ spaced t

-- ---- laws

pub pair_short : (u v f : ℕ) → u < 2 ^ 16 → v < 2 ^ 16 → f < 2 ^ 16 → length (line (pair_line u v f)) ≤ longest
pair_short u v f a b c =
    let x = decimal_length 5 u (omega arith) (omega arith) in
    let y = decimal_length 5 v (omega arith) (omega arith) in
    let z = decimal_length 5 f (omega arith) (omega arith) in
    simp length-append (omega arith)

pub text_append : (a b : List Words) → text (a ++ b) ≡ text a ++ text b
unfolding text
text_append [] b = refl
text_append (w ∷ a) b = ap (λ (t : List ℕ). line w ++ t) (text_append a b) ∙ sym (append_assoc (line w) (text a) (text b))

pub text_one : (w : Words) → text (w ∷ []) ≡ line w
unfolding text
text_one w = append-nil (line w)

fitting_none : (room : ℕ) (ws : List Words) → room < longest → fitting room ws ≡ []
unfolding fitting
fitting_none room [] h = refl
fitting_none room (w ∷ ws) h = rw (lt-leb longest room h)

fitting_more : (room : ℕ) (w : Words) (ws : List Words) → longest ≤ room → fitting room (w ∷ ws) ≡ w ∷ fitting (room - length (line w)) ws
unfolding fitting
fitting_more room w ws h = rw (le-leb longest room h)

fitting_end : (room : ℕ) → fitting room [] ≡ []
unfolding fitting
fitting_end room = refl

module _ (rows : List Words) (l : List ℕ) (at : ℕ) where
  -- so many rows stand
  pub record Rendered (i : ℕ) (m : List ℕ) (p : ℕ) : Type 0 where
    pub some : i ≤ length rows
    pub so_far : Put l at (text (take i rows)) m p
    pub place : p ≡ at + length (text (take i rows))
    pub rest : take i rows ++ fitting (length l - p) (drop i rows) ≡ fitting (length l - at) rows

  pub rendered_none : at ≤ length l → Rendered 0 l at
  unfolding text
  rendered_none h = record { some = omega arith; so_far = put_nothing l at h; place = omega arith; rest = refl }

  -- no place in the buffer
  pub rows_none : length l < at → IsRows rows l at l (record { count = 0; end = length l })
  unfolding text
  rows_none h =
      let f = fitting_none (length l - at) rows (omega arith) in
      record {
        count = sym (ap length f);
        held = subst (λ (t : List Words). Put l at (text t) l (length l)) (sym f) (put_full l at [] (omega arith));
        whole = λ k. absurd (omega arith);
      }

  module _ {i : ℕ} {m : List ℕ} {p : ℕ} (s : Rendered i m p) where
    pub rendered_more : i < length rows → longest ≤ length l - p → {w : Words} → w ≡ get_or rows i [] → length (line w) ≤ longest →
        {n : List ℕ} {q : ℕ} → Put m p (line w) n q → Rendered (i + 1) n q
    rendered_more h room {w} e short {n} {q} x =
        let here : take (i + 1) rows ≡ take i rows ++ (w ∷ []) =
        ap (λ (k : ℕ). take k rows) (add-one i) ∙ take-suc rows i [] h ∙ ap (λ (v : Words). take i rows ++ (v ∷ [])) (sym e) in
        let texts : text (take (i + 1) rows) ≡ text (take i rows) ++ line w =
        ap text here ∙ text_append (take i rows) (w ∷ []) ∙ ap (λ (t : List ℕ). text (take i rows) ++ t) (text_one w) in
        let fits : q ≡ p + length (line w) = x.place ∙ behind_fits m p (line w) (omega (arith, s.so_far.kept)) in
        let tail : drop i rows ≡ w ∷ drop (i + 1) rows =
        drop-cons rows i [] h ∙ ap₂ (λ (v : Words) (k : ℕ). v ∷ drop k rows) (sym e) (sym (add-one i)) in
        let more : fitting (length l - p) (drop i rows) ≡ w ∷ fitting (length l - q) (drop (i + 1) rows) =
        ap (fitting (length l - p)) tail ∙ fitting_more (length l - p) w (drop (i + 1) rows) room
        ∙ ap (λ (k : ℕ). w ∷ fitting k (drop (i + 1) rows)) (omega arith) in
        record {
          some = omega arith;
          so_far = subst (λ (t : List ℕ). Put l at t n q) (sym texts) (end_to_end s.so_far x);
          place = omega (arith, fits, s.place, ap length texts ∙ length-append (text (take i rows)) (line w));
          rest =
              ap (λ (t : List Words). t ++ fitting (length l - q) (drop (i + 1) rows)) here
              ∙ append_assoc (take i rows) (w ∷ []) (fitting (length l - q) (drop (i + 1) rows))
              ∙ ap (λ (t : List Words). take i rows ++ t) (sym more) ∙ s.rest;
        }

    done : fitting (length l - p) (drop i rows) ≡ [] → IsRows rows l at m (record { count = i; end = p })
    done f =
        let all : take i rows ≡ fitting (length l - at) rows =
        sym (append-nil (take i rows)) ∙ ap (λ (t : List Words). take i rows ++ t) (sym f) ∙ s.rest in
        record {
          count = sym (length-take-le i rows s.some) ∙ ap length all;
          held = subst (λ (t : List Words). Put l at (text t) m p) all s.so_far;
          whole = λ h. s.place ∙ ap (λ (t : List Words). at + length (text t)) all;
        }

    pub rendered_full : length l - p < longest → IsRows rows l at m (record { count = i; end = p })
    rendered_full h = done (fitting_none (length l - p) (drop i rows) h)

    pub rendered_all : length rows ≤ i → IsRows rows l at m (record { count = i; end = p })
    rendered_all h = done (ap (fitting (length l - p)) (drop_of_length-le rows h) ∙ fitting_end (length l - p))

-- ---- of a lent list

pub room_left : {b : Bool} (n p : ℕ) → b ≡ leb longest (n - p) → not b ≡ false → longest ≤ n - p
room_left {b} n p e t = leb-true longest (n - p) (sym e ∙ not-false b t)

pub room_gone : {b : Bool} (n p : ℕ) → b ≡ leb longest (n - p) → not b ≡ true → n - p < longest
room_gone {b} n p e t = leb-false longest (n - p) (sym e ∙ not-true b t)

pub rows_length : (list : List ℕ) (n : ℕ) → length (rows_in list n) ≡ min n (length list / 3)
unfolding rows_in
rows_length list n = length_run (row_in list) 0 (min n (length list / 3))

row_at : (list : List ℕ) (n i : ℕ) → i < min n (length list / 3) → row_in list i ≡ get_or (rows_in list n) i []
unfolding rows_in
row_at list n i h =
    let e : i ≡ 0 + i = omega arith in
    ap (row_in list) e ∙ sym (run_at (row_in list) 0 (min n (length list / 3)) i [] h)

pub rendered_row : (list : List ℕ) (n : ℕ) {l : List ℕ} {at i : ℕ} {m : List ℕ} {p : ℕ} → Rendered (rows_in list n) l at i m p →
    i < min n (length list / 3) → longest ≤ length l - p → {o : List ℕ} {q : ℕ} →
    IsRow (get_or list (3 * i) 0) (get_or list (3 * i + 1) 0) (get_or list (3 * i + 2) 0) m p o q → Rendered (rows_in list n) l at (i + 1) o q
rendered_row list n {l} {at} {i} s h room x =
    rendered_more (rows_in list n) l at s (omega (arith, rows_length list n)) room (row_at list n i h) x.short x.held

-- ---- bytes with a space before each

spaced_append : (t : List ℕ) (b : ℕ) → spaced (t ++ (b ∷ [])) ≡ spaced t ++ (32 ∷ decimal b)
unfolding spaced
spaced_append [] b = ap (λ (u : List ℕ). 32 ∷ u) (append-nil (decimal b))
spaced_append (a ∷ t) b =
    ap (λ (u : List ℕ). 32 ∷ decimal a ++ u) (spaced_append t b)
    ∙ ap (λ (u : List ℕ). 32 ∷ u) (sym (append_assoc (decimal a) (spaced t) (32 ∷ decimal b)))

module _ {l : List ℕ} {at : ℕ} (t : List ℕ) (i : ℕ) {m : List ℕ} {p : ℕ} (so_far : Put l at (spaced (take i t)) m p) where
  pub spaced_more : i < length t → {n : List ℕ} {q : ℕ} → Put m p (32 ∷ decimal (get_or t i 0)) n q → Put l at (spaced (take (i + 1) t)) n q
  spaced_more h {n} {q} x =
      let e : take (i + 1) t ≡ take i t ++ (get_or t i 0 ∷ []) = ap (λ (k : ℕ). take k t) (add-one i) ∙ take-suc t i 0 h in
      subst (λ (u : List ℕ). Put l at u n q) (sym (ap spaced e ∙ spaced_append (take i t) (get_or t i 0))) (end_to_end so_far x)

  pub spaced_all : length t ≤ i → Put l at (spaced t) m p
  spaced_all h = subst (λ (u : List ℕ). Put l at (spaced u) m p) (take_all i t h) so_far

pub spaced_none : {l : List ℕ} {at : ℕ} (t : List ℕ) → at ≤ length l → Put l at (spaced (take 0 t)) l at
unfolding spaced
spaced_none {l} {at} t h = put_nothing l at h

spaced_ending : (t : List ℕ) → spaced t ++ (10 ∷ []) ≡ ending (map decimal t)
unfolding spaced
spaced_ending [] = refl
spaced_ending (b ∷ t) =
    ap (λ (u : List ℕ). 32 ∷ u) (append_assoc (decimal b) (spaced t) (10 ∷ []) ∙ ap (λ (u : List ℕ). decimal b ++ u) (spaced_ending t))

pub record_put : {l : List ℕ} {at : ℕ} (t : List ℕ) {m : List ℕ} {p : ℕ} → Put l at (ascii "record" ++ (spaced t ++ (10 ∷ []))) m p →
    Put l at (line (record_line t)) m p
record_put {l} {at} t {m} {p} x = subst (λ (u : List ℕ). Put l at (ascii "record" ++ u) m p) (spaced_ending t) x
