-- A long run of rows is rendered part by part, each from the row behind the last part's. The parts end to end are the text of all the rows.
-- Assumes nothing.
use Rattle.std.specs.Prelude.{ℕ, ◌+◌, ◌-◌, ◌≤◌, ◌≡◌, refl, Bool, true, false, cond, leb, take, drop}
use Rattle.std.proofs.Math.Path.{sym, ap, ap₂}
use Rattle.std.proofs.Common.{◌∙◌, arith, take-append-drop, drop_of_length-le, drop-drop}
use mathlib.Core.List.{List, [], ◌∷◌, ◌++◌}
use Rattle.std.proofs.Math.ListN.{length, length-take}
use Rattle.std.proofs.Math.Seq.{take-take}
use Rattle.print.specs.Text.{line, text}
use Rattle.print.specs.Back.{Words}
use Rattle.print_lines.specs.Rows.{longest, fitting, text_append}

-- the rows of a part: from a row on, at most k, those that fit
abbrev pub part_of : List Words → (from k room : ℕ) → List Words
part_of all from k room = fitting room (take k (drop from all))

abbrev pub join : List (List ℕ) → List ℕ
join [] = []
join (t ∷ ts) = t ++ join ts

-- the texts of parts, from a row on up to the end
pub data Parts (all : List Words) : ℕ → List (List ℕ) → Type 0 where
  end : {from : ℕ} → length all ≤ from → Parts all from []
  part : (from k room : ℕ) {ts : List (List ℕ)} → Parts all (from + length (part_of all from k room)) ts →
      Parts all from (text (part_of all from k room) ∷ ts)

-- what fits is the front of what there is
fitting_front : (room : ℕ) (ws : List Words) → fitting room ws ≡ take (length (fitting room ws)) ws
unfolding fitting
fitting_front room [] = refl
fitting_front room (w ∷ ws) = go (leb longest room) (fitting_front (room - length (line w)) ws)
  where
    go : (b : Bool) → fitting (room - length (line w)) ws ≡ take (length (fitting (room - length (line w)) ws)) ws →
        cond b (w ∷ fitting (room - length (line w)) ws) [] ≡ take (length (cond b (w ∷ fitting (room - length (line w)) ws) [])) (w ∷ ws)
    go true e = ap (λ (t : List Words). w ∷ t) e
    go false e = refl

front_short : (n : ℕ) (ws : List Words) → length (take n ws) ≤ length ws
front_short n ws = omega (arith, length-take n ws)

module _ (all : List Words) (from k room : ℕ) where
  count : ℕ
  count = length (part_of all from k room)

  part_front : part_of all from k room ≡ take count (drop from all)
  unfolding count
  part_front =
      let e = fitting_front room (take k (drop from all)) in
      let h : count ≤ k = omega (arith, ap length e, length-take count (take k (drop from all)), length-take k (drop from all)) in
      e ∙ take-take count k (drop from all) h

  pub part_then : text (part_of all from k room) ++ text (drop (from + length (part_of all from k room)) all) ≡ text (drop from all)
  unfolding count
  part_then =
      ap₂ (λ (a b : List Words). text a ++ text b) part_front (sym (drop-drop count from all))
      ∙ sym (text_append (take count (drop from all)) (drop count (drop from all)))
      ∙ ap text (take-append-drop count (drop from all))

pub parts_are : (all : List Words) {from : ℕ} {ts : List (List ℕ)} → Parts all from ts → join ts ≡ text (drop from all)
unfolding text
parts_are all (end h) = sym (ap text (drop_of_length-le all h))
parts_are all (part from k room rest) =
    ap (λ (t : List ℕ). text (part_of all from k room) ++ t) (parts_are all rest) ∙ part_then all from k room
