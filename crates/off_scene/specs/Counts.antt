-- The counts that a head tells are within the limits exactly where the text's are, and such counts are told as they are. Assumes nothing.
use Rattle.std.specs.Prelude.{ℕ, ◌<◌, ◌≡◌, refl, List, Bool, true, false, not, ◌&&◌, leb}
use Rattle.std.proofs.Common.{sym, ap, ap₂, ◌∙◌, arith}
use Rattle.std.proofs.Math.Decide.{dec_lt}
use Rattle.std.proofs.lemmas.Bool.{lt-leb, not-false}
use Rattle.laws.specs.Decides.{and_iff}
use Rattle.scene.specs.Limits.{limits, within}
use Rattle.judge.specs.Tests.{within_iff}
use Rattle.off_items.specs.Numbers.{largest, at_most}
use Rattle.off_items.specs.Laws.{at_most_low, at_most_high}
use Rattle.off_form.specs.Form.{vertices_of, faces_of}
use Rattle.off_form.specs.Head.{Headed}
use Rattle.off_form.specs.declared.Head.{Head}
use Rattle.off_solids.specs.Bytes.{Small, small}
use Rattle.off_scene.specs.Made.{counts_fit}

abbrev vertices_fit : ℕ → Bool
vertices_fit = within limits.least_vertices limits.most_vertices

abbrev faces_fit : ℕ → Bool
faces_fit = within limits.least_faces limits.most_faces

unfoldable pub head_fits : Head → Bool
head_fits h = vertices_fit h.vertices && faces_fit h.faces

fits_told : (low high n : ℕ) {c : ℕ} → high < largest → c ≡ at_most largest n → within low high c ≡ within low high n
unfolding within
fits_told low high n {c} h e = by (dec_lt largest n)
  where
    by : Dec (largest < n) → within low high c ≡ within low high n
    by (yes k) =
        let f : c ≡ largest = e ∙ at_most_high largest n (omega arith) in
        (ap (λ (b : Bool). leb low c && b) (lt-leb c high (omega arith)) ∙ none (leb low c))
        ∙ sym (ap (λ (b : Bool). leb low n && b) (lt-leb n high (omega arith)) ∙ none (leb low n))
      where
        none : (b : Bool) → (b && false) ≡ false
        none true = refl
        none false = refl
    by (no k) = ap (within low high) (e ∙ at_most_low largest n (omega arith))

pub told_fits : (s : List ℕ) (h : Head) → Headed s h → head_fits h ≡ counts_fit s
unfolding head_fits counts_fit
told_fits s h d =
    ap₂ (λ (x y : Bool). x && y) (fits_told _ limits.most_vertices (vertices_of s) (omega arith) d.vertices)
    (fits_told _ limits.most_faces (faces_of s) (omega arith) d.faces)

pub fits_small : (s : List ℕ) (h : Head) → Headed s h → {o : Bool} → o ≡ head_fits h → not o ≡ false → Small s h
unfolding counts_fit
fits_small s h d {o} p q =
    let e = sym (p ∙ told_fits s h d) ∙ not-false o q in
    let l = simp (and_iff, within_iff) at e in
    small s h d l.0.1 l.1.1
