-- What the code hands on of a text's first four items is what the text tells. Assumes nothing.
use Rattle.std.specs.Prelude.{ℕ, ◌≤◌, ◌≡◌, List, false, length}
use Rattle.std.proofs.Common.{ap, ap₂, ◌∙◌}
use Rattle.off_items.specs.Items.{start_of, end_of, after}
use Rattle.off_items.specs.Numbers.{size_of, largest, at_most}
use Rattle.off_form.specs.Form.{numbers_of, vertices_of, faces_of}
use Rattle.off_form.specs.declared.Head.{Head}

-- a count above the largest number is told as that
pub record Headed (s : List ℕ) (h : Head) : Type 0 where
  pub per : h.per ≡ numbers_of s
  pub vertices : h.vertices ≡ at_most largest (vertices_of s)
  pub faces : h.faces ≡ at_most largest (faces_of s)
  pub at : h.at ≡ after s 4
  pub within : h.at ≤ length s

-- the counts are the items behind the keyword
module _ (s : List ℕ) {at per : ℕ} (p : at ≡ after s 1) (q : per ≡ numbers_of s) where
  module _ {b e m : ℕ} (pb : b ≡ start_of s at) (pe : e ≡ end_of s at) (pm : m ≡ at_most largest (size_of false s b e)) where
    second : e ≡ after s 2
    second = pe ∙ ap (end_of s) p

    pub headed : {i j n k : ℕ} → i ≡ start_of s e → j ≡ end_of s e → n ≡ at_most largest (size_of false s i j) → k ≡ end_of s j → k ≤ length s →
        Headed s (record { per = per; vertices = m; faces = n; at = k })
    headed pi pj pn pk h =
        let third = pj ∙ ap (end_of s) second in
        record {
          per = q;
          vertices = pm ∙ ap₂ (λ (i j : ℕ). at_most largest (size_of false s i j)) (pb ∙ ap (start_of s) p) second;
          faces = pn ∙ ap₂ (λ (i j : ℕ). at_most largest (size_of false s i j)) (pi ∙ ap (start_of s) second) third;
          at = pk ∙ ap (end_of s) third;
          within = h;
        }
