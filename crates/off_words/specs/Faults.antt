-- Why two texts make no scene, as two lines: the refusal's number and place, and in words what stands there and which rule it breaks.
-- Assumes nothing.
use Rattle.std.specs.Prelude.{ℕ, ◌-◌, ◌≡◌, Bool, true, false, List, [], ◌∷◌, ◌++◌, length, Result, Ok, Err}
use Rattle.std.proofs.Common.{sym, ap, ◌∙◌}
use Rattle.print.specs.Put.{Put}
use Rattle.print.specs.Text.{ascii, decimal, line}
use Rattle.off_form.specs.Form.{form_of}
use Rattle.off_form.specs.declared.Flaw.{Flaw}
use Rattle.off_scene.specs.Made.{number_of, place_of}
use Rattle.off_scene.specs.declared.Fault.{Fault}
use Rattle.off_scene.specs.declared.Fault.TheVariants.{Outside, Sides, OfScene}
use Rattle.off_words.specs.Spots.{line_of, column_of}
use Rattle.off_words.specs.Records.{refusal_of, put_as}
use Rattle.off_words.specs.Stands.{standing}

abbrev pub refused_line : Fault → List ℕ
refused_line f = line (ascii "refused" ∷ decimal (number_of f) ∷ decimal (place_of f) ∷ [])

-- the byte at offset k of the text that is named
abbrev pub spotted : List ℕ → List ℕ → ℕ → List ℕ
spotted name s k = name ++ ((32 ∷ decimal (line_of s k)) ++ (ascii ", column" ++ (32 ∷ decimal (column_of s k))))

-- and what stands there: the size of a face that is not a triangle, or an item outside the form
abbrev pub fault_at : List ℕ → List ℕ → ℕ → Bool → List ℕ
fault_at name s k sides = spotted name s k ++ standing sides s k

-- by the form of the first text, at offset k of two: the first is at fault, or else the second
abbrev pub fault_by : Result ℕ Flaw → List ℕ → List ℕ → ℕ → Bool → List ℕ
fault_by (Ok e) a b k sides = fault_at (ascii "second text, line") b (k - length a) sides
fault_by (Err f) a b k sides = fault_at (ascii "first text, line") a k sides

abbrev pub in_texts : List ℕ → List ℕ → ℕ → Bool → List ℕ
in_texts a b k sides = fault_by (form_of a) a b k sides

abbrev pub words_of : List ℕ → List ℕ → Fault → List ℕ
words_of a b (Outside k) = in_texts a b k false
words_of a b (Sides k) = in_texts a b k true
words_of a b (OfScene r) = refusal_of a b r

abbrev pub fault_of : List ℕ → List ℕ → Fault → List ℕ
fault_of a b f = refused_line f ++ words_of a b f

-- ---- from the calls' answers: by which case the words were put

module _ {l : List ℕ} {at : ℕ} {m : List ℕ} {p : ℕ} (a b : List ℕ) (k : ℕ) (g : Bool) {o : Result ℕ Flaw} (q : o ≡ form_of a) where
  read_put : {x : Result ℕ Flaw} → o ≡ x → Put l at (fault_by x a b k g) m p → Put l at (in_texts a b k g) m p
  read_put e x = put_as (ap (λ (r : Result ℕ Flaw). fault_by r a b k g) (sym e ∙ q)) x

  pub in_second : {e j : ℕ} → o ≡ Ok e → j ≡ k - length a → Put l at (fault_at (ascii "second text, line") b j g) m p →
      Put l at (in_texts a b k g) m p
  in_second e d x = read_put e (put_as (ap (λ (j : ℕ). fault_at (ascii "second text, line") b j g) d) x)

  pub in_first : {f : Flaw} → o ≡ Err f → Put l at (fault_at (ascii "first text, line") a k g) m p → Put l at (in_texts a b k g) m p
  in_first e x = read_put e x

pub fault_put : {l : List ℕ} {at : ℕ} {m : List ℕ} {p : ℕ} (a b : List ℕ) {o x : Fault} → o ≡ x → Put l at (words_of a b x) m p →
    Put l at (words_of a b o) m p
fault_put a b e x = put_as (ap (words_of a b) (sym e)) x
