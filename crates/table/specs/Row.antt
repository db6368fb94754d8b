-- A row of the table as text: fields with a tab, 9, before each but the first. Assumes nothing.
use Rattle.std.specs.Prelude.{ℕ, cond, ◌||◌, List, [], ◌∷◌, ◌++◌, map, ltb, eqb, Ok}
use Rattle.print.specs.Text.{ascii, decimal}
use Rattle.print_lines.specs.Lines.{word_of}
use Rattle.scene.specs.Refusal.{number_of, place_of}
use Rattle.scene.specs.declared.Refusal.{Refusal}
use Rattle.questions.specs.declared.Facts.{Facts}

-- a control byte of a name is shown as `?`, 63
abbrev pub shown_byte : ℕ → ℕ
shown_byte b = cond (ltb b 32 || eqb b 127) 63 b

abbrev pub shown : List ℕ → List ℕ
shown name = map shown_byte name

abbrev pub numbers : Facts → List ℕ
numbers f = (9 ∷ decimal f.counts.a_in_b) ++ ((9 ∷ decimal f.counts.b_in_a) ++ (9 ∷ decimal f.counts.pairs))

-- behind the name of an accepted scene; its last field is empty
abbrev pub accepted_fields : Facts → List ℕ
accepted_fields f = (9 ∷ word_of (Ok f.verdict)) ++ (numbers f ++ (9 ∷ 10 ∷ []))

-- behind the name of a refused one, up to the words; the three numbers are empty
abbrev pub refused_fields : Refusal → List ℕ
refused_fields r = ascii "\trefused" ++ ((32 ∷ decimal (number_of r)) ++ ((32 ∷ decimal (place_of r)) ++ ascii "\t\t\t\t"))
