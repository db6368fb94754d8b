-- The lines of answers that `lines` does not have: a mask by its number, a record with its refusal, the counts above a listing, whether a
-- scene is clean. Assumes nothing.
use Rattle.std.specs.Prelude.{ℕ, ◌/◌, ◌%◌, ◌^◌, List, [], ◌∷◌, true, false, Ok, Err}
use Rattle.judge.specs.Judge.{Judged}
use Rattle.clean.specs.Answers.{Answer}
use Rattle.questions.specs.Answers.{MaskSaid, refused, faces_are}
use Rattle.questions.specs.Types.{Counted}
use Rattle.questions.specs.Types.{Listed}
use Rattle.print.specs.Text.{ascii, decimal}
use Rattle.print.specs.Back.{Words}
use Rattle.print_lines.specs.Lines.{refused_line, record_line, pairs_line}

-- a mask as its two words, the faces from 65 on in the second, and how many there are
abbrev pub words_line : MaskSaid → Words
words_line (refused r) = refused_line r
words_line (faces_are m ones) = ascii "mask" ∷ decimal (m % 2 ^ 64) ∷ decimal (m / 2 ^ 64) ∷ decimal ones ∷ []

-- a record's bytes, where it is not refused
abbrev pub shown_line : Judged → List ℕ → Words
shown_line (Ok _) t = record_line t
shown_line (Err r) t = refused_line r

-- how many rows follow
abbrev pub listing_line : Counted → Words
listing_line (Err r) = refused_line r
listing_line (Ok c) = pairs_line c.pairs

abbrev pub listed_line : Listed → Words
listed_line (Err r) = refused_line r
listed_line (Ok n) = pairs_line n

abbrev pub clean_line : Answer → Words
clean_line (Err r) = refused_line r
clean_line (Ok true) = ascii "clean" ∷ ascii "yes" ∷ []
clean_line (Ok false) = ascii "clean" ∷ ascii "no" ∷ []
