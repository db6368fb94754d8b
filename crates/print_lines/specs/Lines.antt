-- The lines that the programs print, as words: of a report, and of each answer. Assumes nothing.
use Rattle.std.specs.Prelude.{ℕ, Bool, cond, List, [], ◌∷◌, map, true, false, Ok, Err}
use Rattle.print.specs.Text.{ascii, decimal, signed_decimal, ending}
use Rattle.print.specs.Back.{Word, Words}
use Rattle.scene.specs.Refusal.{number_of, place_of}
use Rattle.scene.specs.declared.Refusal.{Refusal}
use Rattle.scene.specs.declared.Scene.{Scene}
use Rattle.judge.specs.Judge.{Judged}
use Rattle.orient.specs.declared.Terms.{Terms}
use Rattle.questions.specs.Types.{Signed}
use Rattle.questions.specs.Types.{Answer}
use Rattle.questions.specs.Types.{Masked}
use Rattle.questions.specs.declared.Counts.{Counts}
use Rattle.questions.specs.Types.{Counted}
use Rattle.questions.specs.Types.{Concluded}
use Rattle.questions.specs.declared.Verdict.TheVariants as verdict

-- ---- a report's

abbrev pub refused_line : Refusal → Words
refused_line r = ascii "refused" ∷ decimal (number_of r) ∷ decimal (place_of r) ∷ []

abbrev pub scene_line : Scene → Words
scene_line h = ascii "scene" ∷ decimal h.vertices_a ∷ decimal h.faces_a ∷ decimal h.vertices_b ∷ decimal h.faces_b ∷ []

abbrev pub word_of : Concluded → Word
word_of (Ok (verdict.Cross u v f)) = ascii "cross"
word_of (Ok (verdict.AInB p)) = ascii "a-in-b"
word_of (Ok (verdict.BInA p)) = ascii "b-in-a"
word_of (Ok verdict.Apart) = ascii "apart"
word_of (Err r) = ascii "refused"

abbrev pub verdict_line : Concluded → Words
verdict_line v = ascii "verdict" ∷ word_of v ∷ []

abbrev pub inside_line : Counts → Words
inside_line c = ascii "inside" ∷ decimal c.a_in_b ∷ decimal c.b_in_a ∷ []

abbrev pub pairs_line : ℕ → Words
pairs_line n = ascii "pairs" ∷ decimal n ∷ []

abbrev pub pair_line : (u v f : ℕ) → Words
pair_line u v f = decimal u ∷ decimal v ∷ decimal f ∷ []

-- ---- an answer's

abbrev pub judged_line : Judged → Words
judged_line (Ok _) = ascii "accepted" ∷ []
judged_line (Err r) = refused_line r

abbrev pub terms_ending : Terms → List ℕ
terms_ending t = ending (signed_decimal t.c0 ∷ signed_decimal t.c1 ∷ signed_decimal t.c2 ∷ signed_decimal t.c3 ∷ [])

abbrev pub sign_line : Signed → Words
sign_line (Err r) = refused_line r
sign_line (Ok (t, is-plus)) =
    ascii "sign" ∷ cond is-plus (ascii "+") (ascii "-")
    ∷ signed_decimal t.c0 ∷ signed_decimal t.c1 ∷ signed_decimal t.c2 ∷ signed_decimal t.c3 ∷ []

-- to the question that the word names
abbrev pub answer_line : Word → Answer → Words
answer_line q (Err r) = refused_line r
answer_line q (Ok true) = q ∷ ascii "yes" ∷ []
answer_line q (Ok false) = q ∷ ascii "no" ∷ []

abbrev pub mask_line : Masked → Words
mask_line (Err r) = refused_line r
mask_line (Ok (m, ones)) = ascii "mask" ∷ decimal m.low ∷ decimal m.high ∷ decimal ones ∷ []

abbrev pub found_line : Concluded → Words
found_line (Err r) = refused_line r
found_line (Ok (verdict.Cross u v f)) = ascii "verdict" ∷ ascii "cross" ∷ decimal u ∷ decimal v ∷ decimal f ∷ []
found_line (Ok (verdict.AInB p)) = ascii "verdict" ∷ ascii "a-in-b" ∷ decimal p ∷ []
found_line (Ok (verdict.BInA p)) = ascii "verdict" ∷ ascii "b-in-a" ∷ decimal p ∷ []
found_line (Ok verdict.Apart) = ascii "verdict" ∷ ascii "apart" ∷ []

abbrev pub counts_line : Counted → Words
counts_line (Err r) = refused_line r
counts_line (Ok c) = ascii "counts" ∷ decimal c.pairs ∷ decimal c.a_in_b ∷ decimal c.b_in_a ∷ []

-- of a record's bytes
abbrev pub record_line : List ℕ → Words
record_line t = ascii "record" ∷ map decimal t

-- whether the places that a listing leaves are as they were
abbrev pub kept_line : Bool → Words
kept_line is-kept = cond is-kept (ascii "kept") (ascii "touched") ∷ []
