-- A report reads back: from its text its lines are found again, and from them the verdict's word, the counts and the listing.
-- (That it is found is proofs/FoundAgain.) Assumes nothing.
use Rattle.std.specs.Prelude.{ℕ, ◌≡◌, refl, Bool, true, not, ◌&&◌, List, [], ◌∷◌, map, eqb, get_or, drop, Ok, Err}
use Rattle.laws.specs.Lists.{Each, each_append}
use Rattle.laws.specs.Decides.{and_iff, differ_iff}
use Rattle.judge.specs.Judge.{judged}
use Rattle.judge.specs.Judge.{Judged}
use Rattle.questions.specs.Hits.{Hit}
use Rattle.scene.specs.View.{view_of}
use Rattle.questions.specs.Answers.{or_refuse, verdict_of, counted_of, listing_in}
use Rattle.questions.specs.declared.Counts.{Counts}
use Rattle.questions.specs.Types.{Counted}
use Rattle.questions.specs.Types.{Concluded}
use Rattle.questions.specs.declared.Verdict.TheVariants as verdict
use Rattle.print.specs.Text.{ascii, text}
use Rattle.print.specs.Decimal.{number_in}
use Rattle.print.specs.Back.{Word, Words, Plain, Line, decimal_plain, lines_in, lines_back}
use Rattle.print_lines.specs.Lines.{word_of}
use Rattle.print_lines.specs.Report.{hit_line, head_of, listing_lines, report_of}

-- ---- its lines are lines of plain words

all_plain : Word → Bool
all_plain [] = true
all_plain (b ∷ w) = (not (eqb b 32) && not (eqb b 10)) && all_plain w

plain_is : (w : Word) → all_plain w ≡ true → Plain w
unfolding all_plain
plain_is [] e = tt
plain_is (b ∷ w) e =
    let x = (and_iff _ _).0 e in
    let y = (and_iff _ _).0 x.0 in
    (record { no_space = (differ_iff b 32).0 y.0; no_newline = (differ_iff b 10).0 y.1 }, plain_is w x.1)

word_plain : (v : Concluded) → Plain (word_of v)
unfolding all_plain
word_plain (Ok (verdict.Cross u v f)) = plain_is (ascii "cross") refl
word_plain (Ok (verdict.AInB p)) = plain_is (ascii "a-in-b") refl
word_plain (Ok (verdict.BInA p)) = plain_is (ascii "b-in-a") refl
word_plain (Ok verdict.Apart) = plain_is (ascii "apart") refl
word_plain (Err r) = plain_is (ascii "refused") refl

head_lines_law : (s : List ℕ) (a : Counted) → Each Line (head_of s a)
unfolding all_plain
head_lines_law s (Err r) = ((plain_is (ascii "refused") refl, (decimal_plain _, (decimal_plain _, tt))), tt)
head_lines_law s (Ok c) = (
  (plain_is (ascii "scene") refl, (decimal_plain _, (decimal_plain _, (decimal_plain _, (decimal_plain _, tt))))),
  (
    (plain_is (ascii "verdict") refl, (word_plain (verdict_of s), tt)),
    (
      (plain_is (ascii "inside") refl, (decimal_plain _, (decimal_plain _, tt))),
      ((plain_is (ascii "pairs") refl, (decimal_plain _, tt)), tt),
    ),
  ),
)

hits_lines : (l : List Hit) → Each Line (map hit_line l)
hits_lines [] = tt
hits_lines (h ∷ l) = ((decimal_plain _, (decimal_plain _, (decimal_plain _, tt))), hits_lines l)

listing_lines_law : (s : List ℕ) → Each Line (listing_lines s)
unfolding listing_lines or_refuse
listing_lines_law s = go (judged s)
  where
    go : (j : Judged) → Each Line (or_refuse (λ _. []) j (map hit_line (listing_in (view_of s))))
    go (Ok _) = hits_lines (listing_in (view_of s))
    go (Err r) = tt

-- ---- so they are found again

pub report_back : (s : List ℕ) → lines_in (text (report_of s)) ≡ report_of s
unfolding report_of
report_back s =
    lines_back (report_of s)
    (each_append Line (head_of s (counted_of s)) (listing_lines s) (head_lines_law s (counted_of s)) (listing_lines_law s))

-- word j of line i, and the pair that a line's three numbers are
abbrev pub word_in : List Words → (i j : ℕ) → Word
word_in ls i j = get_or (get_or ls i []) j []

abbrev pub hit_in : Words → Hit
hit_in w = record { low = number_in (get_or w 0 []); high = number_in (get_or w 1 []); face = number_in (get_or w 2 []) }

-- what the text t says of an accepted scene with these counts
pub record Again (s : List ℕ) (c : Counts) (t : List ℕ) : Type 0 where
  pub word : word_in (lines_in t) 1 1 ≡ word_of (verdict_of s)
  pub a_in_b_law : number_in (word_in (lines_in t) 2 1) ≡ c.a_in_b
  pub b_in_a_law : number_in (word_in (lines_in t) 2 2) ≡ c.b_in_a
  pub pairs : number_in (word_in (lines_in t) 3 1) ≡ c.pairs
  pub listing : map hit_in (drop 4 (lines_in t)) ≡ listing_in (view_of s)
