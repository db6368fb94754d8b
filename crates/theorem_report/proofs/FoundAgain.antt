-- What a report says of an accepted scene is found again in its text. Assumes nothing.
use Rattle.std.specs.Prelude.{ℕ, ◌≡◌, refl, List, [], ◌∷◌, ◌++◌, map, drop, Ok}
use Rattle.std.proofs.Common.{ap, ◌∙◌}
use Rattle.judge.specs.Judge.{judged}
use Rattle.judge.specs.Judge.{Judged}
use Rattle.questions.specs.Hits.{Hit}
use Rattle.scene.specs.View.{view_of}
use Rattle.questions.specs.Answers.{or_refuse, counted_of, listing_in}
use Rattle.questions.specs.declared.Counts.{Counts}
use Rattle.questions.specs.Types.{Counted}
use Rattle.print.specs.Text.{text}
use Rattle.print.specs.Decimal.{number_in, number_back}
use Rattle.print.specs.Back.{Words, lines_in}
use Rattle.print_lines.specs.Report.{hit_line, head_of, listing_lines, report_of}
use Rattle.theorem_report.specs.Again.{report_back, word_in, hit_in, Again}

hits_back : (l : List Hit) → map hit_in (map hit_line l) ≡ l
hits_back [] = refl
hits_back (h ∷ l) =
    λ i. record { low = number_back h.low i; high = number_back h.high i; face = number_back h.face i } ∷ hits_back l i

pub found_again : (s : List ℕ) (c : Counts) → judged s ≡ Ok tt → counted_of s ≡ Ok c → Again s c (text (report_of s))
unfolding report_of listing_lines or_refuse
found_again s c j e =
    let ls : lines_in (text (report_of s)) ≡ head_of s (Ok c) ++ map hit_line (listing_in (view_of s)) =
    report_back s ∙ ap (λ (a : Counted). head_of s a ++ listing_lines s) e
    ∙ ap (λ (k : Judged). head_of s (Ok c) ++ or_refuse (λ _. []) k (map hit_line (listing_in (view_of s)))) j in
    record {
      word = ap (λ (l : List Words). word_in l 1 1) ls;
      a_in_b_law = ap (λ (l : List Words). number_in (word_in l 2 1)) ls ∙ number_back c.a_in_b;
      b_in_a_law = ap (λ (l : List Words). number_in (word_in l 2 2)) ls ∙ number_back c.b_in_a;
      pairs = ap (λ (l : List Words). number_in (word_in l 3 1)) ls ∙ number_back c.pairs;
      listing = ap (λ (l : List Words). map hit_in (drop 4 l)) ls ∙ hits_back (listing_in (view_of s));
    }
