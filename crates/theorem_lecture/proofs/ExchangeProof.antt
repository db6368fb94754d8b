-- The exchange of A and B is proved. Assumes nothing.
use Rattle.std.specs.Prelude.{◌≡◌, refl, ◌↔◌, Bool, true, false, leb, ltb, Ok}
use Rattle.std.proofs.Math.Path.{sym, ap₂}
use Rattle.std.proofs.Common.{ap, ◌∙◌, le-leb}
use Rattle.std.proofs.Math.Bool.{cond}
use mathlib.Core.List.{List, ◌++◌, map, map-append}
use Prim.Native.Nat.{ℕ, ◌+◌, ◌-◌, ◌≤◌, ◌<◌}
use Rattle.std.proofs.Math.Decide.{dec_lt}
use native.Mathlib.Omega.{arith}
use Rattle.std.proofs.Math.ListN.{length, length-append, length-map}
use Rattle.std.proofs.lemmas.Bool.{lt-leb}
use Rattle.scene.specs.Records.{verts_a, verts_b, verts}
use Rattle.scene.specs.View.{view_of, solid}
use Rattle.judge.specs.Judge.{judged}
use Rattle.questions.specs.Hits.{Hit, solid_hits, enclosed_vertex, enclosed_count, lowest_enclosed}
use Rattle.questions.specs.First.{first_of}
use Rattle.questions.specs.Answers.{or_refuse, counts_in, counted_of, cross_or, enclosure_in, verdict_in}
use Rattle.questions.specs.Answers.{verdict_of, verdict_number, listing_in, inside_in}
use Rattle.questions.specs.declared.Counts.{Counts}
use Rattle.questions.specs.declared.Verdict.{Verdict}
use Rattle.questions.specs.declared.Verdict.TheVariants.{AInB, BInA, Apart}
use Rattle.survey_scene.specs.Ready.{outside_beside}
use Rattle.clean.specs.Answers.{clean_of, clean_exactly}
use Rattle.theorem_lecture.specs.Lecture.{rows_of, points_of}
use Rattle.theorem_lecture.specs.Renumbered.{clean_untied}
use Rattle.theorem_lecture.specs.Exchange.{to, face_to, carried, Exchanged, NoTies, seen_of, in_a, in_b, listed_exchanged}
use Rattle.theorem_lecture.specs.Exchange.{counted_exchanged, enclosure_exchanged, verdict_exchanged, SameExchanged, Exchange}
use Rattle.theorem_lecture.proofs.Numbers.{of_a, of_b}
use Rattle.theorem_lecture.specs.Word.{word, word_by, word_by_counts}
use Rattle.theorem_lecture.specs.Shifted.{lowest_from}
use Rattle.theorem_lecture.proofs.Written.{exchange_written}
use Rattle.theorem_lecture.specs.Counterpart.{Counterpart, Renumbered, count_same, lowest_same, hits_same}
use Rattle.theorem_lecture.proofs.ExchangeSolids.{renumbered, a_is_b, b_is_a}
use Rattle.theorem_lecture.proofs.ExchangeAsked.{masks, enclosed, inside}

-- ---- what is told of the lowest enclosed vertices, p of A and q of B in s, p' of A and q' of B in t

module _ (a b p q p' q' v w : ℕ) (e : p' + a ≡ q) (f : q' ≡ p + b) (g : q ≤ a + b → v ≡ q - a) (h : p ≤ a → w ≡ b + p) where
  enclosure_told : cond (leb p' b) (AInB p') (cond (leb q' (b + a)) (BInA q') Apart)
      ≡ cond (leb q (a + b)) (AInB v) (cond (leb p a) (BInA w) Apart)
  enclosure_told = by (dec_lt (a + b) q) (dec_lt a p)
    where
      by : Dec (a + b < q) → Dec (a < p) →
          cond (leb p' b) (AInB p') (cond (leb q' (b + a)) (BInA q') Apart) ≡ cond (leb q (a + b)) (AInB v) (cond (leb p a) (BInA w) Apart)
      by (no l) k = rw (le-leb p' b (omega arith), le-leb q (a + b) (omega arith)) (ap AInB (omega (arith, g (omega arith))))
      by (yes l) (no k) =
          rw (lt-leb p' b (omega arith), lt-leb q (a + b) l, le-leb q' (b + a) (omega arith), le-leb p a (omega arith))
          (ap BInA (omega (arith, h (omega arith))))
      by (yes l) (yes k) = rw (lt-leb p' b (omega arith), lt-leb q (a + b) l, lt-leb q' (b + a) (omega arith), lt-leb p a k)

-- the words of two verdicts, where what is told of A is told of B
cross_alike : (x y z : Bool) → (word x y z ≡ 0) ↔ (word x z y ≡ 0)
cross_alike true y z = (λ e. refl, λ e. refl)
cross_alike false true true = (λ e. absurd (omega arith), λ e. absurd (omega arith))
cross_alike false true false = (λ e. absurd (omega arith), λ e. absurd (omega arith))
cross_alike false false true = (λ e. absurd (omega arith), λ e. absurd (omega arith))
cross_alike false false false = (λ e. absurd (omega arith), λ e. absurd (omega arith))

apart_alike : (x y z : Bool) → (word x y z ≡ 3) ↔ (word x z y ≡ 3)
apart_alike true y z = (λ e. absurd (omega arith), λ e. absurd (omega arith))
apart_alike false true true = (λ e. absurd (omega arith), λ e. absurd (omega arith))
apart_alike false true false = (λ e. absurd (omega arith), λ e. absurd (omega arith))
apart_alike false false true = (λ e. absurd (omega arith), λ e. absurd (omega arith))
apart_alike false false false = (λ e. refl, λ e. refl)

module _ (s t : List ℕ) (ok : judged s ≡ Ok tt) (ok' : judged t ≡ Ok tt) (h : Exchanged s t) (ties : NoTies s) where
  abbrev numbers : Renumbered (seen_of s) (seen_of t) (to s)
  numbers = renumbered s t ok ok' h ties

  abbrev a_to_b : Counterpart (seen_of s) (seen_of t) (to s) (face_to s) (in_a s) (in_b t) (verts_a s) (verts s)
  a_to_b = a_is_b s t ok ok' h ties

  abbrev b_to_a : Counterpart (seen_of s) (seen_of t) (to s) (face_to s) (in_b s) (in_a t) 0 (verts_a s)
  b_to_a = b_is_a s t ok ok' h ties

  -- ---- the listing

  hits_a : solid_hits (seen_of t) (in_a t) ≡ map (carried s) (solid_hits (seen_of s) (in_b s))
  hits_a = hits_same (seen_of s) (seen_of t) (to s) (face_to s) numbers (in_b s) (in_a t) 0 (verts_a s) b_to_a

  hits_b : solid_hits (seen_of t) (in_b t) ≡ map (carried s) (solid_hits (seen_of s) (in_a s))
  hits_b = hits_same (seen_of s) (seen_of t) (to s) (face_to s) numbers (in_a s) (in_b t) (verts_a s) (verts s) a_to_b

  listing : listing_in (view_of t) ≡ listed_exchanged s
  unfolding listed_exchanged listing_in solid
  listing = ap₂ ◌++◌ hits_a hits_b ∙ sym (map-append (carried s) (solid_hits (seen_of s) (in_b s)) (solid_hits (seen_of s) (in_a s)))

  as_many : length (listed_exchanged s) ≡ length (listing_in (view_of s))
  unfolding listed_exchanged listing_in solid
  as_many =
      length-map (solid_hits (seen_of s) (in_b s) ++ solid_hits (seen_of s) (in_a s)) (carried s)
      ∙ omega (
        arith,
        length-append (solid_hits (seen_of s) (in_b s)) (solid_hits (seen_of s) (in_a s)),
        length-append (solid_hits (seen_of s) (in_a s)) (solid_hits (seen_of s) (in_b s)),
      )

  -- ---- enclosed vertices

  inside_a : enclosed_count (seen_of t) (in_a t) ≡ enclosed_count (seen_of s) (in_b s)
  inside_a = count_same (seen_of s) (seen_of t) (to s) (face_to s) numbers (in_b s) (in_a t) 0 (verts_a s) b_to_a

  inside_b : enclosed_count (seen_of t) (in_b t) ≡ enclosed_count (seen_of s) (in_a s)
  inside_b = count_same (seen_of s) (seen_of t) (to s) (face_to s) numbers (in_a s) (in_b t) (verts_a s) (verts s) a_to_b

  lowest_a : lowest_enclosed (seen_of t) (in_a t) + verts_a s ≡ lowest_enclosed (seen_of s) (in_b s) + 0
  lowest_a = lowest_same (seen_of s) (seen_of t) (to s) (face_to s) numbers (in_b s) (in_a t) 0 (verts_a s) b_to_a

  lowest_b : lowest_enclosed (seen_of t) (in_b t) + 0 ≡ lowest_enclosed (seen_of s) (in_a s) + verts_a t
  lowest_b = lowest_same (seen_of s) (seen_of t) (to s) (face_to s) numbers (in_a s) (in_b t) (verts_a s) (verts s) a_to_b

  before_a : 1 ≤ lowest_enclosed (seen_of s) (in_a s)
  unfolding lowest_enclosed
  before_a = omega (arith, lowest_from (enclosed_vertex (seen_of s) (in_a s)) (0 + 1) (verts_a s))

  behind_a : verts_a s < lowest_enclosed (seen_of s) (in_b s)
  unfolding lowest_enclosed
  behind_a = omega (arith, lowest_from (enclosed_vertex (seen_of s) (in_b s)) (verts_a s + 1) (verts_b s))

  enclosure : enclosure_in (view_of t) ≡ enclosure_exchanged s
  unfolding enclosure_in enclosure_exchanged solid
  enclosure =
      let p : ℕ = lowest_enclosed (seen_of s) (in_a s) in
      let q : ℕ = lowest_enclosed (seen_of s) (in_b s) in
      let p' : ℕ = lowest_enclosed (seen_of t) (in_a t) in
      let q' : ℕ = lowest_enclosed (seen_of t) (in_b t) in
      ap₂ (λ (a b : ℕ). cond (leb p' a) (AInB p') (cond (leb q' (a + b)) (BInA q') Apart)) h.verts_a_law h.verts_b_law
      ∙ enclosure_told (verts_a s) (verts_b s) p q p' q' (to s q) (to s p) (omega (arith, lowest_a)) (omega (arith, lowest_b, h.verts_a_law))
      (λ l. of_b (verts_a s) (verts_b s) q behind_a l) (λ l. of_a (verts_a s) (verts_b s) p before_a l)

  -- ---- the kernel's answers

  abbrev counts : Counts
  counts = counts_in (view_of s)

  counts_are : counts_in (view_of t) ≡ record { pairs = counts.pairs; a_in_b = counts.b_in_a; b_in_a = counts.a_in_b }
  unfolding counts_in inside_in solid
  counts_are = λ i. record { pairs = (ap length listing ∙ as_many) i; a_in_b = inside_a i; b_in_a = inside_b i }

  counted : counted_of t ≡ counted_exchanged (counted_of s)
  unfolding counted_of or_refuse
  counted = rw (ok, ok') (ap Ok counts_are)

  verdict : verdict_of t ≡ verdict_exchanged s
  unfolding verdict_of verdict_in verdict_exchanged listing_in solid or_refuse
  verdict = rw ok' (ap₂ (λ (l : List Hit) (rest : Verdict). Ok (cross_or (first_of l) rest)) listing enclosure)

  cross : (verdict_number (verdict_of t) ≡ 0) ↔ (verdict_number (verdict_of s) ≡ 0)
  cross =
      rw (word_by_counts t ok' ∙ ap word_by counts_are, word_by_counts s ok)
      (cross_alike (ltb 0 counts.pairs) (ltb 0 counts.b_in_a) (ltb 0 counts.a_in_b))

  apart_same : (verdict_number (verdict_of t) ≡ 3) ↔ (verdict_number (verdict_of s) ≡ 3)
  apart_same =
      rw (word_by_counts t ok' ∙ ap word_by counts_are, word_by_counts s ok)
      (apart_alike (ltb 0 counts.pairs) (ltb 0 counts.b_in_a) (ltb 0 counts.a_in_b))

same : (s t : List ℕ) → judged s ≡ Ok tt → judged t ≡ Ok tt → Exchanged s t → NoTies s → SameExchanged s t
same s t ok ok' h ties =
    record {
      masks = masks s t ok ok' h ties;
      enclosed = enclosed s t ok ok' h ties;
      inside = inside s t ok ok' h ties;
      listing = listing s t ok ok' h ties;
      counted = counted s t ok ok' h ties;
      verdict = verdict s t ok ok' h ties;
      cross = cross s t ok ok' h ties;
      apart = apart_same s t ok ok' h ties;
    }

no_ties : (s : List ℕ) → judged s ≡ Ok tt → clean_of s ≡ Ok true → NoTies s
no_ties s ok clean u v k o i l =
    clean_untied (points_of s) (rows_of s) ((clean_exactly s ok).0 clean) u v _ (outside_beside s ok o refl refl refl i l)

pub exchange : Exchange
exchange = record { untied = same; clean = no_ties; written = exchange_written }
