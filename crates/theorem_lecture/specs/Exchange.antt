-- A and B exchanged: a scene t whose A is the B of s and whose B is the A of s, with the same far point. Where no tie is broken in s, as
-- where s is clean, t has the answers of s, told of the other letter: its masks, its listing pair by pair, its counts and its verdict, and
-- the same refusals. (With ties none of it need be so, since the points have other numbers in t and are shifted otherwise: `Ties` has a
-- scene.) Proved in `ExchangeProof`. Assumes nothing.
use Rattle.std.specs.Prelude.{◌≡◌, ◌↔◌, cond, List, ◌++◌, map, ℕ, ◌+◌, ◌-◌, ◌<◌, eqb, leb, true, Ok, Err}
use Rattle.scene.specs.Records.{verts_a, verts_b, faces_in_a, faces_in_b, verts}
use Rattle.scene.specs.Tables.{tables_of}
use Rattle.scene.specs.View.{view_of, solid, solid_a, solid_b}
use Rattle.scene.specs.declared.Solid.{Solid}
use Rattle.judge.specs.Judge.{judged}
use Rattle.rules.specs.Write.{bytes_of}
use Rattle.orient.specs.Signs.{Upto}
use Rattle.questions.specs.Hits.{PierceView, Hit, solid_hits, lowest_enclosed}
use Rattle.questions.specs.First.{first_of}
use Rattle.questions.specs.Answers.{pierce_view, masked_of, enclosed_of, inside_of, counted_of, listing_in, cross_or, verdict_number, verdict_of}
use Rattle.questions.specs.Asked.{Outside}
use Rattle.questions.specs.Types.{Counted}
use Rattle.questions.specs.declared.Verdict.{Verdict}
use Rattle.questions.specs.Types.{Concluded}
use Rattle.questions.specs.declared.Verdict.TheVariants.{AInB, BInA, Apart}
use Rattle.clean.specs.Answers.{clean_of}
use Rattle.theorem_lecture.specs.Lecture.{rows_of, points_of}
use Rattle.theorem_lecture.specs.Renumbered.{Untied, renamed}

-- of a things of A and b of B, the number in t of number i of s: A's come behind B's, and what is none of them keeps its number
unfoldable pub exchanged : (a b i : ℕ) → ℕ
exchanged a b i = cond (eqb i 0) 0 (cond (leb i a) (b + i) (cond (leb i (a + b)) (i - a) i))

-- a point, the far point the last; a face; a solid
abbrev pub to : List ℕ → ℕ → ℕ
to s = exchanged (verts_a s) (verts_b s)

abbrev pub face_to : List ℕ → ℕ → ℕ
face_to s = exchanged (faces_in_a s) (faces_in_b s)

abbrev pub solid_to : ℕ → ℕ
solid_to = exchanged 1 1

pub record Exchanged (s t : List ℕ) : Type 0 where
  pub verts_a_law : verts_a t ≡ verts_b s
  pub verts_b_law : verts_b t ≡ verts_a s
  pub faces_a_law : faces_in_a t ≡ faces_in_b s
  pub faces_b_law : faces_in_b t ≡ faces_in_a s
  pub rows : (i : ℕ) → Upto (points_of s) i → rows_of t (to s i) ≡ rows_of s i
  pub of_a : (i : ℕ) → i < faces_in_a s → (view_of t).face (faces_in_b s + 1 + i) ≡ renamed (to s) ((view_of s).face (0 + 1 + i))
  pub of_b : (i : ℕ) → i < faces_in_b s → (view_of t).face (0 + 1 + i) ≡ renamed (to s) ((view_of s).face (faces_in_a s + 1 + i))

-- such a scene: the tables of s, B's before A's
unfoldable pub exchanged_bytes : List ℕ → List ℕ
exchanged_bytes s = bytes_of (record { a = (tables_of s).b; b = (tables_of s).a; far = (tables_of s).far })

-- no tie is broken: none is between a face of a solid and two points that are none of the solid's vertices
abbrev pub NoTies : List ℕ → Type 0
NoTies s =
    (u v k : ℕ) → Outside (view_of s) u v k → (i : ℕ) → i < (solid (view_of s) k).faces →
    Untied (rows_of s) u v ((view_of s).face ((solid (view_of s) k).face0 + 1 + i))

-- ---- the answers of s, told of the other letter

abbrev pub seen_of : List ℕ → PierceView
seen_of s = pierce_view (view_of s)

abbrev pub in_a : List ℕ → Solid
in_a s = solid_a (view_of s)

abbrev pub in_b : List ℕ → Solid
in_b s = solid_b (view_of s)

-- a pair of s in the numbers of t; the listing of s so told: edges of B with faces of A come first
abbrev pub carried : List ℕ → Hit → Hit
carried s h = record { low = to s h.low; high = to s h.high; face = face_to s h.face }

unfoldable pub listed_exchanged : List ℕ → List Hit
listed_exchanged s = map (carried s) (solid_hits (seen_of s) (in_b s) ++ solid_hits (seen_of s) (in_a s))

abbrev pub counted_exchanged : Counted → Counted
counted_exchanged (Err r) = Err r
counted_exchanged (Ok c) = Ok (record { pairs = c.pairs; a_in_b = c.b_in_a; b_in_a = c.a_in_b })

-- the first such pair; if none, the lowest vertex of B enclosed by A; if none, the lowest of A enclosed by B; else apart
unfoldable pub enclosure_exchanged : List ℕ → Verdict
enclosure_exchanged s =
    let p : ℕ = lowest_enclosed (seen_of s) (in_a s) in
    let q : ℕ = lowest_enclosed (seen_of s) (in_b s) in
    cond (leb q (verts s)) (AInB (to s q)) (cond (leb p (verts_a s)) (BInA (to s p)) Apart)

unfoldable pub verdict_exchanged : List ℕ → Concluded
verdict_exchanged s = Ok (cross_or (first_of (listed_exchanged s)) (enclosure_exchanged s))

-- whatever numbers a question is asked with
pub record SameExchanged (s t : List ℕ) : Type 0 where
  pub masks : (u v k : ℕ) → masked_of t (to s u) (to s v) (solid_to k) ≡ masked_of s u v k
  pub enclosed : (i : ℕ) → enclosed_of t (to s i) ≡ enclosed_of s i
  pub inside : (k : ℕ) → inside_of t (solid_to k) ≡ inside_of s k
  pub listing : listing_in (view_of t) ≡ listed_exchanged s
  pub counted : counted_of t ≡ counted_exchanged (counted_of s)
  pub verdict : verdict_of t ≡ verdict_exchanged s
  -- so both cut each other, or neither do; and both are apart, or neither are
  pub cross : (verdict_number (verdict_of t) ≡ 0) ↔ (verdict_number (verdict_of s) ≡ 0)
  pub apart : (verdict_number (verdict_of t) ≡ 3) ↔ (verdict_number (verdict_of s) ≡ 3)

pub record Exchange : Type 0 where
  pub untied : (s t : List ℕ) → judged s ≡ Ok tt → judged t ≡ Ok tt → Exchanged s t → NoTies s → SameExchanged s t
  pub clean : (s : List ℕ) → judged s ≡ Ok tt → clean_of s ≡ Ok true → NoTies s
  pub written : (s : List ℕ) → judged s ≡ Ok tt → (judged (exchanged_bytes s) ≡ Ok tt) × Exchanged s (exchanged_bytes s)
