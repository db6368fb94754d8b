-- Demand 1, each refusal number given: bytes for 1 to 9 and 14, and for 10, 11 and 12 a scene that keeps the rules, in which an edge of B
-- pierces a face of A. Assumes nothing.
use Rattle.std.specs.Prelude.{◌≡◌, refl, List, [], ◌∷◌, ◌++◌, ℕ, ◌<◌, length, set, Ok, Err}
use Rattle.std.proofs.Common.{sym, subst, inl, inr, arith}
use Rattle.laws.specs.Range.{first_of, over, any_of, count_of, lowest_of}
use Rattle.laws.specs.Lists.{Each, Some, each_append, run, run_each}
use Rattle.laws.specs.Members.{some_length}
use Rattle.scene.specs.Limits.{limits, within}
use Rattle.scene.specs.Bytes.{two_at, coordinate_at, weight_at}
use Rattle.scene.specs.Refusal.{number_of}
use Rattle.scene.specs.Tables.{corner_at, row, face}
use Rattle.scene.specs.Faces.{is_corner, has_both}
use Rattle.scene.specs.declared.Refusal.{Refusal}
use Rattle.scene.specs.declared.Refusal.TheVariants.{Opening, Counts, Length, Mark, Coordinate, Weight, Corner, Unused, Edge, FarAllZero}
use Rattle.judge.specs.Judge.{refuse_unless, and_then, opens, counts_ok, header_fault, coordinate_ok, weight_ok}
use Rattle.judge.specs.Judge.{nowhere, somewhere_ok, point_fault, are_corners}
use Rattle.judge.specs.Judge.{verts_at, corners_ok, face_fault, end_fault, record_fault, records_fault, is_corner_of, is_edge, is_used, unused_fault}
use Rattle.judge.specs.Judge.{unuseds_fault, edge_ok, sides_ok, closed_at, edge_fault, edges_fault, judged_at, judged}
use Rattle.rules.specs.Rules.{FileOk}
use Rattle.rules.specs.Grounds.{Grounds}
use Rattle.rules.proofs.Accepted.{accepted}
use Rattle.rules.proofs.Refused as table
use Rattle.orient.specs.Terms.{terms, orientation, positive_at}
use Rattle.pierce.specs.Formula.{can_help, helper, counts, sides_count, formula, pierces}
use Rattle.questions.specs.WritePairs.{part_in}
use Rattle.scene.specs.View.{view_of}
use Rattle.questions.specs.Answers.{or_refuse, IsListed, IsPart, listing_in, listed_in, held_in}
use Rattle.questions.specs.Types.{Listed}
use Rattle.theorem_demands.specs.Words.{Pierces, CornerOf}
use Rattle.theorem_demands.specs.Numbers.{of_scene, Gives}
use Rattle.theorem_demands.specs.Answers.{OfScene}
use Rattle.theorem_demands.proofs.Exact.Pairs.{members}

-- a refusal with the number n is given
abbrev Given : (List ℕ → Refusal → Type 0) → ℕ → Type 0
Given Refuses n = (r : Refusal) × (number_of r ≡ n) × (s : List ℕ) × Refuses s r

-- ---- the bytes of two scenes. In `base` both solids have two faces on the same three corners, and B's edge from 4 to 5 pierces A's faces;
-- in `four` A has a fourth vertex, which is in no face

abbrev pub base : List ℕ
base =
    83 ∷ 67 ∷ 3 ∷ 2 ∷ 3 ∷ 2 ∷
    70 ∷ 80 ∷ 100 ∷ 0 ∷ 101 ∷ 0 ∷ 103 ∷ 0 ∷ 1 ∷
    86 ∷ 88 ∷ 0 ∷ 0 ∷ 0 ∷ 0 ∷ 0 ∷ 0 ∷ 1 ∷
    86 ∷ 88 ∷ 4 ∷ 0 ∷ 0 ∷ 0 ∷ 0 ∷ 0 ∷ 1 ∷
    86 ∷ 88 ∷ 0 ∷ 0 ∷ 4 ∷ 0 ∷ 0 ∷ 0 ∷ 1 ∷
    86 ∷ 88 ∷ 1 ∷ 0 ∷ 1 ∷ 0 ∷ 253 ∷ 255 ∷ 1 ∷
    86 ∷ 88 ∷ 1 ∷ 0 ∷ 1 ∷ 0 ∷ 5 ∷ 0 ∷ 1 ∷
    86 ∷ 88 ∷ 9 ∷ 0 ∷ 9 ∷ 0 ∷ 9 ∷ 0 ∷ 1 ∷
    70 ∷ 67 ∷ 1 ∷ 2 ∷ 3 ∷
    70 ∷ 67 ∷ 1 ∷ 2 ∷ 3 ∷
    70 ∷ 67 ∷ 1 ∷ 2 ∷ 3 ∷
    70 ∷ 67 ∷ 1 ∷ 2 ∷ 3 ∷
    69 ∷ 78 ∷ []

abbrev four : List ℕ
four =
    83 ∷ 67 ∷ 4 ∷ 2 ∷ 3 ∷ 2 ∷
    70 ∷ 80 ∷ 100 ∷ 0 ∷ 101 ∷ 0 ∷ 103 ∷ 0 ∷ 1 ∷
    86 ∷ 88 ∷ 0 ∷ 0 ∷ 0 ∷ 0 ∷ 0 ∷ 0 ∷ 1 ∷
    86 ∷ 88 ∷ 4 ∷ 0 ∷ 0 ∷ 0 ∷ 0 ∷ 0 ∷ 1 ∷
    86 ∷ 88 ∷ 0 ∷ 0 ∷ 4 ∷ 0 ∷ 0 ∷ 0 ∷ 1 ∷
    86 ∷ 88 ∷ 0 ∷ 0 ∷ 0 ∷ 0 ∷ 4 ∷ 0 ∷ 1 ∷
    86 ∷ 88 ∷ 1 ∷ 0 ∷ 1 ∷ 0 ∷ 253 ∷ 255 ∷ 1 ∷
    86 ∷ 88 ∷ 1 ∷ 0 ∷ 1 ∷ 0 ∷ 5 ∷ 0 ∷ 1 ∷
    86 ∷ 88 ∷ 9 ∷ 0 ∷ 9 ∷ 0 ∷ 9 ∷ 0 ∷ 1 ∷
    70 ∷ 67 ∷ 1 ∷ 2 ∷ 3 ∷
    70 ∷ 67 ∷ 1 ∷ 2 ∷ 3 ∷
    70 ∷ 67 ∷ 1 ∷ 2 ∷ 3 ∷
    70 ∷ 67 ∷ 1 ∷ 2 ∷ 3 ∷
    69 ∷ 78 ∷ []

base_accepted : judged base ≡ Ok tt
unfolding judged_at and_then refuse_unless header_fault opens counts_ok within records_fault first_of over record_fault point_fault coordinate_ok
    weight_ok
    nowhere somewhere_ok face_fault corners_ok are_corners verts_at end_fault unuseds_fault unused_fault is_used is_corner_of is_corner any_of edges_fault
    edge_fault closed_at sides_ok edge_ok is_edge has_both count_of corner_at two_at coordinate_at weight_at
base_accepted = refl

pub keeps : FileOk limits base
keeps = (accepted limits base).0 base_accepted

-- ---- 1 to 9 and 14: no bytes; two vertices; a byte too many; no mark; coordinate 4,096; weight 17; corner 0; the fourth vertex, in no
-- face and in one; and a far point of four zeros

abbrev ByScene : List ℕ → Refusal → Type 0
ByScene s r = judged s ≡ Err r

ten : Each (Given ByScene) of_scene
unfolding judged_at and_then refuse_unless header_fault opens counts_ok within records_fault first_of over record_fault point_fault coordinate_ok
    weight_ok
    nowhere somewhere_ok face_fault corners_ok are_corners verts_at end_fault unuseds_fault unused_fault is_used is_corner_of is_corner any_of edges_fault
    edge_fault closed_at sides_ok edge_ok is_edge has_both count_of corner_at two_at coordinate_at weight_at
ten = (
  (Opening, refl, [], refl),
  (
    (Counts, refl, set base 2 2, refl),
    (
      (Length, refl, base ++ 0 ∷ [], refl),
      (
        (Mark 1, refl, set base 6 0, refl),
        (
          (Coordinate 1, refl, set (set base 8 0) 9 16, refl),
          (
            (Weight 1, refl, set base 14 17, refl),
            (
              (Corner 8, refl, set base 71 0, refl),
              (
                (Unused 4, refl, four, refl),
                (
                  (Edge 9, refl, set four 87 4, refl),
                  ((FarAllZero 1, refl, set (set (set (set base 8 0) 10 0) 12 0) 14 0, refl), tt),
                ),
              ),
            ),
          ),
        ),
      ),
    ),
  ),
)

-- so each question gives them
to_each : (Q : List ℕ → Refusal → Type 0) → ((r : Refusal) (s : List ℕ) → OfScene (number_of r) → Grounds limits s r → Q s r) →
    (l : List ℕ) → Each OfScene l → Each (Given ByScene) l → Each (Given Q) l
to_each Q h [] b e = tt
to_each Q h (n ∷ l) b e =
    let g = e.0 in
    let s = g.2 in
    ((g.0, g.1, s, h g.0 s (subst OfScene (sym g.1) b.0) ((table.refused limits s g.0).0 g.3)), to_each Q h l b.1 e.1)

small : Each OfScene of_scene
small =
    each_append OfScene (run (λ i. i) 1 9) (14 ∷ []) (run_each OfScene (λ i. i) 1 9 (λ i a b. inl (omega arith))) (inr refl, tt)

all_of_scene : (Q : List ℕ → Refusal → Type 0) → ((r : Refusal) (s : List ℕ) → OfScene (number_of r) → Grounds limits s r → Q s r) →
    Each (Given Q) of_scene
all_of_scene Q h = to_each Q h of_scene small ten

-- ---- 10: the listing of `base` is not empty

on_4 : CornerOf base 4 3
unfolding face corner_at
on_4 = inl refl

on_5 : CornerOf base 5 3
unfolding face corner_at
on_5 = inr (inl refl)

through : Pierces base 4 5 1
unfolding pierces formula sides_count counts helper can_help lowest_of over positive_at orientation terms row face corner_at two_at coordinate_at
    weight_at
through = refl

pub not_empty : 0 < length (listing_in (view_of base))
not_empty =
    some_length _ (listing_in (view_of base))
    ((members base base_accepted (record { low = 4; high = 5; face = 1 })).1
    (inr (record { lower_first = omega arith; on = (3, (omega arith, omega arith), on_4, on_5) }, (omega arith, omega arith), through)))

abbrev pub listed_of : (s d : List ℕ) → Listed
listed_of s d = or_refuse Err (judged s) (listed_in (view_of s) d)

abbrev pub held_of : (s d : List ℕ) → List ℕ
held_of s d = or_refuse (λ _. d) (judged s) (held_in (view_of s) d)

pub is_listed : (s d : List ℕ) → IsListed s d (held_of s d) (listed_of s d)
is_listed s d = record { answer = refl; held = refl }

abbrev pub part_of : List ℕ → Listed
part_of s = or_refuse Err (judged s) (Ok (length (listing_in (view_of s))))

abbrev pub part_held : List ℕ → List ℕ
part_held s = or_refuse (λ _. []) (judged s) (part_in (listing_in (view_of s)) 0 [])

pub is_part : (s : List ℕ) → IsPart s 0 [] (part_held s) (part_of s)
is_part s = record { answer = refl; held = refl }

-- ---- a question: what a refused scene gives it, what gives each number of its own, and that there is no other

pub gives : {Q : List ℕ → Refusal → Type 0} (own : List ℕ) →
    ((r : Refusal) (s : List ℕ) → OfScene (number_of r) → Grounds limits s r → Q s r) →
    Each (Given Q) own → ((s : List ℕ) (r : Refusal) → Q s r → Some (λ n. number_of r ≡ n) (of_scene ++ own)) → Gives own Q
gives {Q} own h e n = record { no_other = n; each = each_append (Given Q) of_scene own (all_of_scene Q h) e }
