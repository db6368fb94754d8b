-- The answer of each question, asked of a view, with the question's own refusals (10 to 12); and asked of bytes: the judge's refusal, or
-- the answer of what the bytes denote. Each answer enum has its numbers and values in the words of document 01. Assumes nothing.
use Rattle.std.specs.Prelude.{◌≡◌, Bool, not, cond, ◌&&◌, List, [], ◌∷◌, ◌++◌, ℕ, ◌+◌, ◌*◌, eqb, leb, length, Ok, Err, Some, None}
use Rattle.std.specs.Int.Count.{ones}
use Rattle.scene.specs.Refusal.{number_of, place_of}
use Rattle.scene.specs.View.{View, view_of, verts, points, faces, solid}
use Rattle.scene.specs.declared.Refusal.{Refusal}
use Rattle.scene.specs.declared.Refusal.TheVariants.{ListTooShort, NoSuchNumber, NotDistinct}
use Rattle.scene.specs.declared.Face.{Face}
use Rattle.judge.specs.Judge.{refuse_unless, judged}
use Rattle.scene.specs.Limits.{within}
use Rattle.scene.specs.Faces.{is_corner}
use Rattle.judge.specs.Judge.{Judged}
use Rattle.orient.specs.Terms.{positive_at, terms_at}
use Rattle.pierce.specs.Formula.{pierced}
use Rattle.pierce_masks.specs.Faces.{is_odd, value_of}
use Rattle.pierce.specs.Against.{mask_against}
use Rattle.questions.specs.Hits.{PierceView, Hit, solid_hits, enclosed_count, lowest_enclosed}
use Rattle.questions.specs.First.{first_of}
use Rattle.questions.specs.WritePairs.{all_in, part_in}
use Rattle.questions.specs.Types.{Found}
use Rattle.questions.specs.Types.{Signed}
use Rattle.questions.specs.Types.{Answer}
use Rattle.questions.specs.Types.{Masked}
use Rattle.questions.specs.Types.{Counted}
use Rattle.questions.specs.Types.{Enclosing}
use Rattle.questions.specs.Types.{Concluded}
use Rattle.questions.specs.declared.Verdict.{Verdict}
use Rattle.questions.specs.declared.Verdict.TheVariants as verdict
use Rattle.questions.specs.Types.{Listed}
use Rattle.questions.specs.declared.Counts.{Counts}

-- the answer where nothing is at fault, else the refusal
unfoldable pub or_refuse : {X : Type 0} → (Refusal → X) → Judged → X → X
or_refuse refuse (Ok _) x = x
or_refuse refuse (Err r) x = refuse r

-- ---- numbers that a scene has: a point, the far point too; a vertex; a face; a solid (1 is A, 2 is B); a vertex of solid k

unfoldable pub is_point : View → ℕ → Bool
is_point v i = within 1 (points v) i

unfoldable pub is_vertex : View → ℕ → Bool
is_vertex v i = within 1 (verts v) i

unfoldable pub is_face : View → ℕ → Bool
is_face v f = within 1 (faces v) f

unfoldable pub is_solid : ℕ → Bool
is_solid k = within 1 2 k

unfoldable pub is_vertex_of : View → (k i : ℕ) → Bool
is_vertex_of v k i = within ((solid v k).vert0 + 1) ((solid v k).vert0 + (solid v k).verts) i

abbrev pub differs : ℕ → ℕ → Bool
differs i j = not (eqb i j)

-- ---- the sign of four points

unfoldable pub differ : (a b c d : ℕ) → Bool
differ a b c d = differs a b && (differs a c && (differs a d && (differs b c && (differs b d && differs c d))))

unfoldable pub are_points : View → (a b c d : ℕ) → Bool
are_points v a b c d = is_point v a && (is_point v b && (is_point v c && is_point v d))

unfoldable pub sign_fault : View → (a b c d : ℕ) → Judged
sign_fault v a b c d = refuse_unless (are_points v a b c d) NoSuchNumber (refuse_unless (differ a b c d) NotDistinct (Ok tt))

unfoldable pub sign_in : View → (a b c d : ℕ) → Signed
sign_in v a b c d = or_refuse Err (sign_fault v a b c d) (Ok ((terms_at v.row a b c d), (positive_at v.row a b c d)))

-- ---- an edge from u to w, and a face

unfoldable pub ends_off_face : (u w : ℕ) → Face → Bool
ends_off_face u w f = differs u w && (not (is_corner u f) && not (is_corner w f))

unfoldable pub edge_and_face : View → (u w f : ℕ) → Bool
edge_and_face v u w f = is_point v u && (is_point v w && is_face v f)

unfoldable pub pierces_fault : View → (u w f : ℕ) → Judged
pierces_fault v u w f = refuse_unless (edge_and_face v u w f) NoSuchNumber (refuse_unless (ends_off_face u w (v.face f)) NotDistinct (Ok tt))

unfoldable pub pierces_in : View → (u w f : ℕ) → Answer
pierces_in v u w f = or_refuse Err (pierces_fault v u w f) (Ok (pierced (points v) v.row u w (v.face f)))

-- ---- the mask of u, w against solid k: bit j - 1 is set exactly when the solid's j-th face is pierced

unfoldable pub edge_and_solid : View → (u w k : ℕ) → Bool
edge_and_solid v u w k = is_point v u && (is_point v w && is_solid k)

unfoldable pub ends_off_solid : View → (u w k : ℕ) → Bool
ends_off_solid v u w k = differs u w && (not (is_vertex_of v k u) && not (is_vertex_of v k w))

unfoldable pub mask_fault : View → (u w k : ℕ) → Judged
mask_fault v u w k = refuse_unless (edge_and_solid v u w k) NoSuchNumber (refuse_unless (ends_off_solid v u w k) NotDistinct (Ok tt))

unfoldable pub mask_in : View → (u w k : ℕ) → ℕ
mask_in v u w k = mask_against (points v) v.row v.face u w (solid v k).face0 (solid v k).faces

-- what is said: a refusal, or the mask's number with the number of its ones
pub data MaskSaid : Type 0 where
  refused : Refusal → MaskSaid
  faces_are : (mask ones : ℕ) → MaskSaid

abbrev pub said_mask : Masked → MaskSaid
said_mask (Err r) = refused r
said_mask (Ok (m, n)) = faces_are (value_of m) n

unfoldable pub masked_in : View → (u w k : ℕ) → MaskSaid
masked_in v u w k = or_refuse refused (mask_fault v u w k) (faces_are (mask_in v u w k) (ones (mask_in v u w k)))

-- ---- a vertex enclosed by the other solid: its mask toward the far point has an odd number of ones

-- B for a vertex of A, A for one of B
unfoldable pub other_solid : View → ℕ → ℕ
other_solid v i = cond (leb i v.verts_a) 2 1

unfoldable pub is_enclosed : View → ℕ → Bool
is_enclosed v i = is_odd (mask_in v i (points v) (other_solid v i))

unfoldable pub enclosed_fault : View → ℕ → Judged
enclosed_fault v i = refuse_unless (is_vertex v i) NoSuchNumber (Ok tt)

unfoldable pub enclosed_in : View → ℕ → Answer
enclosed_in v i = or_refuse Err (enclosed_fault v i) (Ok (is_enclosed v i))

-- ---- every pierced pair: edges of A with faces of B, then edges of B with faces of A

-- what piercing reads
abbrev pub pierce_view : View → PierceView
pierce_view v = record { points = points v; row = v.row; face = v.face }

unfoldable pub listing_in : View → List Hit
listing_in v = solid_hits (pierce_view v) (solid v 1) ++ solid_hits (pierce_view v) (solid v 2)

-- ---- counts: how many pairs, and how many vertices of a solid the other encloses

unfoldable pub inside_in : View → ℕ → ℕ
inside_in v k = enclosed_count (pierce_view v) (solid v k)

unfoldable pub counts_in : View → Counts
counts_in v = record { pairs = length (listing_in v); a_in_b = inside_in v 1; b_in_a = inside_in v 2 }

unfoldable pub inside_fault : ℕ → Judged
inside_fault k = refuse_unless (is_solid k) NoSuchNumber (Ok tt)

unfoldable pub enclosing_in : View → ℕ → Enclosing
enclosing_in v k = or_refuse Err (inside_fault k) (Ok (inside_in v k))

-- ---- the verdict: its number (the order of its words: cross, a-in-b, b-in-a, apart, and a refusal last) and its values

abbrev pub verdict_number : Concluded → ℕ
verdict_number (Ok (verdict.Cross u w f)) = 0
verdict_number (Ok (verdict.AInB p)) = 1
verdict_number (Ok (verdict.BInA p)) = 2
verdict_number (Ok verdict.Apart) = 3
verdict_number (Err r) = 4

abbrev pub verdict_values : Concluded → List ℕ
verdict_values (Ok (verdict.Cross u w f)) = u ∷ w ∷ f ∷ []
verdict_values (Ok (verdict.AInB p)) = p ∷ []
verdict_values (Ok (verdict.BInA p)) = p ∷ []
verdict_values (Ok verdict.Apart) = []
verdict_values (Err r) = number_of r ∷ place_of r ∷ []

-- the first pierced pair; if none, the lowest vertex of A enclosed by B; if none, the lowest of B enclosed by A; else apart
abbrev pub cross_or : Found → Verdict → Verdict
cross_or (Some (u, w, f)) rest = verdict.Cross u w f
cross_or None rest = rest

unfoldable pub enclosure_in : View → Verdict
enclosure_in v =
    let p : ℕ = lowest_enclosed (pierce_view v) (solid v 1) in
    let q : ℕ = lowest_enclosed (pierce_view v) (solid v 2) in
    cond (leb p v.verts_a) (verdict.AInB p) (cond (leb q (verts v)) (verdict.BInA q) verdict.Apart)

unfoldable pub verdict_in : View → Verdict
verdict_in v = cross_or (first_of (listing_in v)) (enclosure_in v)

-- ---- the listing: d is what the lent list held; what is answered, and what the list holds afterwards

unfoldable pub list_fault : View → List ℕ → Judged
list_fault v d = refuse_unless (leb (3 * length (listing_in v)) (length d)) (ListTooShort (length (listing_in v))) (Ok tt)

unfoldable pub listed_in : View → List ℕ → Listed
listed_in v d = or_refuse Err (list_fault v d) (Ok (length (listing_in v)))

unfoldable pub held_in : View → List ℕ → List ℕ
held_in v d = or_refuse (λ _. d) (list_fault v d) (all_in (listing_in v) d)

-- ---- asked of bytes: the judge's refusal, or the answer of what they denote

unfoldable pub sign_of : List ℕ → (a b c d : ℕ) → Signed
sign_of s a b c d = or_refuse Err (judged s) (sign_in (view_of s) a b c d)

unfoldable pub pierces_of : List ℕ → (u w f : ℕ) → Answer
pierces_of s u w f = or_refuse Err (judged s) (pierces_in (view_of s) u w f)

unfoldable pub masked_of : List ℕ → (u w k : ℕ) → MaskSaid
masked_of s u w k = or_refuse refused (judged s) (masked_in (view_of s) u w k)

unfoldable pub enclosed_of : List ℕ → ℕ → Answer
enclosed_of s i = or_refuse Err (judged s) (enclosed_in (view_of s) i)

unfoldable pub counted_of : List ℕ → Counted
counted_of s = or_refuse Err (judged s) (Ok (counts_in (view_of s)))

unfoldable pub inside_of : List ℕ → ℕ → Enclosing
inside_of s k = or_refuse Err (judged s) (enclosing_in (view_of s) k)

unfoldable pub verdict_of : List ℕ → Concluded
verdict_of s = or_refuse Err (judged s) (Ok (verdict_in (view_of s)))

-- d' is what the lent list holds afterwards; of a part, from the pair numbered `from` on, as far as there is room
pub record IsListed (s d d' : List ℕ) (r : Listed) : Type 0 where
  pub answer : r ≡ or_refuse Err (judged s) (listed_in (view_of s) d)
  pub held : d' ≡ or_refuse (λ _. d) (judged s) (held_in (view_of s) d)

pub record IsPart (s : List ℕ) (from : ℕ) (d d' : List ℕ) (r : Listed) : Type 0 where
  pub answer : r ≡ or_refuse Err (judged s) (Ok (length (listing_in (view_of s))))
  pub held : d' ≡ or_refuse (λ _. d) (judged s) (part_in (listing_in (view_of s)) from d)
