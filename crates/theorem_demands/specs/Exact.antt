-- Demand 2: "acceptance, verdict, list and counts equal the definition". Accepted exactly when the written rules hold; the sign, piercing,
-- the mask, enclosure, the verdict, the listing and the counts exactly as document 01 says them, over all edges, faces and vertices of both
-- solids. The statement is `Exact`, at the end; its proof is `Exact.Proof.exact`. Assumes nothing.
use Rattle.std.specs.Prelude.{◌≡◌, ◌⊎◌, ◌↔◌, Bool, true, cond, List, ◌∷◌, ◌++◌, ℕ, ◌+◌, ◌-◌, ◌*◌, ◌^◌, ◌%◌, ◌≤◌, ◌<◌, leb, length, drop, false, Ok}
use Rattle.laws.specs.Lists.{Some, Number, run}
use Rattle.laws.specs.Mask.{test_bit}
use Rattle.laws.specs.Rising.{Less, Rising}
use Rattle.scene.specs.Limits.{limits}
use Rattle.scene.specs.Records.{verts_a, verts_b, faces_in_a, faces_in_b}
use Rattle.scene.specs.Tables.{tables_of, row}
use Rattle.judge.specs.Judge.{judged}
use Rattle.rules.specs.Rules.{FileOk}
use Rattle.rules.specs.FileOf.{FileOf}
use Rattle.rules.specs.Write.{Bytes}
use Rattle.orient.specs.Terms.{positive_at, terms_at}
use Rattle.orient.specs.declared.Terms.{Terms}
use Rattle.questions.specs.Hits.{Hit}
use Rattle.questions.specs.WritePairs.{three, flat, part_in}
use Rattle.scene.specs.View.{view_of}
use Rattle.questions.specs.Answers.{sign_of, pierces_of, verdict_of, counted_of, masked_of, faces_are, enclosed_of}
use Rattle.questions.specs.Answers.{IsListed, listing_in, inside_of, IsPart}
use Rattle.questions.specs.declared.Counts.{Counts}
use Rattle.questions.specs.declared.Verdict.TheVariants as verdict
use Rattle.questions.specs.Types.{Listed}
use Rattle.theorem_demands.specs.Words.{VertexOfA, VertexOfB, Vertex, far_point, FaceOfA, FaceOfB, Edge, Pierces, Enclosed}
use Rattle.theorem_demands.specs.Words.{FourPoints, TwoAlike, EdgeAndFace, AlikeOrCorner, EdgeAndSolid, AlikeOrVertex}

-- n numbers from a on; an odd number of the list are so
abbrev pub numbered : (a n : ℕ) → List ℕ
numbered = run (λ i. i)

abbrev pub Odd : (ℕ → Type 0) → List ℕ → Type 0
Odd P l = (n : ℕ) × Number P l n × (n % 2 ≡ 1)

module _ (s : List ℕ) where
  -- ---- the listing: "every pierced pair once", "Edges of A with faces of B first, then edges of B with faces of A; by lower point, then
  -- higher point, then face"

  -- an edge of the solid with the faces Own, and a face of the other that it pierces
  abbrev pub Crossing : (Own Other : ℕ → Type 0) → Hit → Type 0
  Crossing Own Other h = Edge s Own h.low h.high × Other h.face × Pierces s h.low h.high h.face

  abbrev pub PiercedPair : Hit → Type 0
  PiercedPair h = Crossing (FaceOfA s) (FaceOfB s) h ⊎ Crossing (FaceOfB s) (FaceOfA s) h

  -- the solid of a vertex: 1 is A, 2 is B
  abbrev pub solid_of : ℕ → ℕ
  solid_of i = cond (leb i (verts_a s)) 1 2

  -- by the solid of the edge, lower point, higher point, face
  abbrev pub Before : Hit → Hit → Type 0
  Before h k = Less (solid_of h.low ∷ three h) (solid_of k.low ∷ three k)

  pub record ListingIs : Type 0 where
    pub rising : Rising Before (listing_in (view_of s))
    pub members : (h : Hit) → Some (λ k. k ≡ h) (listing_in (view_of s)) ↔ PiercedPair h
    pub once : (h : Hit) → PiercedPair h → Number (λ k. k ≡ h) (listing_in (view_of s)) 1

  -- what the lent list d holds afterwards (d'): "Places beyond 3 × count keep their contents"
  pub record ListedIs (d d' : List ℕ) (x : Listed) : Type 0 where
    pub count : (n : ℕ) → (x ≡ Ok n) ↔ (FileOk limits s × (n ≡ length (listing_in (view_of s))) × (3 * n ≤ length d))
    pub held : (n : ℕ) → x ≡ Ok n → d' ≡ flat (listing_in (view_of s)) ++ drop (3 * n) d

  -- a part of it, from the pair numbered `from` on, from 0, as far as the lent list has room
  pub record PartIs (from : ℕ) (d d' : List ℕ) (x : Listed) : Type 0 where
    pub count : (n : ℕ) → (x ≡ Ok n) ↔ (FileOk limits s × (n ≡ length (listing_in (view_of s))))
    pub held : (n : ℕ) → x ≡ Ok n → d' ≡ part_in (listing_in (view_of s)) from d

  -- ---- "The verdict: the first pierced pair in listing order; if none, the lowest vertex of A enclosed by B; if none, the lowest vertex
  -- of B enclosed by A; else apart"

  pub record FirstPair (h : Hit) : Type 0 where
    pub pierced : PiercedPair h
    pub none_earlier : (k : Hit) → PiercedPair k → ¬ Before k h

  abbrev pub NonePierced : Type 0
  NonePierced = (h : Hit) → ¬ PiercedPair h

  abbrev pub NoneEnclosed : (ℕ → Type 0) → Type 0
  NoneEnclosed Of = (i : ℕ) → Of i → ¬ Enclosed s i

  pub record LowestEnclosed (Of : ℕ → Type 0) (p : ℕ) : Type 0 where
    pub of : Of p
    pub enclosed : Enclosed s p
    pub none_lower : (i : ℕ) → Of i → i < p → ¬ Enclosed s i

  pub record VerdictIs : Type 0 where
    pub cross : (u v f : ℕ) → (verdict_of s ≡ Ok (verdict.Cross u v f)) ↔ (FileOk limits s × FirstPair (record { low = u; high = v; face = f }))
    pub a_in_b_law : (p : ℕ) → (verdict_of s ≡ Ok (verdict.AInB p)) ↔ (FileOk limits s × NonePierced × LowestEnclosed (VertexOfA s) p)
    pub b_in_a_law : (p : ℕ) →
        (verdict_of s ≡ Ok (verdict.BInA p)) ↔ (FileOk limits s × NonePierced × NoneEnclosed (VertexOfA s) × LowestEnclosed (VertexOfB s) p)
    pub apart : (verdict_of s ≡ Ok verdict.Apart) ↔ (FileOk limits s × NonePierced × NoneEnclosed (VertexOfA s) × NoneEnclosed (VertexOfB s))

  -- ---- "bit k-1 is set exactly when the solid's k-th face is pierced, with the number of its ones", now "two words of 64 bits"

  -- of a solid with n faces that come after `behind` others
  pub record MaskIs (u v behind n mask ones : ℕ) : Type 0 where
    pub bit : (k : ℕ) → 1 ≤ k → k ≤ n → (test_bit mask (k - 1) ≡ true) ↔ Pierces s u v (behind + k)
    pub no_other : mask < 2 ^ n
    pub count : Number (Pierces s u v) (numbered (behind + 1) n) ones

  pub record MasksAre (u v mask ones : ℕ) : Type 0 where
    pub of_a : (masked_of s u v 1 ≡ faces_are mask ones)
        ↔ (FileOk limits s × EdgeAndSolid s u v 1 × ¬ AlikeOrVertex s u v 1 × MaskIs u v 0 (faces_in_a s) mask ones)
    pub of_b : (masked_of s u v 2 ≡ faces_are mask ones)
        ↔ (FileOk limits s × EdgeAndSolid s u v 2 × ¬ AlikeOrVertex s u v 2 × MaskIs u v (faces_in_a s) (faces_in_b s) mask ones)

  -- ---- "a vertex is enclosed by the other solid exactly when its mask toward the far point has an odd number of ones"

  pub record EnclosedIs : Type 0 where
    pub of_a : (i : ℕ) → VertexOfA s i → Enclosed s i ↔ Odd (Pierces s i (far_point s)) (numbered (faces_in_a s + 1) (faces_in_b s))
    pub of_b : (i : ℕ) → VertexOfB s i → Enclosed s i ↔ Odd (Pierces s i (far_point s)) (numbered 1 (faces_in_a s))
    pub yes : (i : ℕ) → (enclosed_of s i ≡ Ok true) ↔ (FileOk limits s × Vertex s i × Enclosed s i)
    pub no : (i : ℕ) → (enclosed_of s i ≡ Ok false) ↔ (FileOk limits s × Vertex s i × ¬ Enclosed s i)

  -- ---- "vertices of A enclosed by B, then of B by A", "the listing's count"

  pub record CountsAre (c : Counts) : Type 0 where
    pub pairs : c.pairs ≡ length (listing_in (view_of s))
    pub a_in_b_law : Number (Enclosed s) (numbered 1 (verts_a s)) c.a_in_b
    pub b_in_a_law : Number (Enclosed s) (numbered (verts_a s + 1) (verts_b s)) c.b_in_a

  -- one of the two
  pub record InsideIs (n : ℕ) : Type 0 where
    pub of_a : (inside_of s 1 ≡ Ok n) ↔ (FileOk limits s × Number (Enclosed s) (numbered 1 (verts_a s)) n)
    pub of_b : (inside_of s 2 ≡ Ok n) ↔ (FileOk limits s × Number (Enclosed s) (numbered (verts_a s + 1) (verts_b s)) n)

  -- ---- "The answer is the four terms and the sign of the first that is not zero"; piercing for u, v and a face

  pub record SignIs (a b c d : ℕ) (t : Terms) (positive : Bool) : Type 0 where
    pub points : FourPoints s a b c d
    pub different : ¬ TwoAlike a b c d
    pub terms : t ≡ terms_at (row (tables_of s)) a b c d
    pub sign : positive ≡ positive_at (row (tables_of s)) a b c d

  pub record PiercesIs (u v f : ℕ) : Type 0 where
    pub yes : (pierces_of s u v f ≡ Ok true) ↔ (FileOk limits s × EdgeAndFace s u v f × ¬ AlikeOrCorner s u v f × Pierces s u v f)
    pub no : (pierces_of s u v f ≡ Ok false) ↔ (FileOk limits s × EdgeAndFace s u v f × ¬ AlikeOrCorner s u v f × ¬ Pierces s u v f)

-- ---- the demand, of any bytes

pub record Exact (s : List ℕ) : Type 0 where
  pub accepted : (judged s ≡ Ok tt) ↔ FileOk limits s
  -- and exactly when it is the file of tables that keep the rules
  pub files : Bytes s → (judged s ≡ Ok tt) ↔ FileOf limits s
  pub sign : (a b c d : ℕ) (t : Terms) (positive : Bool) →
      (sign_of s a b c d ≡ Ok (t, positive)) ↔ (FileOk limits s × SignIs s a b c d t positive)
  pub pierces : (u v f : ℕ) → PiercesIs s u v f
  pub masks : (u v mask ones : ℕ) → MasksAre s u v mask ones
  pub enclosed : EnclosedIs s
  pub verdict : VerdictIs s
  pub listing : FileOk limits s → ListingIs s
  pub listed : (d d' : List ℕ) (x : Listed) → IsListed s d d' x → ListedIs s d d' x
  pub part : (from : ℕ) (d d' : List ℕ) (x : Listed) → IsPart s from d d' x → PartIs s from d d' x
  pub inside : (n : ℕ) → InsideIs s n
  pub counts : (c : Counts) → (counted_of s ≡ Ok c) ↔ (FileOk limits s × CountsAre s c)
