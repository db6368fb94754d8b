-- The tables that narrow the questions about a solid's edges: told by the other solid's words, or left empty. They serve one solid, then
-- the other: their entries for vertices do not meet, and those for faces are all told again. Assumes nothing.
use Rattle.std.specs.Prelude.{◌≡◌, refl, Bool, true, false, cond, ◌&&◌, List, ℕ, ◌+◌, ◌*◌, ◌≤◌, ◌<◌, eqb, length, replicate}
use Rattle.std.proofs.Common.{sym, ap, ◌∙◌, true≢false, arith, eq-eqb, eqb-true}
use Rattle.std.proofs.lemmas.List.{length-replicate}
use Rattle.laws.specs.Decides.{and_iff}
use Rattle.laws.specs.Lists.{each_run, replicate_at}
use Rattle.laws.specs.Mask.{mask_of}
use Rattle.scene.specs.Limits.{limits, most_points}
use Rattle.scene.specs.Arrays.{FacesWithin}
use Rattle.scene.specs.Faces.{FaceOf}
use Rattle.scene.specs.declared.Face.{Face}
use Rattle.scene.specs.declared.Solid.{Solid}
use Rattle.questions.specs.Hits.{PierceView, Own}
use Rattle.survey_sides.specs.Sides.{sides_of, masks_by}
use Rattle.survey_sides.specs.Tables.{mask_in}
use Rattle.survey_narrow.specs.Cover.{cut_in, cut_is, covers}
use Rattle.survey_narrow.specs.Union.{no_faces, cuts_from, covers_none, cuts_at, cuts_length, cuts_covered}
use Rattle.survey_narrow.specs.Marks.{own_marked, own_at, own_kept, own_length}
use Rattle.survey_sides.specs.Lent.{SidesFilled}
use Rattle.survey_narrow.specs.Lent.{Separated}
use Rattle.survey_enclosed.specs.Ready.{Ready}

-- each of the two has the other's faces opposite
abbrev pub mirrors : (k o : Solid) → Bool
mirrors k o = eqb o.other0 k.face0 && (eqb o.others k.faces && (eqb o.face0 k.other0 && eqb o.faces k.others))

-- the faces at each vertex of k, and those of them that part each face of o, or any of them; where the two are no mirrors the tables stay
-- as they are
abbrev pub own_filled : (ℕ → Face) → (k o : Solid) → List ℕ → List ℕ
own_filled face k o own = cond (mirrors k o) (own_marked face k.face0 k.faces own) own

abbrev pub separating_filled : (ℕ → Face) → (k o : Solid) → (words : List ℕ) → List ℕ → List ℕ
separating_filled face k o words separating = cond (mirrors k o) (cuts_from (λ j. cut_in words (face (k.other0 + j))) k.others separating)
    separating

-- tables that are empty at the solid's vertices and, where the two are no mirrors, at the faces opposite
pub record Blank (s : PierceView) (k o : Solid) (own separating : List ℕ) : Type 0 where
  pub own_size : length own ≡ 2 * (most_points limits + 1)
  pub cuts_size : length separating ≡ 2 * (limits.most_faces + 1)
  pub at : (u : ℕ) → Own s k u → mask_in own u ≡ no_faces
  pub cut : mirrors k o ≡ false → (j : ℕ) → j < k.others → mask_in separating (1 + j) ≡ no_faces

-- new tables are empty everywhere
abbrev new_own : List ℕ
new_own = replicate (2 * (most_points limits + 1)) 0

abbrev new_cuts : List ℕ
new_cuts = replicate (2 * (limits.most_faces + 1)) 0

new_at : (n t : ℕ) → mask_in (replicate n 0) t ≡ no_faces
new_at n t = λ i. record { low = replicate_at n (2 * t) 0 i; high = replicate_at n (2 * t + 1) 0 i }

pub blank_new : (s : PierceView) (k o : Solid) → Blank s k o new_own new_cuts
blank_new s k o = record {
  own_size = length-replicate {A = ℕ} (2 * (most_points limits + 1)) 0;
  cuts_size = length-replicate {A = ℕ} (2 * (limits.most_faces + 1)) 0;
  at = λ u a. new_at (2 * (most_points limits + 1)) u;
  cut = λ h j b. new_at (2 * (limits.most_faces + 1)) (1 + j);
}

-- empty tables say nothing
parted_none : (s : PierceView) (k : Solid) {own separating : List ℕ} → ((u : ℕ) → Own s k u → mask_in own u ≡ no_faces) →
    ((j : ℕ) → j < k.others → mask_in separating (1 + j) ≡ no_faces) → Separated s k own separating
unfolding masks_by mask_of
parted_none s k {separating = separating} x y = record {
  low = 0;
  high = 0;
  owned = 0;
  owns = 0;
  at = x;
  cut = y;
  any = λ j b. (λ i. covers (mask_in separating 0) (y j b i)) ∙ covers_none (mask_in separating 0);
  across = λ j b. record {
    within = omega arith;
    faces = λ i h. absurd (omega arith);
    p = λ h. omega arith;
    q = λ h. omega arith;
    r = λ h. omega arith;
  };
}

pub parted_new : (s : PierceView) (k : Solid) → Separated s k new_own new_cuts
parted_new s k = parted_none s k (λ u a. new_at (2 * (most_points limits + 1)) u) (λ j b. new_at (2 * (limits.most_faces + 1)) (1 + j))

-- what telling them asks for
pub parts_asked : (s : PierceView) (k : Solid) → Ready s k → FacesWithin limits s.face
    × ((k.face0 + k.faces ≤ 2 * limits.most_faces) × (k.faces ≤ limits.most_faces) × (k.other0 + k.others ≤ 2 * limits.most_faces)
    × (k.others ≤ limits.most_faces))
parts_asked s k r = let w = r.within in (w.sound.faces, (w.sound.own, w.few, w.sound.other.0, w.sound.other.1))

record Mirrored (k o : Solid) : Type 0 where
  first : o.other0 ≡ k.face0
  count : o.others ≡ k.faces
  other : o.face0 ≡ k.other0
  others : o.faces ≡ k.others

mirrored : (k o : Solid) → mirrors k o ≡ true → Mirrored k o
mirrored k o e =
    let a = (and_iff _ _).0 e in
    let b = (and_iff _ _).0 a.1 in
    let c = (and_iff _ _).0 b.1 in
    record {
      first = eqb-true o.other0 k.face0 a.0;
      count = eqb-true o.others k.faces b.0;
      other = eqb-true o.face0 k.other0 c.0;
      others = eqb-true o.faces k.others c.1;
    }

-- and then the other way round
mirrors_back : (k o : Solid) → mirrors k o ≡ true → mirrors o k ≡ true
mirrors_back k o h =
    let e = mirrored k o h in
    (and_iff _ _).1 (
      eq-eqb _ _ (sym e.other),
      (and_iff _ _).1 (
        eq-eqb _ _ (sym e.others),
        (and_iff _ _).1 (eq-eqb _ _ (sym e.first), eq-eqb _ _ (sym e.count)),
      ),
    )

module _ (s : PierceView) (k o : Solid) (r : Ready s k) (q : Ready s o) (h : mirrors k o ≡ true) {words : List ℕ}
    (t : SidesFilled s o words) where
  abbrev f : ℕ → Face
  f j = s.face (k.other0 + 1 + j)

  theirs : (j : ℕ) → j < k.others → FaceOf o.vert0 (o.vert0 + o.verts) (f j)
  theirs j b =
      let e = mirrored k o h in
      q.within.sound.corners (k.other0 + 1 + j) (omega (arith, e.other)) (omega (arith, e.other, e.others))

  other_faces : (j : ℕ) → j < k.others → FaceOf r.low r.high (f j)
  other_faces j b = each_run (FaceOf r.low r.high) s.face (k.other0 + 1) k.others r.closed.faces (k.other0 + 1 + j)
      (omega arith) (omega arith)

  side : (u : ℕ) → Own s o u → mask_in words u ≡ sides_of s.row s.face k.face0 k.faces u
  side u a = let e = mirrored k o h in t.own u a ∙ (λ i. sides_of s.row s.face (e.first i) (e.count i) u)

  own_faces : (j : ℕ) → j < k.faces → FaceOf q.low q.high (s.face (k.face0 + 1 + j))
  own_faces j b =
      let e = mirrored k o h in
      each_run (FaceOf q.low q.high) s.face (o.other0 + 1) o.others q.closed.faces (k.face0 + 1 + j)
      (omega (arith, e.first)) (omega (arith, e.first, e.count))

  module _ {own separating own' cuts' : List ℕ} (e : own' ≡ own_marked s.face k.face0 k.faces own)
      (d : cuts' ≡ cuts_from (λ j. cut_in words (s.face (k.other0 + j))) k.others separating) where
    parted_by : Blank s k o own separating → Separated s k own' cuts'
    parted_by z =
        let v = r.within.sound.vertices in
        let w = r.within.sound.other in
        record {
          low = k.vert0;
          high = k.vert0 + k.verts;
          owned = k.face0;
          owns = k.faces;
          at = λ u a.
              ap (λ (x : List ℕ). mask_in x u) e
              ∙ own_at s.face k.face0 k.faces u own (omega (arith, z.own_size, v, a))
              (λ i. (z.at u a i).low) (λ i. (z.at u a i).high);
          cut = λ j b.
              let c = theirs j b in
              let n : k.other0 + (1 + j) ≡ k.other0 + 1 + j = omega arith in
              ap (λ (x : List ℕ). mask_in x (1 + j)) d
              ∙ cuts_at (λ i. cut_in words (s.face (k.other0 + i))) k.others separating (omega (arith, z.cuts_size, w)) j b
              ∙ ap (λ (i : ℕ). cut_in words (s.face i)) n
              ∙ cut_is s.row s.face k.face0 k.faces words (f j) (side _ c.p) (side _ c.q) (side _ c.r);
          any = λ j b.
              (λ i. covers (mask_in (d i) 0) (mask_in (d i) (1 + j)))
              ∙ cuts_covered (λ i. cut_in words (s.face (k.other0 + i))) k.others separating (omega (arith, z.cuts_size, w)) j b;
          across = λ j b.
              let c = other_faces j b in
              record {
                within = omega (arith, r.before);
                faces = λ i l. r.within.sound.corners (k.face0 + 1 + i) (omega arith) (omega arith);
                p = λ a. r.apart _ a c.p;
                q = λ a. r.apart _ a c.q;
                r = λ a. r.apart _ a c.r;
              };
        }

    -- what is empty for the other stays so
    blank_kept : Blank s o k own separating → Blank s o k own' cuts'
    blank_kept z = record {
      own_size = ap length e ∙ own_length s.face k.face0 k.faces own ∙ z.own_size;
      cuts_size = ap length d ∙ cuts_length (λ j. cut_in words (s.face (k.other0 + j))) k.others separating ∙ z.cuts_size;
      at = λ u a.
          ap (λ (x : List ℕ). mask_in x u) e
          ∙ own_kept s.face k.face0 k.faces q.low q.high u own own_faces (q.apart u a) ∙ z.at u a;
      cut = λ n. absurd (true≢false (sym (mirrors_back k o h) ∙ n));
    }

-- told or not, the tables narrow the questions about k, and stay empty for o
abbrev Promised : PierceView → (k o : Solid) → (own separating own' cuts' : List ℕ) → Type 0
Promised s k o own separating own' cuts' = (Blank s k o own separating → Separated s k own' cuts') ×
    (Blank s o k own separating → Blank s o k own' cuts')

module _ (s : PierceView) (k o : Solid) (r : Ready s k) (q : Ready s o) {words own separating own' cuts' : List ℕ}
    (t : SidesFilled s o words)
    (e : own' ≡ own_filled s.face k o own) (d : cuts' ≡ separating_filled s.face k o words separating) where
  promised : Promised s k o own separating own' cuts'
  promised = by (mirrors k o) refl e d
    where
      by : (b : Bool) → mirrors k o ≡ b → own' ≡ cond b (own_marked s.face k.face0 k.faces own) own →
          cuts' ≡ cond b (cuts_from (λ j. cut_in words (s.face (k.other0 + j))) k.others separating) separating → Promised s k o own
          separating own' cuts'
      by true h x y = (parted_by s k o r q h t x y, blank_kept s k o r q h t x y)
      by false h x y = (λ z. rw (x, y) (parted_none s k z.at (z.cut h)), λ z. rw (x, y) z)

  pub parts_told : Blank s k o own separating → Separated s k own' cuts'
  parts_told = promised.0

  pub blank_told : Blank s o k own separating → Blank s o k own' cuts'
  blank_told = promised.1
