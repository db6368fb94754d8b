-- A table of one word for each point: at each vertex of a solid its neighbours. One pass over the faces joins each face's corners to the
-- words of its corners. Assumes nothing.
use Rattle.std.specs.Prelude.{◌≡◌, refl, ◌≢◌, false, cond, ◌||◌, List, ℕ, ◌+◌, ◌≤◌, ◌<◌, eqb, length, set}
use Rattle.std.proofs.Math.Path.{sym}
use Rattle.std.proofs.Common.{ap, ◌∙◌, arith, length-set, get_or-set_same, get_or-set_other}
use Rattle.std.proofs.Math.Decide.{ℕ_discrete}
use borrow.Author.Tests.{eq-eqb, ne_eqb}
use Rattle.std.specs.Int.Bits.{bit_or, or_zero_r}
use Rattle.std.proofs.Math.ListN.{get_or}
use Rattle.scene.specs.Limits.{limits, most_points}
use Rattle.scene.specs.Faces.{Vertex, FaceOf, is_corner}
use Rattle.scene.specs.Arrays.{FaceWithin}
use Rattle.scene.specs.declared.Face.{Face}
use Rattle.scene.specs.Edges.{width, joined, neighbours}
use Rattle.scene.specs.Words.{bit_of, face_word, upto, upto_start, upto_more, in_word}
use Rattle.scene.specs.declared.Solid.{Solid}

-- as many words as there are numbers up to the highest point's
abbrev pub words : ℕ
words = most_points limits + 1

-- the table once the bits of t have joined the word of u
unfoldable pub ored : List ℕ → (u t : ℕ) → List ℕ
ored l u t = set l u (bit_or (get_or l u 0) t)

-- the words of the n points above low are 0, the others as they were
pub record Cleared (low n : ℕ) (before after : List ℕ) : Type 0 where
  pub size : length after ≡ length before
  pub own : (u : ℕ) → Vertex low (low + n) u → get_or after u 0 ≡ 0
  pub other : (u : ℕ) → (Vertex low (low + n) u → ⊥) → get_or after u 0 ≡ get_or before u 0

-- the face's corners have joined the word of each of them
pub record LinksFace (low : ℕ) (f : Face) (before after : List ℕ) : Type 0 where
  pub size : length after ≡ length before
  pub at : (u : ℕ) → get_or after u 0 ≡ bit_or (get_or before u 0) (face_word low u f)

-- each vertex of the solid has its neighbours; the words of other points are as they were
pub record Linked (face : ℕ → Face) (k : Solid) (before after : List ℕ) : Type 0 where
  pub size : length after ≡ length before
  pub own : (u : ℕ) → Vertex k.vert0 (k.vert0 + k.verts) u → get_or after u 0 ≡ neighbours face k u
  pub other : (u : ℕ) → (Vertex k.vert0 (k.vert0 + k.verts) u → ⊥) → get_or after u 0 ≡ get_or before u 0

-- ---- one face

module _ (l : List ℕ) (p t : ℕ) (h : p < length l) where
  pub ored_at : (v : ℕ) → get_or (ored l p t) v 0 ≡ bit_or (get_or l v 0) (cond (eqb p v) t 0)
  unfolding ored
  ored_at v = go (ℕ_discrete v p)
    where
      go : Dec (v ≡ p) → get_or (ored l p t) v 0 ≡ bit_or (get_or l v 0) (cond (eqb p v) t 0)
      go (yes e) = rw (e, eq-eqb p p refl) (get_or-set_same l p (bit_or (get_or l p 0) t) 0 h)
      go (no d) = rw (ne_eqb p v (λ e. d (sym e))) (get_or-set_other l p v (bit_or (get_or l p 0) t) 0 d ∙ sym (or_zero_r (get_or l v 0)))

pub ored_size : (l : List ℕ) (p t : ℕ) {after : List ℕ} → after ≡ ored l p t → length after ≡ length l
unfolding ored
ored_size l p t e = ap length e ∙ length-set l p (bit_or (get_or l p 0) t)

-- of three different corners, v is one at most
once : (m t v : ℕ) (p q r : ℕ) → p ≢ q → q ≢ r → r ≢ p →
    bit_or (bit_or (bit_or m (cond (eqb p v) t 0)) (cond (eqb q v) t 0)) (cond (eqb r v) t 0) ≡ bit_or m
    (cond (eqb p v || (eqb q v || eqb r v)) t 0)
once m t v p q r pq qr rp = go (ℕ_discrete p v) (ℕ_discrete q v) (ℕ_discrete r v)
  where
    go : Dec (p ≡ v) → Dec (q ≡ v) → Dec (r ≡ v) →
        bit_or (bit_or (bit_or m (cond (eqb p v) t 0)) (cond (eqb q v) t 0)) (cond (eqb r v) t 0) ≡ bit_or m
        (cond (eqb p v || (eqb q v || eqb r v)) t 0)
    go (yes a) (yes b) c = absurd (pq (a ∙ sym b))
    go (yes a) (no b) (yes c) = absurd (rp (c ∙ sym a))
    go (yes a) (no b) (no c) = rw (eq-eqb p v a, ne_eqb q v b, ne_eqb r v c) (or_zero_r _ ∙ or_zero_r _)
    go (no a) (yes b) (yes c) = absurd (qr (b ∙ sym c))
    go (no a) (yes b) (no c) = rw (ne_eqb p v a, eq-eqb q v b, ne_eqb r v c) (or_zero_r _ ∙ ap (λ (x : ℕ). bit_or x t) (or_zero_r m))
    go (no a) (no b) (yes c) = rw (ne_eqb p v a, ne_eqb q v b, eq-eqb r v c) (ap (λ (x : ℕ). bit_or x t) (or_zero_r _ ∙ or_zero_r m))
    go (no a) (no b) (no c) = rw (ne_eqb p v a, ne_eqb q v b, ne_eqb r v c) (or_zero_r _ ∙ or_zero_r _)

pub links_face : (low : ℕ) (f : Face) (l : List ℕ) {l1 l2 l3 : List ℕ} {x y z : ℕ} → FaceOf low (low + width) f → FaceWithin limits f →
    length l ≡ words →
    x ≡ bit_of low f.p → y ≡ bit_of low f.q → z ≡ bit_of low f.r →
    l1 ≡ ored l f.p (bit_or (bit_or x y) z) → l2 ≡ ored l1 f.q (bit_or (bit_or x y) z) → l3 ≡ ored l2 f.r (bit_or (bit_or x y) z) →
    LinksFace low f l l3
unfolding face_word is_corner
links_face low f l {l1} {l2} {l3} {x} {y} {z} ok fit long ex ey ez e1 e2 e3 =
    let t : ℕ = bit_or (bit_or x y) z in
    let s1 : length l1 ≡ length l = ored_size l f.p t e1 in
    let s2 : length l2 ≡ length l1 = ored_size l1 f.q t e2 in
    record {
      size = ored_size l2 f.r t e3 ∙ s2 ∙ s1;
      at = λ v.
          ap (λ (w : List ℕ). get_or w v 0) e3
          ∙ ored_at l2 f.r t (omega (arith, s1, s2, fit.r)) v
          ∙ ap (λ (w : ℕ). bit_or w (cond (eqb f.r v) t 0))
          (ap (λ (w : List ℕ). get_or w v 0) e2
          ∙ ored_at l1 f.q t (omega (arith, s1, fit.q)) v
          ∙ ap (λ (w : ℕ). bit_or w (cond (eqb f.q v) t 0))
          (ap (λ (w : List ℕ). get_or w v 0) e1 ∙ ored_at l f.p t (omega (arith, fit.p)) v))
          ∙ once (get_or l v 0) t v f.p f.q f.r ok.proper.pq ok.proper.qr ok.proper.rp
          ∙ (λ j. bit_or (get_or l v 0) (cond (eqb f.p v || (eqb f.q v || eqb f.r v)) (bit_or (bit_or (ex j) (ey j)) (ez j)) 0));
    }

-- ---- face by face: the neighbours by the faces below i

-- no face of the solid has a point outside it as a corner
pub outside : (low n u : ℕ) (f : Face) → FaceOf low (low + n) f → (Vertex low (low + n) u → ⊥) → is_corner u f ≡ false
unfolding is_corner
outside low n u f ok h =
    rw (
      ne_eqb f.p u (λ e. h (rw (← e) ok.p)),
      ne_eqb f.q u (λ e. h (rw (← e) ok.q)),
      ne_eqb f.r u (λ e. h (rw (← e) ok.r)),
    )

no_word : (low u : ℕ) (f : Face) → is_corner u f ≡ false → face_word low u f ≡ 0
unfolding face_word
no_word low u f e = rw e

pub record Linking (face : ℕ → Face) (low n first i : ℕ) (before after : List ℕ) : Type 0 where
  pub size : length after ≡ length before
  pub own : (u : ℕ) → Vertex low (low + n) u → get_or after u 0 ≡ upto face (first + 1) low width u i
  pub other : (u : ℕ) → (Vertex low (low + n) u → ⊥) → get_or after u 0 ≡ get_or before u 0

module _ (face : ℕ → Face) (low n first : ℕ) where
  pub linking_none : {l before : List ℕ} → Cleared low n l before → Linking face low n first (first + 1) before before
  linking_none c = record { size = refl; own = λ u h. c.own u h ∙ upto_start face (first + 1) low width u; other = λ u h. refl }

  -- one face more of the solid
  pub linking_more : (i : ℕ) {before l after : List ℕ} {f : Face} → n ≤ width → first + 1 ≤ i → FaceOf low (low + n) (face i) → f ≡ face i →
      Linking face low n first i before l → LinksFace low f l after → Linking face low n first (i + 1) before after
  linking_more i {before} {l} {after} fits a ok e s m =
      let at : (u : ℕ) → get_or after u 0 ≡ bit_or (get_or l u 0) (face_word low u (face i)) =
      λ u. m.at u ∙ ap (λ (g : Face). bit_or (get_or l u 0) (face_word low u g)) e in
      record {
        size = m.size ∙ s.size;
        own = λ u h. at u ∙ upto_more face (first + 1) low width u i a (in_word _ _ fits ok) (s.own u h) refl;
        other = λ u h. at u ∙ ap (bit_or (get_or l u 0)) (no_word low u (face i) (outside low n u (face i) ok h))
            ∙ or_zero_r (get_or l u 0) ∙ s.other u h;
      }

pub linking_all : (face : ℕ → Face) (k : Solid) (i : ℕ) {l before after : List ℕ} → i ≡ k.face0 + 1 + k.faces →
    Cleared k.vert0 k.verts l before →
    Linking face k.vert0 k.verts k.face0 i before after → Linked face k l after
unfolding neighbours joined
linking_all face k i e c s =
    record {
      size = s.size ∙ c.size;
      own = λ u h. s.own u h ∙ ap (upto face (k.face0 + 1) k.vert0 width u) e;
      other = λ u h. s.other u h ∙ c.other u h;
    }
