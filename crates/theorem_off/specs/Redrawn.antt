-- A drawing has the form of a text, and denotes the solid that was drawn. Assumes nothing.
use Prim.Native.Nat.{ℕ, suc, ◌+◌, ◌*◌, ◌-◌, ◌<◌}
use Rattle.std.specs.Prelude.{◌≡◌, Bool, pos, drop, Result, Ok, Err}
use Rattle.std.proofs.Math.Path.{refl, sym, ap, ap₂, subst}
use Rattle.std.proofs.Common.{◌∙◌, add-one, eq-eqb}
use Rattle.std.proofs.Math.Bool.{true, false, cond}
use mathlib.Core.List.{List, [], ◌∷◌, ◌++◌, flat_map, append_assoc}
use native.Mathlib.Omega.{arith}
use Rattle.std.proofs.Math.Dec.{eqb}
use Rattle.std.proofs.Math.ListN.{length}
use Rattle.laws.specs.Lists.{Each, run}
use Rattle.print.specs.Text.{ascii, decimal, decimal_in}
use Rattle.scene.specs.Tables.{Table, size}
use Rattle.scene.specs.declared.Row.{Row}
use Rattle.scene.specs.declared.Face.{Face}
use Rattle.off_items.specs.Items.{start_of, end_of, after}
use Rattle.off_items.specs.Numbers.{whole_from}
use Rattle.off_form.specs.Form.{go_on, wholes, face_from, faces_from, end_from, numbers_of, vertices_of, faces_of, faces_then, vertices_then}
use Rattle.off_form.specs.Form.{counts_then, form_of}
use Rattle.off_form.specs.declared.Flaw.{Flaw}
use Rattle.off_form.specs.declared.Flaw.TheVariants.{Outside}
use Rattle.off_solids.specs.Solid.{past, weight_from, row_from, row_of, corners_from, face_of, solid_of}
use Rattle.off_solids.specs.ReadOf.{group_next}
use Rattle.off_write.specs.Drawing.{row_words, face_words}
use Rattle.theorem_off.specs.Words.{Word, Rest, last_item}
use Rattle.theorem_off.specs.Drawing.{next_count, next_signed}

-- ---- a vertex and a face

-- how many numbers a vertex has
abbrev pub per : Bool → ℕ
per true = 4
per false = 3

-- a vertex whose weight is written, or is 1
abbrev pub Shown : Bool → Row → Type 0
Shown true r = Unit {0}
Shown false r = r.w ≡ pos 1

-- a face whose corners count from 1
pub record Cornered (f : Face) : Type 0 where
  pub one : 0 < f.p
  pub two : 0 < f.q
  pub three : 0 < f.r

module _ (s : List ℕ) where
  one_read : (g : Bool) (at n : ℕ) → whole_from g s at ≡ true → wholes g (suc n) s at ≡ wholes g n s (end_of s at)
  unfolding wholes
  one_read g at n e = rw e

  pub record Vertex (four : Bool) (at : ℕ) (r : Row) (ws : List Word) : Type 0 where
    pub is : row_from (per four) s at ≡ r
    pub read : (n : ℕ) → wholes true (per four + n) s at ≡ wholes true n s (past s at (per four))
    pub rest : Rest (drop (past s at (per four)) s) ws

  pub next_vertex : (four : Bool) (at : ℕ) (r : Row) (ws : List Word) → Shown four r → Rest (drop at s) (row_words four r ++ ws) →
      Vertex four at r ws
  unfolding row_from weight_from
  next_vertex true at r ws h x =
      let a = next_signed s at r.x _ x in
      let b = next_signed s (past s at 1) r.y _ a.rest in
      let c = next_signed s (past s at 2) r.z _ b.rest in
      let d = next_signed s (past s at 3) r.w ws c.rest in
      record {
        is = λ i. record { x = a.number i; y = b.number i; z = c.number i; w = d.number i };
        read = λ n.
            let e : 4 + n ≡ suc (suc (suc (suc n))) = omega arith in
            ap (λ (k : ℕ). wholes true k s at) e ∙ one_read true at _ a.whole ∙ one_read true (past s at 1) _ b.whole
            ∙ one_read true (past s at 2) _ c.whole ∙ one_read true (past s at 3) n d.whole;
        rest = d.rest;
      }
  next_vertex false at r ws h x =
      let a = next_signed s at r.x _ x in
      let b = next_signed s (past s at 1) r.y _ a.rest in
      let c = next_signed s (past s at 2) r.z ws b.rest in
      let w = sym h in
      record {
        is = λ i. record { x = a.number i; y = b.number i; z = c.number i; w = w i };
        read = λ n.
            let e : 3 + n ≡ suc (suc (suc n)) = omega arith in
            ap (λ (k : ℕ). wholes true k s at) e ∙ one_read true at _ a.whole ∙ one_read true (past s at 1) _ b.whole
            ∙ one_read true (past s at 2) n c.whole;
        rest = c.rest;
      }

  pub record Triangle (at : ℕ) (f : Face) (ws : List Word) : Type 0 where
    pub is : corners_from s at ≡ f
    pub read : face_from s at ≡ Ok (past s at 4)
    pub rest : Rest (drop (past s at 4) s) ws

  three_is : ascii "3" ≡ decimal 3
  unfolding decimal decimal_in
  three_is = refl

  corner_is : (n : ℕ) {m : ℕ} → 0 < n → m ≡ n - 1 → m + 1 ≡ n
  corner_is n h e = omega arith

  pub next_triangle : (at : ℕ) (f : Face) (ws : List Word) → Cornered f → Rest (drop at s) (face_words f ++ ws) → Triangle at f ws
  unfolding corners_from face_from wholes
  next_triangle at f ws h x =
      let o =
      next_count s at 3
      _ (subst (λ (w : Word). Rest (drop at s) (w ∷ decimal (f.p - 1) ∷ decimal (f.q - 1) ∷ decimal (f.r - 1) ∷ ws)) three_is x) in
      let a = next_count s (past s at 1) (f.p - 1) _ o.rest in
      let b = next_count s (past s at 2) (f.q - 1) _ a.rest in
      let c = next_count s (past s at 3) (f.r - 1) ws b.rest in
      let p = corner_is f.p h.one a.size in
      let q = corner_is f.q h.two b.size in
      let r = corner_is f.r h.three c.size in
      record {
        is = λ i. record { p = p i; q = q i; r = r i };
        read = rw (o.whole, o.size, a.whole, b.whole, c.whole);
        rest = c.rest;
      }

-- ---- all vertices, all faces

module _ (s : List ℕ) (four : Bool) (np : numbers_of s ≡ per four) where
  abbrev vertex_at : ℕ → ℕ
  vertex_at i = after s (4 + i * per four)

  pub record Vertices (i : ℕ) (rs : List Row) (us : List Word) : Type 0 where
    pub is : run (row_of s) i (length rs) ≡ rs
    pub read : wholes true (length rs * per four) s (vertex_at i) ≡ Ok (vertex_at (i + length rs))
    pub rest : Rest (drop (vertex_at (i + length rs)) s) us

  pub vertices_told : (rs : List Row) (i : ℕ) (us : List Word) → Each (Shown four) rs →
      Rest (drop (vertex_at i) s) (flat_map (row_words four) rs ++ us) → Vertices i rs us
  unfolding flat_map wholes row_of
  vertices_told [] i us h x =
      let e : i ≡ i + 0 = omega arith in
      let z : 0 * per four ≡ 0 = omega arith in
      record {
        is = refl;
        read = ap (λ (n : ℕ). wholes true n s (vertex_at i)) z ∙ ap (λ (n : ℕ). Ok (vertex_at n)) e;
        rest = subst (λ (n : ℕ). Rest (drop (vertex_at n) s) us) e x;
      }
  vertices_told (r ∷ rs) i us h x =
      let v = next_vertex s four (vertex_at i) r (flat_map (row_words four) rs ++ us) h.0
      (subst (λ (ws : List Word). Rest (drop (vertex_at i) s) ws) (append_assoc (row_words four r) (flat_map (row_words four) rs) us) x) in
      let g : past s (vertex_at i) (per four) ≡ vertex_at (suc i) = group_next s 4 (per four) i refl refl ∙ ap vertex_at (add-one i) in
      let k = vertices_told rs (suc i) us h.1 (subst (λ (n : ℕ). Rest (drop n s) (flat_map (row_words four) rs ++ us)) g v.rest) in
      let e : suc i + length rs ≡ i + suc (length rs) = omega arith in
      let d : suc (length rs) * per four ≡ per four + length rs * per four = omega arith in
      record {
        is = ap₂ (λ (q : Row) (l : List Row). q ∷ l) (ap (λ (n : ℕ). row_from n s (after s (4 + i * n))) np ∙ v.is) k.is;
        read =
            ap (λ (n : ℕ). wholes true n s (vertex_at i)) d ∙ v.read (length rs * per four)
            ∙ ap (wholes true (length rs * per four) s) g ∙ k.read ∙ ap (λ (n : ℕ). Ok (vertex_at n)) e;
        rest = subst (λ (n : ℕ). Rest (drop (vertex_at n) s) us) e k.rest;
      }

module _ (s : List ℕ) where
  abbrev face_at : ℕ → ℕ
  face_at i = after s (4 + vertices_of s * numbers_of s + i * 4)

  pub record Faces (i : ℕ) (fs : List Face) (us : List Word) : Type 0 where
    pub is : run (face_of s) i (length fs) ≡ fs
    pub read : faces_from (length fs) s (face_at i) ≡ Ok (face_at (i + length fs))
    pub rest : Rest (drop (face_at (i + length fs)) s) us

  pub faces_told : (fs : List Face) (i : ℕ) (us : List Word) → Each Cornered fs →
      Rest (drop (face_at i) s) (flat_map face_words fs ++ us) → Faces i fs us
  unfolding flat_map faces_from face_of
  faces_told [] i us h x =
      let e : i ≡ i + 0 = omega arith in
      record { is = refl; read = ap (λ (n : ℕ). Ok (face_at n)) e; rest = subst (λ (n : ℕ). Rest (drop (face_at n) s) us) e x }
  faces_told (f ∷ fs) i us h x =
      let v = next_triangle s (face_at i) f (flat_map face_words fs ++ us) h.0
      (subst (λ (ws : List Word). Rest (drop (face_at i) s) ws) (append_assoc (face_words f) (flat_map face_words fs) us) x) in
      let g : past s (face_at i) 4 ≡ face_at (suc i) = group_next s (4 + vertices_of s * numbers_of s) 4 i refl refl ∙ ap face_at (add-one i) in
      let k = faces_told fs (suc i) us h.1 (subst (λ (n : ℕ). Rest (drop n s) (flat_map face_words fs ++ us)) g v.rest) in
      let e : suc i + length fs ≡ i + suc (length fs) = omega arith in
      record {
        is = ap₂ (λ (q : Face) (l : List Face). q ∷ l) v.is k.is;
        read =
            ap (λ (r : Result ℕ Flaw). go_on r (faces_from (length fs) s)) v.read ∙ ap (faces_from (length fs) s) g
            ∙ k.read ∙ ap (λ (n : ℕ). Ok (face_at n)) e;
        rest = subst (λ (n : ℕ). Rest (drop (face_at n) s) us) e k.rest;
      }

-- ---- the whole text

-- it has the form, and denotes this solid
pub record Denotes (s : List ℕ) (t : Table) : Type 0 where
  pub end : ℕ
  pub form : form_of s ≡ Ok end
  pub solid : solid_of s ≡ t

per_some : (four : Bool) → eqb (per four) 0 ≡ false
per_some true = refl
per_some false = refl

module _ (s : List ℕ) (four : Bool) (np : numbers_of s ≡ per four) (t : Table) (shown : Each (Shown four) t.rows)
    (cornered : Each Cornered t.faces)
    (x : Rest (drop (after s 1) s)
    (decimal (size t) ∷ decimal (length t.faces) ∷ decimal 0 ∷
    (flat_map (row_words four) t.rows ++ (flat_map face_words t.faces ++ [])))) where
  pub told : Denotes s t
  unfolding form_of wholes end_from
  told =
      let a = next_count s (after s 1) (size t) _ x in
      let b = next_count s (after s 2) (length t.faces) _ a.rest in
      let c = next_count s (after s 3) 0 (flat_map (row_words four) t.rows ++ (flat_map face_words t.faces ++ [])) b.rest in
      let zero-behind : 4 ≡ 4 + 0 * per four = omega arith in
      let v = vertices_told s four np t.rows 0 (flat_map face_words t.faces ++ []) shown
      (subst (λ (n : ℕ). Rest (drop (after s n) s) (flat_map (row_words four) t.rows ++ (flat_map face_words t.faces ++ []))) zero-behind
      c.rest) in
      let many : vertices_of s * numbers_of s ≡ size t * per four = ap₂ (λ (m n : ℕ). m * n) a.size np in
      let behind-vertices : after s (4 + (0 + size t) * per four) ≡ face_at s 0 =
      (let e : 4 + (0 + size t) * per four ≡ 4 + vertices_of s * numbers_of s + 0 * 4 = omega arith in ap (after s) e) in
      let f = faces_told s t.faces 0 [] cornered
      (subst (λ (n : ℕ). Rest (drop n s) (flat_map face_words t.faces ++ [])) behind-vertices v.rest) in
      let counted : wholes false 3 s (after s 1) ≡ Ok (after s 4) = rw (a.whole, b.whole, c.whole) in
      let rows_read : wholes true (vertices_of s * numbers_of s) s (after s 4) ≡ Ok (face_at s 0) =
      ap₂ (λ (n k : ℕ). wholes true n s (after s k)) many zero-behind ∙ v.read ∙ ap Ok behind-vertices in
      let faces_read : faces_from (faces_of s) s (face_at s 0) ≡ Ok (face_at s (0 + length t.faces)) =
      ap (λ (n : ℕ). faces_from n s (face_at s 0)) b.size ∙ f.read in
      let last = face_at s (0 + length t.faces) in
      let ended : end_from s last ≡ Ok last =
      ap (λ (o : Bool). cond o (Ok last) (Err (Outside (start_of s last)))) (eq-eqb (start_of s last) (length s) (last_item s last f.rest)) in
      record {
        end = last;
        form =
            ap (λ (o : Bool). cond o (Err (Outside (start_of s 0))) (counts_then s)) (ap (λ (n : ℕ). eqb n 0) np ∙ per_some four)
            ∙ ap (λ (r : Result ℕ Flaw). go_on r (vertices_then s)) counted ∙ ap (λ (r : Result ℕ Flaw). go_on r (faces_then s)) rows_read
            ∙ ap (λ (r : Result ℕ Flaw). go_on r (end_from s)) faces_read ∙ ended;
        solid =
            (let rows = ap (run (row_of s) 0) a.size ∙ v.is in
            let faces = ap (run (face_of s) 0) b.size ∙ f.is in
            λ i. record { rows = rows i; faces = faces i });
      }
