-- Bytes written one after another: what stands before the end of what was written. Assumes nothing.
use Rattle.std.specs.Prelude.{ℕ, ◌+◌, ◌*◌, ◌<◌, ◌/◌, ◌%◌, ◌≡◌, refl, length, set}
use Rattle.std.proofs.Math.Path.{sym, ap}
use Rattle.std.proofs.Common.{◌∙◌, subst, add-one, length-append, take-suc-set}
use mathlib.Core.List.{List, [], ◌∷◌, ◌++◌, append_assoc, append-nil, flat_map}
use native.Mathlib.Omega.{arith}
use Rattle.std.proofs.Math.ListN.{take}
use Rattle.laws.specs.Lists.{run, run_append, length_run}
use Rattle.scene.specs.Records.{markfc}
use Rattle.scene.specs.declared.Row.{Row}
use Rattle.scene.specs.declared.Face.{Face}
use Rattle.rules.specs.Write.{point_bytes, face_bytes}
use Rattle.scene.specs.Write.{two, unsigned}
use Rattle.rules.specs.Held.{length_all}

-- l was written to s at k, which made it t
pub record Grown (k : ℕ) (l s t : List ℕ) : Type 0 where
  pub front : take (k + length l) t ≡ take k s ++ l

pub grown_one : (s : List ℕ) (k v : ℕ) → k < length s → Grown k (v ∷ []) s (set s k v)
grown_one s k v h = record { front = ap (λ (n : ℕ). take n (set s k v)) (add-one k) ∙ take-suc-set s k v h }

module _ {k m : ℕ} {l r s t u : List ℕ} where
  pub grown_join : Grown k l s t → m ≡ k + length l → Grown m r t u → Grown k (l ++ r) s u
  grown_join a e b =
      let long : k + length (l ++ r) ≡ m + length r = omega (arith, length-append l r) in
      record {
        front =
            ap (λ (n : ℕ). take n u) long ∙ b.front ∙ ap (λ (n : ℕ). take n t ++ r) e ∙ ap (λ (x : List ℕ). x ++ r) a.front
            ∙ append_assoc (take k s) l r;
      }

pub grown_as : {k : ℕ} {l r s t : List ℕ} → l ≡ r → Grown k l s t → Grown k r s t
grown_as {k} {s} {t} e g = subst (λ (x : List ℕ). Grown k x s t) e g

-- ---- a number of two bytes, a point's record, a face's

pub grown_two : (k n : ℕ) {s t u : List ℕ} → Grown k (n % 256 ∷ []) s t → Grown (k + 1) (n / 256 ∷ []) t u → Grown k (two n) s u
grown_two k n a b = grown_join a (omega arith) b

module _ (k mark : ℕ) (p : Row) {x y z w : ℕ} {s t u v a b : List ℕ}
    (ex : x ≡ unsigned 32768 p.x) (ey : y ≡ unsigned 32768 p.y) (ez : z ≡ unsigned 32768 p.z) (ew : w ≡ unsigned 128 p.w) where
  pub grown_point : Grown k (two mark) s t → Grown (k + 2) (two x) t u → Grown (k + 4) (two y) u v → Grown (k + 6) (two z) v a →
      Grown (k + 8) (w ∷ []) a b → Grown k (point_bytes mark p) s b
  grown_point g0 g1 g2 g3 g4 =
      grown_as (λ i. two mark ++ two (ex i) ++ two (ey i) ++ two (ez i) ++ ew i ∷ [])
      (grown_join g0 (omega arith) (grown_join g1 (omega arith) (grown_join g2 (omega arith) (grown_join g3 (omega arith) g4))))

pub grown_face : (k : ℕ) (f : Face) {s t u v a : List ℕ} → Grown k (two markfc) s t → Grown (k + 2) (f.p ∷ []) t u →
    Grown (k + 3) (f.q ∷ []) u v → Grown (k + 4) (f.r ∷ []) v a → Grown k (face_bytes f) s a
grown_face k f g0 g1 g2 g3 = grown_join g0 (omega arith) (grown_join g1 (omega arith) (grown_join g2 (omega arith) g3))

-- ---- records one after another, c bytes each

flat_append : {A : Type 0} (f : A → List ℕ) (xs ys : List A) → flat_map f (xs ++ ys) ≡ flat_map f xs ++ flat_map f ys
unfolding flat_map
flat_append f [] ys = refl
flat_append f (x ∷ xs) ys = ap (λ (l : List ℕ). f x ++ l) (flat_append f xs ys) ∙ sym (append_assoc (f x) (flat_map f xs) (flat_map f ys))

flat_snoc : {A : Type 0} (f : A → List ℕ) (g : ℕ → A) (i : ℕ) → flat_map f (run g 0 (i + 1)) ≡ flat_map f (run g 0 i) ++ f (g i)
unfolding flat_map
flat_snoc f g i =
    let e : 0 + i ≡ i = omega arith in
    ap (flat_map f) (sym (run_append g 0 i 1)) ∙ flat_append f (run g 0 i) (run g (0 + i) 1)
    ∙ ap (λ (l : List ℕ). flat_map f (run g 0 i) ++ l) (append-nil (f (g (0 + i))) ∙ ap (λ (j : ℕ). f (g j)) e)

module _ {A : Type 0} (f : A → List ℕ) (c : ℕ) (long : (x : A) → length (f x) ≡ c) (g : ℕ → A) (k : ℕ) where
  -- none yet, and one more
  pub grown_none : (s : List ℕ) → Grown k (flat_map f (run g 0 0)) s s
  unfolding flat_map
  grown_none s = let e : k + 0 ≡ k = omega arith in record { front = ap (λ (n : ℕ). take n s) e ∙ sym (append-nil (take k s)) }

  pub grown_more : (i : ℕ) {m : ℕ} {l s t u : List ℕ} → Grown k (flat_map f (run g 0 i)) s t → m ≡ k + c * i → l ≡ f (g i) → Grown m l t u →
      Grown k (flat_map f (run g 0 (i + 1))) s u
  grown_more i {m} a e p b =
      let h : length (flat_map f (run g 0 i)) ≡ i * c = length_all f c long (run g 0 i) ∙ ap (λ (n : ℕ). n * c) (length_run g 0 i) in
      grown_as (sym (flat_snoc f g i)) (grown_join a (omega arith) (grown_as p b))
