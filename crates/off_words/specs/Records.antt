-- A refusal of the scene's in words: what it is about in the texts, whose vertices and faces count from 0, and the rule. Assumes nothing.
use Rattle.std.specs.Prelude.{ℕ, ◌-◌, ◌<◌, ◌≤◌, ◌≡◌, cond, List, ◌∷◌, ◌++◌, eqb, ltb}
use Rattle.std.proofs.Common.{ap, ap₂, subst, eq-eqb, ne_eqb, lt-ltb, le-ltb}
use native.Mathlib.Omega.{arith}
use Rattle.print.specs.Put.{Put}
use Rattle.print.specs.Text.{ascii, decimal}
use Rattle.scene.specs.Refusal.{number_of, place_of}
use Rattle.scene.specs.declared.Refusal.{Refusal}
use Rattle.off_items.specs.Numbers.{largest, at_most}
use Rattle.off_form.specs.Form.{vertices_of, faces_of}

-- number n of these in the first text, in the second
abbrev pub of_first : List ℕ → ℕ → List ℕ
of_first w n = w ++ ((32 ∷ decimal n) ++ ascii " (from 0) of the first text")

abbrev pub of_second : List ℕ → ℕ → List ℕ
of_second w n = w ++ ((32 ∷ decimal n) ++ ascii " (from 0) of the second text")

-- a count, as the machine tells it
abbrev pub told : ℕ → ℕ
told n = at_most largest n

-- number n of m of these, and then of those
unfoldable pub among : ℕ → (ℕ → List ℕ) → (ℕ → List ℕ) → ℕ → List ℕ
among m these those n = cond (ltb n m) (these n) (those (n - m))

-- face n of both texts; record n of the second's vertices and of the faces; record n of all vertices and of the faces
abbrev pub face_in : List ℕ → ℕ → List ℕ
face_in a = among (told (faces_of a)) (of_first (ascii "face")) (of_second (ascii "face"))

abbrev pub rest_in : List ℕ → List ℕ → ℕ → List ℕ
rest_in a b = among (told (vertices_of b)) (of_second (ascii "vertex")) (face_in a)

abbrev pub piece_in : List ℕ → List ℕ → ℕ → List ℕ
piece_in a b = among (told (vertices_of a)) (of_first (ascii "vertex")) (rest_in a b)

-- these words where n is k, and else those
unfoldable pub unless : (n k : ℕ) → List ℕ → List ℕ → List ℕ
unless n k t u = cond (eqb n k) t u

-- record k of the scene
abbrev pub place_in : List ℕ → List ℕ → ℕ → List ℕ
place_in a b k = unless k 0 (ascii "the texts") (unless k 1 (ascii "the far point") (piece_in a b (k - 2)))

-- what refusal n with the place k is about: the place of 8 is a point, whose record comes one later
abbrev pub thing_of : List ℕ → List ℕ → (n k : ℕ) → List ℕ
thing_of a b n k = unless n 8 (piece_in a b (k - 1)) (place_in a b k)

abbrev pub rule_of : ℕ → List ℕ
rule_of n =
    unless n 2 (ascii ": a count outside its limits\n")
    (unless n 5 (ascii ": a coordinate outside its limits\n")
    (unless n 6 (ascii ": a weight outside its limits, or a vertex of weight 0\n")
    (unless n 7 (ascii ": a corner that the text lacks, or two corners equal\n")
    (unless n 8 (ascii ": a vertex in no face\n")
    (unless n 9 (ascii ": an edge in an odd number of its solid's faces\n")
    (unless n 14 (ascii ": four numbers that are all 0\n")
    (ascii ": no scene\n")))))))

abbrev pub refusal_of : List ℕ → List ℕ → Refusal → List ℕ
refusal_of a b r = thing_of a b (number_of r) (place_of r) ++ rule_of (number_of r)

-- ---- from the calls' answers: the words that were put, and by which case

module _ {l : List ℕ} {at : ℕ} {m : List ℕ} {p : ℕ} where
  pub put_as : {t u : List ℕ} → t ≡ u → Put l at t m p → Put l at u m p
  put_as e x = subst (λ (t : List ℕ). Put l at t m p) e x

  pub number_put : {n k : ℕ} → n ≡ k → Put l at (32 ∷ decimal n) m p → Put l at (32 ∷ decimal k) m p
  number_put e x = put_as (ap (λ (n : ℕ). 32 ∷ decimal n) e) x

  pub picked : (n k : ℕ) (t u : List ℕ) → n ≡ k → Put l at t m p → Put l at (unless n k t u) m p
  unfolding unless
  picked n k t u e x = rw (eq-eqb n k e) x

  pub passed : (n k : ℕ) (t u : List ℕ) → (n ≡ k → ⊥) → Put l at u m p → Put l at (unless n k t u) m p
  unfolding unless
  passed n k t u e x = rw (ne_eqb n k e) x

module _ {l : List ℕ} {at : ℕ} {o : List ℕ} {p k : ℕ} (m : ℕ) (these those : ℕ → List ℕ) (n : ℕ) (e : k ≡ m) where
  pub among_these : n < k → Put l at (these n) o p → Put l at (among m these those n) o p
  unfolding among
  among_these h x = let i : n < m = omega arith in rw (lt-ltb n m i) x

  pub among_those : {j : ℕ} → k ≤ n → j ≡ n - k → Put l at (those j) o p → Put l at (among m these those n) o p
  unfolding among
  among_those {j} h d x =
      let i : m ≤ n = omega arith in
      let f : j ≡ n - m = omega arith in
      rw (le-ltb n m i) (subst (λ (i : ℕ). Put l at (those i) o p) f x)

module _ {l : List ℕ} {at : ℕ} {m : List ℕ} {p : ℕ} (a b : List ℕ) {k : ℕ} where
  pub point_put : (i : ℕ) → k ≡ i - 1 → Put l at (piece_in a b k) m p → Put l at (piece_in a b (i - 1)) m p
  point_put i e x = put_as (ap (piece_in a b) e) x

  pub refusal_put : {n : ℕ} (r : Refusal) → n ≡ number_of r → k ≡ place_of r → Put l at (thing_of a b n k ++ rule_of n) m p →
      Put l at (refusal_of a b r) m p
  refusal_put r e d x = put_as (ap₂ (λ (n k : ℕ). thing_of a b n k ++ rule_of n) e d) x
