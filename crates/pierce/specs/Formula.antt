-- Piercing by formula (13), as document 01 reads it: the helper, the formula, and the edge that pierces a face. The sign of four points is
-- any function, true for a positive sign; `pierced` has that of a scene's rows. Assumes nothing.
use Rattle.std.specs.Prelude.{Bool, true, not, ◌&&◌, List, [], ◌∷◌, ℕ, ◌+◌, eqb}
use Rattle.laws.specs.Bools.{◌⊕◌}
use Rattle.laws.specs.Range.{lowest_of}
use Rattle.scene.specs.declared.Row.{Row}
use Rattle.scene.specs.declared.Face.{Face}
use Rattle.orient.specs.Terms.{positive_at}

-- i is none of the list
abbrev pub none_of : List ℕ → ℕ → Bool
none_of [] i = true
none_of (j ∷ js) i = not (eqb i j) && none_of js i

-- i can help: it is no end of the edge u, v and no corner of the face
unfoldable pub can_help : (u v : ℕ) → Face → ℕ → Bool
can_help u v f = none_of (u ∷ v ∷ f.p ∷ f.q ∷ f.r ∷ [])

-- the lowest of n points that can help, n + 1 where none can
unfoldable pub helper : (n u v : ℕ) → Face → ℕ
helper n u v f = lowest_of (can_help u v f) 1 (n + 1)

-- a side from s to t counts, by H(s), H(t) and B(s,t)
unfoldable pub counts : (hs ht bst : Bool) → Bool
counts hs ht bst = (hs ⊕ ht) && (hs ⊕ bst)

-- with the helper h an odd number of the sides p to q, q to r, r to p count
unfoldable pub sides_count : (ℕ → ℕ → ℕ → ℕ → Bool) → (u v h p q r : ℕ) → Bool
sides_count sign u v h p q r =
    let H : ℕ → Bool = λ t. sign u v h t in
    let B : ℕ → ℕ → Bool = λ s t. sign u v s t in
    let side : ℕ → ℕ → Bool = λ s t. counts (H s) (H t) (B s t) in
    side p q ⊕ side q r ⊕ side r p

-- the formula with the helper h: besides, A(u) and A(v) differ
unfoldable pub formula : (ℕ → ℕ → ℕ → ℕ → Bool) → (u v h p q r : ℕ) → Bool
formula sign u v h p q r =
    let A : ℕ → Bool = λ t. sign p q r t in
    (A u ⊕ A v) && sides_count sign u v h p q r

-- of n points, the edge from u to v pierces the face
unfoldable pub pierces : (n : ℕ) → (ℕ → ℕ → ℕ → ℕ → Bool) → (u v : ℕ) → Face → Bool
pierces n sign u v f = formula sign u v (helper n u v f) f.p f.q f.r

-- the same in a scene of n points with these rows
abbrev pub pierced : (n : ℕ) → (ℕ → Row) → (u v : ℕ) → Face → Bool
pierced n row = pierces n (positive_at row)
