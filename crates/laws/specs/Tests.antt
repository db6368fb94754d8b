-- What a branch of the code says of a test in a definition: a conjunction or a disjunction that an early return leaves or goes on with,
-- stated in the form in which a call's answer (o ≡ x) and a branch arrive. Assumes nothing.
use Rattle.std.specs.Prelude.{◌≡◌, Bool, true, false, not, ◌&&◌, ◌||◌, ℕ, ◌≤◌, ◌<◌, eqb, leb}
use Rattle.std.proofs.Common.{sym, ap, ◌∙◌, eq-eqb, ne_eqb, le-leb}
use Rattle.std.proofs.lemmas.Bool.{lt-leb, not-true, not-false}

-- ---- conjunctions

pub and_stops : {o x : Bool} (y : Bool) → o ≡ x → not o ≡ true → false ≡ (x && y)
and_stops y p q = ap (λ (b : Bool). b && y) (sym (not-true _ q) ∙ p)

pub and_goes_on : {o x y w : Bool} → o ≡ x → not o ≡ false → w ≡ y → w ≡ (x && y)
and_goes_on {y} p q e = e ∙ ap (λ (b : Bool). b && y) (sym (not-false _ q) ∙ p)

pub and_taken : {o x y w : Bool} → o ≡ x → o ≡ true → w ≡ y → w ≡ (x && y)
and_taken {y} p q e = e ∙ ap (λ (b : Bool). b && y) (sym q ∙ p)

pub and_left_out : {o x : Bool} (y : Bool) → o ≡ x → o ≡ false → false ≡ (x && y)
and_left_out y p q = ap (λ (b : Bool). b && y) (sym q ∙ p)

pub and_same_stops : {m n : ℕ} (y : Bool) → m ≡ n → false ≡ (not (eqb m n) && y)
and_same_stops {m} {n} y e = sym (ap (λ (b : Bool). not b && y) (eq-eqb m n e))

pub and_same_goes_on : {m n : ℕ} {y w : Bool} → (m ≡ n → ⊥) → w ≡ y → w ≡ (not (eqb m n) && y)
and_same_goes_on {m} {n} {y} h e = e ∙ sym (ap (λ (b : Bool). not b && y) (ne_eqb m n h))

pub and_less_stops : {m n : ℕ} (y : Bool) → n < m → false ≡ (leb m n && y)
and_less_stops {m} {n} y h = sym (ap (λ (b : Bool). b && y) (lt-leb m n h))

pub and_less_goes_on : {m n : ℕ} {y w : Bool} → m ≤ n → w ≡ y → w ≡ (leb m n && y)
and_less_goes_on {m} {n} {y} h e = e ∙ sym (ap (λ (b : Bool). b && y) (le-leb m n h))

pub ruleset ands = (and_stops, and_goes_on, and_taken, and_left_out, and_same_stops, and_same_goes_on, and_less_stops, and_less_goes_on)

-- ---- disjunctions of equations, where the code compares n, which is m

pub or_found : {n m v : ℕ} (y : Bool) → n ≡ m → n ≡ v → true ≡ (eqb m v || y)
or_found {m} {v} y p q = sym (ap (λ (b : Bool). b || y) (eq-eqb m v (sym p ∙ q)))

pub or_goes_on : {n m v : ℕ} {y w : Bool} → n ≡ m → (n ≡ v → ⊥) → w ≡ y → w ≡ (eqb m v || y)
or_goes_on {m} {v} {y} p h e = e ∙ sym (ap (λ (b : Bool). b || y) (ne_eqb m v (λ q. h (p ∙ q))))

pub ruleset ors = (or_found, or_goes_on)

-- the same test of what the code compares
pub same : {n m : ℕ} (v : ℕ) → n ≡ m → eqb n v ≡ eqb m v
same v p = ap (λ (k : ℕ). eqb k v) p
