-- Pouring one run of hits after another, and what the list then holds in closed form. Assumes nothing.
use Rattle.std.specs.Prelude.{◌≡◌, refl, Bool, true, false, List, [], ◌∷◌, ◌++◌, take, drop, leb}
use Rattle.std.proofs.Math.Path.{sym}
use Rattle.std.proofs.Common.{ap, ◌∙◌, append-nil, append_assoc, add-one, add-zero, zero-add, length-append, take-append-drop, take_at, drop_at, drop-drop, length-take-le, take_all}
use Prim.Native.Nat.{ℕ, suc, ◌+◌, ◌*◌, ◌/◌, ◌≤◌, ◌<◌, ◌-◌}
use native.Mathlib.Omega.{arith}
use Rattle.std.proofs.Math.ListN.{length}
use Rattle.std.proofs.lemmas.List.Edits.{sets, sets-eq}
use Rattle.std.proofs.Math.Seq.{length-sets, drop-nil, take-nil}
use borrow.Author.Tests.{leb-true, leb-false, le-leb, lt-leb}
use Rattle.laws.specs.Runs.{up_to, bounded}
use Rattle.questions.specs.Hits.{Hit}
use Rattle.questions.specs.WritePairs.{WritesPairs, pairs_written, stepped, three, flat, part_in, all_in}

pairs_written_append : (l m : List Hit) (d : List ℕ) (from seen : ℕ) →
    pairs_written d from seen (l ++ m) ≡ pairs_written (pairs_written d from seen l) from (seen + length l) m
unfolding pairs_written
pairs_written_append [] m d from seen = rw add-zero
pairs_written_append (h ∷ l) m d from seen =
    pairs_written_append l m (stepped d from seen h) from (seen + 1)
    ∙ ap (λ (n : ℕ). pairs_written (pairs_written (stepped d from seen h) from (seen + 1) l) from n m) (omega arith)

pub writes_none : (from seen : ℕ) (d : List ℕ) → WritesPairs [] from seen d d seen
unfolding pairs_written
writes_none from seen d = record { count = omega arith; held = refl; long = refl }

pub writes_same : {l m : List Hit} {from seen r : ℕ} {d d₁ : List ℕ} → l ≡ m → WritesPairs l from seen d d₁ r → WritesPairs m from seen d d₁
    r
writes_same e p = rw (← e) p

pub writes_more : {l m : List Hit} {from seen : ℕ} {d d₁ d₂ : List ℕ} {r₁ r₂ : ℕ} → WritesPairs l from seen d d₁ r₁ → WritesPairs m from r₁
    d₁ d₂ r₂ →
    WritesPairs (l ++ m) from seen d d₂ r₂
writes_more {l} {m} {from} {seen} {d} p q =
    record {
      count = omega (arith, p.count, q.count, length-append l m);
      held = q.held ∙ rw (p.held, p.count, pairs_written_append);
      long = q.long ∙ p.long;
    }

-- ---- a loop's start, turn and end

pub writes_start : (g : ℕ → List Hit) (from seen : ℕ) (d : List ℕ) → WritesPairs (up_to g 0) from seen d d seen
unfolding up_to
writes_start g from seen d = writes_none from seen d

pub writes_next : (g : ℕ → List Hit) (i : ℕ) {from seen : ℕ} {d d₁ d₂ : List ℕ} {r₁ r₂ : ℕ}
    → WritesPairs (up_to g i) from seen d d₁ r₁ → WritesPairs (g i) from r₁ d₁ d₂ r₂ → WritesPairs (up_to g (i + 1)) from seen d d₂ r₂
unfolding up_to
writes_next g i p q = rw add-one (writes_more p q)

pub writes_all : (g : ℕ → List Hit) {i n from seen : ℕ} {d d₁ : List ℕ} {r : ℕ} → i ≤ n → n ≤ i → WritesPairs (up_to g i) from seen d d₁ r →
    WritesPairs (up_to g n) from seen d d₁ r
writes_all g {i} {n} a b p = let e : i ≡ n = omega arith in rw e at p

pub reached : (g : ℕ → List Hit) (b i : ℕ) {from seen : ℕ} {d d₁ : List ℕ} {r : ℕ} → ((j : ℕ) → length (g j) ≤ b) →
    WritesPairs (up_to g i) from seen d d₁ r → r ≤ seen + i * b
reached g b i h p = omega (arith, p.count, bounded g b i h)

-- ---- in closed form

-- d with l from index a on
abbrev laid : List ℕ → ℕ → List ℕ → List ℕ
laid d a l = take a d ++ l ++ drop (a + length l) d

laid_nil : (d : List ℕ) (a : ℕ) → laid d a [] ≡ d
laid_nil d a = rw (append-nil, add-zero, take-append-drop)

laid_sets : (d : List ℕ) (p : ℕ) (vs m : List ℕ) → p + length vs ≤ length d → laid (sets d p vs) (p + length vs) m ≡ laid d p (vs ++ m)
laid_sets d p vs m h =
    let n : ℕ = p + length vs in
    let front : List ℕ = take p d ++ vs in
    let e : sets d p vs ≡ front ++ drop n d = sets-eq vs d p h in
    let w : length front ≡ n = length-append (take p d) vs ∙ ap (λ (x : ℕ). x + length vs) (length-take-le p d (omega arith)) in
    let t : take n (sets d p vs) ≡ front = ap (λ (l : List ℕ). take n l) e ∙ take_at front (drop n d) n w in
    let r : drop (n + length m) (sets d p vs) ≡ drop (n + length m) d =
    sym (drop-drop (length m) n (sets d p vs)) ∙ ap (λ (l : List ℕ). drop (length m) (drop n l)) e
    ∙ ap (λ (l : List ℕ). drop (length m) l) (drop_at front (drop n d) n w) ∙ drop-drop (length m) n d in
    let q : n + length m ≡ p + length (vs ++ m) = omega (arith, length-append vs m) in
    ap (λ (l : List ℕ). l ++ m ++ drop (n + length m) (sets d p vs)) t ∙ ap (λ (l : List ℕ). front ++ m ++ l) r
    ∙ ap (λ (l : List ℕ). l ++ drop (n + length m) d) (append_assoc (take p d) vs m)
    ∙ ap (λ (x : ℕ). take p d ++ (vs ++ m) ++ drop x d) q

-- how many more hits have room
abbrev room : List ℕ → ℕ → ℕ → ℕ
room d from seen = length d / 3 - (seen - from)

abbrev rest : List ℕ → ℕ → ℕ → List Hit → List ℕ
rest d from seen l = flat (take (room d from seen) (drop (from - seen) l))

Laid : List ℕ → ℕ → ℕ → List Hit → Type 0
Laid d from seen l = pairs_written d from seen l ≡ laid d (3 * (seen - from)) (rest d from seen l)

module _ (d : List ℕ) (from seen : ℕ) (h : Hit) (l : List Hit) where
  -- before the part
  early : seen < from → Laid d from (seen + 1) l → Laid d from seen (h ∷ l)
  unfolding Laid pairs_written stepped
  early lt ih =
      let e : from - seen ≡ suc (from - (seen + 1)) = omega arith in
      let z : seen - from ≡ seen + 1 - from = omega arith in
      rw (lt-leb _ _ lt, e, z) ih

  -- in it
  inside : from ≤ seen → 3 * (seen - from) + 3 ≤ length d → Laid (sets d (3 * (seen - from)) (three h)) from (seen + 1) l →
      Laid d from seen (h ∷ l)
  unfolding Laid pairs_written stepped flat
  inside le fit ih =
      let z : from - seen ≡ 0 = omega arith in
      let z' : from - (seen + 1) ≡ 0 = omega arith in
      let a : 3 * (seen + 1 - from) ≡ 3 * (seen - from) + 3 = omega arith in
      let c : length d / 3 - (seen - from) ≡ suc (length d / 3 - (seen + 1 - from)) = omega arith in
      rw (le-leb _ _ le, le-leb _ _ fit, z, c)
      ((rw (length-sets d (3 * (seen - from)) (three h), z', a) at ih)
      ∙ laid_sets d (3 * (seen - from)) (three h) (flat (take (length d / 3 - (seen + 1 - from)) l)) fit)

  -- behind it
  late : from ≤ seen → length d < 3 * (seen - from) + 3 → Laid d from (seen + 1) l → Laid d from seen (h ∷ l)
  unfolding Laid pairs_written stepped flat
  late le full ih =
      let c : length d / 3 - (seen - from) ≡ 0 = omega arith in
      let c' : length d / 3 - (seen + 1 - from) ≡ 0 = omega arith in
      rw (le-leb _ _ le, lt-leb _ _ full, c) ((rw c' at ih) ∙ laid_nil d (3 * (seen + 1 - from)) ∙ sym (laid_nil d (3 * (seen - from))))

-- one step, by its two tests
step : (d : List ℕ) (from seen : ℕ) (h : Hit) (l : List Hit) (s r : Bool) → leb from seen ≡ s → leb (3 * (seen - from) + 3) (length d) ≡ r
    → ((d' : List ℕ) → Laid d' from (seen + 1) l) → Laid d from seen (h ∷ l)
step d from seen h l true true s r ih = inside d from seen h l (leb-true _ _ s) (leb-true _ _ r) (ih _)
step d from seen h l true false s r ih = late d from seen h l (leb-true _ _ s) (leb-false _ _ r) (ih d)
step d from seen h l false r s r' ih = early d from seen h l (leb-false _ _ s) (ih d)

all_laid : (l : List Hit) (d : List ℕ) (from seen : ℕ) → Laid d from seen l
unfolding Laid pairs_written flat
all_laid [] d from seen = rw (drop-nil, take-nil) (sym (laid_nil d (3 * (seen - from))))
all_laid (h ∷ l) d from seen = step d from seen h l _ _ refl refl (λ d'. all_laid l d' from (seen + 1))

pub length_flat : (l : List Hit) → length (flat l) ≡ 3 * length l
unfolding flat
length_flat [] = refl
length_flat (h ∷ l) = omega (arith, length_flat l)

-- from number from on, as far as there is room
pub pairs_written_part : (l : List Hit) (d : List ℕ) (from : ℕ) → pairs_written d from 0 l ≡ part_in l from d
unfolding Laid part_in
pairs_written_part l d from =
    let z : 0 - from ≡ 0 = omega arith in
    let y : from - 0 ≡ from = omega arith in
    let x : length d / 3 - 0 ≡ length d / 3 = omega arith in
    (rw (z, y, x) at (all_laid l d from 0)) ∙ rw (zero-add, length_flat)

-- the whole of it, where it fits
pub part_all : (l : List Hit) (d : List ℕ) → 3 * length l ≤ length d → part_in l 0 d ≡ all_in l d
unfolding part_in all_in
part_all l d h = let k : length l ≤ length d / 3 = omega arith in rw (take_all (length d / 3) l k)
