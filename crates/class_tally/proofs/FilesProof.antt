-- The proofs of `Tallying`: what is held after so many scenes. Assumes nothing.
use Rattle.std.specs.Prelude.{◌≡◌, refl, Bool, true, false, ℕ, suc, ◌+◌, ◌*◌, ◌≤◌, ◌<◌, eqb, set}
use Rattle.std.proofs.Math.Path.{sym, ap}
use Rattle.std.proofs.Common.{ap₂, ◌∙◌, subst, arith, suc-mul, lit<}
use mathlib.Core.List.{List, [], ◌∷◌, ◌++◌, map, map-append, append_assoc, append-nil}
use Rattle.std.proofs.Math.ListN.{length, get_or, length-append}
use Rattle.std.proofs.lemmas.List.{get_or-replicate, length-map}
use Rattle.laws.specs.Range.{more}
use Rattle.class_tally.specs.Tally.{mark_of, counts, in_line, pairs_of, tally_of}
use Rattle.class_tally.specs.Most.{most_pairs}
use Rattle.class_tally.specs.Sums.{largest, sum_of, raised}
use Rattle.class_tally.specs.Merge.{made_same}
use Rattle.class_tally.proofs.MergingProof.{in_line_sum, pairs_sum}
use Rattle.class_tally.specs.Counting.{lines, up, up_size, up_at, both_at, in_line_most, pairs_sum_most, line_of_law, told_made}
use Rattle.class_tally.specs.Files.{none, with_scene, with_scenes, tallied, Few, Tallying}
use Rattle.class_tally.specs.declared.Mark.{Mark}
use Rattle.class_tally.specs.declared.files.Files.{Files}

-- ---- a step, from the calls' answers

pub raised_by : (l : List ℕ) (k : ℕ) {r : ℕ} → r ≡ sum_of (get_or l k 0) 1 → set l k r ≡ raised l k
unfolding raised
raised_by l k e = ap (set l k) e

pub line_to : (s : List ℕ) {m : Mark} → m ≡ mark_of s → m.line < lines
line_to s e = let h = (line_of_law s).1 in rw e h

pub scene_next : (f : Files) (s : List ℕ) {m : Mark} {a b : List ℕ} {p : ℕ} → m ≡ mark_of s → a ≡ raised f.lines 0 →
    b ≡ raised a m.line → p ≡ sum_of f.pairs m.pairs → record { lines = b; pairs = p } ≡ with_scene f s
unfolding with_scene
scene_next f s {b = b} {p = p} e x y z =
    let l : b ≡ raised (raised f.lines 0) (mark_of s).line = y ∙ ap₂ raised x (ap (λ (m : Mark). m.line) e) in
    let q : p ≡ sum_of f.pairs (mark_of s).pairs = z ∙ ap (λ (m : Mark). sum_of f.pairs m.pairs) e in
    λ i. record { lines = l i; pairs = q i }

-- ---- what is held after so many scenes

-- f holds what the scenes amount to
record Held (f : Files) (ss : List (List ℕ)) : Type 0 where
  size : length f.lines ≡ lines
  each : (k : ℕ) → k < lines → get_or f.lines k 0 ≡ in_line k (map mark_of ss)
  all : f.pairs ≡ pairs_of (map mark_of ss)

held_none : Held none []
unfolding in_line pairs_of
held_none = record { size = refl; each = λ k h. get_or-replicate {A = ℕ} lines k 0 0 h; all = refl }

-- a line that is not full is one higher
raised_up : (l : List ℕ) (k : ℕ) → get_or l k 0 < largest → raised l k ≡ up l k
unfolding raised up
raised_up l k h = ap (set l k) (omega arith)

more_plus : (b : Bool) (x : ℕ) → more b x ≡ x + more b 0
more_plus true x = omega arith
more_plus false x = omega arith

more_most : (b : Bool) (x : ℕ) → more b x ≤ x + 1
more_most true x = omega arith
more_most false x = omega arith

-- ---- one scene more, behind those that are held

module _ (f : Files) (ss : List (List ℕ)) (h : Held f ss) (s : List ℕ) (few : suc (length ss) * most_pairs ≤ largest) where
  abbrev m : Mark
  m = mark_of s

  abbrev ms : List Mark
  ms = map mark_of ss

  abbrev both : List (List ℕ)
  both = ss ++ (s ∷ [])

  marks : map mark_of both ≡ ms ++ (m ∷ [])
  marks = map-append mark_of ss (s ∷ [])

  not_full : (k : ℕ) → k < lines → get_or f.lines k 0 + 1 < largest
  not_full k b = omega (arith, h.each k b, in_line_most k ms, length-map ss mark_of, suc-mul (length ss) most_pairs)

  lines_are : raised (raised f.lines 0) m.line ≡ up (up f.lines 0) m.line
  lines_are =
      let z = not_full 0 (lit< tt) in
      let b = line_of_law s in
      let n = not_full m.line b.1 in
      let w = up_at f.lines 0 m.line (omega (arith, h.size)) in
      let v = more_most (eqb m.line 0) (get_or f.lines m.line 0) in
      ap (λ (l : List ℕ). raised l m.line) (raised_up f.lines 0 (omega arith)) ∙ raised_up (up f.lines 0) m.line (omega arith)

  each_next : (k : ℕ) → k < lines → get_or (raised (raised f.lines 0) m.line) k 0 ≡ in_line k (map mark_of both)
  unfolding in_line
  each_next k b =
      ap (λ (l : List ℕ). get_or l k 0) lines_are
      ∙ both_at f.lines m.line k h.size (line_of_law s).0 (line_of_law s).1
      ∙ more_plus (counts k m) (get_or f.lines k 0)
      ∙ ap (λ (n : ℕ). n + more (counts k m) 0) (h.each k b)
      ∙ sym (in_line_sum k ms (m ∷ []))
      ∙ ap (in_line k) (sym marks)

  all_next : sum_of f.pairs m.pairs ≡ pairs_of (map mark_of both)
  unfolding pairs_of
  all_next =
      let e : pairs_of (map mark_of both) ≡ pairs_of ms + (m.pairs + 0) = ap pairs_of marks ∙ pairs_sum ms (m ∷ []) in
      omega (arith, h.all, pairs_sum_most both, length-append ss (s ∷ []))

  held_next : Held (with_scene f s) both
  unfolding with_scene
  held_next = record {
    size = ap length lines_are ∙ up_size (up f.lines 0) m.line ∙ up_size f.lines 0 ∙ h.size;
    each = each_next;
    all = all_next;
  }

-- ---- all of them

held_all : (f : Files) (ss ts : List (List ℕ)) → Held f ss → (length ss + length ts) * most_pairs ≤ largest →
    Held (with_scenes f ts) (ss ++ ts)
unfolding with_scenes
held_all f ss [] h few = subst (Held f) (sym (append-nil ss)) h
held_all f ss (t ∷ ts) h few =
    let n = held_next f ss h t (omega arith) in
    subst (Held (with_scenes (with_scene f t) ts)) (append_assoc ss (t ∷ []) ts)
    (held_all (with_scene f t) (ss ++ (t ∷ [])) ts n (omega (arith, length-append ss (t ∷ []))))

held : (ss : List (List ℕ)) → Few ss → Held (with_scenes none ss) ss
held ss few = held_all none [] ss held_none (omega arith)

whole : (ss : List (List ℕ)) → Few ss → tallied ss ≡ tally_of (map mark_of ss)
unfolding tally_of
whole ss few =
    let f : Files = with_scenes none ss in
    let h = held ss few in
    let few-in : (k : ℕ) → k < lines → get_or f.lines k 0 ≤ length ss =
    λ k b. omega (arith, h.each k b, in_line_most k (map mark_of ss), length-map ss mark_of) in
    told_made f.lines f.pairs (omega (arith, few-in 1 (lit< tt), few-in 2 (lit< tt), few-in 3 (lit< tt), few-in 4 (lit< tt)))
    ∙ made_same (λ k. get_or f.lines k 0) (λ k. in_line k (map mark_of ss)) h.each h.all

all_in_first : (ms : List Mark) → in_line 0 ms ≡ length ms
unfolding in_line
all_in_first [] = refl
all_in_first (m ∷ ms) = omega (arith, all_in_first ms)

pub tallying : Tallying
tallying = record {
  whole = whole;
  scenes = λ ss few. (held ss few).each 0 (lit< tt) ∙ all_in_first (map mark_of ss) ∙ length-map ss mark_of;
}
