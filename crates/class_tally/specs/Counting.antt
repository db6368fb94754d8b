-- A tally as it grows: what is counted so far, and what the rest of the block adds, make the whole. Assumes nothing.
use Rattle.std.proofs.Math.Path.{◌≡◌, ap}
use Rattle.std.specs.Prelude.{refl, Bool, true, false, cond, ◌||◌, List, [], ◌∷◌, map, ℕ, suc, ◌+◌, ◌*◌, ◌≤◌, ◌<◌, eqb, leb, length, set, replicate, drop, Ok, Err}
use Rattle.std.proofs.Common.{sym, ap₂, ◌∙◌, arith, suc-mul, eq-eqb, ne_eqb, leb-true, le-leb, lit<, length-set, length-drop, get_or-set_same, get_or-set_other}
use Rattle.std.proofs.Math.Decide.{ℕ_discrete}
use Rattle.std.proofs.lemmas.Bool.{lt-leb}
use Rattle.std.proofs.Math.ListN.{get_or}
use Rattle.std.proofs.lemmas.List.{get_or-replicate, length-map}
use Rattle.laws.specs.Range.{more}
use Rattle.scene.specs.Refusal.{number_of}
use Rattle.scene.specs.declared.Refusal.{Refusal}
use Rattle.scene.specs.View.{view_of}
use Rattle.judge.specs.Judge.{judged}
use Rattle.judge.specs.Judge.{Judged}
use Rattle.questions.specs.Answers.{or_refuse, verdict_in, counts_in, verdict_of, counted_of}
use Rattle.survey_scene.specs.Facts.{facts_in, IsSurvey}
use Rattle.questions.specs.declared.Facts.{Facts}
use Rattle.questions.specs.Types.{Surveyed}
use Rattle.questions.specs.Types.{Concluded}
use Rattle.questions.specs.declared.Verdict.TheVariants as verdict
use Rattle.class_block.specs.Block.{most_bytes, scene_of, behind, scenes_of}
use Rattle.class_block.specs.Scenes.{scenes_end, scenes_next, scenes_few, byte_left, end_within, scene_ends, behind_here}
use Rattle.class_tally.specs.Most.{most_pairs, pairs_most}
use Rattle.class_tally.specs.Merge.{made_same}
use Rattle.class_tally.specs.Sums.{largest, accepted_in}
use Rattle.class_tally.specs.Tally.{refused_line, line_of, pairs_in, mark_of, counts, in_line, pairs_of}
use Rattle.class_tally.specs.Tally.{made_by, made, tally_of, marks_of, report_of}
use Rattle.class_tally.specs.declared.Mark.{Mark}
use Rattle.class_tally.specs.declared.Tally.{Tally}
use Rattle.class_tally.specs.declared.BlockError.TheVariants.{Longer}

abbrev pub lines : ℕ
lines = 15

-- one more in line k
unfoldable pub up : List ℕ → ℕ → List ℕ
up l k = set l k (get_or l k 0 + 1)

-- no line has more scenes than a block has bytes
abbrev pub Few : List ℕ → Type 0
Few l = (k : ℕ) → k < lines → get_or l k 0 ≤ most_bytes

-- what is told of the lines and the pairs
abbrev pub told : List ℕ → ℕ → Tally
told l p = made_by (λ k. get_or l k 0) (accepted_in l) p

pub told_by_law : (l : List ℕ) (p : ℕ) {a : ℕ} → a ≡ accepted_in l → made_by (λ k. get_or l k 0) a p ≡ told l p
told_by_law l p e = ap (λ (a : ℕ). made_by (λ k. get_or l k 0) a p) e

pub told_made : (l : List ℕ) (p : ℕ) → get_or l 1 0 + get_or l 2 0 + get_or l 3 0 + get_or l 4 0 ≤ largest → told l p ≡ made (λ k. get_or l k 0) p
told_made l p h =
    let e : accepted_in l ≡ get_or l 1 0 + get_or l 2 0 + get_or l 3 0 + get_or l 4 0 = omega arith in
    ap (λ (a : ℕ). made_by (λ k. get_or l k 0) a p) e

pub record Counting (l : List ℕ) (k : ℕ) : Type 0 where
  pub few : Few l
  pub from : 1 ≤ k
  pub to : k < lines

-- ---- a mark is in a line of its own

refused_line_law : (n : ℕ) → (1 ≤ refused_line n) × (refused_line n < lines)
refused_line_law n = go _ (leb n 9) refl (lit< tt) (lit< tt)
  where
    go : (last : ℕ) (b : Bool) → leb n 9 ≡ b → 0 < last → last < lines → (1 ≤ cond b (n + 4) last) × (cond b (n + 4) last < lines)
    go last true e x y = let l = leb-true n 9 e in (omega arith, omega arith)
    go last false e x y = (omega arith, y)

line_within : (v : Concluded) → (1 ≤ line_of v) × (line_of v < lines)
line_within (Ok (verdict.Cross u v f)) = (omega arith, omega arith)
line_within (Ok (verdict.AInB p)) = (omega arith, omega arith)
line_within (Ok (verdict.BInA p)) = (omega arith, omega arith)
line_within (Ok verdict.Apart) = (omega arith, omega arith)
line_within (Err r) = refused_line_law (number_of r)

pub line_of_law : (s : List ℕ) → (1 ≤ (mark_of s).line) × ((mark_of s).line < lines)
unfolding mark_of
line_of_law s = line_within (verdict_of s)

pub line_some : (s : List ℕ) → 1 ≤ (mark_of s).line
line_some s = (line_of_law s).0

-- from the kernel's answers
pub line_refused : {v : Concluded} {r : Refusal} {n k : ℕ} → v ≡ Err r → n ≡ number_of r → k ≡ refused_line n → k ≡ line_of v
line_refused e h p = p ∙ ap refused_line h ∙ sym (ap line_of e)

-- ---- one scene, by its survey o

abbrev pub mark_by : Facts → Mark
mark_by f = record { line = line_of (Ok f.verdict); pairs = f.counts.pairs }

pub mark_by_law : (f : Facts) {k : ℕ} → k ≡ line_of (Ok f.verdict) → record { line = k; pairs = f.counts.pairs } ≡ mark_by f
mark_by_law f e = λ i. record { line = e i; pairs = f.counts.pairs }

module _ (s : List ℕ) {d d' : List ℕ} {o : Surveyed} (x : IsSurvey s d d' o) where
  pub mark_refused : {r : Refusal} {n k : ℕ} → o ≡ Err r → n ≡ number_of r → k ≡ refused_line n →
      record { line = k; pairs = 0 } ≡ mark_of s
  unfolding mark_of verdict_of counted_of or_refuse
  mark_refused {r} {k = k} q e h = go (judged s) (sym q ∙ x.answer)
    where
      go : (j : Judged) → Err r ≡ or_refuse Err j (Ok (facts_in (view_of s))) →
          ◌≡◌ {A = Mark} (record { line = k; pairs = 0 })
          (record {
            line = line_of (or_refuse Err j (Ok (verdict_in (view_of s))));
            pairs = pairs_in (or_refuse Err j (Ok (counts_in (view_of s))));
          })
      go (Ok _) p = let c : ◌≡◌ {A = ℕ} 0 1 = cc in absurd (omega arith)
      go (Err w) p =
          let same : r ≡ w = cc in
          let l : k ≡ refused_line (number_of w) = h ∙ ap refused_line e ∙ ap (λ (r : Refusal). refused_line (number_of r)) same in
          λ i. record { line = l i; pairs = 0 }

  pub mark_told : {f : Facts} {m : Mark} → o ≡ Ok f → m ≡ mark_by f → m ≡ mark_of s
  unfolding mark_of verdict_of counted_of or_refuse facts_in
  mark_told {f} q e = e ∙ go (judged s) (sym q ∙ x.answer)
    where
      go : (j : Judged) → Ok f ≡ or_refuse Err j (Ok (facts_in (view_of s))) →
          mark_by f
          ≡ record {
            line = line_of (or_refuse Err j (Ok (verdict_in (view_of s))));
            pairs = pairs_in (or_refuse Err j (Ok (counts_in (view_of s))));
          }
      go (Ok _) p = let same : f ≡ facts_in (view_of s) = cc in ap mark_by same
      go (Err w) p = let c : ◌≡◌ {A = ℕ} 0 1 = cc in absurd (omega arith)

-- ---- how large the sums can grow

pub in_line_most : (k : ℕ) (ms : List Mark) → in_line k ms ≤ length ms
unfolding in_line
in_line_most k [] = omega arith
in_line_most k (m ∷ ms) = go (counts k m) (in_line_most k ms)
  where
    go : (b : Bool) → in_line k ms ≤ length ms → more b (in_line k ms) ≤ suc (length ms)
    go true h = omega arith
    go false h = omega arith

pub pairs_sum_most : (ss : List (List ℕ)) → pairs_of (map mark_of ss) ≤ length ss * most_pairs
unfolding pairs_of mark_of
pairs_sum_most [] = omega arith
pairs_sum_most (s ∷ ss) = omega (arith, pairs_sum_most ss, pairs_most s, suc-mul (length ss) most_pairs)

-- ---- the marks of a block, one by one

marks_end : (s : List ℕ) → length s ≤ 0 → marks_of s ≡ []
unfolding marks_of
marks_end s h = rw (scenes_end s h)

marks_next : (s : List ℕ) → 0 < length s → marks_of s ≡ mark_of (scene_of s) ∷ marks_of (behind s)
unfolding marks_of
marks_next s h = rw (scenes_next s h)

pub marks_few : (s : List ℕ) → length (marks_of s) ≤ length s
unfolding marks_of
marks_few s = omega (arith, length-map (scenes_of s) mark_of, scenes_few s)

-- ---- one more in a line

pub up_size : (l : List ℕ) (k : ℕ) → length (up l k) ≡ length l
unfolding up
up_size l k = length-set l k (get_or l k 0 + 1)

pub up_at : (l : List ℕ) (k j : ℕ) → k < length l → get_or (up l k) j 0 ≡ more (eqb j k) (get_or l j 0)
unfolding up
up_at l k j h = go (ℕ_discrete j k)
  where
    go : Dec (j ≡ k) → get_or (set l k (get_or l k 0 + 1)) j 0 ≡ more (eqb j k) (get_or l j 0)
    go (yes e) = rw (e, eq-eqb k k refl) (get_or-set_same l k (get_or l k 0 + 1) 0 h ∙ omega arith)
    go (no d) = rw (ne_eqb j k d) (get_or-set_other l k j (get_or l k 0 + 1) 0 d)

-- in the first line, and in its own
pub both_at : (l : List ℕ) (k j : ℕ) → length l ≡ lines → 1 ≤ k → k < lines →
    get_or (up (up l 0) k) j 0 ≡ more (eqb j 0 || eqb j k) (get_or l j 0)
both_at l k j z a b =
    up_at (up l 0) k j (omega (arith, up_size l 0)) ∙ ap (more (eqb j k)) (up_at l 0 j (omega arith)) ∙ go (ℕ_discrete j 0)
  where
    go : Dec (j ≡ 0) → more (eqb j k) (more (eqb j 0) (get_or l j 0)) ≡ more (eqb j 0 || eqb j k) (get_or l j 0)
    go (yes e) = rw (eq-eqb j 0 e, ne_eqb j k (λ d. omega arith))
    go (no d) = rw (ne_eqb j 0 d)

-- once the first is counted, the mark's own line is as it was
pub after_first : (l : List ℕ) (k : ℕ) → Counting l k → get_or (set l 0 (get_or l 0 0 + 1)) k 0 ≤ most_bytes
after_first l k h = omega (arith, get_or-set_other l 0 k (get_or l 0 0 + 1) 0 (λ e. omega (arith, h.from)), h.few k h.to)

-- ---- what is counted in the block up to `at`: l are the lines, p the pairs

pub record Sofar (block : List ℕ) (at : ℕ) (l : List ℕ) (p : ℕ) : Type 0 where
  pub size : length l ≡ lines
  pub within : at ≤ length block
  pub each : (k : ℕ) → k < lines → get_or l k 0 + in_line k (marks_of (drop at block)) ≡ in_line k (marks_of block)
  pub all : p + pairs_of (marks_of (drop at block)) ≡ pairs_of (marks_of block)

pub sofar_none : (block : List ℕ) → Sofar block 0 (replicate lines 0) 0
sofar_none block =
    record {
      size = refl;
      within = omega arith;
      each = λ k h. omega (arith, get_or-replicate {A = ℕ} lines k 0 0 h);
      all = omega arith;
    }

more_moves : (b : Bool) (x y : ℕ) {z : ℕ} → x + more b y ≡ z → more b x + y ≡ z
more_moves true x y e = omega arith
more_moves false x y e = e

module _ (block : List ℕ) (at : ℕ) (l : List ℕ) (p : ℕ) (so : Sofar block at l p) where
  pub sofar_few : length block ≤ most_bytes → Few l
  sofar_few h k b = omega (arith, so.each k b, in_line_most k (marks_of block), marks_few block)

  module _ (more_left : at < length block) where
    -- the scene that starts here, and its end e
    module _ (s : List ℕ) (handed : s ≡ scene_of (drop at block)) where
      abbrev e : ℕ
      e = at + length s

      pub ends_here : (at < e) × (e ≤ length block)
      ends_here = end_within block at more_left e (scene_ends block at handed)

      module _ (m : Mark) (is : m ≡ mark_of s) where
        marked : marks_of (drop at block) ≡ m ∷ marks_of (drop e block)
        marked = marks_next (drop at block) (byte_left block at more_left)
            ∙ ap₂ (λ (x : Mark) (s : List ℕ). x ∷ marks_of s) (sym (is ∙ ap mark_of handed))
            (behind_here block at more_left e (scene_ends block at handed))

        pub line_here : (1 ≤ m.line) × (m.line < lines)
        line_here = let h = line_of_law s in rw is h

        pub counting_here : length block ≤ most_bytes → Counting l m.line
        counting_here h = record { few = sofar_few h; from = line_here.0; to = line_here.1 }

        pub sum_here : p + m.pairs + pairs_of (marks_of (drop e block)) ≡ pairs_of (marks_of block)
        unfolding pairs_of
        sum_here =
            let h : pairs_of (marks_of (drop at block)) ≡ m.pairs + pairs_of (marks_of (drop e block)) = ap pairs_of marked in
            omega (arith, so.all)

        pub sum_fits : length block ≤ most_bytes → p + m.pairs ≤ most_bytes * most_pairs
        unfolding marks_of
        sum_fits h = omega (arith, sum_here, pairs_sum_most (scenes_of block), scenes_few block)

        pub sofar_next : {l' : List ℕ} → l' ≡ up (up l 0) m.line → Sofar block e l' (p + m.pairs)
        unfolding in_line
        sofar_next is-l =
            rw is-l
            record {
              size = up_size (up l 0) m.line ∙ up_size l 0 ∙ so.size;
              within = ends_here.1;
              each = λ k b.
                  let h : in_line k (marks_of (drop at block)) ≡ more (counts k m) (in_line k (marks_of (drop e block))) =
                  ap (in_line k) marked in
                  ap (λ (n : ℕ). n + in_line k (marks_of (drop e block))) (both_at l m.line k so.size line_here.0 line_here.1)
                  ∙ more_moves (counts k m) (get_or l k 0) (in_line k (marks_of (drop e block)))
                  (ap (λ (n : ℕ). get_or l k 0 + n) (sym h) ∙ so.each k b);
              all = sum_here;
            }

  -- at the end
  module _ (none_left : length block ≤ at) where
    no_marks : marks_of (drop at block) ≡ []
    no_marks = marks_end (drop at block) (omega (arith, length-drop at block))

    line_is : (k : ℕ) → k < lines → get_or l k 0 ≡ in_line k (marks_of block)
    unfolding in_line
    line_is k b = let h : in_line k (marks_of (drop at block)) ≡ 0 = ap (in_line k) no_marks in omega (arith, so.each k b)

    pairs_are : p ≡ pairs_of (marks_of block)
    unfolding pairs_of
    pairs_are = let h : pairs_of (marks_of (drop at block)) ≡ 0 = ap pairs_of no_marks in omega (arith, so.all)

    made_end : made (λ k. get_or l k 0) p ≡ tally_of (marks_of block)
    unfolding tally_of
    made_end = made_same (λ k. get_or l k 0) (λ k. in_line k (marks_of block)) line_is pairs_are

    pub sofar_end : length block ≤ most_bytes → told l p ≡ tally_of (marks_of block)
    sofar_end h =
        let f = sofar_few h in
        told_made l p (omega (arith, f 1 (lit< tt), f 2 (lit< tt), f 3 (lit< tt), f 4 (lit< tt))) ∙ made_end

-- ---- the report of a block

module _ (block : List ℕ) where
  pub report_longer : most_bytes < length block → Err Longer ≡ report_of block
  unfolding report_of
  report_longer h = rw (lt-leb (length block) most_bytes h)

  pub report_tallied : {t : Tally} → length block ≤ most_bytes → t ≡ tally_of (marks_of block) → Ok t ≡ report_of block
  unfolding report_of
  report_tallied h e = rw (le-leb (length block) most_bytes h, e)
