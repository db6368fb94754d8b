-- The text of a report, on what the kernel answers; what its head and the parts of its listing are made of; and that it reads back.
-- Assumes nothing.
use Prim.Native.Nat.{ℕ, zero, suc, ◌+◌, ◌-◌, ◌*◌, ◌/◌, min}
use Rattle.std.proofs.Math.Path.{◌≡◌, refl, sym, ap, subst}
use Rattle.std.proofs.Common.{ap₂, ◌∙◌, length-append, length-take, length-drop}
use Rattle.std.specs.Prelude.{false, take, drop, get_or, Ok, Err}
use mathlib.Core.List.{List, [], ◌∷◌, ◌++◌, map, append-nil}
use native.Mathlib.Omega.{arith}
use Rattle.std.proofs.Math.ListN.{length}
use Rattle.std.proofs.Math.Seq.{take-nil, drop-nil}
use Rattle.laws.specs.Lists.{run, run_same}
use Rattle.scene.specs.Records.{counts_of}
use Rattle.scene.specs.declared.Refusal.{Refusal}
use Rattle.scene.specs.declared.Scene.{Scene}
use Rattle.judge.specs.Judge.{judged}
use Rattle.judge.specs.Judge.{Judged}
use Rattle.questions.specs.Hits.{Hit}
use Rattle.questions.specs.WritePairs.{flat, part_in}
use Rattle.questions.specs.PairsWritten.{length_flat}
use Rattle.scene.specs.View.{view_of}
use Rattle.questions.specs.Answers.{or_refuse, verdict_in, verdict_of, counts_in, counted_of, IsPart, listing_in}
use Rattle.questions.specs.Listings.{PouredIf}
use Rattle.questions.proofs.Listings.{part_told}
use Rattle.questions.specs.declared.Counts.{Counts}
use Rattle.questions.specs.Types.{Counted}
use Rattle.questions.specs.declared.Verdict.{Verdict}
use Rattle.questions.specs.Types.{Concluded}
use Rattle.questions.specs.Types.{Listed}
use Rattle.print.specs.Text.{line, text}
use Rattle.print.specs.Back.{Words}
use Rattle.print.specs.Put.{Put}
use Rattle.print_lines.specs.Lines.{refused_line, scene_line, verdict_line, inside_line, pairs_line, pair_line}
use Rattle.print_lines.specs.Rows.{row_in, rows_in, IsRows}
use Rattle.print_lines.specs.declared.head.Top.{Top}
use Rattle.print_lines.specs.declared.rows.RowsPut.{RowsPut}

abbrev pub hit_line : Hit → Words
hit_line h = pair_line h.low h.high h.face

abbrev pub head_lines : Scene → Concluded → Counts → List Words
head_lines h v c = scene_line h ∷ verdict_line v ∷ inside_line c ∷ pairs_line c.pairs ∷ []

-- the lines above the listing, where the counts came out so
abbrev pub head_of : List ℕ → Counted → List Words
head_of s (Err r) = refused_line r ∷ []
head_of s (Ok c) = head_lines (counts_of s) (verdict_of s) c

-- the listing's; a refused scene has none
unfoldable pub listing_lines : List ℕ → List Words
listing_lines s = or_refuse (λ _. []) (judged s) (map hit_line (listing_in (view_of s)))

-- at most k of them, from one on
abbrev pub part_rows : List ℕ → (from k : ℕ) → List Words
part_rows s from k = take k (drop from (listing_lines s))

-- the lines of a report
unfoldable pub report_of : List ℕ → List Words
report_of s = head_of s (counted_of s) ++ listing_lines s

-- how many rows follow the head
abbrev pub rows_of : Counted → ℕ
rows_of (Err r) = 0
rows_of (Ok c) = c.pairs

-- what the list lent for a part holds afterwards
unfoldable pub IsLent : (s : List ℕ) (from : ℕ) (d d' : List ℕ) → Type 0
IsLent s from d d' = d' ≡ or_refuse (λ _. d) (judged s) (part_in (listing_in (view_of s)) from d)

pub record IsHead (s l m : List ℕ) (r : Top) : Type 0 where
  pub held : Put l 0 (text (head_of s (counted_of s))) m r.end
  pub rows : r.rows ≡ rows_of (counted_of s)

-- ---- the head

pub four_lines : (a b c d : Words) {l m : List ℕ} {at p : ℕ} →
    Put l at (line a ++ (line b ++ (line c ++ line d))) m p → Put l at (text (a ∷ b ∷ c ∷ d ∷ [])) m p
unfolding text
four_lines a b c d {l} {m} {at} {p} x =
    subst (λ (t : List ℕ). Put l at (line a ++ (line b ++ (line c ++ t))) m p) (sym (append-nil (line d))) x

pub one_line : (a : Words) {l m : List ℕ} {at p : ℕ} → Put l at (line a) m p → Put l at (text (a ∷ [])) m p
unfolding text
one_line a {l} {m} {at} {p} x = subst (λ (t : List ℕ). Put l at t m p) (sym (append-nil (line a))) x

-- by what the judge said
head_by : (s : List ℕ) {j : Judged} → judged s ≡ j → {l m : List ℕ} {e n : ℕ} →
    Put l 0 (text (head_of s (or_refuse Err j (Ok (counts_in (view_of s)))))) m e →
    n ≡ rows_of (or_refuse Err j (Ok (counts_in (view_of s)))) → IsHead s l m (record { end = e; rows = n })
unfolding counted_of
head_by s q {l} {m} {e} {n} h k =
    let f = ap (λ (j : Judged). or_refuse Err j (Ok (counts_in (view_of s)))) (sym q) in
    record { held = subst (λ (a : Counted). Put l 0 (text (head_of s a)) m e) f h; rows = k ∙ ap rows_of f }

module _ (s : List ℕ) {l m : List ℕ} {e : ℕ} where
  pub head_refused : {o : Judged} {r : Refusal} → o ≡ judged s → o ≡ Err r → Put l 0 (line (refused_line r)) m e →
      IsHead s l m (record { end = e; rows = 0 })
  unfolding or_refuse
  head_refused {r} p q h = head_by s (sym p ∙ q) (one_line (refused_line r) h) refl

  -- the counts and the verdict as they were read
  pub head_told : judged s ≡ Ok tt → {h : Scene} {v : Verdict} {c : Counts} → h ≡ counts_of s → v ≡ verdict_in (view_of s) →
      c ≡ counts_in (view_of s) →
      Put l 0 (text (head_lines h (Ok v) c)) m e → IsHead s l m (record { end = e; rows = c.pairs })
  unfolding or_refuse verdict_of
  head_told ok {h} {v} {c} is-h is-v is_c x =
      let w : Ok v ≡ verdict_of s = ap Ok is-v ∙ ap (λ (j : Judged). or_refuse Err j (Ok (verdict_in (view_of s)))) (sym ok) in
      head_by s ok
      (subst (λ (d : Counts). Put l 0 (text (head_lines (counts_of s) (verdict_of s) d)) m e) is_c
      (subst (λ (u : Concluded). Put l 0 (text (head_lines (counts_of s) u c)) m e) w
      (subst (λ (g : Scene). Put l 0 (text (head_lines g (Ok v) c)) m e) is-h x)))
      (ap (λ (d : Counts). d.pairs) is_c)

-- ---- a part of the listing

take_lines : (k : ℕ) (l : List Hit) → map hit_line (take k l) ≡ take k (map hit_line l)
take_lines zero l = refl
take_lines (suc k) [] = refl
take_lines (suc k) (h ∷ l) = ap (λ (t : List Words). hit_line h ∷ t) (take_lines k l)

drop_lines : (k : ℕ) (l : List Hit) → map hit_line (drop k l) ≡ drop k (map hit_line l)
drop_lines zero l = refl
drop_lines (suc k) [] = refl
drop_lines (suc k) (h ∷ l) = drop_lines k l

run_shift : (f : ℕ → Words) (k n : ℕ) → run f (suc k) n ≡ run (λ i. f (suc i)) k n
run_shift f k zero = refl
run_shift f k (suc n) = ap (λ (t : List Words). f (suc k) ∷ t) (run_shift f (suc k) n)

row_behind : (u v f : ℕ) (l : List ℕ) (i : ℕ) → row_in (u ∷ v ∷ f ∷ l) (suc i) ≡ row_in l i
row_behind u v f l i =
    let a : 3 * suc i ≡ suc (suc (suc (3 * i))) = omega arith in
    let b : 3 * suc i + 1 ≡ suc (suc (suc (3 * i + 1))) = omega arith in
    let d : 3 * suc i + 2 ≡ suc (suc (suc (3 * i + 2))) = omega arith in
    ap₂ (λ (x y : ℕ). pair_line (get_or (u ∷ v ∷ f ∷ l) x 0) (get_or (u ∷ v ∷ f ∷ l) y 0) (get_or (u ∷ v ∷ f ∷ l) (3 * suc i + 2) 0)) a b
    ∙ ap (λ (z : ℕ). pair_line (get_or l (3 * i) 0) (get_or l (3 * i + 1) 0) (get_or (u ∷ v ∷ f ∷ l) z 0)) d

flat_rows : (hits : List Hit) (rest : List ℕ) → run (row_in (flat hits ++ rest)) 0 (length hits) ≡ map hit_line hits
unfolding flat
flat_rows [] rest = refl
flat_rows (h ∷ hits) rest =
    ap (λ (t : List Words). hit_line h ∷ t)
    (run_shift (row_in (flat (h ∷ hits) ++ rest)) 0 (length hits)
    ∙ run_same (λ i. row_in (flat (h ∷ hits) ++ rest) (suc i)) (row_in (flat hits ++ rest)) 0 (length hits)
    (λ i a b. row_behind h.low h.high h.face (flat hits ++ rest) i)
    ∙ flat_rows hits rest)

-- of hits poured from one on
part_rows_law : (hits : List Hit) (from : ℕ) (d : List ℕ) →
    rows_in (part_in hits from d) (length hits - from) ≡ take (length d / 3) (drop from (map hit_line hits))
unfolding rows_in part_in
part_rows_law hits from d =
    let k : ℕ = length d / 3 in
    let some : List Hit = take k (drop from hits) in
    let a = length_flat some in
    let b = length-append (flat some) (drop (3 * length some) d) in
    let c = length-drop (3 * length some) d in
    let e = length-take k (drop from hits) in
    let f = length-drop from hits in
    let n : min (length hits - from) (length (flat some ++ drop (3 * length some) d) / 3) ≡ length some = omega arith in
    ap (run (row_in (flat some ++ drop (3 * length some) d)) 0) n ∙ flat_rows some (drop (3 * length some) d)
    ∙ take_lines k (drop from hits) ∙ ap (take k) (drop_lines from hits)

-- what a list that was lent for a part holds, and the rows that are rendered from it
module _ (s : List ℕ) (from : ℕ) {d d' : List ℕ} {o : Listed} (part : IsPart s from d d' o) {l m : List ℕ} {r : RowsPut} where
  pub rows_refused : {y : Refusal} → o ≡ Err y → IsRows (rows_in d' 0) l 0 m r → IsRows (part_rows s from (length d / 3)) l 0 m r
  unfolding listing_lines or_refuse rows_in
  rows_refused e x = go (judged s) part.answer
    where
      go : (j : Judged) → o ≡ or_refuse Err j (Ok (length (listing_in (view_of s)))) →
          IsRows (take (length d / 3) (drop from (or_refuse (λ _. []) j (map hit_line (listing_in (view_of s)))))) l 0 m r
      go (Ok _) a = let z : ◌≡◌ {A = ℕ} 0 1 = cc in absurd (omega arith)
      go (Err y) a =
          let i : min 0 (length d' / 3) ≡ 0 = omega arith in
          let f : ◌≡◌ {A = List Words} (rows_in d' 0) [] = ap (run (row_in d') 0) i in
          subst (λ (ws : List Words). IsRows ws l 0 m r) (f ∙ sym (ap (take (length d / 3)) (drop-nil from) ∙ take-nil (length d / 3))) x

  pub rows_listed : {n k : ℕ} → o ≡ Ok n → k ≡ n - from → IsRows (rows_in d' k) l 0 m r →
      IsRows (part_rows s from (length d / 3)) l 0 m r
  unfolding listing_lines or_refuse
  rows_listed {n} {k} e p x = go (judged s) part.answer part.held
    where
      go : (j : Judged) → o ≡ or_refuse Err j (Ok (length (listing_in (view_of s)))) →
          d' ≡ or_refuse (λ _. d) j (part_in (listing_in (view_of s)) from d) →
          IsRows (take (length d / 3) (drop from (or_refuse (λ _. []) j (map hit_line (listing_in (view_of s)))))) l 0 m r
      go (Ok _) a h =
          let c : n ≡ length (listing_in (view_of s)) = cc in
          let i : k ≡ length (listing_in (view_of s)) - from = omega arith in
          subst (λ (ws : List Words). IsRows ws l 0 m r) (ap₂ rows_in h i ∙ part_rows_law (listing_in (view_of s)) from d) x
      go (Err y) a h = let z : ◌≡◌ {A = ℕ} 0 1 = cc in absurd (omega arith)

pub lent_is : {s : List ℕ} {from : ℕ} {d d' : List ℕ} {o : Listed} → IsPart s from d d' o → IsLent s from d d'
unfolding IsLent
lent_is p = p.held

-- of an accepted scene's listing, poured off its survey
module _ (s : List ℕ) (ok : judged s ≡ Ok tt) (from : ℕ) {d d' : List ℕ} {n : ℕ}
    (pairs_written : PouredIf (listing_in (view_of s)) from false d d' n) where
  pairs_written_part : IsPart s from d d' (Ok n)
  pairs_written_part = part_told s d (sym ok) from refl pairs_written

  pub rows_read : {l m : List ℕ} {r : RowsPut} {k : ℕ} → k ≡ n - from → IsRows (rows_in d' k) l 0 m r →
      IsRows (part_rows s from (length d / 3)) l 0 m r
  rows_read e x = rows_listed s from pairs_written_part refl e x

  pub lent_read : IsLent s from d d'
  lent_read = lent_is pairs_written_part
