-- The header of the scene at a block's front: that of its first six bytes, which the judge refuses with 3 exactly where the header is
-- sound. Assumes nothing.
use Rattle.std.specs.Prelude.{◌≡◌, Bool, cond, not, List, ℕ, ◌+◌, ◌*◌, ◌≤◌, ◌<◌, length, take, Ok, Err}
use Rattle.std.proofs.Math.Path.{refl, sym, ap, ap₂}
use Rattle.std.proofs.Common.{◌∙◌, arith, get_or-take, length-take-le}
use Rattle.std.proofs.Math.Bool.{true, false, ◌&&◌}
use borrow.Author.Tests.{le-leb, lt-leb, ne_eqb, not-true, not-false}
use Rattle.std.proofs.Math.Dec.{eqb}
use Rattle.scene.specs.Limits.{limits}
use Rattle.scene.specs.Bytes.{byte_at, two_at}
use Rattle.scene.specs.Records.{length_of, marksc}
use Rattle.scene.specs.Refusal.{number_of}
use Rattle.scene.specs.declared.Refusal.{Refusal}
use Rattle.scene.specs.declared.Refusal.TheVariants.{Opening, Counts, Length}
use Rattle.judge.specs.Judge.{refuse_unless, and_then, opens, counts_ok, header_fault, judged_at, judged}
use Rattle.judge.specs.Judge.{Judged}
use Rattle.class_block.specs.Block.{headed, whole, size_of}

-- the first n bytes of s have the header of s
module _ (s : List ℕ) (n : ℕ) (m : 6 ≤ n) (h : n ≤ length s) where
  abbrev front : List ℕ
  front = take n s

  same : (i : ℕ) → i < 6 → byte_at front i ≡ byte_at s i
  same i l = get_or-take n s i 0 (omega arith)

  pub front_long : length front ≡ n
  front_long = length-take-le n s h

  pub opens_same : opens front ≡ opens s
  unfolding opens two_at
  opens_same =
      ap₂ ◌&&◌ (le-leb 6 (length front) (omega (arith, front_long)) ∙ sym (le-leb 6 (length s) (omega arith)))
      (ap₂ (λ (x y : ℕ). eqb (x + y * 256) marksc) (same 0 (omega arith)) (same 1 (omega arith)))

  pub counts_same : counts_ok limits front ≡ counts_ok limits s
  unfolding counts_ok
  counts_same = simp (same 2 (omega arith), same 3 (omega arith), same 4 (omega arith), same 5 (omega arith))

  pub length_same : length_of front ≡ length_of s
  length_same = simp (same 2 (omega arith), same 3 (omega arith), same 4 (omega arith), same 5 (omega arith))

module _ (s : List ℕ) (h : 6 ≤ length s) where
  abbrev six : List ℕ
  six = take 6 s

  too_short : eqb (length six) (length_of six) ≡ false
  too_short = ne_eqb (length six) (length_of six) (λ e. omega (arith, front_long s 6 (omega arith) h, e))

  -- what the judge of the six bytes refuses
  abbrev fault : (a b : Bool) → Refusal
  fault a b = cond a (cond b Length Counts) Opening

  judged_six : judged six ≡ Err (fault (opens s) (counts_ok limits s))
  unfolding judged_at header_fault refuse_unless and_then
  judged_six = rw (opens_same s 6 (omega arith) h, counts_same s 6 (omega arith) h, too_short) (go (opens s) (counts_ok limits s) _)
    where
      go : (a b : Bool) (k : Judged) → and_then (refuse_unless a Opening (refuse_unless b Counts (refuse_unless false Length (Ok tt)))) k ≡
          Err (fault a b)
      go true true k = refl
      go true false k = refl
      go false b k = refl

  same_refusal : {q r : Refusal} → ◌≡◌ {A = Judged} (Err q) (Err r) → q ≡ r
  same_refusal e = cc

  pub headed_six : {o : Judged} {r : Refusal} {n : ℕ} → o ≡ judged six → o ≡ Err r → n ≡ number_of r → eqb n 3 ≡ headed s
  unfolding headed
  headed_six e q m = ap (λ (x : ℕ). eqb x 3) (m ∙ ap number_of (same_refusal (sym q ∙ e ∙ judged_six))) ∙ go (opens s) (counts_ok limits s)
    where
      go : (a b : Bool) → eqb (number_of (fault a b)) 3 ≡ (a && b)
      go true true = refl
      go true false = refl
      go false b = refl

  pub never_six : {o : Judged} → o ≡ judged six → o ≡ Ok tt → false ≡ headed s
  never_six e q = absurd (let z : ◌≡◌ {A = ℕ} 0 1 = cc (e, q, judged_six) in omega arith)

pub unheaded : (s : List ℕ) → length s < 6 → false ≡ headed s
unfolding headed opens
unheaded s h = rw (lt-leb 6 (length s) h)

-- ---- how long the scene is

module _ (s : List ℕ) where
  pub size_unheaded : {b : Bool} → b ≡ headed s → not b ≡ true → length s ≡ size_of s
  unfolding size_of whole
  size_unheaded {b} e q = rw (← e, not-true b q)

  pub size_whole : {b : Bool} {n : ℕ} → b ≡ headed s → not b ≡ false → n ≡ length_of s → n ≤ length s → n ≡ size_of s
  unfolding size_of whole
  size_whole {b} {n} e q d h = rw (← e, not-false b q, ← d, le-leb n (length s) h)

  pub size_ended : {b : Bool} {n : ℕ} → b ≡ headed s → not b ≡ false → n ≡ length_of s → length s < n → length s ≡ size_of s
  unfolding size_of whole
  size_ended {b} {n} e q d h = rw (← e, not-false b q, ← d, lt-leb n (length s) h)
