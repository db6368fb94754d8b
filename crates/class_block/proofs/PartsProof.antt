-- The proofs of `Parts`: by the cases of a header, and along the scenes. Assumes nothing.
use Rattle.std.proofs.Math.Path.{◌≡◌, refl, sym}
use Rattle.std.proofs.Common.{ap, ap₂, ◌∙◌, subst, length-append, length-drop}
use Rattle.std.specs.Prelude.{Bool, ◌&&◌, List, [], ◌∷◌, ◌++◌, ℕ, zero, suc, ◌≤◌, ◌<◌, take, drop, Ok, Err}
use Rattle.std.proofs.Math.Bool.{true, false}
use native.Mathlib.Omega.{arith}
use borrow.Author.Tests.{le-leb, lt-leb, leb-true, eq-eqb, ne_eqb}
use Rattle.std.proofs.Math.Dec.{leb}
use Rattle.std.proofs.Math.ListN.{length}
use Rattle.std.proofs.Math.Seq.{take-length, drop-length, take-append_seam}
use Rattle.std.proofs.lemmas.List.{take-append-le, drop-append-le}
use Rattle.std.specs.Borrow.{Bor}
use Rattle.laws.specs.Lists.{Each}
use Rattle.scene.specs.Limits.{limits}
use Rattle.scene.specs.Records.{length_of}
use Rattle.scene.specs.declared.Refusal.TheVariants.{Opening, Counts, Length}
use Rattle.judge.specs.Judge.{refuse_unless, and_then, opens, counts_ok, header_fault, judged_at, judged}
use Rattle.class_block.specs.Block.{headed, whole, size_of, scene_of, behind, scenes_of, end_at}
use Rattle.class_block.specs.Scenes.{size_most, size_some, scenes_end, scenes_next, byte_left, behind_here}
use Rattle.class_block.specs.Header.{front_long, opens_same, counts_same, length_same}
use Rattle.class_block.specs.Parts.{Scenes, Runs, over, then, Ended, Parts}
use Rattle.class_block.specs.declared.Reader.{Reader}

-- ---- the last scene

module _ (s : List ℕ) where
  size_last : whole s ≡ false → size_of s ≡ length s
  unfolding size_of
  size_last e = rw e

  size_whole : whole s ≡ true → size_of s ≡ length_of s
  unfolding size_of
  size_whole e = rw e

  alone : whole s ≡ false → scene_of s ≡ s
  alone e = ap (λ (n : ℕ). take n s) (size_last e) ∙ take-length s

  last : 0 < length s → whole s ≡ false → scenes_of s ≡ s ∷ []
  last h e =
      let n : behind s ≡ [] = ap (λ (n : ℕ). drop n s) (size_last e) ∙ drop-length s in
      scenes_next s h ∙ ap₂ (λ (a b : List ℕ). a ∷ scenes_of b) (alone e) n ∙ ap (λ (l : List (List ℕ)). s ∷ l) (scenes_end [] (omega arith))

  no_opening : opens s ≡ false → whole s ≡ false
  unfolding whole headed
  no_opening e = rw e

  no_counts_law : counts_ok limits s ≡ false → whole s ≡ false
  unfolding whole headed
  no_counts_law e = rw e (both_false (opens s))
    where
      both_false : (a : Bool) → ((a && false) && leb (length_of s) (length s)) ≡ false
      both_false true = refl
      both_false false = refl

  no_length : length s < length_of s → whole s ≡ false
  unfolding whole
  no_length h = rw (lt-leb (length_of s) (length s) h) (and_false (headed s))
    where
      and_false : (a : Bool) → (a && false) ≡ false
      and_false true = refl
      and_false false = refl

  has_opening : headed s ≡ true → (opens s ≡ true) × (counts_ok limits s ≡ true)
  unfolding headed
  has_opening e = go (opens s) (counts_ok limits s) e
    where
      go : (a b : Bool) → (a && b) ≡ true → (a ≡ true) × (b ≡ true)
      go true true e = (refl, refl)
      go true false e = (refl, e)
      go false b e = absurd (let z : ◌≡◌ {A = ℕ} 0 1 = cc in omega arith)

  six : opens s ≡ true → 6 ≤ length s
  unfolding opens
  six e = go (leb 6 (length s)) _ refl e
    where
      go : (a b : Bool) → leb 6 (length s) ≡ a → (a && b) ≡ true → 6 ≤ length s
      go true b e p = leb-true 6 (length s) e
      go false b e p = absurd (let z : ◌≡◌ {A = ℕ} 0 1 = cc in omega arith)

  is_opening : opens s ≡ false → judged s ≡ Err Opening
  unfolding judged_at header_fault refuse_unless and_then
  is_opening e = rw e

  is_counts : opens s ≡ true → counts_ok limits s ≡ false → judged s ≡ Err Counts
  unfolding judged_at header_fault refuse_unless and_then
  is_counts e d = rw (e, d)

  is_length : headed s ≡ true → length s < length_of s → judged s ≡ Err Length
  unfolding judged_at header_fault refuse_unless and_then
  is_length e h = rw ((has_opening e).0, (has_opening e).1, ne_eqb (length s) (length_of s) (λ p. omega arith))

  some_left : headed s ≡ true → 0 < length s
  some_left e = omega (arith, six (has_opening e).0)

  is_whole_law : headed s ≡ true → length_of s ≤ length s → whole s ≡ true
  unfolding whole
  is_whole_law e h = rw (e, le-leb (length_of s) (length s) h)

  -- the scene has the length that its header says
  sound : headed s ≡ true → length_of s ≤ length s → header_fault limits (take (length_of s) s) ≡ Ok tt
  unfolding header_fault refuse_unless
  sound e h =
      let n = length_of s in
      let m : 6 ≤ n = omega arith in
      let l : length (take n s) ≡ length_of (take n s) = front_long s n m h ∙ sym (length_same s n m h) in
      rw (opens_same s n m h, (has_opening e).0, counts_same s n m h, (has_opening e).1, eq-eqb (length (take n s)) (length_of (take n s)) l)

  next : whole s ≡ true → 0 < length s → scenes_of s ≡ take (length_of s) s ∷ scenes_of (drop (length_of s) s)
  next e h = scenes_next s h ∙ ap (λ (n : ℕ). take n s ∷ scenes_of (drop n s)) (size_whole e)

  scenes : Scenes s
  scenes =
      record {
        ended = scenes_end s;
        opening = λ h e. (last h (no_opening e), is_opening e);
        counts = λ h e d. (last h (no_counts_law d), is_counts e d);
        inside = λ e h. (last (some_left e) (no_length h), is_length e h);
        passed = λ e h. (next (is_whole_law e h) (some_left e), sound e h);
      }

-- ---- what a reader hands out

runs : (r : Reader) (ss : List (List ℕ)) → Runs r ss → ss ≡ scenes_of (drop r.at r.block.now)
runs r ss (over h) = sym (scenes_end (drop r.at r.block.now) (omega (arith, length-drop r.at r.block.now)))
runs r ss (then {r' = r'} {s = s} {ss = tail} l h more) =
    let b = r.block.now in
    let here : drop r'.at r'.block.now ≡ behind (drop r.at b) =
    ap₂ (λ (n : ℕ) (x : Bor (List ℕ)). drop n x.now) h.at h.block ∙ sym (behind_here b r.at l (end_at b r.at) refl) in
    ap₂ (λ (x : List ℕ) (xs : List (List ℕ)). x ∷ xs) h.scene (runs r' tail more ∙ ap scenes_of here)
    ∙ sym (scenes_next (drop r.at b) (byte_left b r.at l))

-- ---- two blocks end to end

module _ (y : List ℕ) where
  -- the bytes behind a whole scene do not change it
  module _ (x : List ℕ) (w : whole x ≡ true) where
    both : (headed x ≡ true) × (length_of x ≤ length x)
    unfolding whole
    both = go (headed x) (leb (length_of x) (length x)) refl w
      where
        go : (a b : Bool) → leb (length_of x) (length x) ≡ b → (a && b) ≡ true → (a ≡ true) × (length_of x ≤ length x)
        go true true e p = (refl, leb-true (length_of x) (length x) e)
        go true false e p = (refl, absurd (let z : ◌≡◌ {A = ℕ} 0 1 = cc in omega arith))
        go false b e p = absurd (let z : ◌≡◌ {A = ℕ} 0 1 = cc in omega arith)

    long : length x ≤ length (x ++ y)
    long = omega (arith, length-append x y)

    enough : 6 ≤ length x
    enough = six x (has_opening x both.0).0

    front : take (length x) (x ++ y) ≡ x
    front = take-append_seam x y

    opens_more : opens (x ++ y) ≡ true
    opens_more = sym (opens_same (x ++ y) (length x) enough long) ∙ ap opens front ∙ (has_opening x both.0).0

    counts_more : counts_ok limits (x ++ y) ≡ true
    counts_more = sym (counts_same (x ++ y) (length x) enough long) ∙ ap (counts_ok limits) front ∙ (has_opening x both.0).1

    length_more : length_of (x ++ y) ≡ length_of x
    length_more = sym (length_same (x ++ y) (length x) enough long) ∙ ap (λ (s : List ℕ). length_of s) front

    headed_more : headed (x ++ y) ≡ true
    unfolding headed
    headed_more = rw (opens_more, counts_more)

    size_more : size_of (x ++ y) ≡ size_of x
    size_more =
        size_whole (x ++ y) (is_whole_law (x ++ y) headed_more (omega (arith, length_more, both.1, long))) ∙ length_more ∙ sym (size_whole x w)

    scene_more : scene_of (x ++ y) ≡ scene_of x
    scene_more = ap (λ (n : ℕ). take n (x ++ y)) size_more ∙ take-append-le (size_of x) x y (size_most x)

    behind_more : behind (x ++ y) ≡ behind x ++ y
    behind_more = ap (λ (n : ℕ). drop n (x ++ y)) size_more ∙ drop-append-le (size_of x) x y (size_most x)

  -- a scene that is whole was so where it stood
  was_whole : (x : List ℕ) → whole (scene_of x) ≡ true → whole x ≡ true
  was_whole x e = go (whole x) refl
    where
      go : (b : Bool) → whole x ≡ b → b ≡ true
      go true p = refl
      go false p = sym p ∙ ap whole (sym (alone x p)) ∙ e

  abbrev Joined : List ℕ → Type 0
  Joined x = Ended x → scenes_of (x ++ y) ≡ scenes_of x ++ scenes_of y

  -- for x, where it is so behind its first scene
  join : (x : List ℕ) → (0 < length x → Joined (behind x)) → Joined x
  join [] ih e = sym (ap (λ (l : List (List ℕ)). l ++ scenes_of y) (scenes_end [] (omega arith)))
  join (b ∷ x) ih e =
      let s : List ℕ = b ∷ x in
      let some : 0 < length s = omega arith in
      let all = subst (Each (λ s. whole s ≡ true)) (scenes_next s some) e in
      let w = was_whole s all.0 in
      scenes_next (s ++ y) (omega arith)
      ∙ ap₂ (λ (p q : List ℕ). p ∷ scenes_of q) (scene_more s w) (behind_more s w)
      ∙ ap (λ (l : List (List ℕ)). scene_of s ∷ l) (ih some all.1)
      ∙ sym (ap (λ (l : List (List ℕ)). l ++ scenes_of y) (scenes_next s some))

  joined : (n : ℕ) (x : List ℕ) → length x ≤ n → Joined x
  joined zero x h = join x (λ some. absurd (omega arith))
  joined (suc n) x h = join x (λ some. joined n (behind x) (omega (arith, length-drop (size_of x) x, size_some x some, size_most x)))

pub parts : Parts
parts =
    record {
      scenes = scenes;
      read = λ block r ss is run. runs r ss run ∙ ap₂ (λ (n : ℕ) (b : Bor (List ℕ)). scenes_of (drop n b.now)) is.1 is.0;
      joined = λ x y e. joined y (length x) x (omega arith) e;
    }
