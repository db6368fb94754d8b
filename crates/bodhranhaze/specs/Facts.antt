-- Everything that is asked of a whole scene, as a call from C tells it: eight numbers, and the listing. Assumes nothing.
use Rattle.std.proofs.Math.Path.{◌≡◌, ap, ap₂}
use Rattle.std.specs.Prelude.{refl, Bool, true, false, cond, List, [], ◌∷◌, ℕ, ◌*◌, ◌/◌, ◌≤◌, ◌<◌, ltb, leb, length, drop, set, Ok, Err}
use Rattle.std.proofs.Common.{sym, ◌∙◌, arith, le-leb, le-ltb, lt-ltb}
use Rattle.std.proofs.lemmas.Bool.{lt-leb}
use Rattle.scene.specs.View.{view_of}
use Rattle.scene.specs.declared.Refusal.{Refusal}
use Rattle.scene.specs.declared.Refusal.TheVariants.{ListTooShort}
use Rattle.judge.specs.Judge.{refuse_unless, and_then, judged}
use Rattle.judge.specs.Judge.{Judged}
use Rattle.questions.specs.Answers.{or_refuse, counts_in, list_fault, held_in, verdict_number}
use Rattle.survey_scene.specs.Facts.{facts_in, IsSurvey}
use Rattle.questions.specs.declared.Facts.{Facts}
use Rattle.questions.specs.Types.{Surveyed}
use Rattle.questions.specs.declared.Verdict.TheVariants as verdict
use Rattle.bodhranhaze.specs.declared.facts.Told.{Told}
use Rattle.bodhranhaze.specs.Calls.{refusal_number, refusal_place}

-- ---- what is told

-- what is told of an accepted scene, and of a refused one: its refusal alone
abbrev pub known : Facts → Told
known f = record { verdict = verdict_number (Ok f.verdict); counts = f.counts; a_inside = f.a_inside; b_inside = f.b_inside }

abbrev pub nothing_known : Refusal → Told
nothing_known r =
    record { verdict = verdict_number (Err r); counts = record { pairs = 0; a_in_b = 0; b_in_a = 0 }; a_inside = 0; b_inside = 0 }

unfoldable pub facts_of : List ℕ → Told
facts_of s = or_refuse nothing_known (judged s) (known (facts_in (view_of s)))

-- the scene's refusal, else that of a list d without room
unfoldable pub survey_fault : (s d : List ℕ) → Judged
survey_fault s d = and_then (judged s) (list_fault (view_of s) d)

-- the eight numbers, and what stood behind them
abbrev pub told : (number place : ℕ) → Told → List ℕ → List ℕ
told number place f d =
    number ∷ place ∷ f.verdict ∷ f.counts.pairs ∷ f.counts.a_in_b ∷ f.counts.b_in_a ∷ f.a_inside ∷
    f.b_inside ∷ drop 8 d

-- by a refusal or none
pub record FactsPut (j : Judged) (f : Told) (d d' : List ℕ) (r : ℕ) : Type 0 where
  pub number : r ≡ refusal_number j
  pub facts : d' ≡ told (refusal_number j) (refusal_place j) f d

abbrev pub few : List ℕ → Bool
few d = ltb (length d) 8

-- the list d and the facts f, and what they hold afterwards
pub record IsFacts (s d d' f f' : List ℕ) (r : ℕ) : Type 0 where
  pub answer : r ≡ cond (few f) 13 (refusal_number (survey_fault s d))
  pub held : d' ≡ cond (few f) d (or_refuse (λ _. d) (judged s) (held_in (view_of s) d))
  pub facts : f' ≡ cond (few f) f (told (refusal_number (survey_fault s d)) (refusal_place (survey_fault s d)) (facts_of s) f)

-- ---- laws

pub put_eight : (d : List ℕ) (a b c e f g h i : ℕ) → 8 ≤ length d →
    set (set (set (set (set (set (set (set d 0 a) 1 b) 2 c) 3 e) 4 f) 5 g) 6 h) 7 i ≡ a ∷ b ∷ c ∷ e ∷ f ∷ g ∷ h ∷ i ∷ drop 8 d
put_eight (_ ∷ _ ∷ _ ∷ _ ∷ _ ∷ _ ∷ _ ∷ _ ∷ d) a b c e f g h i l = refl
put_eight (_ ∷ _ ∷ _ ∷ _ ∷ _ ∷ _ ∷ _ ∷ []) a b c e f g h i l = absurd (omega arith)
put_eight (_ ∷ _ ∷ _ ∷ _ ∷ _ ∷ _ ∷ []) a b c e f g h i l = absurd (omega arith)
put_eight (_ ∷ _ ∷ _ ∷ _ ∷ _ ∷ []) a b c e f g h i l = absurd (omega arith)
put_eight (_ ∷ _ ∷ _ ∷ _ ∷ []) a b c e f g h i l = absurd (omega arith)
put_eight (_ ∷ _ ∷ _ ∷ []) a b c e f g h i l = absurd (omega arith)
put_eight (_ ∷ _ ∷ []) a b c e f g h i l = absurd (omega arith)
put_eight (_ ∷ []) a b c e f g h i l = absurd (omega arith)
put_eight [] a b c e f g h i l = absurd (omega arith)

pub eight_told : (d : List ℕ) (number place : ℕ) (f : Told) {d' : List ℕ} → 8 ≤ length d →
    d' ≡ set (set (set (set (set (set (set (set d 0 number) 1 place) 2 f.verdict) 3 f.counts.pairs) 4 f.counts.a_in_b) 5
    f.counts.b_in_a) 6 f.a_inside) 7 f.b_inside →
    d' ≡ told number place f d
eight_told d number place f l p = p ∙ put_eight d number place _ _ _ _ _ _ l

pub told_so : {j : Judged} {f : Told} (d : List ℕ) {d' : List ℕ} {n p : ℕ} → n ≡ refusal_number j → p ≡ refusal_place j →
    d' ≡ told n p f d → FactsPut j f d d' n
told_so {f = f} d e q h = record { number = e; facts = h ∙ ap₂ (λ (n p : ℕ). told n p f d) e q }

-- of a list with so many places
unfoldable pub room_for : (n places : ℕ) → Judged
room_for n places = refuse_unless (leb (3 * n) places) (ListTooShort n) (Ok tt)

pub short : {n : ℕ} (places : ℕ) → places / 3 < n → Err (ListTooShort n) ≡ room_for n places
unfolding room_for refuse_unless
short {n} places h = rw (lt-leb (3 * n) places (omega arith)) refl

pub long : {n : ℕ} (places : ℕ) → n ≤ places / 3 → (Ok tt) ≡ room_for n places
unfolding room_for refuse_unless
long {n} places h = rw (le-leb (3 * n) places (omega arith)) refl

module _ (s d f : List ℕ) where
  abbrev fault : Judged
  fault = survey_fault s d

  -- of x and y the first, or the second
  chosen : {A : Type 0} {b : Bool} (x y : A) → few f ≡ b → cond b x y ≡ cond (few f) x y
  chosen x y e = ap (λ (b : Bool). cond b x y) (sym e)

  pub too_few : length f < 8 → IsFacts s d d f f 13
  too_few h =
      let e : few f ≡ true = lt-ltb (length f) 8 h in
      record {
        answer = chosen 13 (refusal_number fault) e;
        held = chosen d (or_refuse (λ _. d) (judged s) (held_in (view_of s) d)) e;
        facts = chosen f (told (refusal_number fault) (refusal_place fault) (facts_of s) f) e;
      }

  module _ (enough : 8 ≤ length f) {d' f' : List ℕ} {o : Surveyed} {n : ℕ} (x : IsSurvey s d d' o) where
    by_judge : {k : Judged} {g : Told} → k ≡ fault → g ≡ facts_of s → FactsPut k g f f' n → IsFacts s d d' f f' n
    by_judge a b t =
        let e : few f ≡ false = le-ltb (length f) 8 enough in
        record {
          answer = t.number ∙ ap refusal_number a ∙ chosen 13 (refusal_number fault) e;
          held = x.held ∙ chosen d (or_refuse (λ _. d) (judged s) (held_in (view_of s) d)) e;
          facts =
              t.facts ∙ ap₂ (λ (k : Judged) (g : Told). told (refusal_number k) (refusal_place k) g f) a b
              ∙ chosen f (told (refusal_number fault) (refusal_place fault) (facts_of s) f) e;
        }

    pub facts_refused : {r : Refusal} → o ≡ Err r → {g : Told} → g ≡ nothing_known r → FactsPut (Err r) g f f' n →
        IsFacts s d d' f f' n
    unfolding or_refuse and_then survey_fault facts_of
    facts_refused {r} q {g} e t = let w = go (judged s) (sym q ∙ x.answer) in by_judge w.0 (e ∙ w.1) t
      where
        go : (j : Judged) → Err r ≡ or_refuse Err j (Ok (facts_in (view_of s))) →
            (Err r ≡ and_then j (list_fault (view_of s) d)) × (nothing_known r ≡ or_refuse nothing_known j (known (facts_in (view_of s))))
        go (Ok _) h = let k : ◌≡◌ {A = ℕ} 0 1 = cc in absurd (omega arith)
        go (Err w) h = let same : r ≡ w = cc in (ap Err same, ap nothing_known same)

    pub facts_told : {g : Facts} {h : Told} → o ≡ Ok g → {k : Judged} → k ≡ room_for g.counts.pairs (length d') → length d' ≡ length d →
        h ≡ known g → FactsPut k h f f' n → IsFacts s d d' f f' n
    unfolding or_refuse and_then survey_fault facts_of room_for list_fault facts_in counts_in
    facts_told {g} q {k} e l i t = let w = go (judged s) (sym q ∙ x.answer) in by_judge w.0 (i ∙ w.1) t
      where
        go : (j : Judged) → Ok g ≡ or_refuse Err j (Ok (facts_in (view_of s))) →
            (k ≡ and_then j (list_fault (view_of s) d)) × (known g ≡ or_refuse nothing_known j (known (facts_in (view_of s))))
        go (Err w) h = let k : ◌≡◌ {A = ℕ} 0 1 = cc in absurd (omega arith)
        go (Ok _) h =
            let same : g ≡ facts_in (view_of s) = cc in
            (e ∙ ap₂ (λ (g : Facts) (m : ℕ). room_for g.counts.pairs m) same l, ap known same)
