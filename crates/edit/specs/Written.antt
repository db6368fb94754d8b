-- What is written at the end is the scene that the session holds: in the form in which the two calls of saving arrive, and after any
-- operations. Assumes nothing.
use Rattle.std.specs.Prelude.{ℕ, ◌≤◌, ◌⊎◌, Bool, cond, ◌&&◌, List, [], ◌∷◌, length, take, drop, Ok, Err}
use Rattle.std.proofs.Math.Path.{◌≡◌, refl, sym}
use Rattle.std.proofs.Common.{ap, ap₂, ◌∙◌, inl, inr, arith}
use Rattle.std.proofs.Math.Bool.{true, false}
use Rattle.std.proofs.Math.Dec.{leb}
use Rattle.std.proofs.Math.Seq.{take-append_seam}
use Rattle.scene.specs.Limits.{limits, longest}
use Rattle.scene.specs.Refusal.{place_of}
use Rattle.scene.specs.declared.Refusal.{Refusal}
use Rattle.scene.specs.declared.Refusal.TheVariants.{Opening, BufferTooShort}
use Rattle.judge.specs.Judge.{refuse_unless}
use Rattle.judge.specs.Judge.{Judged}
use Rattle.session.specs.Session.{scene, is_whole, opened}
use Rattle.session.specs.Laws.{accepted_short}
use Rattle.session.specs.Kept.{Empty, Full, Holds, Operation, after}
use Rattle.session.proofs.Sessions.{sessions_hold}
use Rattle.session.specs.Saved.{save_fault, saved_by, IsSaved, save_room, save_full}
use Rattle.session.specs.declared.Session.{Session}
use Rattle.edit.specs.Steps.{scene_within}

-- ---- two rules, that there is a scene and that there is room

module _ (s : List ℕ) (n : ℕ) where
  ruled : Bool → Bool → Judged
  ruled a b = refuse_unless a Opening (refuse_unless b (BufferTooShort n) (Ok tt))

  refused_none : (a b : Bool) {r : Refusal} → ruled a b ≡ Err r → cond (a && b) s [] ≡ []
  unfolding ruled refuse_unless
  refused_none true true e = absurd (let z : ◌≡◌ {A = ℕ} 0 1 = cc in omega arith)
  refused_none true false e = refl
  refused_none false b e = refl

  accepted_all : (a b : Bool) → ruled a b ≡ Ok tt → cond (a && b) s [] ≡ s
  unfolding ruled refuse_unless
  accepted_all true true e = refl
  accepted_all true false e = absurd (let z : ◌≡◌ {A = ℕ} 0 1 = cc in omega arith)
  accepted_all false b e = absurd (let z : ◌≡◌ {A = ℕ} 0 1 = cc in omega arith)

  needed_place : (a b c : Bool) {r : Refusal} → ruled a b ≡ Ok tt → ruled a c ≡ Err r → place_of r ≡ n
  unfolding ruled refuse_unless
  needed_place true b false {r} e f = let g : BufferTooShort n ≡ r = cc in sym (ap place_of g)
  needed_place true b true e f = absurd (let z : ◌≡◌ {A = ℕ} 0 1 = cc in omega arith)
  needed_place false b c e f = absurd (let z : ◌≡◌ {A = ℕ} 0 1 = cc in omega arith)

nothing : (b : Bool) (s : List ℕ) → length s ≤ 0 → cond b s [] ≡ []
nothing true [] h = refl
nothing false [] h = refl
nothing b (a ∷ s) h = absurd (omega arith)

-- ---- the calls: o saved into out, and q into no places

module _ (s : List ℕ) (room : ℕ) where
  pub scene_none : {o : Judged} {r : Refusal} → o ≡ save_fault s room → o ≡ Err r → [] ≡ scene_within room s
  unfolding scene_within save_fault ruled
  scene_none p q = sym (refused_none s (length s) (is_whole s) (leb (length s) room) (sym p ∙ q))

  scene_all : save_fault s room ≡ Ok tt → scene_within room s ≡ s
  unfolding scene_within save_fault ruled
  scene_all e = accepted_all s (length s) (is_whole s) (leb (length s) room) e

  pub scene_short : {q : Judged} → q ≡ save_fault s 0 → q ≡ Ok tt → [] ≡ scene_within room s
  unfolding scene_within
  scene_short p e = sym (nothing (is_whole s && leb (length s) room) s (save_room s 0 (sym p ∙ e)))

module _ (s out : List ℕ) {out' : List ℕ} {o q : Judged} {r : Refusal} {n : ℕ} (is : IsSaved s out out' o) (e : o ≡ Ok tt)
    (f : q ≡ save_fault s 0) (g : q ≡ Err r) (m : n ≡ place_of r) where
  free : save_fault s (length out) ≡ Ok tt
  free = sym is.answer ∙ e

  long : n ≡ length s
  unfolding save_fault ruled
  long = m ∙ needed_place s (length s) (is_whole s) (leb (length s) (length out)) (leb (length s) 0) free (sym f ∙ g)

  pub scene_fits : n ≤ length out
  scene_fits = omega (arith, long, save_room s (length out) free)

  pub scene_front : take n out' ≡ scene_within (length out) s
  scene_front =
      ap₂ take long (is.held ∙ ap (λ (j : Judged). saved_by j s out) free) ∙ take-append_seam s (drop (length s) out)
      ∙ sym (scene_all s (length out) free)

-- ---- after any operations, from any string of bytes

pub scene_written : (b : List ℕ) (os : List Operation) →
    let s = after (opened b).session os in scene_within (longest limits) (scene s) ≡ scene s
unfolding scene_within
scene_written b os = go (after (opened b).session os) (sessions_hold b os)
  where
    empty : (s : List ℕ) → length s ≤ 0 → scene_within (longest limits) s ≡ s
    empty [] h = nothing (is_whole [] && leb 0 (longest limits)) [] h
    empty (a ∷ s) h = absurd (omega arith)

    by : (s : Session) → s.len ≡ length (scene s) → Empty s ⊎ Full s → scene_within (longest limits) (scene s) ≡ scene s
    by s z (inl e) = empty (scene s) (omega (arith, z, e.none))
    by s z (inr f) = scene_all (scene s) (longest limits) (save_full s f (longest limits) (accepted_short (scene s) f.accepted))

    go : (s : Session) → Holds s → scene_within (longest limits) (scene s) ≡ scene s
    go s h = by s h.sized h.state
