-- A session's scene written into a lent buffer: the answer, what the buffer holds, and that reading gives the scene back. Assumes nothing.
use Rattle.std.specs.Prelude.{◌≡◌, List, ◌++◌, ℕ, ◌≤◌, leb, length, take, drop, Ok, Err}
use Rattle.std.proofs.Common.{sym, ap, ◌∙◌, arith}
use Rattle.std.proofs.Math.Seq.{take-append_seam, drop-append_seam}
use borrow.Author.Tests.{eq-eqb, ne_eqb, le-leb}
use Rattle.scene.specs.Records.{length_of}
use Rattle.scene.specs.declared.Refusal.{Refusal}
use Rattle.scene.specs.declared.Refusal.TheVariants.{Opening, BufferTooShort}
use Rattle.judge.specs.Judge.{judged, refuse_unless}
use Rattle.judge.specs.Tests.{accepts}
use Rattle.judge.specs.Judge.{Judged}
use Rattle.rules.proofs.Accepted.{accepted}
use Rattle.scene.specs.Limits.{limits}
use Rattle.session.specs.Session.{scene, fresh, opened_by, opened, is_whole}
use Rattle.session.specs.Kept.{Empty, Full, Holds}
use Rattle.session.specs.declared.Session.{Session}

-- 1 for the empty session, then 13 for a buffer of fewer than the scene's bytes, place the length needed
unfoldable pub save_fault : List ℕ → ℕ → Judged
save_fault s room = refuse_unless (is_whole s) Opening (refuse_unless (leb (length s) room) (BufferTooShort (length s)) (Ok tt))

-- out is what the buffer held
abbrev pub saved_by : Judged → List ℕ → List ℕ → List ℕ
saved_by (Ok _) s out = s ++ drop (length s) out
saved_by (Err r) s out = out

pub record IsSaved (s out out' : List ℕ) (r : Judged) : Type 0 where
  pub answer : r ≡ save_fault s (length out)
  pub held : out' ≡ saved_by (save_fault s (length out)) s out

-- ---- in the form in which a call's answer and a branch arrive: o is the fault

module _ (s out : List ℕ) {o j : Judged} (e : o ≡ j) (is : j ≡ save_fault s (length out)) where
  pub saved_not : {r : Refusal} → o ≡ Err r → IsSaved s out out (Err r)
  saved_not q = record { answer = sym q ∙ e ∙ is; held = ap (λ (j : Judged). saved_by j s out) (sym q ∙ e ∙ is) }

  pub saved_so : {l : List ℕ} → o ≡ Ok tt → l ≡ s ++ drop (length s) out → IsSaved s out l (Ok tt)
  saved_so q h = record { answer = sym q ∙ e ∙ is; held = h ∙ ap (λ (j : Judged). saved_by j s out) (sym q ∙ e ∙ is) }

pub save_room : (s : List ℕ) (room : ℕ) → save_fault s room ≡ Ok tt → length s ≤ room
unfolding save_fault
save_room s room e = (simp accepts at e).1.0

-- ---- what a session saves

module _ (s : Session) where
  pub save_empty : Holds s → Empty s → (room : ℕ) → save_fault (scene s) room ≡ Err Opening
  unfolding save_fault is_whole refuse_unless
  save_empty h e room = rw (ne_eqb (length (scene s)) (length_of (scene s)) (λ q. omega (arith, q, h.sized, e.none)))

  pub save_full : Full s → (room : ℕ) → length (scene s) ≤ room → save_fault (scene s) room ≡ Ok tt
  unfolding save_fault is_whole refuse_unless
  save_full f room l =
      rw (
        eq-eqb (length (scene s)) (length_of (scene s)) ((accepted limits (scene s)).0 f.accepted).header.long,
        le-leb (length (scene s)) room l,
      )

  -- the buffer, where there is room: the scene, and behind it what stood there
  pub saved_front : Full s → (out : List ℕ) → length (scene s) ≤ length out →
      take (length (scene s)) (saved_by (save_fault (scene s) (length out)) (scene s) out) ≡ scene s
  saved_front f out l = rw (save_full f (length out) l) (take-append_seam (scene s) _)

  pub saved_behind : Full s → (out : List ℕ) → length (scene s) ≤ length out →
      drop (length (scene s)) (saved_by (save_fault (scene s) (length out)) (scene s) out) ≡ drop (length (scene s)) out
  saved_behind f out l = rw (save_full f (length out) l) (drop-append_seam (scene s) _)

-- opening holds the very scene
pub opened_scene : (b : List ℕ) → judged b ≡ Ok tt → scene (opened b).session ≡ b
unfolding opened fresh
opened_scene b q = ap (λ (j : Judged). scene (opened_by j b).session) q ∙ take-append_seam b _

-- read after write gives the same scene: what a session saved opens as a session that holds it
pub read_after_write : (s : Session) → Full s → (out : List ℕ) → length (scene s) ≤ length out →
    scene (opened (take (length (scene s)) (saved_by (save_fault (scene s) (length out)) (scene s) out))).session ≡ scene s
read_after_write s f out l = rw (saved_front s f out l) (opened_scene (scene s) f.accepted)

-- write after read gives the same bytes: an accepted scene that was opened is saved as it was
pub write_after_read : (b : List ℕ) → judged b ≡ Ok tt → (out : List ℕ) → length b ≤ length out →
    saved_by (save_fault (scene (opened b).session) (length out)) (scene (opened b).session) out ≡ b ++ drop (length b) out
unfolding save_fault is_whole refuse_unless
write_after_read b q out l =
    rw (opened_scene b q, eq-eqb (length b) (length_of b) ((accepted limits b).0 q).header.long, le-leb (length b) (length out) l)
