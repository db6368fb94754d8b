-- What is answered: whether a scene is clean, after the scene's own refusals. Assumes nothing.
use Rattle.std.specs.Prelude.{◌≡◌, refl, ◌↔◌, Bool, true, false, not, List, ℕ, ◌+◌, Result, Ok, Err}
use Rattle.std.proofs.Math.Path.{sym}
use Rattle.std.proofs.Common.{◌∙◌}
use Rattle.scene.specs.Records.{verts}
use Rattle.scene.specs.Tables.{tables_of, row}
use Rattle.scene.specs.declared.Refusal.{Refusal}
use Rattle.judge.specs.Judge.{judged}
use Rattle.judge.specs.Judge.{Judged}
use Rattle.clean.specs.Clean.{Clean, has_flat, clean_iff}

-- yes or no
abbrev pub Answer : Type 0
Answer = Result Bool Refusal

-- the answer to an accepted scene, else its refusal
unfoldable pub or_refuse : Judged → Answer → Answer
or_refuse (Ok _) a = a
or_refuse (Err r) a = Err r

unfoldable pub clean_of : List ℕ → Answer
clean_of s = or_refuse (judged s) (Ok (not (has_flat (verts s + 1) (row (tables_of s)))))

-- as the code finds it
module _ (s : List ℕ) {o : Judged} (e : o ≡ judged s) where
  pub clean_refused : {r : Refusal} → o ≡ Err r → Err r ≡ clean_of s
  unfolding clean_of or_refuse
  clean_refused q = rw (sym e ∙ q)

  pub scene_accepted : o ≡ Ok tt → judged s ≡ Ok tt
  scene_accepted q = sym e ∙ q

  pub clean_told : o ≡ Ok tt → {b : Bool} → b ≡ has_flat (verts s + 1) (row (tables_of s)) → Ok (not b) ≡ clean_of s
  unfolding clean_of or_refuse
  clean_told q h = rw (sym e ∙ q, sym h)

-- an accepted scene is answered yes exactly when it is clean
pub clean_exactly : (s : List ℕ) → judged s ≡ Ok tt → (clean_of s ≡ Ok true) ↔ Clean (verts s + 1) (row (tables_of s))
unfolding clean_of or_refuse
clean_exactly s ok = rw ok (by (has_flat (verts s + 1) (row (tables_of s))) (clean_iff (verts s + 1) (row (tables_of s))))
  where
    by : {P : Type 0} (b : Bool) → (b ≡ false) ↔ P → (◌≡◌ {A = Answer} (Ok (not b)) (Ok true)) ↔ P
    by true h = (λ e. h.0 (cc), λ p. cc (h.1 p))
    by false h = (λ e. h.0 refl, λ p. refl)
