-- What a call answers and leaves, by the cases of its tests. Assumes nothing.
use Rattle.std.specs.Prelude.{◌≡◌, Bool, true, false, cond, List, ℕ, Ok, Err}
use Rattle.std.proofs.Common.{sym, ◌∙◌}
use Rattle.std.proofs.Math.Path.{ap}
use Rattle.questions.specs.Answers.{verdict_of}
use Rattle.light.specs.Light.{light_number, colour_of, is_full, more, light_of, left_of, IsLight}
use Rattle.light.specs.declared.Light.{Light}
use Rattle.light.specs.declared.LightError.TheVariants.{Uncounted}

module _ (s l : List ℕ) {b : Bool} (e : b ≡ is_full l) where
  pub uncounted : b ≡ true → IsLight s l l (Err Uncounted)
  unfolding light_of left_of
  uncounted p =
      record {
        answer = ap (λ (b : Bool). cond b (Err Uncounted) (Ok (colour_of (verdict_of s)))) (sym p ∙ e);
        held = ap (λ (b : Bool). cond b l (more l (light_number (Ok (colour_of (verdict_of s)))))) (sym p ∙ e);
      }

  pub counted : {r : Light} {k : ℕ} {l' : List ℕ} → b ≡ false → r ≡ colour_of (verdict_of s) → k ≡ light_number (Ok r) → l' ≡ more l k →
      IsLight s l l' (Ok r)
  unfolding light_of left_of
  counted p q n w =
      record {
        answer = ap Ok q ∙ ap (λ (b : Bool). cond b (Err Uncounted) (Ok (colour_of (verdict_of s)))) (sym p ∙ e);
        held =
            w ∙ ap (more l) (n ∙ ap (λ (r : Light). light_number (Ok r)) q)
            ∙ ap (λ (b : Bool). cond b l (more l (light_number (Ok (colour_of (verdict_of s)))))) (sym p ∙ e);
      }
