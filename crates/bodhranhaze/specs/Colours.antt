-- What the call of the fit light answers and leaves. Assumes nothing.
use Rattle.std.specs.Prelude.{◌≡◌, List, ℕ}
use Rattle.std.proofs.Common.{ap, ◌∙◌}
use Rattle.light.specs.Light.{light_number, light_of, left_of, IsLight}
use Rattle.light.specs.Light.{Lit}

-- l is what the lent counts held, l' what they hold afterwards
pub record IsShown (s l l' : List ℕ) (r : ℕ) : Type 0 where
  pub answer : r ≡ light_number (light_of s l)
  pub held : l' ≡ left_of s l

pub shown : {s l l' : List ℕ} {o : Lit} {n : ℕ} → IsLight s l l' o → n ≡ light_number o → IsShown s l l' n
shown h p = record { answer = p ∙ ap light_number h.answer; held = h.held }
