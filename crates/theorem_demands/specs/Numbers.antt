-- Demand 1, in numbers and places: the refusal numbers of each question, the scene's and its own. No other is given, and each of these is,
-- for some bytes and some numbers. And the places of a question's own. The proof is `Numbers.Proof`. Assumes nothing.
use Rattle.std.specs.Prelude.{◌≡◌, List, [], ◌∷◌, ◌++◌, ℕ, Err}
use Rattle.laws.specs.Lists.{Each, Some}
use Rattle.scene.specs.Refusal.{number_of, place_of}
use Rattle.scene.specs.declared.Refusal.{Refusal}
use Rattle.scene.specs.declared.Refusal.TheVariants.{ListTooShort, NoSuchNumber, NotDistinct}
use Rattle.record.specs.Shown.{refusal}
use Rattle.questions.specs.Answers.{sign_of, pierces_of, masked_of, refused, enclosed_of, counted_of, verdict_of, IsListed, IsPart, inside_of}
use Rattle.questions.specs.Types.{Listed}

-- the places of 11 and 12 are 0, that of 10 is the count
pub record Places : Type 0 where
  pub room : (n : ℕ) → place_of (ListTooShort n) ≡ n
  pub lacking : place_of NoSuchNumber ≡ 0
  pub same : place_of NotDistinct ≡ 0

abbrev pub of_scene : List ℕ
of_scene = 1 ∷ 2 ∷ 3 ∷ 4 ∷ 5 ∷ 6 ∷ 7 ∷ 8 ∷ 9 ∷ 14 ∷ []

-- a question that is refused so, by the bytes: its refusals have the scene's numbers and its own
pub record Gives (own : List ℕ) (Refuses : List ℕ → Refusal → Type 0) : Type 0 where
  pub no_other : (s : List ℕ) (r : Refusal) → Refuses s r → Some (λ n. number_of r ≡ n) (of_scene ++ own)
  pub each : Each (λ n. (r : Refusal) × (number_of r ≡ n) × (s : List ℕ) × Refuses s r) (of_scene ++ own)

pub record Numbers : Type 0 where
  pub sign : Gives (11 ∷ 12 ∷ []) (λ s r. (a : ℕ) × (b : ℕ) × (c : ℕ) × (d : ℕ) × (sign_of s a b c d ≡ Err r))
  pub pierces : Gives (11 ∷ 12 ∷ []) (λ s r. (u : ℕ) × (v : ℕ) × (f : ℕ) × (pierces_of s u v f ≡ Err r))
  pub mask : Gives (11 ∷ 12 ∷ []) (λ s r. (u : ℕ) × (v : ℕ) × (k : ℕ) × (masked_of s u v k ≡ refused r))
  pub enclosed : Gives (11 ∷ []) (λ s r. (i : ℕ) × (enclosed_of s i ≡ Err r))
  pub record_shown : Gives (11 ∷ []) (λ s r. (k : ℕ) × (refusal s k ≡ Err r))
  pub verdict : Gives [] (λ s r. verdict_of s ≡ Err r)
  pub counts : Gives [] (λ s r. counted_of s ≡ Err r)
  pub inside : Gives (11 ∷ []) (λ s r. (k : ℕ) × (inside_of s k ≡ Err r))
  pub listing : Gives (10 ∷ []) (λ s r. (d : List ℕ) × (d' : List ℕ) × (x : Listed) × IsListed s d d' x × (x ≡ Err r))
  pub part : Gives [] (λ s r. (from : ℕ) × (d : List ℕ) × (d' : List ℕ) × (x : Listed) × IsPart s from d d' x × (x ≡ Err r))
