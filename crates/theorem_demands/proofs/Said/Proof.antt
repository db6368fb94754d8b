-- An answer is found again from its number and its values, so no two answers say the same. Assumes nothing.
use Rattle.std.specs.Prelude.{◌≡◌, refl, Bool, true, false, [], ◌∷◌, map, ℕ, ◌-◌, ℤ, pos, negsuc, nat_abs, get_or, Ok, Err}
use Rattle.std.proofs.Common.{sym, ap, ◌∙◌}
use Rattle.scene.specs.Refusal.{number_of, place_of}
use Rattle.scene.specs.declared.Refusal.{Refusal}
use Rattle.scene.specs.declared.Refusal.TheVariants as refuse
use Rattle.judge.specs.Judge.{Judged}
use Rattle.questions.specs.Answers.{MaskSaid, refused, faces_are}
use Rattle.questions.specs.Types.{Signed}
use Rattle.questions.specs.Types.{Answer}
use Rattle.questions.specs.Types.{Counted}
use Rattle.questions.specs.Types.{Enclosing}
use Rattle.questions.specs.Types.{Listed}
use Rattle.questions.specs.Types.{Concluded}
use Rattle.questions.specs.declared.Verdict.TheVariants as verdict
use Rattle.theorem_demands.specs.Said.{Said, judged_says, sign_says, answer_says, faces_say, counts_say, inside_says, listed_says}
use Rattle.theorem_demands.specs.Said.{verdict_says}
use Rattle.theorem_demands.specs.Said.{Tells, AllTell}

-- the i-th value, from 0
abbrev value : Said → ℕ → ℤ
value x i = get_or x.values i (pos 0)

abbrev whole : Said → ℕ → ℕ
whole x i = nat_abs (value x i)

found_again : {A : Type 0} {says : A → Said} (find : Said → A) → ((x : A) → find (says x) ≡ x) → Tells says
found_again find h x y e = sym (h x) ∙ ap find e ∙ h y

-- ---- a refusal

abbrev refusal_of : (n p : ℕ) → Refusal
refusal_of n p =
    get_or (
    refuse.Opening ∷ refuse.Counts ∷ refuse.Length ∷ refuse.Mark p ∷ refuse.Coordinate p ∷ refuse.Weight p ∷ refuse.Corner p ∷
    refuse.Unused p ∷ refuse.Edge p ∷ refuse.ListTooShort p ∷ refuse.NoSuchNumber ∷ refuse.NotDistinct ∷ refuse.BufferTooShort p ∷
    refuse.FarAllZero p ∷ []
    ) (n - 1) refuse.Opening

refusal_found : (r : Refusal) → refusal_of (number_of r) (place_of r) ≡ r
refusal_found refuse.Opening = refl
refusal_found refuse.Counts = refl
refusal_found refuse.Length = refl
refusal_found (refuse.Mark p) = refl
refusal_found (refuse.Coordinate p) = refl
refusal_found (refuse.Weight p) = refl
refusal_found (refuse.Corner p) = refl
refusal_found (refuse.Unused p) = refl
refusal_found (refuse.Edge p) = refl
refusal_found (refuse.ListTooShort p) = refl
refusal_found refuse.NoSuchNumber = refl
refusal_found refuse.NotDistinct = refl
refusal_found (refuse.BufferTooShort p) = refl
refusal_found (refuse.FarAllZero p) = refl

abbrev refusal_in : Said → Refusal
refusal_in x = refusal_of (whole x 0) (whole x 1)

-- ---- each answer

-- case 0, or the refusal
abbrev either : {A : Type 0} → A → (Refusal → A) → Said → A
either a refuse x = get_or (a ∷ []) x.number (refuse (refusal_in x))

abbrev judged_in : Said → Judged
judged_in x = either (Ok tt) Err x

judged_found : (j : Judged) → judged_in (judged_says j) ≡ j
judged_found (Ok _) = refl
judged_found (Err r) = ap Err (refusal_found r)

abbrev is_positive : ℤ → Bool
is_positive (pos n) = true
is_positive (negsuc n) = false

abbrev sign_in : Said → Signed
sign_in x =
    either (Ok (record { c0 = value x 0; c1 = value x 1; c2 = value x 2; c3 = value x 3 }, is_positive (value x 4))) Err x

sign_found : (s : Signed) → sign_in (sign_says s) ≡ s
sign_found (Ok (t, true)) = refl
sign_found (Ok (t, false)) = refl
sign_found (Err r) = ap Err (refusal_found r)

abbrev answer_in : Said → Answer
answer_in x = get_or (Ok true ∷ Ok false ∷ []) x.number (Err (refusal_in x))

answer_found : (a : Answer) → answer_in (answer_says a) ≡ a
answer_found (Ok true) = refl
answer_found (Ok false) = refl
answer_found (Err r) = ap Err (refusal_found r)

abbrev faces_in : Said → MaskSaid
faces_in x = either (faces_are (whole x 0) (whole x 1)) refused x

faces_found : (m : MaskSaid) → faces_in (faces_say m) ≡ m
faces_found (faces_are mask ones) = refl
faces_found (refused r) = ap refused (refusal_found r)

abbrev counts_in : Said → Counted
counts_in x = either (Ok (record { a_in_b = whole x 0; b_in_a = whole x 1; pairs = whole x 2 })) Err x

counts_found : (c : Counted) → counts_in (counts_say c) ≡ c
counts_found (Ok c) = refl
counts_found (Err r) = ap Err (refusal_found r)

abbrev inside_in : Said → Enclosing
inside_in x = either (Ok (whole x 0)) Err x

inside_found : (n : Enclosing) → inside_in (inside_says n) ≡ n
inside_found (Ok n) = refl
inside_found (Err r) = ap Err (refusal_found r)

abbrev listed_in : Said → Listed
listed_in x = either (Ok (whole x 0)) Err x

listed_found : (n : Listed) → listed_in (listed_says n) ≡ n
listed_found (Ok n) = refl
listed_found (Err r) = ap Err (refusal_found r)

abbrev verdict_in : Said → Concluded
verdict_in x =
    get_or
    (map Ok (verdict.Cross (whole x 0) (whole x 1) (whole x 2) ∷ verdict.AInB (whole x 0) ∷ verdict.BInA (whole x 0) ∷ verdict.Apart ∷ []))
    x.number (Err (refusal_in x))

verdict_found : (v : Concluded) → verdict_in (verdict_says v) ≡ v
verdict_found (Ok (verdict.Cross u w f)) = refl
verdict_found (Ok (verdict.AInB p)) = refl
verdict_found (Ok (verdict.BInA p)) = refl
verdict_found (Ok verdict.Apart) = refl
verdict_found (Err r) = ap Err (refusal_found r)

pub all_tell : AllTell
all_tell =
    record {
      judged = found_again judged_in judged_found;
      sign = found_again sign_in sign_found;
      answer = found_again answer_in answer_found;
      mask = found_again faces_in faces_found;
      counts = found_again counts_in counts_found;
      inside = found_again inside_in inside_found;
      listed = found_again listed_in listed_found;
      verdict = found_again verdict_in verdict_found;
    }
