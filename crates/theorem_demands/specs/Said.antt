-- What each answer enum says: the number of each of its cases, in the order of document 01's words with a refusal last, and the case's
-- values. A refusal's values are its own number and its place. Assumes nothing.
use Rattle.std.specs.Prelude.{◌≡◌, cond, List, [], ◌∷◌, map, ℕ, ℤ, pos, negsuc, true, false, Ok, Err}
use Rattle.scene.specs.Refusal.{number_of, place_of}
use Rattle.scene.specs.declared.Refusal.{Refusal}
use Rattle.judge.specs.Judge.{Judged}
use Rattle.questions.specs.Answers.{MaskSaid, refused, faces_are, verdict_number, verdict_values}
use Rattle.questions.specs.Types.{Signed}
use Rattle.questions.specs.Types.{Answer}
use Rattle.questions.specs.Types.{Counted}
use Rattle.questions.specs.Types.{Enclosing}
use Rattle.questions.specs.Types.{Listed}
use Rattle.questions.specs.Types.{Concluded}

pub record Said : Type 0 where
  pub number : ℕ
  pub values : List ℤ

-- case n with whole numbers as its values; a refusal, which is case n
abbrev case : ℕ → List ℕ → Said
case n l = record { number = n; values = map pos l }

abbrev refusal : ℕ → Refusal → Said
refusal n r = case n (number_of r ∷ place_of r ∷ [])

-- "accepted"
abbrev pub judged_says : Judged → Said
judged_says (Ok _) = case 0 []
judged_says (Err r) = refusal 1 r

-- "the four terms and the sign", which is 1 or -1
abbrev pub sign_says : Signed → Said
sign_says (Ok (t, positive)) = record { number = 0; values = t.c0 ∷ t.c1 ∷ t.c2 ∷ t.c3 ∷ cond positive (pos 1) (negsuc 0) ∷ [] }
sign_says (Err r) = refusal 1 r

-- "yes", "no": of an edge and a face, and of a vertex that may be enclosed
abbrev pub answer_says : Answer → Said
answer_says (Ok true) = case 0 []
answer_says (Ok false) = case 1 []
answer_says (Err r) = refusal 2 r

-- the mask, "with the number of its ones"
abbrev pub faces_say : MaskSaid → Said
faces_say (faces_are mask ones) = case 0 (mask ∷ ones ∷ [])
faces_say (refused r) = refusal 1 r

-- "vertices of A enclosed by B, then of B by A", "the listing's count"
abbrev pub counts_say : Counted → Said
counts_say (Ok c) = case 0 (c.a_in_b ∷ c.b_in_a ∷ c.pairs ∷ [])
counts_say (Err r) = refusal 1 r

abbrev pub inside_says : Enclosing → Said
inside_says (Ok n) = case 0 (n ∷ [])
inside_says (Err r) = refusal 1 r

abbrev pub listed_says : Listed → Said
listed_says (Ok n) = case 0 (n ∷ [])
listed_says (Err r) = refusal 1 r

-- "cross", "a-in-b", "b-in-a", "apart": a pair, a point, or nothing
abbrev pub verdict_says : Concluded → Said
verdict_says v = case (verdict_number v) (verdict_values v)

-- ---- nothing is lost: no two answers say the same

abbrev pub Tells : {A : Type 0} → (A → Said) → Type 0
Tells {A} says = (x y : A) → says x ≡ says y → x ≡ y

pub record AllTell : Type 0 where
  pub judged : Tells judged_says
  pub sign : Tells sign_says
  pub answer : Tells answer_says
  pub mask : Tells faces_say
  pub counts : Tells counts_say
  pub inside : Tells inside_says
  pub listed : Tells listed_says
  pub verdict : Tells verdict_says
