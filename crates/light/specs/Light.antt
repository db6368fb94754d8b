-- What the fit light answers, and what it leaves of the sixteen lent bytes: four counts of four bytes, low byte first, in the order of the
-- colours. Assumes nothing.
use Rattle.std.specs.Prelude.{◌≡◌, Bool, not, cond, ◌||◌, List, ℕ, ◌+◌, ◌*◌, ◌/◌, ◌%◌, eqb, leb, length, get_or, set, Result, Err, Ok}
use Rattle.questions.specs.Answers.{verdict_of}
use Rattle.questions.specs.Types.{Concluded}
use Rattle.questions.specs.declared.Verdict.TheVariants as verdict
use Rattle.light.specs.declared.Light.{Light}
use Rattle.light.specs.declared.Light.TheVariants.{Green, Amber, Red, Dark}
use Rattle.light.specs.declared.LightError.{LightError}
use Rattle.light.specs.declared.LightError.TheVariants.{Uncounted}

-- a colour, or that none is counted
abbrev pub Lit : Type 0
Lit = Result Light LightError

abbrev pub light_number : Lit → ℕ
light_number (Ok Green) = 0
light_number (Ok Amber) = 1
light_number (Ok Red) = 2
light_number (Ok Dark) = 3
light_number (Err Uncounted) = 16

-- green for apart, amber for enclosed, red for crossing, dark for refused
abbrev pub colour_of : Concluded → Light
colour_of (Ok (verdict.Cross u v f)) = Red
colour_of (Ok (verdict.AInB p)) = Amber
colour_of (Ok (verdict.BInA p)) = Amber
colour_of (Ok verdict.Apart) = Green
colour_of (Err r) = Dark

-- ---- the counts

-- the four bytes at i, and l with n there
abbrev pub word : List ℕ → ℕ → ℕ
word l i = get_or l i 0 + 256 * get_or l (i + 1) 0 + 65536 * get_or l (i + 2) 0 + 16777216 * get_or l (i + 3) 0

abbrev pub put : List ℕ → ℕ → ℕ → List ℕ
put l i n = set (set (set (set l i (n % 256)) (i + 1) (n / 256 % 256)) (i + 2) (n / 65536 % 256)) (i + 3) (n / 16777216 % 256)

-- the count of colour k, and l with one more of it
abbrev pub count_of : List ℕ → ℕ → ℕ
count_of l k = word l (4 * k)

unfoldable pub more : List ℕ → ℕ → List ℕ
more l k = put l (4 * k) (count_of l k + 1)

abbrev pub total : List ℕ → ℕ
total l = word l 0 + word l 4 + word l 8 + word l 12

-- not sixteen bytes, or they add up to 1,000,000 or more
unfoldable pub is_full : List ℕ → Bool
is_full l = not (eqb (length l) 16) || leb 1000000 (total l)

-- ---- the light

unfoldable pub light_of : List ℕ → List ℕ → Lit
light_of s l = cond (is_full l) (Err Uncounted) (Ok (colour_of (verdict_of s)))

-- the counts afterwards: as they were where nothing is counted
unfoldable pub left_of : List ℕ → List ℕ → List ℕ
left_of s l = cond (is_full l) l (more l (light_number (Ok (colour_of (verdict_of s)))))

-- l is what the lent bytes held, l' what they hold afterwards
pub record IsLight (s l l' : List ℕ) (r : Lit) : Type 0 where
  pub answer : r ≡ light_of s l
  pub held : l' ≡ left_of s l
