-- P6, two engines. For bytes that the judge accepts and an edge and a face of five different points, ties included: the plain engine's five
-- signs answer as the formula does, and the formula answers alike for every helper. The contract of `pierce_plain::pierces` is the five
-- signs. By the contracts of all that is asked of either engine, two calls about the same bytes, each by its own engine, have one answer
-- (`OneAnswer`). Assumes nothing.
use Rattle.std.specs.Prelude.{◌≡◌, Bool, List, ℕ, ◌+◌, Ok}
use denote.Bor.{now}
use denote.MutBor as lent
use Rattle.scene.specs.Records.{verts}
use Rattle.scene.specs.Tables.{tables_of, row}
use Rattle.scene.specs.declared.Face.{Face}
use Rattle.judge.specs.Judge.{judged}
use Rattle.orient.specs.Signs.{Upto, Six}
use Rattle.orient.specs.Terms.{positive_at}
use Rattle.pierce.specs.Beside.{Beside}
use Rattle.pierce.specs.Formula.{formula, helper, pierced}
use Rattle.pierce_plain.specs.Five.{five_signs}
use Rattle.questions.specs.Answers.{said_mask}
use Rattle.kernel.proofs.points.pierces.Reads as pierces
use Rattle.kernel.proofs.masks.mask.Reads as mask
use Rattle.kernel.proofs.masks.enclosed.Reads as enclosed
use Rattle.kernel.proofs.counts.count.Reads as count
use Rattle.kernel.proofs.inside.inside.Reads as inside
use Rattle.kernel.proofs.verdict.verdict_of.Reads as verdict
use Rattle.kernel.proofs.lists.listing.Reads as listing
use Rattle.theorem_demands.specs.Words.{◌▸◌}

-- the sign of four points of the scene, true for plus
abbrev pub sign_in : List ℕ → (a b c d : ℕ) → Bool
sign_in s = positive_at (row (tables_of s))

-- the plain engine, by its own contract (`plain::pierces`), is the formula
abbrev pub SameEngines : Type 0
SameEngines =
    (s : List ℕ) → judged s ≡ Ok tt → (u v : ℕ) (f : Face) → Beside (verts s + 1) u v f →
    five_signs (row (tables_of s)) u v f ≡ pierced (verts s + 1) (row (tables_of s)) u v f

-- the formula with the helper h
abbrev pub formula_in : List ℕ → (u v h : ℕ) → Face → Bool
formula_in s u v h f = formula (sign_in s) u v h f.p f.q f.r

-- h is a point, and none of the five: the lowest such helper gives nothing else
abbrev pub AnyHelper : Type 0
AnyHelper =
    (s : List ℕ) → judged s ≡ Ok tt → (u v h : ℕ) (f : Face) → Six (Upto (verts s + 1)) u v h f.p f.q f.r →
    formula_in s u v h f ≡ formula_in s u v (helper (verts s + 1) u v f) f

-- two calls with the same bytes: g and h are the engines, of any types E and E' that are engines, r and q the answers; of the listing also
-- the lent lists, which held the same. What is known of E as a type is L and C, and of its bounds: a and A of a surveyor, b and B of an
-- engine, c and D of a clone.
pub record OneAnswer : Type 2 where
  pub pierces : (E L C b B c D E' L' C' b' B' c' D' κs λs g h s t u v f r q e d : _) → now s ≡ now t →
      pierces.Post E L C b B c D κs (g ▸ s ▸ u ▸ v ▸ f ▸ tt) r e → pierces.Post E' L' C' b' B' c' D' λs (h ▸ t ▸ u ▸ v ▸ f ▸ tt) q d → r ≡ q
  pub mask : (E L C b B c D E' L' C' b' B' c' D' κs λs g h s t u v k r q e d : _) → now s ≡ now t →
      mask.Post E L C b B c D κs (g ▸ s ▸ u ▸ v ▸ k ▸ tt) r e → mask.Post E' L' C' b' B' c' D' λs (h ▸ t ▸ u ▸ v ▸ k ▸ tt) q d →
      said_mask r ≡ said_mask q
  pub enclosed : (E L C b B c D E' L' C' b' B' c' D' κs λs g h s t i r q e d : _) → now s ≡ now t →
      enclosed.Post E L C b B c D κs (g ▸ s ▸ i ▸ tt) r e → enclosed.Post E' L' C' b' B' c' D' λs (h ▸ t ▸ i ▸ tt) q d → r ≡ q
  pub counts : (E L C a A b B c D E' L' C' a' A' b' B' c' D' κs λs g h s t r q e d : _) → now s ≡ now t →
      count.Post E L C a A b B c D κs (g ▸ s ▸ tt) r e → count.Post E' L' C' a' A' b' B' c' D' λs (h ▸ t ▸ tt) q d → r ≡ q
  pub inside : (E L C a A b B c D E' L' C' a' A' b' B' c' D' κs λs g h s t k r q e d : _) → now s ≡ now t →
      inside.Post E L C a A b B c D κs (g ▸ s ▸ k ▸ tt) r e → inside.Post E' L' C' a' A' b' B' c' D' λs (h ▸ t ▸ k ▸ tt) q d → r ≡ q
  pub verdict : (E L C a A b B c D E' L' C' a' A' b' B' c' D' κs λs g h s t r q e d : _) → now s ≡ now t →
      verdict.Post E L C a A b B c D κs (g ▸ s ▸ tt) r e → verdict.Post E' L' C' a' A' b' B' c' D' λs (h ▸ t ▸ tt) q d → r ≡ q
  pub listing : (E L C a A b B c D E' L' C' a' A' b' B' c' D' κs λs g h s t out list r q g' h' s' t' out' list' : _) → now s ≡ now t →
      lent.now out ≡ lent.now list →
      listing.Post E L C a A b B c D κs (g ▸ s ▸ out ▸ tt) r (g' ▸ s' ▸ out' ▸ tt) →
      listing.Post E' L' C' a' A' b' B' c' D' λs (h ▸ t ▸ list ▸ tt) q (h' ▸ t' ▸ list' ▸ tt) →
      (r ≡ q) × (out'.now ≡ list'.now)
