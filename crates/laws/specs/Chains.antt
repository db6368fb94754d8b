-- What `any` over a range of numbers answers is whether a number of it passes. Assumes nothing.
use Prim.Native.Nat.{ℕ, zero, suc, ◌+◌, ◌-◌}
use denote.Param.Members.{Mut}
use Rattle.std.specs.Prelude.{◌≡◌, refl, Bool, true, false, ◌||◌, Option, List}
use Rattle.std.specs.List.{list_any, range_with_len, FoldsTo}
use Rattle.std.specs.Fn.{Called}
use Rattle.std.specs.Iterator.{YieldsThen}
use Rattle.std.specs.Option.{MatchOption}
use Rattle.std.specs.declared.ops.Range.{Range}
use Rattle.std.proofs.Math.Path.{ap}
use Rattle.std.proofs.Common.{◌∙◌, add-one}
use Rattle.std.proofs.iter.Yields.{nat_range_steps}
use Rattle.std.proofs.lemmas.Iterator.{YieldsList-from_range}
use Rattle.std.proofs.lemmas.Iterator.Search.{any_from_yields_List}
use Rattle.laws.specs.Range.{any_of, over, fold}

any_fold : (p : ℕ → Bool) (a n : ℕ) → list_any p (range_with_len a n) ≡ fold (λ k rest. p k || rest) false a n
any_fold p a zero = refl
any_fold p a (suc n) =
    ap (λ (b : Bool). p a || b) (any_fold p (a + 1) n ∙ ap (λ (k : ℕ). fold (λ k rest. p k || rest) false k n) (add-one a))

-- by a closure that computes p
pub any_from_range : {F : Type 0} {g : Mut F (ℕ × Unit {0}) Bool} {u : Range ℕ} {f : F} {r : Bool} (p : ℕ → Bool) (a e : ℕ) →
    (xs : List ℕ) × (o : Option ℕ) × (j : F) × YieldsThen nat_range_steps (record { start = a; end = e }) xs o u
    × FoldsTo (λ h x q. Called g h (x, tt) false q) f xs j
    × MatchOption o (r ≡ false) (λ x. (r ≡ true) × ((h : F) × Called g j (x, tt) true h)) →
    ((x : ℕ) (b : Bool) (q : F) → Called g f (x, tt) b q → (q ≡ f) × (b ≡ p x)) → r ≡ any_of p a e
unfolding any_of over
any_from_range p a e ran computes =
    any_from_yields_List p _ _ _ ran (YieldsList-from_range a e _ refl refl) computes ∙ any_fold p a (e - a)
