-- The five signs, one after the other: each can be asked for, and where the rest cannot change the answer it is known. Assumes nothing.
use Rattle.std.specs.Prelude.{◌≡◌, Bool, true, false, not, ℕ}
use Rattle.std.proofs.Math.Path.{refl, sym}
use Rattle.std.proofs.Common.{◌∙◌}
use Rattle.std.specs.Bool.{beq}
use Rattle.laws.specs.Bools.{◌⊕◌, all, ◌≐◌, law, differ, alike, unlike}
use Rattle.scene.specs.declared.Row.{Row}
use Rattle.scene.specs.declared.Face.{Face}
use Rattle.orient.specs.Signs.{ne_sym}
use Rattle.orient.specs.Terms.{positive_at}
use Rattle.orient.specs.Weighted.{Weighted, SignDefined}
use Rattle.pierce.specs.Beside.{Beside}
use Rattle.pierce_plain.specs.Five.{five_signs}

same : (a b : Bool) → beq a b ≡ not (a ⊕ b)
same = law (all λ a. all λ b. beq a b ≐ not (a ⊕ b)) tt

-- the last of the edge's signs against the three sides
pub ask_rp : {n u v : ℕ} {row : ℕ → Row} {f : Face} → Weighted n row → Beside n u v f → SignDefined row u v f.r f.p
ask_rp {n} w d = record { points = n; weighted = w; four = search ne_sym }

-- two ends alike, two sides unlike, or the last two sides decide it
module _ (row : ℕ → Row) (u v : ℕ) (f : Face) where
  abbrev s : (a b c d : ℕ) → Bool
  s = positive_at row

  module _ {au av : Bool} (eu : au ≡ s f.p f.q f.r u) (ev : av ≡ s f.p f.q f.r v) where
    pub ends_alike : beq au av ≡ true → false ≡ five_signs row u v f
    unfolding five_signs
    ends_alike e = rw (← eu, ← ev, alike au av e) refl

    module _ (ends : beq au av ≡ false) {pq qr : Bool} (x : pq ≡ s u v f.p f.q) (y : qr ≡ s u v f.q f.r) where
      pub sides_unlike : not (beq pq qr) ≡ true → false ≡ five_signs row u v f
      unfolding five_signs
      sides_unlike e = rw (← eu, ← ev, unlike au av ends, ← x, ← y, sym (differ pq qr) ∙ e) refl

      pub last_sides : {rp : Bool} → rp ≡ s u v f.r f.p → not (beq pq qr) ≡ false → beq qr rp ≡ five_signs row u v f
      unfolding five_signs
      last_sides {rp} z e = rw (← eu, ← ev, unlike au av ends, ← x, ← y, ← z, sym (differ pq qr) ∙ e) (same qr rp)
