-- The sign is that of the first term that is not zero, and the last never is. Assumes nothing.
use Rattle.std.specs.Prelude.{◌≡◌, refl, ◌≢◌, ◌⊎◌, ◌↔◌, true, false, zero, suc, ℤ, pos, negsuc}
use Rattle.std.proofs.Common.{sym, ◌∙◌, inl, inr, ⊎_elim, true≢false}
use mathlib.Core.Logic.Iff
use Rattle.laws.specs.Decides.{eqb_iff}
use Rattle.laws.specs.Never.{nonsense}
use Rattle.laws.specs.Sign.{Sign, sign, ◌or◌}
use Rattle.scene.specs.View.{view_of, points}
use Rattle.orient.specs.Laws.{psi, c3_psi}
use Rattle.orient.specs.Signs.{Upto, Four}
use Rattle.orient.specs.Terms.{is_plus, orientation, terms, point_at, positive_at, terms_at}
use Rattle.orient.proofs.Weighted.{c3_nonzero, slide_tells}
use Rattle.survey_scene.specs.Ready.{scene_weighted}
use Rattle.theorem_demands.specs.Sign as said
use Rattle.theorem_demands.specs.Sign.{Positive, Negative}

positive_iff : (z : ℤ) → (is_plus (sign z) ≡ true) ↔ Positive z
positive_iff (pos zero) = (λ e. absurd (true≢false (sym e)), λ h. nonsense (cc))
positive_iff (pos (suc n)) = (λ e. (n, refl), λ h. refl)
positive_iff (negsuc n) = (λ e. absurd (true≢false (sym e)), λ h. nonsense (cc))

-- z, then what comes after it
module _ {X : Type 0} (t : Sign) where
  plus_first : (z : ℤ) → (is_plus t ≡ true) ↔ X → (is_plus (sign z or t) ≡ true) ↔ (Positive z ⊎ ((z ≡ pos 0) × X))
  plus_first (pos zero) h = (λ e. inr (refl, h.0 e), ⊎_elim (λ p. nonsense (cc)) (λ q. h.1 q.1))
  plus_first (pos (suc n)) h = (λ e. inl (n, refl), λ p. refl)
  plus_first (negsuc n) h = (λ e. absurd (true≢false (sym e)), ⊎_elim (λ p. nonsense (cc)) (λ q. nonsense (cc)))

  minus_first : (z : ℤ) → (is_plus t ≡ false) ↔ X → (is_plus (sign z or t) ≡ false) ↔ (Negative z ⊎ ((z ≡ pos 0) × X))
  minus_first (pos zero) h = (λ e. inr (refl, h.0 e), ⊎_elim (λ p. nonsense (cc)) (λ q. h.1 q.1))
  minus_first (pos (suc n)) h = (λ e. absurd (true≢false e), ⊎_elim (λ p. nonsense (cc)) (λ q. nonsense (cc)))
  minus_first (negsuc n) h = (λ e. inl (n, refl), λ p. refl)

plus_last : (z : ℤ) → (is_plus (sign z) ≡ true) ↔ (Positive z ⊎ ((z ≡ pos 0) × ⊥))
plus_last z = let h = positive_iff z in (λ e. inl (h.0 e), ⊎_elim h.1 (λ q. absurd q.1))

minus_last : (z : ℤ) → z ≢ pos 0 → (is_plus (sign z) ≡ false) ↔ (Negative z ⊎ ((z ≡ pos 0) × ⊥))
minus_last (pos zero) n = absurd (n refl)
minus_last (pos (suc m)) n = (λ e. absurd (true≢false e), ⊎_elim (λ p. nonsense (cc)) (λ q. absurd q.1))
minus_last (negsuc m) n = (λ e. inl (m, refl), λ p. refl)

pub signs : said.Sign
unfolding positive_at terms_at orientation psi
signs s ok a b c d f n =
    let row = (view_of s).row in
    let p = point_at row a in
    let q = point_at row b in
    let r = point_at row c in
    let u = point_at row d in
    let four : Four (Upto (points (view_of s))) a b c d =
    record {
      a_in = f.0;
      b_in = f.1;
      c_in = f.2;
      d_in = f.3;
      ab = λ e. n (inl e);
      ac = λ e. n (inr (inl e));
      ad = λ e. n (inr (inr (inl e)));
      bc = λ e. n (inr (inr (inr (inl e))));
      bd = λ e. n (inr (inr (inr (inr (inl e)))));
      cd = λ e. n (inr (inr (inr (inr (inr e)))));
    } in
    let w = scene_weighted s ok in
    let last = c3_nonzero (points (view_of s)) row w a b c d four in
    let t = terms p q r u in
    record {
      last = last;
      plus = plus_first _ t.e0 (plus_first _ t.e1 (plus_first _ t.e2 (plus_last t.e3)));
      minus = minus_first _ t.e0 (minus_first _ t.e1 (minus_first _ t.e2 (minus_last t.e3 last)));
      product = λ wa wb wc wd. c3_psi p q r u wa wb wc wd;
      slide =
          let h = slide_tells row a b c d (record { points = points (view_of s); weighted = w; four = four }) in
          Iff.trans (Iff.trans (λ x. (positive_iff t.e3).1 x, λ x. (positive_iff t.e3).0 x) (λ e. h ∙ e, λ e. sym h ∙ e)) (eqb_iff _ 1);
    }
