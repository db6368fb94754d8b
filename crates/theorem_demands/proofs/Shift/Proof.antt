-- The shift is real: above the size of every term, the whole determinant has the sign of the terms, and the answers depend on the signs
-- alone. Assumes nothing.
use Rattle.std.specs.Prelude.{◌≡◌, refl, ◌≢◌, List, ℤ, pos, Ok}
use Rattle.std.proofs.Math.Path.{sym, ap}
use Rattle.std.proofs.Common.{◌∙◌, le_trans, arith}
use Prim.Native.Nat.{ℕ, zero, suc, ◌≤◌, ◌<◌}
use Rattle.laws.specs.Sign.{sign, ◌or◌, or_settled}
use Rattle.scene.specs.Limits.{limits}
use Rattle.scene.specs.View.{View, view_of, points}
use Rattle.scene.specs.declared.Row.{Row}
use Rattle.judge.specs.Judge.{judged}
use Rattle.rules.proofs.Given.{rows_within}
use Rattle.orient.specs.Columns.{part_of, c0_parts}
use Rattle.orient.specs.Formed.{most_formed}
use Rattle.orient.specs.Signs.{Upto, Four}
use Rattle.orient.specs.Sizes.{points_within}
use Rattle.orient.proofs.Sizes.{terms_formed}
use Rattle.orient.specs.Terms.{tied, orientation, is_plus, point_at, positive_at}
use Rattle.orient.proofs.Weighted.{oriented}
use Rattle.orient.specs.Whole.{whole_det, TermsUpto}
use Rattle.orient.proofs.Whole.{whole_sign}
use Rattle.questions.specs.Answers.{mask_in}
use Rattle.survey_scene.specs.Ready.{rows_fit, scene_weighted, outside_beside, sound}
use Rattle.theorem_demands.proofs.Words.Solids.{vertex_of}
use Rattle.theorem_demands.specs.Words.{SolidNumber, VertexOf}
use Rattle.theorem_demands.specs.Shift.{shifted_row, shifted_view, shifted_det, Shift}
use Rattle.theorem_demands.proofs.Shift.Same.{mask_same_rows, inside_same_rows, listing_same_rows, verdict_same_rows}

module _ (s : List ℕ) (ok : judged s ≡ Ok tt) where
  abbrev v : View
  v = view_of s

  abbrev n : ℕ
  n = points v

  abbrev rows : ℕ → Row
  rows = v.row

  -- ---- signs

  terms_upto : (m a b c d : ℕ) → most_formed ≤ m → Four (Upto n) a b c d →
      TermsUpto m (point_at rows a) (point_at rows b) (point_at rows c) (point_at rows d)
  terms_upto m a b c d h f =
      let most = rows_fit s ok in
      let t =
      terms_formed
      (points_within limits rows a b c d (
        rows_within limits s ok,
        le_trans f.a_in.1 most,
        le_trans f.b_in.1 most,
        le_trans f.c_in.1 most,
        le_trans f.d_in.1 most,
      )) in
      record { c1 = le_trans t.1.size h; c2 = le_trans t.2.size h; c3 = le_trans t.3.size h }

  sign_at : (N : ℕ) → most_formed < N → (a b c d : ℕ) → Four (Upto n) a b c d →
      sign (shifted_det N v a b c d) ≡ orientation (point_at rows a) (point_at rows b) (point_at rows c) (point_at rows d)
  unfolding whole_det
  sign_at zero h a b c d f = absurd (omega arith)
  sign_at (suc m) h a b c d f =
      whole_sign m (point_at rows a) (point_at rows b) (point_at rows c) (point_at rows d) (terms_upto m a b c d (omega arith) f)

  module _ (N : ℕ) (large : most_formed < N) where
    abbrev rows' : ℕ → Row
    rows' = shifted_row N rows

    module _ (a b c d : ℕ) (f : Four (Upto n) a b c d) where
      nonzero : shifted_det N v a b c d ≢ pos 0
      nonzero e = oriented n rows (scene_weighted s ok) a b c d f (sym (sign_at N large a b c d f) ∙ ap sign e)

      signs : is_plus (sign (shifted_det N v a b c d)) ≡ positive_at rows a b c d
      unfolding positive_at
      signs = ap is_plus (sign_at N large a b c d f)

      seen : is_plus (sign (shifted_det N v a b c d)) ≡ positive_at rows' a b c d
      unfolding positive_at orientation part_of
      seen =
          let t = tied (point_at rows' a) (point_at rows' b) (point_at rows' c) (point_at rows' d) in
          sym (ap is_plus (or_settled (shifted_det N v a b c d) t nonzero))
          ∙ ap (λ (z : ℤ). is_plus (sign z or t)) (sym (c0_parts (point_at rows' a) (point_at rows' b) (point_at rows' c) (point_at rows' d)))

      same : positive_at rows a b c d ≡ positive_at rows' a b c d
      same = sym signs ∙ seen

    masks : (u w k : ℕ) → SolidNumber k → Upto n u → Upto n w → u ≢ w → ¬ VertexOf s k u → ¬ VertexOf s k w →
        mask_in (shifted_view N v) u w k ≡ mask_in v u w k
    masks u w k h pu pw d ou ow =
        sym (mask_same_rows v (sound s ok) rows' same u w k
        (outside_beside s ok
        (record {
          u_point = pu;
          w_point = pw;
          differ = d;
          u_out = λ x. ou ((vertex_of s k h u).0 x);
          w_out = λ x. ow ((vertex_of s k h w).0 x);
        }) refl refl refl))

pub shift : Shift
shift s ok N h =
    let same = same s ok N h in
    let rows = shifted_row N (view_of s).row in
    record {
      nonzero = nonzero s ok N h;
      signs = signs s ok N h;
      seen = seen s ok N h;
      masks = masks s ok N h;
      inside = λ k. sym (inside_same_rows (view_of s) (sound s ok) rows same k);
      listing = sym (listing_same_rows (view_of s) (sound s ok) rows same);
      verdict = sym (verdict_same_rows (view_of s) (sound s ok) rows same);
    }
