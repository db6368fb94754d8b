-- By five signs: an exchange turns all of them that it turns alike. Assumes nothing.
use Rattle.std.specs.Prelude.{◌≡◌, refl, Bool, not, ℕ, ◌≤◌}
use Rattle.std.proofs.Common.{sym, ◌∙◌}
use Rattle.laws.specs.Bools.{all, ◌≐◌, law}
use Rattle.scene.specs.View.{view_of, points}
use Rattle.scene.specs.declared.Face.{Face}
use Rattle.orient.proofs.Rules.{rules}
use Rattle.orient.specs.Signs.{Upto, Rules, ne_sym}
use Rattle.orient.specs.Terms.{positive_at}
use Rattle.pierce.specs.Beside.{Beside}
use Rattle.pierce.specs.Five.{five, hits, hits_face}
use Rattle.pierce.specs.Scene.{scene_five}
use Rattle.survey_scene.specs.Ready.{scene_weighted, far_fits}
use Rattle.theorem_demands.specs.Symmetry.{round, backward, Symmetry}

ends_law : (au av x y z : Bool) → five av au (not x) (not y) (not z) ≡ five au av x y z
ends_law = law (all λ au. all λ av. all λ x. all λ y. all λ z. five av au (not x) (not y) (not z) ≐ five au av x y z) tt

round_law : (au av x y z : Bool) → five (not (not au)) (not (not av)) y z x ≡ five au av x y z
round_law = law (all λ au. all λ av. all λ x. all λ y. all λ z. five (not (not au)) (not (not av)) y z x ≐ five au av x y z) tt

backward_law : (au av x y z : Bool) → five (not (not (not au))) (not (not (not av))) (not y) (not x) (not z) ≡ five au av x y z
backward_law =
    law (all λ au. all λ av. all λ x. all λ y. all λ z. five (not (not (not au))) (not (not (not av))) (not y) (not x)
    (not z) ≐ five au av x y z) tt

module _ (n : ℕ) (s : ℕ → ℕ → ℕ → ℕ → Bool) (r : Rules (Upto n) s) (a b : ℕ) (f : Face) (d : Beside n a b f) where
  ends_hit : hits_face s b a f ≡ hits_face s a b f
  unfolding hits
  ends_hit =
      rw (
        r.swap1 a b f.p f.q (search ne_sym),
        r.swap1 a b f.q f.r (search ne_sym),
        r.swap1 a b f.r f.p (search ne_sym),
      )
      (ends_law (s f.p f.q f.r a) (s f.p f.q f.r b) (s a b f.p f.q) (s a b f.q f.r) (s a b f.r f.p))

  round_hit : hits_face s a b (round f) ≡ hits_face s a b f
  unfolding hits
  round_hit =
      rw (
        r.swap2 f.q f.p f.r a (search ne_sym),
        r.swap1 f.p f.q f.r a (search ne_sym),
        r.swap2 f.q f.p f.r b (search ne_sym),
        r.swap1 f.p f.q f.r b (search ne_sym),
      )
      (round_law (s f.p f.q f.r a) (s f.p f.q f.r b) (s a b f.p f.q) (s a b f.q f.r) (s a b f.r f.p))

  backward_hit : hits_face s a b (backward f) ≡ hits_face s a b f
  unfolding hits
  backward_hit =
      rw (
        r.swap1 f.q f.r f.p a (search ne_sym),
        r.swap2 f.q f.p f.r a (search ne_sym),
        r.swap1 f.p f.q f.r a (search ne_sym),
        r.swap1 f.q f.r f.p b (search ne_sym),
        r.swap2 f.q f.p f.r b (search ne_sym),
        r.swap1 f.p f.q f.r b (search ne_sym),
        r.swap3 a b f.q f.r (search ne_sym),
        r.swap3 a b f.p f.q (search ne_sym),
        r.swap3 a b f.r f.p (search ne_sym),
      )
      (backward_law (s f.p f.q f.r a) (s f.p f.q f.r b) (s a b f.p f.q) (s a b f.q f.r) (s a b f.r f.p))

pub symmetry : Symmetry
symmetry s ok a b f d =
    let n = points (view_of s) in
    let row = (view_of s).row in
    let w = scene_weighted s ok in
    let r = rules n row w in
    let six : 6 ≤ n = (far_fits s ok refl).0 in
    let here = scene_five n row w a b f six d in
    record {
      ends = scene_five n row w b a f six (search ne_sym) ∙ ends_hit n (positive_at row) r a b f d ∙ sym here;
      round = scene_five n row w a b (round f) six (search ne_sym) ∙ round_hit n (positive_at row) r a b f d ∙ sym here;
      backward = scene_five n row w a b (backward f) six (search ne_sym) ∙ backward_hit n (positive_at row) r a b f d ∙ sym here;
    }
