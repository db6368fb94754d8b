-- The refusal numbers of each question, from exactly when each is given. Assumes nothing.
use Rattle.std.specs.Prelude.{◌≡◌, refl, List, [], ◌∷◌, ◌++◌, ℕ, length, Err}
use Rattle.std.proofs.Common.{inl, inr, arith}
use Rattle.laws.specs.Lists.{Some}
use Rattle.scene.specs.Refusal.{number_of}
use Rattle.scene.specs.declared.Refusal.{Refusal}
use Rattle.scene.specs.declared.Refusal.TheVariants.{Opening, Counts, Length, Mark, Coordinate, Weight, Corner}
use Rattle.scene.specs.declared.Refusal.TheVariants.{Unused, Edge, ListTooShort, NoSuchNumber, NotDistinct, BufferTooShort, FarAllZero}
use Rattle.scene.specs.View.{view_of}
use Rattle.questions.specs.Answers.{IsListed, listing_in}
use Rattle.questions.specs.Types.{Listed}
use Rattle.theorem_demands.specs.Answers.{Refusals, NoList}
use Rattle.theorem_demands.proofs.Answers.Proof.{answers}
use Rattle.theorem_demands.specs.Numbers.{Places, of_scene, Numbers}
use Rattle.theorem_demands.proofs.Numbers.Given.{gives, base, keeps, not_empty, held_of, listed_of, is_listed, part_held, part_of, is_part}

-- the number of a refusal is the scene's or one of these
abbrev By : List ℕ → Refusal → Type 0
By own r = Some (λ n. number_of r ≡ n) (of_scene ++ own)

abbrev Own : List ℕ → Refusal → Type 0
Own own r = Some (λ n. number_of r ≡ n) own

behind : (own : List ℕ) (r : Refusal) → Own own r → By own r
behind own r h = inr (inr (inr (inr (inr (inr (inr (inr (inr (inr h)))))))))

by : (own : List ℕ) (R : Refusal → Type 0) → ((n : ℕ) → ¬ R (BufferTooShort n)) →
    ((n : ℕ) → R (ListTooShort n) → Own own (ListTooShort n)) →
    (R NoSuchNumber → Own own NoSuchNumber) → (R NotDistinct → Own own NotDistinct) → (r : Refusal) → R r → By own r
by own R buffer room lacking same Opening e = inl refl
by own R buffer room lacking same Counts e = inr (inl refl)
by own R buffer room lacking same Length e = inr (inr (inl refl))
by own R buffer room lacking same (Mark k) e = inr (inr (inr (inl refl)))
by own R buffer room lacking same (Coordinate k) e = inr (inr (inr (inr (inl refl))))
by own R buffer room lacking same (Weight k) e = inr (inr (inr (inr (inr (inl refl)))))
by own R buffer room lacking same (Corner k) e = inr (inr (inr (inr (inr (inr (inl refl))))))
by own R buffer room lacking same (Unused k) e = inr (inr (inr (inr (inr (inr (inr (inl refl)))))))
by own R buffer room lacking same (Edge k) e = inr (inr (inr (inr (inr (inr (inr (inr (inl refl))))))))
by own R buffer room lacking same (FarAllZero k) e = inr (inr (inr (inr (inr (inr (inr (inr (inr (inl refl)))))))))
by own R buffer room lacking same (ListTooShort n) e = behind own (ListTooShort n) (room n e)
by own R buffer room lacking same NoSuchNumber e = behind own NoSuchNumber (lacking e)
by own R buffer room lacking same NotDistinct e = behind own NotDistinct (same e)
by own R buffer room lacking same (BufferTooShort n) e = absurd (buffer n e)

module _ {s : List ℕ} {R : Refusal → Type 0} {Has Alike : Type 0} (t : Refusals s R NoList Has Alike) where
  by_both : (r : Refusal) → R r → By (11 ∷ 12 ∷ []) r
  by_both = by (11 ∷ 12 ∷ []) R t.buffer (λ n e. absurd ((t.room n).0 e).1) (λ e. inl refl) (λ e. inr (inl refl))

  by_lacking : ¬ Alike → (r : Refusal) → R r → By (11 ∷ []) r
  by_lacking n = by (11 ∷ []) R t.buffer (λ n e. absurd ((t.room n).0 e).1) (λ e. inl refl) (λ e. absurd (n (t.same.0 e).2))

  by_scene : Has → ¬ Alike → (r : Refusal) → R r → By [] r
  by_scene h n =
      by [] R t.buffer (λ n e. absurd ((t.room n).0 e).1) (λ e. absurd ((t.lacking.0 e).1 h)) (λ e. absurd (n (t.same.0 e).2))

pub numbers : Numbers
numbers =
    record {
      sign =
          gives (11 ∷ 12 ∷ []) (λ r s h g. (0, 0, 0, 0, (((answers s).sign 0 0 0 0).scene r h).1 g)) (
            (NoSuchNumber, refl, base, (0, 0, 0, 0, ((answers base).sign 0 0 0 0).lacking.1 (keeps, λ h. omega (arith, h.0)))),
            ((NotDistinct, refl, base, (1, 1, 1, 1, ((answers base).sign 1 1 1 1).same.1 (keeps, omega arith, inl refl))), tt),
          ) (λ s r q. by_both ((answers s).sign q.0 q.1 q.2 q.3) r q.4);
      pierces =
          gives (11 ∷ 12 ∷ []) (λ r s h g. (0, 0, 0, (((answers s).pierces 0 0 0).scene r h).1 g)) (
            (NoSuchNumber, refl, base, (0, 0, 0, ((answers base).pierces 0 0 0).lacking.1 (keeps, λ h. omega (arith, h.0)))),
            ((NotDistinct, refl, base, (4, 4, 1, ((answers base).pierces 4 4 1).same.1 (keeps, omega arith, inl refl))), tt),
          ) (λ s r q. by_both ((answers s).pierces q.0 q.1 q.2) r q.3);
      mask =
          gives (11 ∷ 12 ∷ []) (λ r s h g. (0, 0, 0, (((answers s).mask 0 0 0).scene r h).1 g)) (
            (NoSuchNumber, refl, base, (0, 0, 0, ((answers base).mask 0 0 0).lacking.1 (keeps, λ h. omega (arith, h.0)))),
            ((NotDistinct, refl, base, (4, 4, 1, ((answers base).mask 4 4 1).same.1 (keeps, omega arith, inl refl))), tt),
          ) (λ s r q. by_both ((answers s).mask q.0 q.1 q.2) r q.3);
      enclosed =
          gives (11 ∷ []) (λ r s h g. (0, (((answers s).enclosed 0).scene r h).1 g))
          ((NoSuchNumber, refl, base, (7, ((answers base).enclosed 7).lacking.1 (keeps, λ h. omega (arith, h.1)))), tt)
          (λ s r q. by_lacking ((answers s).enclosed q.0) (λ e. e) r q.1);
      record_shown =
          gives (11 ∷ []) (λ r s h g. (0, (((answers s).record_shown 0).scene r h).1 g))
          ((NoSuchNumber, refl, base, (13, ((answers base).record_shown 13).lacking.1 (keeps, λ h. omega (arith, h)))), tt)
          (λ s r q. by_lacking ((answers s).record_shown q.0) (λ e. e) r q.1);
      verdict = gives [] (λ r s h g. ((answers s).verdict.scene r h).1 g) tt (λ s. by_scene (answers s).verdict tt (λ e. e));
      counts = gives [] (λ r s h g. ((answers s).counts.scene r h).1 g) tt (λ s. by_scene (answers s).counts tt (λ e. e));
      inside =
          gives (11 ∷ []) (λ r s h g. (0, (((answers s).inside 0).scene r h).1 g))
          ((NoSuchNumber, refl, base, (3, ((answers base).inside 3).lacking.1 (keeps, λ h. omega (arith, h.1)))), tt)
          (λ s r q. by_lacking ((answers s).inside q.0) (λ e. e) r q.1);
      listing =
          gives (10 ∷ [])
          (λ r s h g. ([], held_of s [], listed_of s [], is_listed s [], (((answers s).listing [] _ _ (is_listed s [])).scene r h).1 g))
          (by_room, tt) (λ s r q.
          let t = (answers s).listing q.0 q.1 q.2 q.3 in
          by (10 ∷ []) (λ r. q.2 ≡ Err r) t.buffer (λ n e. inl refl) (λ e. absurd ((t.lacking.0 e).1 tt))
          (λ e. absurd (t.same.0 e).2) r q.4);
      part =
          gives [] (λ r s h g. (0, [], part_held s, part_of s, is_part s, (((answers s).part 0 [] _ _ (is_part s)).scene r h).1 g)) tt
          (λ s r q. by_scene ((answers s).part q.0 q.1 q.2 q.3 q.4) tt (λ e. e) r q.5);
    }
  where
    by_room : (r : Refusal) × (number_of r ≡ 10) × (s : List ℕ)
        × ((d : List ℕ) × (d' : List ℕ) × (x : Listed) × IsListed s d d' x × (x ≡ Err r))
    by_room =
        let n = length (listing_in (view_of base)) in
        let told = (((answers base).listing [] _ _ (is_listed base [])).room n).1 (keeps, (refl, omega (arith, not_empty))) in
        (ListTooShort n, refl, base, ([], held_of base [], listed_of base [], is_listed base [], told))

pub places : Places
places = record { room = λ n. refl; lacking = refl; same = refl }
