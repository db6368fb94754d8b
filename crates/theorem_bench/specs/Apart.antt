-- One group's moves do not reach the other: strike them all, and the other group's session, its answers and the lecturer's are the same.
-- What the lecturer is answered is settled at the opening. Assumes nothing.
use Rattle.std.specs.Prelude.{◌≡◌, Bool, true, false, cond, List, [], ◌∷◌, ℕ, Ok, Err}
use Rattle.std.proofs.Math.Path.{refl, sym}
use Rattle.std.proofs.Common.{ap, ap₂, ◌∙◌, inl, inr, true≢false}
use Rattle.std.proofs.lemmas.Bool.{false≢true}
use Rattle.scene.specs.Records.{verts_b}
use Rattle.scene.specs.declared.Row.{Row}
use Rattle.scene.specs.declared.Refusal.TheVariants.{Opening}
use Rattle.judge.specs.Judge.{Judged}
use Rattle.session.specs.Session.{scene}
use Rattle.session.specs.Kept.{Empty}
use Rattle.session.specs.declared.Session.{Session}
use Rattle.bench_moves.specs.Bench.{then_scene, said, unless, opened_of, session_of, with_session, own_fault, own_moved_of, group_moved_of}
use Rattle.bench_moves.specs.Bench.{fixture_moved_of, lecturer_moved_by, lecturer_moved_of}
use Rattle.bench_moves.specs.declared.Bench.{Bench}
use Rattle.bench_moves.specs.declared.moves.Moved.{Moved}
use Rattle.bench_moves.specs.declared.Group.{Group}
use Rattle.bench_moves.specs.declared.Group.TheVariants.{One, Two}
use Rattle.bench_moves.specs.declared.Fault.{Fault}
use Rattle.bench_moves.specs.declared.Fault.TheVariants.{Scene}
use Rattle.bench_moves.specs.Bench.{Answer}
use Rattle.theorem_bench.specs.Effect.{Follows, follows_same, empty_solids, empty_follows, full_follows}
use Rattle.theorem_bench.specs.Effect.{done_never, own_effect, fixture_effect}
use Rattle.theorem_bench.specs.Lecturer.{lecturer_fault, lecturer_told}
use Rattle.theorem_bench.specs.Kept.{Sharing, State, Holds, holds_of, Operation, group, lecturer}
use Rattle.theorem_bench.specs.Kept.{step, after, step_holds, opened_bench}
use Rattle.theorem_bench.specs.Kept.{empty_told, told_alike}

abbrev pub other : Group → Group
other One = Two
other Two = One

-- a move of group g
abbrev pub same_group : Group → Group → Bool
same_group One One = true
same_group One Two = false
same_group Two One = false
same_group Two Two = true

abbrev pub is_of : Group → Operation → Bool
is_of g (group h p v) = same_group g h
is_of g (lecturer n v) = false

-- the moves without those of g, and the answers to all but those of g
abbrev pub strike : Group → List Operation → List Operation
strike g [] = []
strike g (o ∷ os) = cond (is_of g o) (strike g os) (o ∷ strike g os)

abbrev pub heard : Group → Bench → List Operation → List Answer
heard g b [] = []
heard g b (o ∷ os) = cond (is_of g o) (heard g (step b o).bench os) ((step b o).answer ∷ heard g (step b o).bench os)

-- ---- a refused move changes nothing

with_same : (b : Bench) (g : Group) {s : Session} → s ≡ session_of b g → with_session b g s ≡ b
with_same b One e = λ i. record { one = e i; two = b.two }
with_same b Two e = λ i. record { one = b.one; two = e i }

pub refused_stays : (b : Bench) (o : Operation) {f : Fault} → Holds b → (step b o).answer ≡ Err f → (step b o).bench ≡ b
unfolding group_moved_of lecturer_moved_of
refused_stays b (group g p v) h q = with_same b g ((own_effect (session_of b g) p v (holds_of b h g)).refused q)
refused_stays b (lecturer n v) {f} h q = go (fixture_moved_of b.one n v).answer q
  where
    go : (j : Judged) → (lecturer_moved_by j b n v).answer ≡ Err f → (lecturer_moved_by j b n v).bench ≡ b
    go (Ok _) q = absurd (done_never q)
    go (Err r) q = refl

-- ---- a move as one group sees it: by its own session alone

abbrev pub seen : Session → Operation → Moved
seen s (group g p v) = own_moved_of s p v
seen s (lecturer n v) = record { answer = said (fixture_moved_of s n v).answer; session = (fixture_moved_of s n v).session }

module _ (b : Bench) (n : ℕ) (v : Row) (h : Holds b) where
  told_of : (g : Group) → (fixture_moved_of b.one n v).answer ≡ (fixture_moved_of (session_of b g) n v).answer
  told_of One = refl
  told_of Two = told_alike b n v h

  lecturer_answer : (lecturer_moved_of b n v).answer ≡ said (fixture_moved_of b.one n v).answer
  unfolding lecturer_moved_of said then_scene
  lecturer_answer = go (fixture_moved_of b.one n v).answer
    where
      go : (j : Judged) → (lecturer_moved_by j b n v).answer ≡ said j
      go (Ok _) = refl
      go (Err r) = refl

  lecturer_session : (g : Group) → session_of (lecturer_moved_of b n v).bench g ≡ (fixture_moved_of (session_of b g) n v).session
  unfolding lecturer_moved_of
  lecturer_session g = go (fixture_moved_of b.one n v).answer refl g
    where
      go : (j : Judged) → (fixture_moved_of b.one n v).answer ≡ j → (g : Group) →
          session_of (lecturer_moved_by j b n v).bench g ≡ (fixture_moved_of (session_of b g) n v).session
      go (Ok _) q One = refl
      go (Ok _) q Two = refl
      go (Err r) q One = sym ((fixture_effect b.one n v h.one).refused q)
      go (Err r) q Two = sym ((fixture_effect b.two n v h.two).refused (sym (told_alike b n v h) ∙ q))

pub record Sees (b : Bench) (g : Group) (o : Operation) : Type 0 where
  pub answer : (step b o).answer ≡ (seen (session_of b g) o).answer
  pub session : session_of (step b o).bench g ≡ (seen (session_of b g) o).session

-- every move but the other group's
pub sees : (b : Bench) (g : Group) (o : Operation) → Holds b → is_of (other g) o ≡ false → Sees b g o
unfolding group_moved_of
sees b g (lecturer n v) h e =
    record { answer = lecturer_answer b n v h ∙ ap said (told_of b n v h g); session = lecturer_session b n v h g }
sees b One (group One p v) h e = record { answer = refl; session = refl }
sees b One (group Two p v) h e = absurd (true≢false e)
sees b Two (group One p v) h e = absurd (true≢false e)
sees b Two (group Two p v) h e = record { answer = refl; session = refl }

-- and the other's not at all
pub unseen : (b : Bench) (g : Group) (o : Operation) → is_of (other g) o ≡ true → session_of (step b o).bench g ≡ session_of b g
unfolding group_moved_of
unseen b g (lecturer n v) e = absurd (false≢true e)
unseen b One (group One p v) e = absurd (false≢true e)
unseen b One (group Two p v) e = refl
unseen b Two (group One p v) e = refl
unseen b Two (group Two p v) e = absurd (false≢true e)

-- ---- strike the moves of the other group

pub record Apart (g : Group) (b c : Bench) (os : List Operation) : Type 0 where
  pub session : session_of (after b os) g ≡ session_of (after c (strike (other g) os)) g
  pub answers : heard (other g) b os ≡ heard (other g) c (strike (other g) os)

apart : (g : Group) (b c : Bench) → Holds b → Holds c → session_of b g ≡ session_of c g → (os : List Operation) → Apart g b c os
apart g b c h k e [] = record { session = e; answers = refl }
apart g b c h k e (o ∷ os) = go (is_of (other g) o) refl (λ b c h k e. apart g b c h k e os)
  where
    go : (t : Bool) → is_of (other g) o ≡ t → ((b c : Bench) → Holds b → Holds c → session_of b g ≡ session_of c g → Apart g b c os) →
        Apart g b c (o ∷ os)
    go true q rest =
        let r = rest (step b o).bench c (step_holds b o h) k (unseen b g o q ∙ e) in
        record { session = rw q r.session; answers = rw q r.answers }
    go false q rest =
        let x = sees b g o h q in
        let y = sees c g o k q in
        let r = rest (step b o).bench (step c o).bench (step_holds b o h) (step_holds c o k)
        (x.session ∙ ap (λ (s : Session). (seen s o).session) e ∙ sym y.session) in
        record {
          session = rw q r.session;
          answers = rw (q, q) (ap₂ ◌∷◌ (x.answer ∙ ap (λ (s : Session). (seen s o).answer) e ∙ sym y.answer) r.answers);
        }

-- from any two strings of bytes, and any moves
pub groups_apart : (s t : List ℕ) (g : Group) (os : List Operation) → Apart g (opened_of s t).bench (opened_of s t).bench os
groups_apart s t g os = apart g (opened_of s t).bench (opened_of s t).bench (opened_bench s t) (opened_bench s t) refl os

-- ---- what the lecturer is answered

one_follows : (b : Bench) (o : Operation) → Holds b → Follows b.one (step b o).bench.one
unfolding group_moved_of
one_follows b (group One p v) h = (own_effect b.one p v h.one).follows
one_follows b (group Two p v) h = follows_same h.one refl
one_follows b (lecturer n v) h = rw (lecturer_session b n v h One) (fixture_effect b.one n v h.one).follows

module _ (b : Bench) (n : ℕ) (v : Row) (h : Holds b) where
  -- by the fixture's vertex count, the number and the row
  pub lecturer_full : Sharing b → (lecturer_moved_of b n v).answer ≡ said (lecturer_fault (verts_b (scene b.one)) n v)
  lecturer_full m = lecturer_answer b n v h ∙ ap said (lecturer_told b.one n v m.one)

  lecturer_next : (o : Operation) → (lecturer_moved_of (step b o).bench n v).answer ≡ (lecturer_moved_of b n v).answer
  lecturer_next o =
      lecturer_answer (step b o).bench n v (step_holds b o h) ∙ ap said (go h.state) ∙ sym (lecturer_answer b n v h)
    where
      go : State b → (fixture_moved_of (step b o).bench.one n v).answer ≡ (fixture_moved_of b.one n v).answer
      go (inl m) =
          let f = one_follows b o h in
          empty_told (step b o).bench.one n v f.holds (empty_follows f h.one m.0) ∙ sym (empty_told b.one n v h.one m.0)
      go (inr m) =
          let f = one_follows b o h in
          lecturer_told (step b o).bench.one n v (full_follows f m.one) ∙ ap (λ (k : ℕ). lecturer_fault k n v) f.verts_b_law
          ∙ sym (lecturer_told b.one n v m.one)

-- no move of anyone changes it
pub lecturer_settled : (b : Bench) (os : List Operation) (n : ℕ) (v : Row) → Holds b →
    (lecturer_moved_of (after b os) n v).answer ≡ (lecturer_moved_of b n v).answer
lecturer_settled b [] n v h = refl
lecturer_settled b (o ∷ os) n v h = lecturer_settled (step b o).bench os n v (step_holds b o h) ∙ lecturer_next b n v h o

-- ---- an empty bench refuses every move with 1

pub empty_refuses : (b : Bench) (o : Operation) → Holds b → Empty b.one → Empty b.two → (step b o).answer ≡ Err (Scene Opening)
unfolding group_moved_of own_moved_of own_fault unless said then_scene
empty_refuses b (group One p v) h x y = rw (empty_solids b.one h.one x)
empty_refuses b (group Two p v) h x y = rw (empty_solids b.two h.two y)
empty_refuses b (lecturer n v) h x y = lecturer_answer b n v h ∙ ap said (empty_told b.one n v h.one x)
