-- What a bench holds is kept by every move and given by opening, so it stands after any of them, from any two strings of bytes: each
-- group's session holds what a session holds, and both scenes have the same solid B and far point. A refused move changes nothing.
-- Assumes nothing.
use Rattle.std.specs.Prelude.{◌≡◌, ◌⊎◌, List, [], ◌∷◌, ℕ, length, Ok, Err}
use Rattle.std.proofs.Math.Path.{refl, sym, ap}
use Rattle.std.proofs.Common.{◌∙◌, inl, arith}
use Rattle.std.proofs.Math.Logic.{inr}
use Rattle.scene.specs.Limits.{limits}
use Rattle.scene.specs.Records.{verts_b}
use Rattle.scene.specs.Read.{size_b}
use Rattle.scene.specs.Tables.{size}
use Rattle.scene.specs.declared.Row.{Row}
use Rattle.scene.specs.declared.Refusal.TheVariants.{Opening}
use Rattle.judge.specs.Judge.{judged, refuse_unless}
use Rattle.judge.specs.Tests.{never}
use Rattle.judge.specs.Judge.{Judged}
use Rattle.rules.proofs.Accepted.{accepted}
use Rattle.session.specs.Session.{scene, empty, opened}
use Rattle.session.specs.Kept.{Empty, Full, opened_holds}
use Rattle.session.specs.Kept as session
use Rattle.session.specs.Saved.{opened_scene}
use Rattle.session.specs.declared.Session.{Session}
use Rattle.bench_moves.specs.Bench as bench
use Rattle.bench_moves.specs.Bench.{open_fault, opened_of, session_of, with_session, own_moved_of, group_moved_of}
use Rattle.bench_moves.specs.Bench.{number_fault, fixture_moved_of, lecturer_moved_by, lecturer_moved_of}
use Rattle.bench_moves.specs.declared.Bench.{Bench}
use Rattle.bench_moves.specs.declared.Answered.{Answered}
use Rattle.bench_moves.specs.declared.Group.{Group}
use Rattle.bench_moves.specs.declared.Group.TheVariants.{One, Two}
use Rattle.bench_moves.specs.Bench.{Answer}
use Rattle.theorem_bench.specs.Fixture.{Fixture, fixture_of, moved_fixture}
use Rattle.theorem_bench.specs.Opening.{opens}
use Rattle.theorem_bench.specs.Effect.{empty_solids, empty_follows, full_follows, OwnEffect, own_effect, fixture_effect}
use Rattle.theorem_bench.specs.Lecturer.{lecturer_fault, lecturer_told}

-- two scenes with one fixture
pub record Sharing (b : Bench) : Type 0 where
  pub one : Full b.one
  pub two : Full b.two
  pub fixture : fixture_of (scene b.one) ≡ fixture_of (scene b.two)

abbrev pub State : Bench → Type 0
State b = (Empty b.one × Empty b.two) ⊎ Sharing b

pub record Holds (b : Bench) : Type 0 where
  pub one : session.Holds b.one
  pub two : session.Holds b.two
  pub state : State b

pub holds_of : (b : Bench) → Holds b → (g : Group) → session.Holds (session_of b g)
holds_of b h One = h.one
holds_of b h Two = h.two

-- ---- any moves, one after another

pub data Operation : Type 0 where
  group : Group → ℕ → Row → Operation
  lecturer : ℕ → Row → Operation

abbrev pub step : Bench → Operation → Answered
step b (group g p v) = group_moved_of b g p v
step b (lecturer n v) = lecturer_moved_of b n v

abbrev pub after : Bench → List Operation → Bench
after b [] = b
after b (o ∷ os) = after (step b o).bench os

-- ---- opening

opened_full : (s : List ℕ) → judged s ≡ Ok tt → Full (opened s).session
opened_full s q = go (opened_holds s).state
  where
    go : Empty (opened s).session ⊎ Full (opened s).session → Full (opened s).session
    go (inl e) = absurd (omega (arith, (opened_holds s).sized, e.none, ap length (opened_scene s q), ((accepted limits s).0 q).header.long))
    go (inr f) = f

pub opened_bench : (s t : List ℕ) → Holds (opened_of s t).bench
unfolding opened_of
opened_bench s t = go (open_fault s t) refl
  where
    none : session.Holds empty
    none = record { sized = refl; state = inl (record { none = refl; zeros = refl }) }

    go : (o : Answer) → open_fault s t ≡ o → Holds (bench.opened_by o s t).bench
    go (Ok _) e =
        let q = opens s t e in
        record {
          one = opened_holds s;
          two = opened_holds t;
          state = inr (record {
            one = opened_full s q.first;
            two = opened_full t q.second;
            fixture = rw (opened_scene s q.first, opened_scene t q.second) q.fixture;
          });
        }
    go (Err f) e =
        record { one = none; two = none; state = inl (record { none = refl; zeros = refl }, record { none = refl; zeros = refl }) }

-- ---- a group's move

group_holds : (b : Bench) (g : Group) (p : ℕ) (v : Row) → Holds b → Holds (group_moved_of b g p v).bench
unfolding group_moved_of
group_holds b One p v h =
    let e = own_effect b.one p v h.one in
    record { one = e.follows.holds; two = h.two; state = go e h.state }
  where
    go : OwnEffect b.one (own_moved_of b.one p v) → State b → State (with_session b One (own_moved_of b.one p v).session)
    go e (inl m) = inl (empty_follows e.follows h.one m.0, m.1)
    go e (inr m) = inr (record { one = full_follows e.follows m.one; two = m.two; fixture = e.fixture ∙ m.fixture })
group_holds b Two p v h =
    let e = own_effect b.two p v h.two in
    record { one = h.one; two = e.follows.holds; state = go e h.state }
  where
    go : OwnEffect b.two (own_moved_of b.two p v) → State b → State (with_session b Two (own_moved_of b.two p v).session)
    go e (inl m) = inl (m.0, empty_follows e.follows h.two m.1)
    go e (inr m) = inr (record { one = m.one; two = full_follows e.follows m.two; fixture = m.fixture ∙ sym e.fixture })

-- ---- the lecturer's move

pub empty_told : (s : Session) (n : ℕ) (v : Row) → session.Holds s → Empty s → (fixture_moved_of s n v).answer ≡ Err Opening
unfolding fixture_moved_of number_fault refuse_unless
empty_told s n v h e = rw (empty_solids s h e)

module _ (b : Bench) (n : ℕ) (v : Row) (h : Holds b) where
  -- both scenes answer alike
  pub told_alike : (fixture_moved_of b.one n v).answer ≡ (fixture_moved_of b.two n v).answer
  told_alike = go h.state
    where
      go : State b → (fixture_moved_of b.one n v).answer ≡ (fixture_moved_of b.two n v).answer
      go (inl m) = empty_told b.one n v h.one m.0 ∙ sym (empty_told b.two n v h.two m.1)
      go (inr m) =
          let c : verts_b (scene b.one) ≡ verts_b (scene b.two) =
          sym (size_b (scene b.one)) ∙ ap (λ (f : Fixture). size f.solid) m.fixture ∙ size_b (scene b.two) in
          lecturer_told b.one n v m.one ∙ ap (λ (k : ℕ). lecturer_fault k n v) c ∙ sym (lecturer_told b.two n v m.two)

  told_sharing : (fixture_moved_of b.one n v).answer ≡ Ok tt → Sharing b
  told_sharing q = go h.state
    where
      go : State b → Sharing b
      go (inl m) = absurd (never (sym q ∙ empty_told b.one n v h.one m.0))
      go (inr m) = m

  lecturer_holds : Holds (lecturer_moved_of b n v).bench
  unfolding lecturer_moved_of
  lecturer_holds = go (fixture_moved_of b.one n v).answer refl
    where
      go : (j : Judged) → (fixture_moved_of b.one n v).answer ≡ j → Holds (lecturer_moved_by j b n v).bench
      go (Err r) q = h
      go (Ok _) q =
          let x = fixture_effect b.one n v h.one in
          let y = fixture_effect b.two n v h.two in
          let m = told_sharing q in
          record {
            one = x.follows.holds;
            two = y.follows.holds;
            state = inr (record {
              one = full_follows x.follows m.one;
              two = full_follows y.follows m.two;
              fixture = x.moved q ∙ ap (λ (f : Fixture). moved_fixture f n v) m.fixture ∙ sym (y.moved (sym told_alike ∙ q));
            });
          }

-- ---- all of them

pub step_holds : (b : Bench) (o : Operation) → Holds b → Holds (step b o).bench
step_holds b (group g p v) h = group_holds b g p v h
step_holds b (lecturer n v) h = lecturer_holds b n v h

pub after_holds : (b : Bench) (os : List Operation) → Holds b → Holds (after b os)
after_holds b [] h = h
after_holds b (o ∷ os) h = after_holds (step b o).bench os (step_holds b o h)

-- any moves whatever, from any two strings of bytes
pub benches_hold : (s t : List ℕ) (os : List Operation) → Holds (after (opened_of s t).bench os)
benches_hold s t os = after_holds (opened_of s t).bench os (opened_bench s t)
