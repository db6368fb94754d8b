-- What a move does to one session: a group's leaves the fixture, the lecturer's changes it as the number and the row say; a refused one
-- does nothing. What the lecturer is answered is told by the fixture's vertex count, the number and the row. Assumes nothing.
use Rattle.std.specs.Prelude.{◌≡◌, ◌⊎◌, Bool, true, false, cond, List, length, Option, Ok, Err, Some, None}
use Rattle.std.proofs.Math.Path.{refl, ap}
use Rattle.std.proofs.Common.{sym, ◌∙◌, inl, inr, arith, eq-eqb, ne_eqb, le-leb}
use Prim.Native.Nat.{ℕ, ◌+◌, ◌≤◌}
use Rattle.std.proofs.Math.Decide.{dec_le}
use Rattle.std.proofs.lemmas.Bool.{lt-leb}
use Rattle.scene.specs.Limits.{limits, within}
use Rattle.scene.specs.Records.{verts_a, verts_b, verts, length_of}
use Rattle.scene.specs.declared.Row.{Row}
use Rattle.scene.specs.declared.Refusal.{Refusal}
use Rattle.scene.specs.declared.Refusal.TheVariants.{Opening, NoSuchNumber}
use Rattle.judge.specs.Tests.{within_iff, never}
use Rattle.judge.specs.Judge.{Judged}
use Rattle.rules.proofs.Accepted.{accepted}
use Rattle.session.specs.Session.{scene, is_whole, vertex_fault, far_fault, changed_by, moved_of, far_moved_of}
use Rattle.session.specs.Kept.{Empty, Full, Holds, moved_holds, far_holds}
use Rattle.session.specs.Changes.{RowChanged, vertex_changed, far_changed, vertex_refused, far_refused}
use Rattle.session.specs.declared.Session.{Session}
use Rattle.session.specs.declared.Changed.{Changed}
use Rattle.bench_moves.specs.Bench.{unless, then_scene, said, counted, solids_of, own_fault, own_moved_by, own_moved_of}
use Rattle.bench_moves.specs.Bench.{number_fault, scene_moved, placed_in, fixture_moved_by, fixture_moved_of}
use Rattle.bench_moves.specs.declared.moves.Solids.{Solids}
use Rattle.bench_moves.specs.declared.moves.Moved.{Moved}
use Rattle.bench_moves.specs.declared.Fault.{Fault}
use Rattle.bench_moves.specs.Bench.{Answer}
use Rattle.theorem_bench.specs.Fixture.{fixture_of, moved_fixture, verts_b_law, own_fixture, vertex_fixture, far_fixture}

-- ---- a session that holds a scene, and one that does not

pub full_whole : (s : Session) → Full s → length (scene s) ≡ length_of (scene s)
full_whole s f = ((accepted limits (scene s)).0 f.accepted).header.long

pub full_solids : (s : Session) → Full s → solids_of (scene s) ≡ Some (counted (scene s))
unfolding solids_of is_whole
full_solids s f = rw (eq-eqb (length (scene s)) (length_of (scene s)) (full_whole s f))

pub empty_solids : (s : Session) → Holds s → Empty s → solids_of (scene s) ≡ None
unfolding solids_of is_whole
empty_solids s h e = rw (ne_eqb (length (scene s)) (length_of (scene s)) (λ q. omega (arith, q, h.sized, e.none)))

-- t holds what a session holds, as many bytes as s
pub record Follows (s t : Session) : Type 0 where
  pub holds : Holds t
  pub long : length (scene t) ≡ length (scene s)
  pub verts_b_law : verts_b (scene t) ≡ verts_b (scene s)

pub follows_same : {s t : Session} → Holds s → t ≡ s → Follows s t
follows_same h e = rw e (record { holds = h; long = refl; verts_b_law = refl })

module _ {s t : Session} (f : Follows s t) where
  pub empty_follows : Holds s → Empty s → Empty t
  empty_follows h e = go f.holds.state
    where
      go : Empty t ⊎ Full t → Empty t
      go (inl x) = x
      go (inr x) = absurd (omega (arith, full_whole t x, f.long, h.sized, e.none))

  pub full_follows : Full s → Full t
  full_follows x = go f.holds.state
    where
      go : Empty t ⊎ Full t → Full t
      go (inl e) = absurd (omega (arith, full_whole s x, f.long, f.holds.sized, e.none))
      go (inr y) = y

-- ---- the session's own moves: refused, or one row changed

changed_answer : (j : Judged) (s : Session) (b : List ℕ) → (changed_by j s b).answer ≡ j
changed_answer (Ok _) s b = refl
changed_answer (Err r) s b = refl

-- a session's move of the file's point j to v, which came out as c
pub data Moves (s : Session) (j : ℕ) (v : Row) (c : Changed) : Type 0 where
  stays : {r : Refusal} → c.answer ≡ Err r → c.session ≡ s → Moves s j v c
  changes : c.answer ≡ Ok tt → RowChanged (scene s) j v (scene c.session) → Holds c.session → Moves s j v c

module _ (s : Session) (v : Row) where
  pub vertex_answer : (p : ℕ) → (moved_of s p v).answer ≡ vertex_fault (scene s) p v
  unfolding moved_of
  vertex_answer p = changed_answer (vertex_fault (scene s) p v) s _

  pub far_answer : (far_moved_of s v).answer ≡ far_fault (scene s) v
  unfolding far_moved_of
  far_answer = changed_answer (far_fault (scene s) v) s _

  vertex_moves : (p : ℕ) → Holds s → Moves s p v (moved_of s p v)
  vertex_moves p h = go (vertex_fault (scene s) p v) refl
    where
      go : (j : Judged) → vertex_fault (scene s) p v ≡ j → Moves s p v (moved_of s p v)
      go (Ok _) q = changes (vertex_answer p ∙ q) (vertex_changed s p v q) (moved_holds s p v h)
      go (Err r) q = stays (vertex_answer p ∙ q) (ap (λ (c : Changed). c.session) (vertex_refused s p v q))

  far_moves : Holds s → Moves s 0 v (far_moved_of s v)
  far_moves h = go (far_fault (scene s) v) refl
    where
      go : (j : Judged) → far_fault (scene s) v ≡ j → Moves s 0 v (far_moved_of s v)
      go (Ok _) q = changes (far_answer ∙ q) (far_changed s v q) (far_holds s v h)
      go (Err r) q = stays (far_answer ∙ q) (ap (λ (c : Changed). c.session) (far_refused s v q))

row_follows : {s t : Session} {j : ℕ} {v : Row} → RowChanged (scene s) j v (scene t) → Holds t → j ≤ verts (scene s) → Follows s t
row_follows {s} {t} {j} {v} c h b = record { holds = h; long = c.long; verts_b_law = verts_b_law (scene s) (scene t) j v c b }

-- ---- a group's move

pub done_never : {f : Fault} → ◌≡◌ {A = Answer} (Ok tt) (Err f) → ⊥
done_never e = let z : ◌≡◌ {A = ℕ} 0 1 = cc in omega arith

pub unless_done : (b : Bool) (f : Fault) (k : Answer) → unless b f k ≡ Ok tt → (b ≡ true) × (k ≡ Ok tt)
unfolding unless
unless_done true f k e = (refl, e)
unless_done false f k e = absurd (done_never (sym e))

-- where there is a scene, its counts
abbrev solids_by : Bool → List ℕ → Option Solids
solids_by b s = cond b (Some (counted s)) None

own_free : (s : List ℕ) (p : ℕ) → own_fault (solids_of s) p ≡ Ok tt → (1 ≤ p) × (p ≤ verts_a s)
unfolding own_fault solids_of
own_free s p e = go (is_whole s) e
  where
    go : (b : Bool) → own_fault (solids_by b s) p ≡ Ok tt → (1 ≤ p) × (p ≤ verts_a s)
    go true e =
        let b = unless_done _ _ _ e in
        let c = unless_done _ _ _ b.1 in
        (within_iff 1 (verts_a s) p).0 c.0
    go false e = absurd (done_never (sym e))

pub record OwnEffect (s : Session) (m : Moved) : Type 0 where
  pub follows : Follows s m.session
  pub fixture : fixture_of (scene m.session) ≡ fixture_of (scene s)
  pub refused : {f : Fault} → m.answer ≡ Err f → m.session ≡ s

pub own_effect : (s : Session) (p : ℕ) (v : Row) → Holds s → OwnEffect s (own_moved_of s p v)
unfolding own_moved_of said then_scene
own_effect s p v h = go (own_fault (solids_of (scene s)) p) refl
  where
    by_moves : (1 ≤ p) × (p ≤ verts_a (scene s)) → Moves s p v (moved_of s p v) → OwnEffect s (own_moved_by (Ok tt) s p v)
    by_moves b (stays a e) = record { follows = follows_same h e; fixture = ap (λ (t : Session). fixture_of (scene t)) e; refused = λ q. e }
    by_moves b (changes a c k) =
        let here : p ≤ verts (scene s) = omega (arith, b.1) in
        record {
          follows = row_follows c k here;
          fixture = own_fixture (scene s) _ p v c here b.0 b.1;
          refused = λ q. absurd (done_never (sym (ap said a) ∙ q));
        }

    go : (o : Answer) → own_fault (solids_of (scene s)) p ≡ o → OwnEffect s (own_moved_by o s p v)
    go (Err f) q = record { follows = follows_same h refl; fixture = refl; refused = λ q. refl }
    go (Ok _) q = by_moves (own_free (scene s) p q) (vertex_moves s v p h)

-- ---- the lecturer's move, in one scene

pub record FixtureEffect (s : Session) (n : ℕ) (v : Row) (c : Changed) : Type 0 where
  pub follows : Follows s c.session
  pub refused : {r : Refusal} → c.answer ≡ Err r → c.session ≡ s
  pub moved : c.answer ≡ Ok tt → fixture_of (scene c.session) ≡ moved_fixture (fixture_of (scene s)) n v

abbrev told : ℕ → Changed → Changed
told n c = record { answer = placed_in n c.answer; session = c.session }

module _ (s : Session) (n : ℕ) (v : Row) (h : Holds s) where
  by_moves : (j : ℕ) (c : Changed) → Moves s j v c → j ≤ verts (scene s) →
      (RowChanged (scene s) j v (scene c.session) → fixture_of (scene c.session) ≡ moved_fixture (fixture_of (scene s)) n v) →
      FixtureEffect s n v (told n c)
  unfolding placed_in
  by_moves j c (stays a e) b f =
      record { follows = follows_same h e; refused = λ q. e; moved = λ q. absurd (never (sym q ∙ ap (placed_in n) a)) }
  by_moves j c (changes a d k) b f =
      record { follows = row_follows d k b; refused = λ q. absurd (never (sym (ap (placed_in n) a) ∙ q)); moved = λ q. f d }

  scene_effect : 1 ≤ n → Dec (n ≤ verts_b (scene s)) → FixtureEffect s n v (told n (scene_moved s (counted (scene s)) n v))
  unfolding scene_moved
  scene_effect a (yes l) =
      let j : ℕ = verts_a (scene s) + n in
      rw (le-leb n (verts_b (scene s)) l)
      (by_moves j (moved_of s j v) (vertex_moves s v j h) (omega arith) (λ c. vertex_fixture (scene s) _ j v c (omega arith) n a l refl))
  scene_effect a (no l) =
      rw (lt-leb n (verts_b (scene s)) (omega arith))
      (by_moves 0 (far_moved_of s v) (far_moves s v h) (omega arith) (λ c. far_fixture (scene s) _ 0 v c (omega arith) n (omega arith) refl))

  pub fixture_effect : FixtureEffect s n v (fixture_moved_of s n v)
  unfolding fixture_moved_of solids_of number_fault
  fixture_effect = go (is_whole (scene s))
    where
      refused : (r : Refusal) → FixtureEffect s n v (fixture_moved_by (Err r) s n v)
      refused r = record { follows = follows_same h refl; refused = λ q. refl; moved = λ q. absurd (never (sym q)) }

      numbered : (b : Bool) → within 1 (verts_b (scene s) + 1) n ≡ b →
          FixtureEffect s n v (fixture_moved_by (cond b (Ok (counted (scene s))) (Err NoSuchNumber)) s n v)
      numbered true q = scene_effect ((within_iff 1 (verts_b (scene s) + 1) n).0 q).0 (dec_le n (verts_b (scene s)))
      numbered false q = refused NoSuchNumber

      go : (b : Bool) → FixtureEffect s n v (fixture_moved_by (number_fault (solids_by b (scene s)) n) s n v)
      go true = numbered (within 1 (verts_b (scene s) + 1) n) refl
      go false = refused Opening
