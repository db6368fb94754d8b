-- What a session holds, after any operations from any string of bytes, keeps the written rules, and demands 2 and 3 read on it, with the
-- counts that a fresh count of it gives; or the session is empty. So it is of each group's session at a bench, after anyone's moves.
-- Assumes nothing.
use Rattle.std.specs.Prelude.{◌≡◌, ◌⊎◌, List, ℕ, ◌+◌, ◌%◌, Ok}
use Rattle.std.proofs.Common.{inl, inr}
use Rattle.std.specs.Int.Count.{ones}
use Rattle.scene.specs.Limits.{limits}
use Rattle.scene.specs.View.{view_of}
use Rattle.rules.specs.Rules.{FileOk}
use Rattle.questions.specs.Answers.{mask_in, counted_of}
use Rattle.session.specs.Session.{scene, opened}
use Rattle.session.specs.Kept as session
use Rattle.session.specs.Kept.{Empty, Full}
use Rattle.session.proofs.Sessions.{sessions_hold}
use Rattle.session.specs.declared.Session.{Session}
use Rattle.bench_moves.specs.Bench.{opened_of, session_of}
use Rattle.bench_moves.specs.declared.Group.{Group}
use Rattle.theorem_bench.specs.Kept as bench
use Rattle.theorem_demands.specs.Words.{SolidNumber}
use Rattle.theorem_demands.specs.Exact.{Exact}
use Rattle.theorem_demands.proofs.Exact.Proof.{exact}
use Rattle.theorem_demands.specs.Parity.{Outside}
use Rattle.theorem_demands.proofs.Parity.Proof.{kernel_parity}

pub record Held (s : Session) : Type 0 where
  pub rules : FileOk limits (scene s)
  pub exact : Exact (scene s)
  pub parity : (k : ℕ) → SolidNumber k → (u v w : ℕ) → Outside (scene s) k u v w →
      (ones (mask_in (view_of (scene s)) u v k) + ones (mask_in (view_of (scene s)) v w k) + ones (mask_in (view_of (scene s)) w u k)) % 2 ≡ 0
  pub counts : counted_of (scene s) ≡ Ok s.counts

abbrev pub EmptyOrHeld : Session → Type 0
EmptyOrHeld s = Empty s ⊎ Held s

full_held : {s : Session} → Full s → Held s
full_held {s} f =
    record {
      rules = (exact (scene s)).accepted.0 f.accepted;
      exact = exact (scene s);
      parity = kernel_parity.parity (scene s) f.accepted;
      counts = f.counted;
    }

held : (s : Session) → session.Holds s → EmptyOrHeld s
held s h = go h.state
  where
    go : Empty s ⊎ Full s → EmptyOrHeld s
    go (inl e) = inl e
    go (inr f) = inr (full_held f)

pub sessions : (b : List ℕ) (os : List session.Operation) → EmptyOrHeld (session.after (opened b).session os)
sessions b os = held _ (sessions_hold b os)

pub benches : (s t : List ℕ) (os : List bench.Operation) (g : Group) → EmptyOrHeld (session_of (bench.after (opened_of s t).bench os) g)
benches s t os g = held _ (bench.holds_of _ (bench.benches_hold s t os) g)
