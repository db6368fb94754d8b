-- What the definitions of a bench give, in the form in which the calls' answers and the branches arrive. Assumes nothing.
use Rattle.std.specs.Prelude.{◌≡◌, refl, Bool, true, false, ◌&&◌, List, [], ◌++◌, ℕ, ◌+◌, ◌*◌, ◌≤◌, ◌<◌, leb, length, drop, Result, Ok, Err, Option, Some, None}
use Rattle.std.proofs.Math.Path.{sym, ap, ap₂}
use Rattle.std.proofs.Common.{◌∙◌, arith, length-take}
use Rattle.std.proofs.Math.Bool.{not, cond}
use Rattle.std.proofs.Math.Dec.{eqb}
use Rattle.std.proofs.Math.ListN.{get_or-append}
use borrow.Author.Tests.{not-true, not-false, eq-eqb, ne_eqb, le-leb, lt-leb}
use Rattle.scene.specs.Bytes.{byte_at}
use Rattle.scene.specs.Limits.{within}
use Rattle.scene.specs.Records.{verts_a, verts_b, faces_in_a, faces_in_b, length_of, point_start, face_start}
use Rattle.scene.specs.declared.Row.{Row}
use Rattle.scene.specs.declared.Refusal.{Refusal}
use Rattle.scene.specs.declared.Refusal.TheVariants.{Opening, NoSuchNumber, Coordinate, Weight, FarAllZero, BufferTooShort}
use Rattle.judge.specs.Judge.{judged_at, header_fault, opens, refuse_unless, and_then}
use Rattle.judge.specs.Tests.{accepts, never}
use Rattle.judge.specs.Judge.{Judged}
use Rattle.session.specs.Session.{scene, empty, is_whole, opened, moved_of, far_moved_of}
use Rattle.session.specs.Saved.{save_fault, saved_by, IsSaved}
use Rattle.session.specs.declared.Session.{Session}
use Rattle.session.specs.declared.Changed.{Changed}
use Rattle.bench_moves.specs.Bench.{unless, then_scene, said, same_bytes, same_counts, same_vertices, same_faces, open_fault}
use Rattle.bench_moves.specs.Bench.{opened_by, opened_of}
use Rattle.bench_moves.specs.Bench.{session_of, with_session, counted, solids_of, own_fault, own_moved_by, own_moved_of, group_moved_of}
use Rattle.bench_moves.specs.Bench.{number_fault, scene_moved, placed, placed_in, fixture_moved_by}
use Rattle.bench_moves.specs.Bench.{fixture_moved_of, lecturer_moved_by, lecturer_moved_of}
use Rattle.bench_moves.specs.declared.Bench.{Bench}
use Rattle.bench_moves.specs.declared.Answered.{Answered}
use Rattle.bench_moves.specs.declared.Group.{Group}
use Rattle.bench_moves.specs.declared.moves.Solids.{Solids}
use Rattle.bench_moves.specs.declared.moves.Moved.{Moved}
use Rattle.bench_moves.specs.declared.Fault.{Fault}
use Rattle.bench_moves.specs.declared.Fault.TheVariants.{Scene, Shared}
use Rattle.bench_moves.specs.Bench.{Answer}

-- ---- a test that came out as b, a judgement that came out as x: it refuses, or what comes after decides

pub unless_refused : {o b : Bool} {f : Fault} (k : Answer) → o ≡ b → not o ≡ true → Err f ≡ unless b f k
unfolding unless
unless_refused {f = f} k p q = ap (λ (t : Bool). unless t f k) (sym (not-true _ q) ∙ p)

pub unless_passed : {o b : Bool} {k w : Answer} (f : Fault) → o ≡ b → not o ≡ false → w ≡ k → w ≡ unless b f k
unfolding unless
unless_passed {k = k} f p q e = e ∙ ap (λ (t : Bool). unless t f k) (sym (not-false _ q) ∙ p)

pub then_refused : {o x : Judged} (k : Answer) {r : Refusal} → o ≡ x → o ≡ Err r → Err (Scene r) ≡ then_scene x k
unfolding then_scene
then_refused k p q = sym (ap (λ (j : Judged). then_scene j k) (sym p ∙ q))

pub then_accepted : {o x : Judged} {k w : Answer} → o ≡ x → o ≡ Ok tt → w ≡ k → w ≡ then_scene x k
unfolding then_scene
then_accepted {k = k} p q e = e ∙ sym (ap (λ (j : Judged). then_scene j k) (sym p ∙ q))

pub ruleset faults = (unless_refused, unless_passed, then_refused, then_accepted)

-- ---- the parts of a fixture, where the counts and the starts are known

module _ (s t : List ℕ) where
  pub counts_differ : {a b : ℕ} → a ≡ verts_b s → b ≡ verts_b t → (a ≡ b → ⊥) → false ≡ same_counts s t
  unfolding same_counts
  counts_differ p q d = ap (λ (b : Bool). b && eqb (faces_in_b s) (faces_in_b t)) (sym (ne_eqb (verts_b s) (verts_b t) (λ e. d (p ∙ e ∙ sym q))))

  pub counts_same : {a b x y : ℕ} → a ≡ verts_b s → b ≡ verts_b t → a ≡ b → x ≡ faces_in_b s → y ≡ faces_in_b t → eqb x y ≡ same_counts s t
  unfolding same_counts
  counts_same p q e f g =
      ap₂ eqb f g ∙ ap (λ (b : Bool). b && eqb (faces_in_b s) (faces_in_b t)) (sym (eq-eqb (verts_b s) (verts_b t) (sym p ∙ e ∙ q)))

  pub vertices_by : {w : Bool} {a b m i j : ℕ} → a ≡ verts_a s → b ≡ verts_a t → m ≡ verts_b s → i ≡ point_start (a + 1) →
      j ≡ point_start (b + 1) → w ≡ same_bytes s i t j (m * 9) → w ≡ same_vertices s t
  unfolding same_vertices
  vertices_by p q r e f h = rw (e, f, p, q, r) at h

  pub faces_by : {w : Bool} {a b m i j : ℕ} → a ≡ faces_in_a s → b ≡ faces_in_a t → m ≡ faces_in_b s → i ≡ face_start s a → j ≡ face_start t b →
      w ≡ same_bytes s i t j (m * 5) → w ≡ same_faces s t
  unfolding same_faces
  faces_by p q r e f h = rw (e, f, p, q, r) at h

-- ---- what was saved of a session: nothing, or bytes whose header is the scene's

pub scene_fits : (s : Session) (n : ℕ) → length s.bytes ≡ n → length (scene s) ≤ n
scene_fits s n e = simp length-take (omega arith)

pub solids_none : (s : List ℕ) (room : ℕ) {j : Judged} {r : Refusal} → j ≡ save_fault s room → j ≡ Err r → length s ≤ room →
    None ≡ solids_of s
unfolding save_fault solids_of refuse_unless
solids_none s room {r = r} e q l = go (is_whole s) (sym e ∙ q)
  where
    go : (b : Bool) → refuse_unless b Opening (refuse_unless (leb (length s) room) (BufferTooShort (length s)) (Ok tt)) ≡ Err
        r →
        None ≡ cond b (Some (counted s)) None
    go true h = absurd (never
        (ap (λ (b : Bool). refuse_unless b (BufferTooShort (length s)) (Ok tt)) (sym (le-leb (length s) room l)) ∙ h))
    go false h = refl

pub solids_held : (s out out' : List ℕ) {j : Judged} {a b : ℕ} → IsSaved s out out' j → j ≡ Ok tt → a ≡ byte_at out' 2 →
    b ≡ byte_at out' 4 →
    ◌≡◌ {A = Option Solids} (Some (record { own = a; fixture = b })) (solids_of s)
unfolding save_fault solids_of is_whole
solids_held s out out' h q x y =
    let e = sym h.answer ∙ q in
    let c = simp accepts at e in
    let f : out' ≡ s ++ drop (length s) out = h.held ∙ ap (λ (j : Judged). saved_by j s out) e in
    let u = x ∙ ap (λ (l : List ℕ). byte_at l 2) f ∙ get_or-append s (drop (length s) out) 0 2 (omega (arith, c.0)) in
    let v = y ∙ ap (λ (l : List ℕ). byte_at l 4) f ∙ get_or-append s (drop (length s) out) 0 4 (omega (arith, c.0)) in
    (λ i. Some (record { own = u i; fixture = v i }))
    ∙ ap (λ (b : Bool). cond b (Some (counted s)) None)
    (sym (eq-eqb (length s) (length_of s) c.0))

pub nothing_opened : {c : Changed} → c ≡ opened [] → c.session ≡ empty
unfolding opened judged_at header_fault opens refuse_unless and_then
nothing_opened e = ap (λ (c : Changed). c.session) e

-- ---- the moves in one scene

module _ (s : Session) (k : Solids) (n : ℕ) (v : Row) {r : Changed} where
  pub scene_vertex : n ≤ k.fixture → r ≡ moved_of s (k.own + n) v → r ≡ scene_moved s k n v
  unfolding scene_moved
  scene_vertex h e = e ∙ ap (λ (b : Bool). cond b (moved_of s (k.own + n) v) (far_moved_of s v)) (sym (le-leb n k.fixture h))

  pub scene_far : k.fixture < n → r ≡ far_moved_of s v → r ≡ scene_moved s k n v
  unfolding scene_moved
  scene_far h e = e ∙ ap (λ (b : Bool). cond b (moved_of s (k.own + n) v) (far_moved_of s v)) (sym (lt-leb n k.fixture h))

pub placed_not : (n : ℕ) (r : Refusal) → ((p : ℕ) → r ≡ Coordinate p → ⊥) → ((p : ℕ) → r ≡ Weight p → ⊥) →
    ((p : ℕ) → r ≡ FarAllZero p → ⊥) → r ≡ placed n r
unfolding placed
placed_not n (Coordinate p) a b c = absurd (a p refl)
placed_not n (Weight p) a b c = absurd (b p refl)
placed_not n (FarAllZero p) a b c = absurd (c p refl)
placed_not n r a b c = refl

-- where there are solids, a number by their counts
module _ (n : ℕ) {k : Option Solids} {m : Solids} {j : ℕ} (e : k ≡ Some m) (g : j ≡ m.fixture) where
  pub own_by : {i : ℕ} {w : Answer} → i ≡ m.own →
      w ≡ unless (within 1 (i + j + 1) n) (Scene NoSuchNumber) (unless (within 1 i n) (Shared n) (Ok tt)) → w ≡ own_fault k n
  unfolding own_fault
  own_by f h =
      h ∙ ap₂ (λ (i j : ℕ). unless (within 1 (i + j + 1) n) (Scene NoSuchNumber) (unless (within 1 i n) (Shared n) (Ok tt))) f g
      ∙ sym (ap (λ (k : Option Solids). own_fault k n) e)

  module _ {b : Bool} (t : b ≡ within 1 (j + 1) n) where
    number_by : cond b (Ok m) (Err NoSuchNumber) ≡ number_fault k n
    unfolding number_fault
    number_by =
        ap (λ (b : Bool). cond b (Ok m) (Err NoSuchNumber)) (t ∙ ap (λ (j : ℕ). within 1 (j + 1) n) g)
        ∙ sym (ap (λ (k : Option Solids). number_fault k n) e)

    pub number_lacking : b ≡ false → ◌≡◌ {A = Result Solids Refusal} (Err NoSuchNumber) (number_fault k n)
    number_lacking h = ap (λ (b : Bool). cond b (Ok m) (Err NoSuchNumber)) (sym h) ∙ number_by

    pub number_found : b ≡ true → ◌≡◌ {A = Result Solids Refusal} (Ok m) (number_fault k n)
    number_found h = ap (λ (b : Bool). cond b (Ok m) (Err NoSuchNumber)) (sym h) ∙ number_by

module _ (s : Session) (p : ℕ) (v : Row) {k : Option Solids} {o : Answer} (e : k ≡ solids_of (scene s)) (f : o ≡ own_fault k p) where
  abbrev fault : o ≡ own_fault (solids_of (scene s)) p
  fault = f ∙ ap (λ (k : Option Solids). own_fault k p) e

  pub own_refused : {g : Fault} → o ≡ Err g → ◌≡◌ {A = Moved} (record { answer = Err g; session = s }) (own_moved_of s p v)
  unfolding own_moved_of
  own_refused q = ap (λ (o : Answer). own_moved_by o s p v) (sym q ∙ fault)

  pub own_done : {c : Changed} {a : Answer} → o ≡ Ok tt → c ≡ moved_of s p v → a ≡ said c.answer →
      ◌≡◌ {A = Moved} (record { answer = a; session = c.session }) (own_moved_of s p v)
  unfolding own_moved_of
  own_done q m h =
      (λ i. record { answer = (h ∙ ap (λ (c : Changed). said c.answer) m) i; session = (m i).session })
      ∙ ap (λ (o : Answer). own_moved_by o s p v) (sym q ∙ fault)

module _ (s : Session) (n : ℕ) (v : Row) {k : Option Solids} {o : Result Solids Refusal} (e : k ≡ solids_of (scene s)) (f : o ≡ number_fault k n) where
  abbrev lacking : o ≡ number_fault (solids_of (scene s)) n
  lacking = f ∙ ap (λ (k : Option Solids). number_fault k n) e

  pub fixture_refused : {r : Refusal} → o ≡ Err r →
      ◌≡◌ {A = Changed} (record { answer = Err r; session = s }) (fixture_moved_of s n v)
  unfolding fixture_moved_of
  fixture_refused q = ap (λ (o : Result Solids Refusal). fixture_moved_by o s n v) (sym q ∙ lacking)

  pub fixture_moved : {m : Solids} {c : Changed} {j : Judged} → o ≡ Ok m → c ≡ scene_moved s m n v → j ≡ placed_in n c.answer →
      ◌≡◌ {A = Changed} (record { answer = j; session = c.session }) (fixture_moved_of s n v)
  unfolding fixture_moved_of
  fixture_moved q w h =
      (λ i. record { answer = (h ∙ ap (λ (c : Changed). placed_in n c.answer) w) i; session = (w i).session })
      ∙ ap (λ (o : Result Solids Refusal). fixture_moved_by o s n v) (sym q ∙ lacking)

-- ---- the bench

pub group_moved : (b : Bench) (g : Group) (p : ℕ) (v : Row) {x : Session} {m : Moved} {d : Bench} → x ≡ session_of b g →
    m ≡ own_moved_of x p v →
    d ≡ with_session b g m.session → ◌≡◌ {A = Answered} (record { answer = m.answer; bench = d }) (group_moved_of b g p v)
unfolding group_moved_of
group_moved b g p v e f h =
    let w = f ∙ ap (λ (x : Session). own_moved_of x p v) e in
    λ i. record { answer = (w i).answer; bench = (h ∙ ap (λ (m : Moved). with_session b g m.session) w) i }

module _ (b : Bench) (n : ℕ) (v : Row) {x : Session} {c : Changed} (e : x ≡ b.one) (f : c ≡ fixture_moved_of x n v) where
  abbrev first : c ≡ fixture_moved_of b.one n v
  first = f ∙ ap (λ (x : Session). fixture_moved_of x n v) e

  pub lecturer_refused : {r : Refusal} → c.answer ≡ Err r →
      ◌≡◌ {A = Answered} (record { answer = Err (Scene r); bench = b }) (lecturer_moved_of b n v)
  unfolding lecturer_moved_of
  lecturer_refused q = ap (λ (j : Judged). lecturer_moved_by j b n v) (sym q ∙ ap (λ (c : Changed). c.answer) first)

  pub lecturer_done : {y : Session} {d : Changed} → y ≡ b.two → d ≡ fixture_moved_of y n v → c.answer ≡ Ok tt →
      ◌≡◌ {A = Answered} (record { answer = Ok tt; bench = record { one = c.session; two = d.session } }) (lecturer_moved_of b n v)
  unfolding lecturer_moved_of
  lecturer_done g h q =
      let w = h ∙ ap (λ (y : Session). fixture_moved_of y n v) g in
      (λ i. record { answer = Ok tt; bench = record { one = (first i).session; two = (w i).session } })
      ∙ ap (λ (j : Judged). lecturer_moved_by j b n v) (sym q ∙ ap (λ (c : Changed). c.answer) first)

module _ (s t : List ℕ) {o : Answer} (e : o ≡ open_fault s t) where
  pub open_refused : {f : Fault} {x y : Session} → o ≡ Err f → x ≡ empty → y ≡ empty →
      ◌≡◌ {A = Answered} (record { answer = Err f; bench = record { one = x; two = y } }) (opened_of s t)
  unfolding opened_of
  open_refused {f = f} q a b =
      (λ i. record { answer = Err f; bench = record { one = a i; two = b i } }) ∙ ap (λ (o : Answer). opened_by o s t) (sym q ∙ e)

  pub open_done : {c d : Changed} → o ≡ Ok tt → c ≡ opened s → d ≡ opened t →
      ◌≡◌ {A = Answered} (record { answer = Ok tt; bench = record { one = c.session; two = d.session } }) (opened_of s t)
  unfolding opened_of
  open_done q a b =
      (λ i. record { answer = Ok tt; bench = record { one = (a i).session; two = (b i).session } })
      ∙ ap (λ (o : Answer). opened_by o s t) (sym q ∙ e)
