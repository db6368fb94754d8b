-- The verdict of an accepted scene is what the first of its listing and the lowest of its enclosed vertices say. Assumes nothing.
use Rattle.std.specs.Prelude.{◌≡◌, ◌⊎◌, ◌↔◌, ℕ, ◌+◌, ◌<◌, leb, Ok}
use Rattle.std.specs.declared.option.Option.TheVariants as option
use Rattle.std.proofs.Math.Path.{refl, sym, ap}
use Rattle.std.proofs.Common.{◌∙◌, subst, inl, inr, arith}
use Rattle.std.proofs.Math.Logic.{⊎_elim}
use Rattle.std.proofs.Math.Bool.{false, true≢false}
use mathlib.Core.List.{List, [], ◌∷◌}
use borrow.Author.Tests.{le-leb, lt-leb}
use Rattle.laws.specs.Lowest.{FirstOrNone, lowest_or_none}
use Rattle.laws.specs.Lists.{Some}
use Rattle.laws.specs.Members.{each_of}
use Rattle.laws.specs.Rising.{Rising, less_never, less_back}
use Rattle.scene.specs.Records.{verts_a, verts}
use Rattle.judge.specs.Judge.{judged}
use Rattle.scene.specs.declared.Solid.{Solid}
use Rattle.questions.specs.Hits.{Hit, enclosed_vertex, lowest_enclosed}
use Rattle.questions.specs.First.{first_of}
use Rattle.questions.specs.WritePairs.{three}
use Rattle.scene.specs.View.{view_of, solid_a, solid_b, solid}
use Rattle.questions.specs.Answers.{enclosure_in, verdict_in, listing_in, pierce_view}
use Rattle.questions.specs.declared.Verdict.{Verdict}
use Rattle.questions.specs.declared.Verdict.TheVariants as verdict
use Rattle.theorem_demands.specs.Words.{VertexOfA, VertexOfB, Enclosed}
use Rattle.theorem_demands.specs.Exact.{PiercedPair, solid_of, Before, FirstPair, NonePierced, NoneEnclosed, LowestEnclosed}
use Rattle.theorem_demands.proofs.Words.Solids.{InWords, a_worded, b_worded}
use Rattle.theorem_demands.proofs.Exact.Pairs.{members, rises}

-- ---- the first of a listing

module _ (s : List ℕ) where
  abbrev key : Hit → List ℕ
  key h = solid_of s h.low ∷ three h

  abbrev Lists : List Hit → Type 0
  Lists l = Rising (Before s) l × ((h : Hit) → Some (λ k. k ≡ h) l ↔ PiercedPair s h)

  first_pair : (l : List Hit) → Lists l → (h : Hit) → FirstPair s h → first_of l ≡ option.Some (h.low, h.high, h.face)
  unfolding first_of
  first_pair [] m h p = absurd ((m.1 h).1 p.pierced)
  first_pair (x ∷ l) m h p =
      ⊎_elim (λ e. ap (λ (h : Hit). option.Some (h.low, h.high, h.face)) e)
      (λ t. absurd (p.none_earlier x ((m.1 x).0 (inl refl)) (each_of (Before s x) l m.0.0 h t))) ((m.1 h).1 p.pierced)

  none_first : (l : List Hit) → Lists l → NonePierced s → first_of l ≡ option.None
  unfolding first_of
  none_first [] m n = refl
  none_first (x ∷ l) m n =
      absurd (n x ((m.1 x).0 (inl refl)))

  pair_or_none : (l : List Hit) → Lists l → ((h : Hit) × FirstPair s h) ⊎ NonePierced s
  pair_or_none [] m = inr (λ h p. (m.1 h).1 p)
  pair_or_none (x ∷ l) m =
      inl (x, record { pierced = (m.1 x).0 (inl refl); none_earlier = λ k p b. ⊎_elim (same k b) (later k b) ((m.1 k).1 p) })
    where
      same : (k : Hit) → Before s k x → x ≡ k → ⊥
      same k b e = less_never (key k) (subst (Before s k) e b)

      later : (k : Hit) → Before s k x → Some (λ y. y ≡ k) l → ⊥
      later k b t = less_back (key k) (key x) b (each_of (Before s x) l m.0.0 k t)

  -- ---- the lowest enclosed vertex of a solid

  module _ {k : Solid} {n : ℕ} {Of Own Other : ℕ → Type 0} (w : InWords s k n Of Own Other) where
    abbrev lowest : ℕ
    lowest = lowest_enclosed (pierce_view (view_of s)) k

    lowest_found : LowestEnclosed s Of lowest ⊎ ((lowest ≡ k.vert0 + 1 + k.verts) × NoneEnclosed s Of)
    unfolding lowest_enclosed
    lowest_found = go (lowest_or_none (enclosed_vertex (pierce_view (view_of s)) k) (k.vert0 + 1) k.verts)
      where
        off : {i : ℕ} → enclosed_vertex (pierce_view (view_of s)) k i ≡ false → Of i → ¬ Enclosed s i
        off e o t = true≢false (sym t ∙ sym (w.inside _ o) ∙ e)

        go : {l : ℕ} → FirstOrNone (enclosed_vertex (pierce_view (view_of s)) k) (k.vert0 + 1) k.verts l →
            LowestEnclosed s Of l ⊎ ((l ≡ k.vert0 + 1 + k.verts) × NoneEnclosed s Of)
        go {l} (inl f) =
            let o = (w.vertices l).0 (omega (arith, f.from), omega (arith, f.below)) in
            inl (record {
              of = o;
              enclosed = sym (w.inside l o) ∙ f.passes;
              none_lower = λ i h b. off (f.none i (omega (arith, (w.vertices i).1 h)) b) h;
            })
        go (inr h) = inr (h.0, λ i o. let b = (w.vertices i).1 o in off (h.1 i (omega arith) (omega arith)) o)

    lowest_is : (p : ℕ) → LowestEnclosed s Of p → lowest ≡ p
    lowest_is p h = ⊎_elim same (λ n. absurd (n.1 p h.of h.enclosed)) lowest_found
      where
        same : LowestEnclosed s Of lowest → lowest ≡ p
        same q =
            let a : ¬ (lowest < p) = λ b. h.none_lower lowest q.of b q.enclosed in
            let b : ¬ (p < lowest) = λ b. q.none_lower p h.of b h.enclosed in
            omega arith

    lowest_none : NoneEnclosed s Of → lowest ≡ k.vert0 + 1 + k.verts
    lowest_none n = ⊎_elim (λ q. absurd (n lowest q.of q.enclosed)) (λ h. h.0) lowest_found

  -- ---- of A, then of B

  in_a_law : (p : ℕ) → LowestEnclosed s (VertexOfA s) p → enclosure_in (view_of s) ≡ verdict.AInB p
  unfolding enclosure_in solid
  in_a_law p h = rw (lowest_is (a_worded s) p h, le-leb p (verts_a s) h.of.1)

  module _ (none-a : NoneEnclosed s (VertexOfA s)) where
    not_a : leb (lowest_enclosed (pierce_view (view_of s)) (solid_a (view_of s))) (verts_a s) ≡ false
    not_a =
        lt-leb (lowest_enclosed (pierce_view (view_of s)) (solid_a (view_of s))) (verts_a s)
        (omega (arith, lowest_none (a_worded s) none-a))

    in_b_law : (p : ℕ) → LowestEnclosed s (VertexOfB s) p → enclosure_in (view_of s) ≡ verdict.BInA p
    unfolding enclosure_in solid
    in_b_law p h = rw (not_a, lowest_is (b_worded s) p h, le-leb p (verts s) h.of.1)

    in_neither : NoneEnclosed s (VertexOfB s) → enclosure_in (view_of s) ≡ verdict.Apart
    unfolding enclosure_in solid
    in_neither n =
        rw (
          not_a,
          lt-leb (lowest_enclosed (pierce_view (view_of s)) (solid_b (view_of s))) (verts s)
              (omega (arith, lowest_none (b_worded s) n)),
        )

  -- ---- the verdict

  abbrev pub Says : Verdict → Type 0
  Says (verdict.Cross u v f) = FirstPair s (record { low = u; high = v; face = f })
  Says (verdict.AInB p) = NonePierced s × LowestEnclosed s (VertexOfA s) p
  Says (verdict.BInA p) = NonePierced s × NoneEnclosed s (VertexOfA s) × LowestEnclosed s (VertexOfB s) p
  Says verdict.Apart = NonePierced s × NoneEnclosed s (VertexOfA s) × NoneEnclosed s (VertexOfB s)

  module _ (ok : judged s ≡ Ok tt) where
    lists : Lists (listing_in (view_of s))
    lists = (rises s, members s ok)

    -- what a verdict says holds of that verdict alone
    given : (v : Verdict) → Says v → verdict_in (view_of s) ≡ v
    unfolding verdict_in
    given (verdict.Cross u v f) h = rw (first_pair (listing_in (view_of s)) lists _ h)
    given (verdict.AInB p) h = rw (none_first (listing_in (view_of s)) lists h.0) (in_a_law p h.1)
    given (verdict.BInA p) h = rw (none_first (listing_in (view_of s)) lists h.0) (in_b_law h.1 p h.2)
    given verdict.Apart h = rw (none_first (listing_in (view_of s)) lists h.0) (in_neither h.1 h.2)

    -- and one of them holds
    says : Says (verdict_in (view_of s))
    says = ⊎_elim (λ p. holds (verdict.Cross _ _ _) p.1) none_cross (pair_or_none (listing_in (view_of s)) lists)
      where
        holds : (v : Verdict) → Says v → Says (verdict_in (view_of s))
        holds v h = subst Says (sym (given v h)) h

        none_in_a : NonePierced s → NoneEnclosed s (VertexOfA s) → Says (verdict_in (view_of s))
        none_in_a n a =
            ⊎_elim (λ b. holds (verdict.BInA _) (n, a, b)) (λ b. holds verdict.Apart (n, a, b.1)) (lowest_found (b_worded s))

        none_cross : NonePierced s → Says (verdict_in (view_of s))
        none_cross n =
            ⊎_elim (λ a. holds (verdict.AInB _) (n, a)) (λ a. none_in_a n a.1) (lowest_found (a_worded s))

    pub verdict_iff : (v : Verdict) → (verdict_in (view_of s) ≡ v) ↔ Says v
    verdict_iff v = (λ e. subst Says e says, given v)
