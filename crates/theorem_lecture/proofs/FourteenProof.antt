-- That 14 never occurs for an image is proved. Assumes nothing.
use Rattle.std.proofs.Math.Path.{◌≡◌, refl, ap}
use Rattle.std.proofs.Common.{sym, subst, ◌∙◌}
use Rattle.std.specs.Prelude.{◌≢◌, Bool, List, ℕ, ◌+◌, ◌<◌, pos, length, Ok, Err}
use Rattle.std.proofs.Math.Bool.{true, false}
use Rattle.std.proofs.Math.Decide.{dec_lt}
use native.Mathlib.Omega.{arith}
use Rattle.scene.specs.Limits.{limits}
use Rattle.scene.specs.Read.{far_is}
use Rattle.scene.specs.Records.{verts}
use Rattle.scene.specs.Refusal.{number_of}
use Rattle.scene.specs.Tables.{row_at}
use Rattle.scene.specs.declared.Refusal.{Refusal}
use Rattle.scene.specs.declared.Refusal.TheVariants.{Opening, Counts, Length, Mark, Coordinate, Weight, Corner}
use Rattle.scene.specs.declared.Refusal.TheVariants.{Unused, Edge, ListTooShort, NoSuchNumber, NotDistinct, BufferTooShort, FarAllZero}
use Rattle.judge.specs.Judge.{judged}
use Rattle.judge.specs.Judge.{Judged}
use Rattle.rules.proofs.Accepted.{accepted}
use Rattle.rules.proofs.Bridge.{by_tables}
use Rattle.rules.specs.Numbers.{Gives, check_order, gives_first, gives}
use Rattle.rules.proofs.Refused as table
use Rattle.rules.specs.Rules.{Zeros}
use Rattle.clean.specs.Clean.{is_zero}
use Rattle.map_image.specs.declared.Map.{Map}
use Rattle.map_image.specs.declared.Fault.{Fault}
use Rattle.map_image.specs.Mapped.{mapped, determinant_of}
use Rattle.map_image.specs.Image.{Imaged, fault_number, entries_ok, row_fault, point_fault, rows_fault, image_fault, said_of}
use Rattle.map_image.proofs.Faults.{fault_entry, fault_singular, fault_row, fault_room, fault_none}
use Rattle.theorem_lecture.specs.Lecture.{rows_of, points_of, MappedBy, Fourteen}
use Rattle.theorem_lecture.specs.Somewhere.{image_somewhere}

-- 14 is the number of one refusal alone
fourteen : (r : Refusal) → number_of r ≡ 14 → (p : ℕ) × (r ≡ FarAllZero p)
fourteen (FarAllZero p) e = (p, refl)
fourteen Opening e = absurd (omega arith)
fourteen Counts e = absurd (omega arith)
fourteen Length e = absurd (omega arith)
fourteen (Mark p) e = absurd (omega arith)
fourteen (Coordinate p) e = absurd (omega arith)
fourteen (Weight p) e = absurd (omega arith)
fourteen (Corner p) e = absurd (omega arith)
fourteen (Unused p) e = absurd (omega arith)
fourteen (Edge p) e = absurd (omega arith)
fourteen (ListTooShort p) e = absurd (omega arith)
fourteen NoSuchNumber e = absurd (omega arith)
fourteen NotDistinct e = absurd (omega arith)
fourteen (BufferTooShort p) e = absurd (omega arith)

-- ---- the far point

module _ (m : Map) (s : List ℕ) (ok : judged s ≡ Ok tt) (regular : determinant_of m ≢ pos 0) where
  somewhere : ¬ Zeros (mapped m (rows_of s (points_of s)))
  somewhere z =
      ((by_tables limits s).0 ((accepted limits s).0 ok)).1.somewhere
      (image_somewhere m (row_at s 0) regular (subst (λ r. Zeros (mapped m r)) (far_is s refl) z))

  -- bytes with the image's rows
  judged_so : (t : List ℕ) → MappedBy m s t → (r : Refusal) → judged t ≡ Err r → number_of r ≢ 14
  judged_so t h r e n =
      let p = fourteen r n in
      let g = (table.refused limits t (FarAllZero p.0)).0 (e ∙ ap Err p.1) in
      let at : points_of s ≡ points_of t = omega (arith, h.shape.verts_a_law, h.shape.verts_b_law) in
      let row : row_at t 0 ≡ mapped m (rows_of s (points_of s)) = sym (far_is t {i = points_of s} at) ∙ h.rows (points_of s) (omega arith) in
      g.1.1.1.1 (λ _ z. somewhere (subst Zeros row z))

-- ---- what `image` answers

-- 5 and 6 alone are given to the rows
rows_give : (m : Map) (s : List ℕ) → Gives 5 6 (rows_fault m s)
unfolding rows_fault point_fault row_fault
rows_give m s = gives_first 5 6 (point_fault m s) 0 (verts s + 1) (λ j a b. search gives)

same : {f g : Fault} → ◌≡◌ {A = Imaged} (Err f) (Err g) → f ≡ g
same e = cc

module _ (m : Map) (s : List ℕ) (ok : judged s ≡ Ok tt) (d : List ℕ) (f : Fault)
    (h : Err f ≡ said_of (image_fault s m (length d)) (length s)) where
  by : (a : Bool) → entries_ok m ≡ a → (z : Bool) → is_zero (determinant_of m) ≡ z → (j : Judged) → rows_fault m s ≡ j →
      Dec (length d < length s) → fault_number f ≢ 14
  unfolding said_of
  by false p z q j o l n =
      let e = same (h ∙ ap (λ k. said_of k (length s)) (sym (fault_entry s m (length d) (sym ok) refl {b = false} (sym p) refl))) in
      omega (arith, ap fault_number e, n)
  by true p true q j o l n =
      let e = same (h ∙ ap (λ k. said_of k (length s))
      (sym (fault_singular s m (length d) (sym ok) refl {b = true} (sym p) refl {z = true} (sym q) refl))) in
      omega (arith, ap fault_number e, n)
  by true p false q (Err r) o l n =
      let e = same (h ∙ ap (λ k. said_of k (length s))
      (sym (fault_row s m (length d) (sym ok) refl {b = true} (sym p) refl {z = false} (sym q) refl (sym o) refl))) in
      omega (arith, (rows_give m s).turn r o, ap check_order (fourteen r (sym (ap fault_number e) ∙ n)).1)
  by true p false q (Ok _) o (yes l) n =
      let e = same (h ∙ ap (λ k. said_of k (length s))
      (sym (fault_room s m (length d) (sym ok) refl {b = true} (sym p) refl {z = false} (sym q) refl (sym o) refl l))) in
      omega (arith, ap fault_number e, n)
  by true p false q (Ok _) o (no l) n =
      let e : ◌≡◌ {A = Imaged} (Err f) (Ok (length s)) = h ∙ ap (λ k. said_of k (length s))
      (sym (fault_none s m (length d) (sym ok) refl {b = true} (sym p) refl {z = false} (sym q) refl (sym o) refl (omega arith))) in
      let z : ◌≡◌ {A = ℕ} 0 1 = cc in
      omega arith

  image_never : fault_number f ≢ 14
  image_never =
      by (entries_ok m) refl (is_zero (determinant_of m)) refl (rows_fault m s) refl (dec_lt (length d) (length s))

pub never_fourteen : Fourteen
never_fourteen m s ok regular =
    record {
      somewhere = somewhere m s ok regular;
      judged_so = judged_so m s ok regular;
      refused = λ d d' f h. image_never m s ok d f h.answer;
    }
