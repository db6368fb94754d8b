-- The image that is written is an accepted scene: the scene's bytes with each row times the table. So no rule is broken by an image that
-- passed 5 and 6, and 14 never occurs. Assumes nothing.
use Rattle.std.specs.Prelude.{◌≡◌, ◌⊎◌, List, length, Ok}
use Rattle.std.proofs.Math.Path.{refl, ap}
use Rattle.std.proofs.Common.{sym, ◌∙◌, arith}
use Rattle.std.proofs.Math.Logic.{inl, inr}
use Prim.Native.Nat.{ℕ, zero, suc, ◌+◌, ◌≤◌, ◌<◌}
use Rattle.std.proofs.Math.Decide.{dec_lt, ℕ_discrete}
use Rattle.laws.specs.Filled.{filled}
use Rattle.scene.specs.Limits.{limits, least_weight}
use Rattle.scene.specs.Bytes.{byte_at}
use Rattle.scene.specs.Records.{verts, point_start}
use Rattle.scene.specs.Tables.{tables_of, row, row_at}
use Rattle.scene.specs.Read.{row_is, far_is}
use Rattle.scene.specs.Write.{RowFits, row_put}
use Rattle.scene.specs.Written.{row_below, row_above, row_back}
use Rattle.scene.specs.declared.Row.{Row}
use Rattle.judge.specs.Judge.{judged}
use Rattle.rules.specs.TableRules.{RowOk}
use Rattle.rules.proofs.Accepted.{accepted}
use Rattle.rules.proofs.Bridge.{by_tables}
use Rattle.rules.specs.Frame.{Same, row_frame}
use Rattle.rules.specs.Frame.{Rerowed}
use Rattle.rules.proofs.Rerowed.{still_accepted}
use Rattle.orient.specs.Signs.{Upto}
use Rattle.map_image.specs.declared.Map.{Map}
use Rattle.map_image.specs.Mapped.{mapped, determinant_of}
use Rattle.map_image.specs.Image.{image_row, image_bytes}
use Rattle.map_image.specs.Filling.{filled_length}
use Rattle.map_image.specs.Ready.{point_room, rows_in, row_fits}
use Rattle.map_image.proofs.Faults.{Passed, regular_is}
use Rattle.theorem_lecture.specs.Lecture.{MappedBy}
use Rattle.theorem_lecture.specs.Rerowed.{same_shape}
use Rattle.theorem_lecture.specs.Somewhere.{image_somewhere}

-- ---- rows stored one after another: what stands elsewhere stays, and each is read back

module _ (g : ℕ → Row) (s : List ℕ) where
  abbrev put : ℕ → List ℕ
  put n = filled row_put g n s

  filled_keeps : (n k : ℕ) → ((j : ℕ) → j < n → (k < point_start j + 2) ⊎ (point_start j + 9 ≤ k)) →
      byte_at (filled row_put g n s) k ≡ byte_at s k
  unfolding filled
  filled_keeps zero k h = refl
  filled_keeps (suc n) k h = by (h n (omega arith)) ∙ filled_keeps n k (λ j b. h j (omega arith))
    where
      by : (k < point_start n + 2) ⊎ (point_start n + 9 ≤ k) →
          byte_at (row_put (filled row_put g n s) n (g n)) k ≡ byte_at (filled row_put g n s) k
      by (inl l) = row_below (filled row_put g n s) n (g n) k l
      by (inr l) = row_above (filled row_put g n s) n (g n) k l

  -- a row is not touched by a later one
  later : (n j : ℕ) → j < n → Same (row_put (filled row_put g n s) n (g n)) (filled row_put g n s) (point_start j) 9
  later n j l m a b = row_below (filled row_put g n s) n (g n) m (omega arith)

  filled_row : (n : ℕ) → ((j : ℕ) → j < n → RowFits (g j) × (point_start j + 9 ≤ length s)) → (j : ℕ) → j < n →
      row_at (filled row_put g n s) j ≡ g j
  unfolding filled
  filled_row zero h j b = absurd (omega arith)
  filled_row (suc n) h j b = by (ℕ_discrete j n) (filled_row n (λ j b. h j (omega arith)) j)
    where
      by : Dec (j ≡ n) → (j < n → row_at (filled row_put g n s) j ≡ g j) → row_at (row_put (filled row_put g n s) n (g n)) j ≡ g j
      by (yes e) before =
          let f = h n (omega arith) in
          ap (row_at (row_put (filled row_put g n s) n (g n))) e
          ∙ row_back (filled row_put g n s) n (g n) f.0 (rw (filled_length g n s) f.1) ∙ ap g (sym e)
      by (no d) before =
          row_frame (row_put (filled row_put g n s) n (g n)) (filled row_put g n s) j (later n j (omega arith)) ∙ before (omega arith)

-- ---- the image

module _ (s : List ℕ) (m : Map) (room : ℕ) (p : Passed s m room) where
  abbrev t : List ℕ
  t = image_bytes m s

  kept : (k : ℕ) → ((j : ℕ) → j < verts s + 1 → (k < point_start j + 2) ⊎ (point_start j + 9 ≤ k)) → byte_at (image_bytes m s) k ≡ byte_at s k
  unfolding image_bytes
  kept k h = filled_keeps (image_row m s) s (verts s + 1) k h

  image_rerowed : Rerowed s t
  unfolding image_bytes
  image_rerowed =
      record {
        long = filled_length (image_row m s) (verts s + 1) s;
        header = λ k a b. kept k (λ j l. inl (omega arith));
        mark = λ i u k a b. kept k (λ j l. beside i k j a b (dec_lt j i));
        behind = λ k n u i a b. kept i (λ j l. inr (omega arith));
      }
    where
      beside : (i k j : ℕ) → point_start i ≤ k → k < point_start i + 2 → Dec (j < i) → (k < point_start j + 2) ⊎ (point_start j + 9 ≤ k)
      beside i k j a b (yes l) = inr (omega arith)
      beside i k j a b (no l) = inl (omega arith)

  image_row_law : (j : ℕ) → j ≤ verts s → row_at (image_bytes m s) j ≡ mapped m (row_at s j)
  unfolding image_bytes
  image_row_law j b =
      filled_row (image_row m s) s (verts s + 1)
      (λ i l. (row_fits s m p.rows i (omega arith) refl, point_room s p.scene i (omega arith))) j (omega arith)

  row_ok : (j : ℕ) → j ≤ verts s → RowOk (least_weight j) limits (row_at (image_bytes m s) j)
  row_ok j b =
      let r = rows_in s m p.rows j b in
      rw (image_row_law j b) (record { coordinates = record { x = r.x; y = r.y; z = r.z }; weight = r.weight })

  pub image_accepted : judged (image_bytes m s) ≡ Ok tt
  image_accepted =
      let far = ((by_tables limits s).0 ((accepted limits s).0 p.scene)).1.somewhere in
      still_accepted s t image_rerowed row_ok
      (rw (image_row_law 0 (omega arith)) (λ z. far (image_somewhere m (row_at s 0) (regular_is (determinant_of m) p.regular) z))) p.scene

  -- by the scene's numbers
  by_number : (i : ℕ) → Upto (verts s + 1) i → row (tables_of t) i ≡ mapped m (row (tables_of s) i)
  by_number i u = by (dec_lt (verts s) i)
    where
      shape : verts t ≡ verts s
      shape = omega (arith, (same_shape s t image_rerowed).verts_a_law, (same_shape s t image_rerowed).verts_b_law)

      by : Dec (verts s < i) → row (tables_of t) i ≡ mapped m (row (tables_of s) i)
      by (no l) =
          row_is t i u.0 (omega (arith, shape)) ∙ image_row_law i (omega arith) ∙ ap (mapped m) (sym (row_is s i u.0 (omega arith)))
      by (yes l) =
          far_is t {i = i} (omega (arith, shape)) ∙ image_row_law 0 (omega arith) ∙ ap (mapped m) (sym (far_is s {i = i} (omega arith)))

  pub image_mapped : MappedBy m s (image_bytes m s)
  image_mapped = record { shape = same_shape s t image_rerowed; rows = by_number }
