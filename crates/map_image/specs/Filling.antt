-- Rows stored in the front part of a list are stored in that part: what stands behind it stays. Assumes nothing.
use Rattle.std.specs.Prelude.{◌≡◌, refl, List, [], ◌∷◌, ◌++◌, ℕ, zero, suc, ◌+◌, ◌≤◌, ◌<◌, length, drop, set, Ok}
use Rattle.std.proofs.Common.{ap, ◌∙◌, arith, length-set}
use Rattle.std.proofs.lemmas.List.Edits.{sets}
use Rattle.std.proofs.lemmas.List.{set-append_left}
use Rattle.laws.specs.Filled.{filled}
use Rattle.scene.specs.Records.{verts, point_start}
use Rattle.scene.specs.Write.{row_put, row_bytes}
use Rattle.scene.specs.Written.{row_length}
use Rattle.scene.specs.declared.Row.{Row}
use Rattle.judge.specs.Judge.{judged}
use Rattle.map_image.specs.Image.{image_row, image_bytes}
use Rattle.map_image.specs.Ready.{point_room}
use Rattle.map_image.specs.declared.Map.{Map}

sets_front : (vs a b : List ℕ) (i : ℕ) → i + length vs ≤ length a → sets (a ++ b) i vs ≡ sets a i vs ++ b
sets_front [] a b i h = refl
sets_front (v ∷ vs) a b i h =
    ap (λ (l : List ℕ). sets l (suc i) vs) (set-append_left a b i v (omega arith))
    ∙ sets_front vs (set a i v) b (suc i) (omega (arith, length-set a i v))

row_front : (a b : List ℕ) (j : ℕ) (r : Row) → point_start j + 9 ≤ length a → row_put (a ++ b) j r ≡ row_put a j r ++ b
unfolding row_put
row_front a b j r h = sets_front (row_bytes r) a b (point_start j + 2) (omega arith)

pub filled_length : (g : ℕ → Row) (n : ℕ) (l : List ℕ) → length (filled row_put g n l) ≡ length l
unfolding filled
filled_length g zero l = refl
filled_length g (suc n) l = row_length (filled row_put g n l) n (g n) ∙ filled_length g n l

filled_front : (g : ℕ → Row) (n : ℕ) (a b : List ℕ) → ((j : ℕ) → j < n → point_start j + 9 ≤ length a) →
    filled row_put g n (a ++ b) ≡ filled row_put g n a ++ b
unfolding filled
filled_front g zero a b h = refl
filled_front g (suc n) a b h =
    ap (λ (l : List ℕ). row_put l n (g n)) (filled_front g n a b (λ j k. h j (omega arith)))
    ∙ row_front (filled row_put g n a) b n (g n) (rw (filled_length g n a) (h n (omega arith)))

pub filled_image : (s : List ℕ) (m : Map) (d : List ℕ) → judged s ≡ Ok tt → {l l₁ : List ℕ} →
    l₁ ≡ s ++ drop (length s) d → l ≡ filled row_put (image_row m s) (verts s + 1) l₁ → l ≡ image_bytes m s ++ drop (length s) d
unfolding image_bytes
filled_image s m d ok e p =
    p ∙ ap (filled row_put (image_row m s) (verts s + 1)) e
    ∙ filled_front (image_row m s) (verts s + 1) s (drop (length s) d) (λ j b. point_room s ok j (omega arith))
