-- A text put into a lent buffer: from a place on, as far as there is room. Nothing is written beyond the buffer, and every other byte
-- stays. Two texts one after the other are put as the two end to end. Assumes nothing.
use Rattle.std.specs.Prelude.{ℕ, suc, ◌+◌, ◌≤◌, ◌<◌, min, ◌≡◌, refl, List, [], ◌∷◌, ◌++◌, take, drop, set}
use Rattle.std.proofs.Math.Path.{sym, ap}
use Rattle.std.proofs.Common.{ap₂, ◌∙◌, arith}
use Rattle.std.proofs.Math.Decide.{dec_lt}
use Rattle.std.proofs.Math.ListN.{length, length-append}
use Rattle.std.proofs.lemmas.List.Edits.{sets, sets-eq}
use Rattle.std.proofs.Math.Seq.{length-sets, set_out}
use Rattle.std.proofs.lemmas.List.{set_comm}

-- the buffer l after the text t was put at a place. (`set` beyond a list's end leaves the list.)
unfoldable pub put : List ℕ → ℕ → List ℕ → List ℕ
put l at t = sets l at t

-- the place behind the text, or the buffer's end
unfoldable pub behind : List ℕ → ℕ → List ℕ → ℕ
behind l at t = min (at + length t) (length l)

-- m is the buffer l after the text t was put at a place, and p the place behind. (`kept` and `within` follow from the other two.)
pub record Put (l : List ℕ) (at : ℕ) (t : List ℕ) (m : List ℕ) (p : ℕ) : Type 0 where
  pub held : m ≡ put l at t
  pub place : p ≡ behind l at t
  pub kept : length m ≡ length l
  pub within : p ≤ length m

pub put_length : (l : List ℕ) (at : ℕ) (t : List ℕ) → length (put l at t) ≡ length l
unfolding put
put_length l at t = length-sets l at t

behind_within : (l : List ℕ) (at : ℕ) (t : List ℕ) → behind l at t ≤ length l
unfolding behind
behind_within l at t = omega arith

pub puts : {l : List ℕ} {at : ℕ} {t m : List ℕ} {p : ℕ} → m ≡ put l at t → p ≡ behind l at t → Put l at t m p
puts {l} {at} {t} {m} {p} h k =
    let n : length m ≡ length l = ap length h ∙ put_length l at t in
    record { held = h; place = k; kept = n; within = omega (arith, behind_within l at t) }

-- where there is room, the text stands in place of as many bytes, and the place behind it is counted on
pub put_fits : (l : List ℕ) (at : ℕ) (t : List ℕ) → at + length t ≤ length l → put l at t ≡ take at l ++ t ++ drop (at + length t) l
unfolding put
put_fits l at t h = sets-eq t l at h

pub behind_fits : (l : List ℕ) (at : ℕ) (t : List ℕ) → at + length t ≤ length l → behind l at t ≡ at + length t
unfolding behind
behind_fits l at t h = omega arith

-- ---- end to end

pub put_out : (l : List ℕ) (at : ℕ) (t : List ℕ) → length l ≤ at → put l at t ≡ l
unfolding put
put_out l at [] h = refl
put_out l at (b ∷ t) h = ap (λ (k : List ℕ). sets k (suc at) t) (set_out l at b h) ∙ put_out l (suc at) t (omega arith)

put_append : (l : List ℕ) (at : ℕ) (t u : List ℕ) → put l at (t ++ u) ≡ put (put l at t) (at + length t) u
unfolding put
put_append l at [] u = ap (λ (k : ℕ). sets l k u) (omega arith)
put_append l at (b ∷ t) u = put_append (set l at b) (suc at) t u ∙ ap (λ (k : ℕ). sets (sets l at (b ∷ t)) k u) (omega arith)

put_behind : (l : List ℕ) (at : ℕ) (u : List ℕ) → put l (min at (length l)) u ≡ put l at u
put_behind l at u = go (dec_lt at (length l))
  where
    go : Dec (at < length l) → put l (min at (length l)) u ≡ put l at u
    go (yes h) = ap (λ (k : ℕ). put l k u) (omega arith)
    go (no h) = put_out l (min at (length l)) u (omega arith) ∙ sym (put_out l at u (omega arith))

module _ (l : List ℕ) (at : ℕ) (t u : List ℕ) where
  pub put_then : put (put l at t) (behind l at t) u ≡ put l at (t ++ u)
  unfolding behind
  put_then =
      ap (λ (k : ℕ). put (put l at t) (min (at + length t) k) u) (sym (put_length l at t))
      ∙ put_behind (put l at t) (at + length t) u ∙ sym (put_append l at t u)

  pub behind_then : behind (put l at t) (behind l at t) u ≡ behind l at (t ++ u)
  unfolding behind
  behind_then = omega (arith, put_length l at t, length-append t u)

-- two renderings, one after the other
pub end_to_end : {l : List ℕ} {at : ℕ} {t m : List ℕ} {p : ℕ} {u n : List ℕ} {q : ℕ} →
    Put l at t m p → Put m p u n q → Put l at (t ++ u) n q
end_to_end {l} {at} {t} {u} x y = puts
    (y.held ∙ ap₂ (λ (k : List ℕ) (i : ℕ). put k i u) x.held x.place ∙ put_then l at t u)
    (y.place ∙ ap₂ (λ (k : List ℕ) (i : ℕ). behind k i u) x.held x.place ∙ behind_then l at t u)

-- nothing put, at a place within the buffer
pub put_nothing : (l : List ℕ) (at : ℕ) → at ≤ length l → Put l at [] l at
unfolding put behind
put_nothing l at h = puts refl (omega arith)

-- one byte, at a place within the buffer or at its end
pub put_byte : (l : List ℕ) (at b : ℕ) → at < length l → Put l at (b ∷ []) (set l at b) (at + 1)
unfolding put behind
put_byte l at b h = puts refl (omega arith)

pub put_full : (l : List ℕ) (at : ℕ) (t : List ℕ) → length l ≤ at → Put l at t l (length l)
unfolding behind
put_full l at t h = puts (sym (put_out l at t h)) (omega arith)

-- a text put from its last byte to its first
pub put_last : (l : List ℕ) (at : ℕ) (t : List ℕ) (b : ℕ) → put (set l (at + length t) b) at t ≡ put l at (t ++ (b ∷ []))
unfolding put
put_last l at [] b = ap (λ (k : ℕ). set l k b) (omega arith)
put_last l at (a ∷ t) b =
    ap (λ (k : List ℕ). sets k (suc at) t) (set_comm l (at + suc (length t)) at b a (omega arith))
    ∙ ap (λ (k : ℕ). sets (set (set l at a) k b) (suc at) t) (omega arith)
    ∙ put_last (set l at a) (suc at) t b
