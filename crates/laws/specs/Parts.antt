-- A number in two parts, a below 2 ^ n and b above it, tells both. Assumes nothing.
use Rattle.std.specs.Prelude.{◌≡◌, ℕ, ◌+◌, ◌*◌, ◌/◌, ◌%◌, ◌^◌, ◌<◌}
use Rattle.std.proofs.Common.{sym, ap, ◌∙◌, arith}
use Rattle.std.proofs.Math.Pow.{low, high}

pub parts_once : (n a b c d : ℕ) → a < 2 ^ n → c < 2 ^ n → a + 2 ^ n * b ≡ c + 2 ^ n * d → (a ≡ c) × (b ≡ d)
parts_once n a b c d p q e =
    let f : b * 2 ^ n + a ≡ d * 2 ^ n + c = omega (arith, e) in
    (sym (low b n p) ∙ ap (λ (x : ℕ). x % 2 ^ n) f ∙ low d n q, sym (high b n p) ∙ ap (λ (x : ℕ). x / 2 ^ n) f ∙ high d n q)
