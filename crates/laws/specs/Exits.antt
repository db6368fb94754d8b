-- What the exit of a `?` returns: the error of the call. Assumes nothing.
use Rattle.std.specs.Prelude.{◌≡◌, Result, Err}
use Rattle.std.specs.Result.{IsErrAnd}
use Rattle.std.proofs.lemmas.Result.{err_from_is_err_and}
use Rattle.std.proofs.Common.{ap, ◌∙◌}

pub exits : {T E : Type 0} {q w : Result T E} {e : E} → IsErrAnd q (λ y. y ≡ e) → Err e ≡ w → q ≡ w
exits {q = q} h k = let p = err_from_is_err_and q h in p.1 ∙ ap Err p.2 ∙ k
