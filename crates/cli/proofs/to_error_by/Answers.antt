-- What `put` answers is within the buffer that it leaves.
use Rattle.std.proofs.Common.{sym, refl}
use Rattle.std.proofs.lemmas.List.{length-take-le}
use Rattle.cli.proofs.to_error_by.Goals as goal

pub slice_bounds-out-end : goal.slice_bounds-out-end
slice_bounds-out-end g c = c.requires.in_room _ _ _ (record { shown = _; shows = refl; left = _; met = c.put-n.ensures; leaves = refl })

pub slice_bounds-to_error-end : goal.slice_bounds-to_error-end
slice_bounds-to_error-end g c =
    sym (length-take-le _ _ (c.requires.in_room _ _ _ (record { shown = _; shows = refl; left = _; met = c.put-n.ensures; leaves = refl })))
