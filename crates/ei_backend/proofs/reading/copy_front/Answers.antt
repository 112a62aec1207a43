use Rattle.std.proofs.Common.{ap, ◌∙◌}
use Rattle.std.specs.Prelude.{List, ℕ, take, ◌+◌}
use Rattle.ei_backend.proofs.Copied.{copied}
use Rattle.ei_backend.proofs.reading.copy_front.Goals as goal

pub returns-clause-copied : goal.returns-clause-copied
returns-clause-copied c =
    copied c.as_slices.result.0.now c.as_slices.result.1.now c.copy_from_slice.new.self c.copy_from_slice-2.new.self _ _ c.min-from_first.result c.min-from_second.result _ c.min-from_first.ensures c.min-from_second.ensures c.copy_from_slice.ensures.after c.copy_from_slice-2.ensures.after
    ∙ ap (λ (l : List ℕ). take (c.min-from_first.result + c.min-from_second.result) l) c.as_slices.ensures
