use Rattle.std.proofs.Common.{◌≡◌, ◌++◌, take, drop, map}
use Rattle.reis_c.specs.Handles.{handle_of}
use Rattle.reis_c.proofs.writing.copy_handles.Given as goal

abbrev pub invariant-loop-i : goal.invariant-loop-i
invariant-loop-i l = l.room ≡ map handle_of (take l.i l.from) ++ drop l.i l.initial.room
