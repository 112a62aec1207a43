use Rattle.std.proofs.Common.{◌≡◌, ◌+◌, ◌*◌, ◌++◌, take}
use Rattle.ei_spec.specs.Message.{header}
use Rattle.ei_backend.specs.Words.{word_bytes}
use Rattle.ei_backend.proofs.words.put_message.Given as goal

abbrev pub invariant-loop-i : goal.invariant-loop-i
invariant-loop-i g l = take (16 + 4 * l.i) l.bytes ≡ header l.object_id (16 + 4 * g.row.N) l.opcode ++ word_bytes (take l.i l.words)
