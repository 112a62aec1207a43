use Rattle.std.proofs.Common.{◌≡◌, ◌≤◌, take, []}
use Rattle.ei_backend.specs.Outgoing.{args_body, args_handles}
use Rattle.ei_backend.specs.Words.{word_bytes}
use Rattle.ei_backend.proofs.words.words_of.Given as goal

abbrev pub invariant-loop-arg : goal.invariant-loop-arg
invariant-loop-arg l = record {
  count : l.count ≤ 6;
  bytes : word_bytes (take l.count l.words) ≡ args_body (take l.arg-index l.args);
  handles : args_handles (take l.arg-index l.args) ≡ [];
}
