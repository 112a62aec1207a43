use Rattle.std.proofs.Common.{◌≡◌, ℕ, length}
use Rattle.reis_eis.specs.Words.{IsWhole, context_in, unread_of}
use Rattle.reis_eis.proofs.Feeding.{SomeHandled}
use Rattle.reis_eis.proofs.phase.Phase.handle_messages.Given as goal

abbrev pub invariant-messages : goal.invariant-messages
invariant-messages l = record {
  handled : SomeHandled l.time l.fn.self l.fn.notices.items l.self l.notices.items;
  whole : IsWhole l.fn.self → IsWhole l.self;
}

abbrev pub decreases-messages : goal.decreases-messages
decreases-messages l = length (unread_of (context_in l.self))
