-- Opens the definitions, to compute with them.
use Rattle.std.specs.Str.{is_utf8, chars}
use lib.Utf8.{encode}
use Rattle.ei_spec.specs.Message.{bytes_of, header, le4, le8}
use Rattle.ei_spec.specs.History.{last_said, occurs}
use Rattle.ei_spec.specs.Interface.{known_of}
use Rattle.ei_ends.specs.Sent.{row_of, bytes_in}
use Rattle.ei_ends.specs.Announced.{announced, destroyed, next_own}
use Rattle.ei_greeting.specs.Shaking as greeter
use Rattle.ei_session.specs.Replies.{settled_events}
use Rattle.ei_shaking.specs.Messages.{version_events, asked_by}
use Rattle.ei_shaking.specs.Heard.{shake, name_told, context_told, version_told, event_shake, collected}
use Rattle.ei_shaking.specs.Both.{client_said, server_said}

unfoldable pub all_open : Unit {0}
unfolding is_utf8 chars encode bytes_of header le4 le8 last_said occurs known_of row_of bytes_in announced destroyed next_own greeter.greeting settled_events version_events asked_by shake name_told context_told version_told event_shake collected client_said server_said
all_open = tt
