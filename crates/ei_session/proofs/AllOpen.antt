-- Opens every definition of a session, so that worked streams compute.
use Rattle.std.specs.Str.{is_utf8, chars}
use Rattle.std.specs.Str.Lossy.{utf8_valid_len}
use lib.Utf8.{encode}
use Rattle.ei_spec.specs.Piece.{stream, handle_count}
use Rattle.ei_spec.specs.Message.{le4, le8, of_le4, of_le8, header, bytes_of, front}
use Rattle.ei_spec.specs.Stream.{read, read_within}
use Rattle.ei_spec.specs.Reading.{letters_at, text_at}
use Rattle.ei_spec.specs.History.{last_said, occurs, total, joined, each, since}
use Rattle.ei_spec.specs.Groups.{closes, input_of, group, timed, makes_frame, frames_made, with_frame, gives, grouped}
use Rattle.ei_session.specs.Arguments.{whole, row_args, request_args}
use Rattle.ei_session.specs.Handshake.{is_finish, connected, is_the_finish, announced, announces, settled, version}
use Rattle.ei_session.specs.Handshake.{all_settled}
use Rattle.ei_session.specs.Replies.{settled_events, capability_events, finish_events}
use Rattle.ei_session.specs.Served.{least, too_many_handles}
use Rattle.ei_session.specs.Asked.{asked, asks}
use Rattle.ei_session.specs.Devices.{interfaces_of, releases_seat, seat_is_open, asked_mask, made, ids_given, next_id, exhausts, makes, device_interfaces}
use Rattle.ei_session.specs.Objects.{new_device, handed_over, introduces, introduced, is_release, was_device, is_of, removes, says, object, interfaces_left}
use Rattle.ei_session.specs.Objects.{gone}
use Rattle.ei_session.specs.Serial.{steps, serial}
use Rattle.ei_session.specs.Touches.{input, touches, is_down, puts, touches_down}
use Rattle.ei_session.specs.Refusals.{synced, may_give, came, refusal, is_disconnect, judge}
use Rattle.ei_session.specs.Requests.{item, slot, framed}
use Rattle.ei_session.specs.Events.{device_events, reply, replies}
use Rattle.ei_session.specs.Served.{reading_of, read_first, is_over, over_at, session}

unfoldable pub all_open : Unit {0}
unfolding is_utf8 utf8_valid_len chars encode stream handle_count le4 le8 of_le4 of_le8 header bytes_of front read read_within letters_at text_at last_said occurs total joined each since closes input_of group timed makes_frame frames_made with_frame gives grouped whole row_args request_args is_finish connected is_the_finish announced announces settled version all_settled settled_events capability_events finish_events least too_many_handles asked asks interfaces_of releases_seat seat_is_open asked_mask made ids_given next_id exhausts makes device_interfaces new_device handed_over introduces introduced is_release was_device is_of removes says object interfaces_left gone steps serial input touches is_down puts touches_down synced may_give came refusal is_disconnect judge item slot framed device_events reply replies reading_of read_first is_over over_at session
all_open = tt
