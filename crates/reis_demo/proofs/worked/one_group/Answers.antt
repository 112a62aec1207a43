use Rattle.std.proofs.Common.{refl}
use Rattle.std.specs.Fmt.{digits}
use Rattle.ei_session.proofs.AllOpen.{all_open}
use Rattle.reis_demo.specs.Generated.{drawn, chooser, drawn_state, announcement, introduction, objects_announced, capabilities_announced}
use Rattle.reis_demo.specs.Generated.{finish_message, begins_to_send, opening}
use Rattle.reis_demo.specs.Generated.{drawn_input, drawn_inputs, frame_at, group_size, drawn_group, after_group, groups_from, disconnect_message}
use Rattle.reis_demo.specs.Generated.{generated_messages, cut}
use Rattle.reis_demo.proofs.worked.one_group.Goals as goal

pub returns : goal.returns
unfolding all_open digits drawn chooser drawn_state announcement introduction objects_announced capabilities_announced finish_message begins_to_send opening drawn_input drawn_inputs frame_at group_size drawn_group after_group groups_from disconnect_message generated_messages cut
returns c = record { first_draw = refl; chooser = refl; size = refl; opening = refl; bytes = refl; pieces = refl; answer = refl; requests = refl; inputs = refl; bytes_out = refl; lines = refl }
