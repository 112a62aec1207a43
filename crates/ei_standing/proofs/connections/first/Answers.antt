use Rattle.std.proofs.Common.{sym, ap, ◌∙◌}
use Rattle.ei_spec.specs.Message.{all_bytes}
use Rattle.ei_session.proofs.ReplyLaws.{reply_finish}
use Rattle.ei_standing.proofs.FirstHeld.{handed_so, held_first, unsent_first, finish_is, all_first, unread_first, handles_first}
use Rattle.ei_standing.proofs.connections.first.Goals as goal

pub returns : goal.returns
returns c = record {
  handed = handed_so;
  held = λ setup before finish ctx resp new f over adds. held_first setup before finish ctx resp f over new adds;
  unsent = λ setup before finish ctx resp new f over adds. unsent_first setup before finish ctx resp f over new adds;
  all = finish_is;
  answer = λ setup before finish ctx resp new f over adds told. all_first setup before finish ctx resp f over new adds told ∙ ap all_bytes (sym (reply_finish setup before finish f));
  unread = λ setup before finish ctx resp new f over adds. (unread_first setup before finish ctx resp f over new adds, handles_first setup before finish ctx resp f over new adds);
}
