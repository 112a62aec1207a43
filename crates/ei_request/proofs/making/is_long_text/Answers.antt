use Rattle.std.proofs.Common.{ap, ◌∙◌}
use Rattle.ei_session.specs.Replies.{name_event}
use Rattle.ei_request.specs.Making.{is_long_name}
use Rattle.ei_request.proofs.ItemsInTurn.{long_item}
use Rattle.ei_request.proofs.making.is_long_text.Goals as goal

pub returns : goal.returns
returns c = c.is_long.ensures 0 ∙ ap (is_long_name (name_event 0)) c.item_text.ensures ∙ long_item c.args.item.now
