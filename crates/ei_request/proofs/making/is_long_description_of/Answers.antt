use Rattle.std.specs.Option.{option_copied}
use Rattle.ei_request.proofs.ItemsInTurn.{long_name, long_items}
use Rattle.ei_request.proofs.making.is_long_description_of.Goals as goal

pub returns-then-is_long : goal.returns-then-is_long
returns-then-is_long c = λ device. long_name device (option_copied c.args.name) c.args.setup.now c.is_long.result c.if-is_long.true c.is_long.ensures

pub returns-else-is_long : goal.returns-else-is_long
returns-else-is_long c = λ device. long_items device (option_copied c.args.name) c.args.setup.now c.is_long.result c.has_long_text.result c.if-is_long.false c.is_long.ensures c.has_long_text.ensures
