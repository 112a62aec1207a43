use Rattle.reis_alike.proofs.TurnLaws.{waits, takes, disconnects, refuses}
use Rattle.reis_alike.proofs.laws.turns.Goals as goal

pub returns : goal.returns
returns c = record {
  waits = waits;
  takes = λ setup past readings after c old new handed m stands one t. takes setup past readings c old new handed stands one t m after;
  disconnects = λ setup past readings after c old new handed m stands one t. disconnects setup past readings c old new handed stands one t m after;
  refuses = λ setup past readings c old new handed e stands one t. refuses setup past readings c old new handed stands one t e;
}
