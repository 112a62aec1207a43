use Rattle.ei_steady.proofs.StandsOn.{aside, disconnected, told, input, modifiers}
use Rattle.ei_steady.proofs.laws.quiet.Goals as goal

pub returns : goal.returns
returns c = record {
  aside = aside;
  disconnected = disconnected;
  told = told;
  input = input;
  modifiers = modifiers;
}
