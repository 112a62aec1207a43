use Rattle.std.proofs.Common.{◌≡◌, ◌-◌, ◌⊎◌, List, ℕ, Some, true, false, length}
use Rattle.ei_backend.specs.Outside.{is_end}
use Rattle.reis_lines.specs.Given.{GaveBehind}
use Rattle.reis_lines.specs.Text.{has_newline}
use Rattle.reis_lines.specs.Held.{Moves}
use Rattle.reis_lines.proofs.AskingLaws.{AskedYet}
use Rattle.reis_lines.proofs.held.Held.find_line.Given as goal

abbrev pub invariant-lines : goal.invariant-lines
invariant-lines g l = record {
  text : (text : List ℕ) → (g.I.Input.view l.fn.input).left ≡ Some text → Moves l.fn.self text l.self (g.I.Input.view l.input).left;
  given : GaveBehind (g.I.Input.view l.fn.input).given (g.I.Input.view l.input).given l.fn.self l.self;
  asked : (l.input ≡ l.fn.input) ⊎ (is_end (g.I.Input.view l.input).last ≡ false);
  fetched : AskedYet g.I.Input.view l.fn.input l.input l.fn.self l.self;
  unasked : has_newline l.fn.self ≡ true → l.input ≡ l.fn.input;
  kept : has_newline l.fn.self ≡ true → l.self ≡ l.fn.self;
  kept_count : (g.I.Input.view l.input).faults ≡ (g.I.Input.view l.fn.input).faults;
  later : g.I.Input.later l.fn.input l.input;
}

abbrev pub decreases-lines : goal.decreases-lines
decreases-lines g l = 131073 - length l.self
