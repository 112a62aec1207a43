use Rattle.reis_trace.proofs.WorkedLines.{first_line, connection_line}
use Rattle.reis_trace.proofs.laws.worked_lines.Goals as goal

pub returns : goal.returns
returns c = record { first = first_line; connection = connection_line }
