use Rattle.reis_lines.proofs.NewlineLaws.{finds_newline}
use Rattle.reis_lines.proofs.held.newline_in.Goals as goal

pub returns : goal.returns
returns c = finds_newline c.memchr.result c.args.bytes.now c.memchr.ensures
