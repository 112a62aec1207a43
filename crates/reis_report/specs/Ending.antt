-- The last line of a report: how its session ended.
use Rattle.std.specs.Prelude.{ℕ, List, ◌++◌, codes, Result, Ok, Err}
use Rattle.ei_serve.specs.declared.session.Ended.{Ended}
use Rattle.ei_serve.specs.declared.session.Ended.TheVariants as ended
use Rattle.ei_types.specs.Texts.{error_text}
use Rattle.ei_types.specs.declared.error.Error.{Error}

-- how a session ended, in words
abbrev pub answer_text : Result Ended Error → List ℕ
answer_text (Ok ended.Disconnect) = codes "end disconnect"
answer_text (Ok ended.End) = codes "end eof"
answer_text (Err e) = codes "error " ++ error_text e
