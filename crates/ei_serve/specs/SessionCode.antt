-- How sessions are told apart as values.
use Rattle.std.specs.Coded.{Coded}
use Rattle.ei_serve.specs.contracts.state.SessionState as session
use Rattle.ei_serve.specs.declared.state.SessionState.{SessionState}

-- by the fields
abbrev pub session_code : Coded SessionState
session_code = session.the_row.coded
