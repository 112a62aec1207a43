use Rattle.ei_session.proofs.AskedRows.{asked_row, asked_other, asked_nothing, unread_asked}
use Rattle.ei_session.proofs.meanings.asked_rows.Goals as goal

pub returns : goal.returns
returns c = record { row = asked_row; other = asked_other; nothing = asked_nothing; unread = unread_asked }
