-- What the program writes, and the status that it ends with.
use Rattle.std.specs.Prelude.{◌≡◌, ◌≤◌, ◌⊎◌, ℕ, List, [], ◌∷◌, ◌++◌, length, take, codes, decimal, Option, Some, Ok, Err}
use Rattle.ei_backend.specs.Outside.{Piece}
use Rattle.ei_request.specs.declared.event.EisRequest.{EisRequest}
use Rattle.ei_types.specs.declared.error.Error.{Error}
use Rattle.ei_types.specs.declared.error.Error.TheVariants as error
use Rattle.reis_report.specs.Ending.{answer_text}
use Rattle.reis_report.specs.Report.{line_of, reply_line, Holds}
use Rattle.reis_report.specs.RequestLine.{request_text}
use Rattle.reis_trace.specs.Traced.{traced_bytes}
use Rattle.reis_run.specs.declared.session.LastLine.{LastLine}
use Rattle.reis_run.specs.declared.session.LastLine.TheVariants as last_line
use Rattle.reis_run.specs.declared.tell.Form.{Form}
use Rattle.reis_run.specs.declared.tell.Form.TheVariants as form

-- a line for each request
abbrev pub request_lines : List EisRequest → List ℕ
request_lines [] = []
request_lines (r ∷ rs) = line_of (request_text r) ++ request_lines rs

-- the last line of a report
abbrev pub last_text : LastLine → List ℕ
last_text (last_line.Answer answer) = answer_text answer
last_text (last_line.BadLine n) = codes "error bad line " ++ decimal n

-- what a report tells: the reply bytes, the requests, and how the session ended
pub record Report : Type 0 where
  pub reply : List ℕ
  pub requests : List EisRequest
  pub last : LastLine

-- the text of a report
abbrev pub report_text : Report → List ℕ
report_text r = reply_line r.reply ++ request_lines r.requests ++ line_of (last_text r.last)

-- the same with the trace of the reply bytes behind it, as a fresh client reads them
abbrev pub traced_text : Report → List ℕ
traced_text r = report_text r ++ traced_bytes r.reply

-- the text that is told of a session
abbrev pub told_text : Form → Report → List ℕ
told_text form.Plain r = report_text r
told_text form.Traced r = traced_text r

-- the status of an error: a read fault is 3, want of memory 5, a refusal 1; the replies are kept in memory, so a sink that failed wanted some
abbrev pub status_of_error : Error → ℕ
status_of_error error.ReadFault = 3
status_of_error error.WriteFault = 5
status_of_error error.NoMemory = 5
status_of_error e = 1

-- the status of how a session ended: a bad line is 3
abbrev pub status_of : LastLine → ℕ
status_of (last_line.Answer (Ok e)) = 0
status_of (last_line.Answer (Err e)) = status_of_error e
status_of (last_line.BadLine n) = 3

-- a front of the text went to the sink
abbrev pub HoldsFront : Piece → List ℕ → Option Piece → Type 0
HoldsFront held text now = (n : ℕ) × (n ≤ length text) × Holds held (take n text) now

-- all of the text was written and the status is this one, or a front of it was, and the output failed or memory ran out
abbrev pub Tells : ℕ → List ℕ → Piece → ℕ → Option Piece → Type 0
Tells status text held result now =
    ((result ≡ status) × Holds held text now) ⊎ (((result ≡ 4) ⊎ (result ≡ 5)) × HoldsFront held text now)

-- A report of which this is so was told by that text: with the status of how its session ended, or 4 or 5 where less was written.
pub record Reports (Is : Report → Type 0) (text_of : Report → List ℕ) (result : ℕ) (before now : Option Piece) : Type 0 where
  pub report : Report
  pub is : Is report
  pub status : (result ≡ status_of report.last) ⊎ ((result ≡ 4) ⊎ (result ≡ 5))
  pub told : (held : Piece) → before ≡ Some held → Tells (status_of report.last) (text_of report) held result now
