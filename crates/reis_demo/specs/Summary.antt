-- The six lines that the program writes of the session over the generated stream.
use Rattle.std.specs.Prelude.{ℕ, Bool, true, false, List, [], ◌++◌, length, count_by, codes, decimal, Result}
use Rattle.ei_spec.specs.Message.{all_bytes}
use Rattle.ei_spec.specs.Groups.{Timed, Framed, Plain}
use Rattle.ei_spec.specs.Piece.{stream}
use Rattle.ei_session.specs.Requests.{Request, framed}
use Rattle.ei_session.specs.Events.{replies}
use Rattle.ei_session.specs.Served.{Outcome, session}
use Rattle.ei_serve.specs.declared.session.Ended.{Ended}
use Rattle.ei_types.specs.declared.error.Error.{Error}
use Rattle.ei_request.specs.declared.event.EisRequest.{EisRequest}
use Rattle.ei_request.specs.declared.event.EisRequest.TheVariants as request
use Rattle.reis_report.specs.Ending.{answer_text}
use Rattle.reis_report.specs.Report.{line_of}
use Rattle.reis_demo.specs.Generated.{generated, demo_setup}

-- whether a request is an input
abbrev pub is_input : Request → Bool
is_input (Timed device input time) = true
is_input (Framed device serial time) = false
is_input (Plain y) = false

-- a line of a name and a number
abbrev pub number_line : List ℕ → ℕ → List ℕ
number_line name n = line_of (name ++ (codes " " ++ decimal n))

-- the session over the stream
abbrev pub demo_session : ℕ → ℕ → Outcome
demo_session groups start = session demo_setup (generated groups start)

-- its requests; which readings the clock gives makes no difference to how many there are
abbrev pub demo_requests : ℕ → ℕ → List Request
demo_requests groups start = framed demo_setup [] (demo_session groups start).handled

-- six lines: groups, inputs, requests, the bytes of the stream and of the replies, and how a session ended
abbrev pub six_lines : (groups inputs requests bytes_in bytes_out : ℕ) → Result Ended Error → List ℕ
six_lines groups inputs requests bytes_in bytes_out answer =
    number_line (codes "groups") groups
    ++ (number_line (codes "inputs") inputs
    ++ (number_line (codes "requests") requests
    ++ (number_line (codes "bytes in") bytes_in
    ++ (number_line (codes "bytes out") bytes_out
    ++ line_of (answer_text answer)))))

-- those of the session over the stream, where it ended so
abbrev pub demo_lines : ℕ → ℕ → Result Ended Error → List ℕ
demo_lines groups start answer =
    six_lines groups (count_by is_input (demo_requests groups start)) (length (demo_requests groups start)) (length (stream (generated groups start)))
    (length (all_bytes (replies demo_setup (demo_session groups start).handled))) answer

-- ---- requests as the program has them

-- whether a request is an input: any but these
abbrev pub is_input_request : EisRequest → Bool
is_input_request request.Disconnect = false
is_input_request (request.Bind r) = false
is_input_request (request.RequestDevice r) = false
is_input_request (request.DeviceClosed r) = false
is_input_request (request.Frame r) = false
is_input_request (request.Ready r) = false
is_input_request (request.DeviceStartEmulating r) = false
is_input_request (request.DeviceStopEmulating r) = false
is_input_request r = true
