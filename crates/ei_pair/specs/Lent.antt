-- What waits to be taken out of a pair.
use Rattle.std.specs.Prelude.{Option, None}
use Rattle.ei_input.specs.Queue.{first_of, rest_of}
use Rattle.ei_event.specs.declared.event.EiEvent.{EiEvent}
use Rattle.ei_event.specs.Converter.{with_queue}
use Rattle.ei_request.specs.declared.event.EisRequest.{EisRequest}
use Rattle.ei_promises.specs.Pair.{ClientStage, Asks, Follows, ServerStage, Shakes, Serves}
use Rattle.ei_pair.specs.declared.server_end.ServerEnd.{ServerEnd}
use Rattle.ei_pair.specs.declared.server_end.ServerEnd.TheVariants as end

-- the oldest event that is queued, if there is one
abbrev pub first_event : {H : Type 0} → ClientStage H → Option EiEvent
first_event (Asks h) = None
first_event (Follows c) = first_of c.kept.queue

-- the client without it
abbrev pub without_event : {H : Type 0} → ClientStage H → ClientStage H
without_event (Asks h) = Asks h
without_event (Follows c) = Follows (with_queue (rest_of c.kept.queue) c)

-- the oldest request that is queued, if there is one
abbrev pub first_request : ServerStage → Option EisRequest
first_request (Shakes h) = None
first_request (Serves c) = first_of c.queue

-- the server without it
abbrev pub without_request : ServerStage → ServerStage
without_request (Shakes h) = Shakes h
without_request (Serves c) = Serves (record c { queue = rest_of c.queue })

-- the same at what holds the server's endpoint
abbrev pub first_at : ServerEnd → Option EisRequest
first_at (end.Shaking b) = None
first_at (end.Talking c) = first_of c.queue

abbrev pub without_first : ServerEnd → ServerEnd
without_first (end.Shaking b) = end.Shaking b
without_first (end.Talking c) = end.Talking (record c { queue = rest_of c.queue })
