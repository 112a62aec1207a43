-- What stands of an endpoint, whatever memory it has made ready and whatever is unsent.
use Rattle.ei_backend.specs.Outgoing.{nothing}
use Rattle.ei_backend.specs.Backend.{BackendView, with_unsent}
use Rattle.ei_backend.specs.Endpoint.{Endpoint, endpoint_of}

-- its objects and ids, what is unread, and whether it is closed
abbrev pub still : BackendView → Endpoint
still b = endpoint_of (with_unsent nothing b)
