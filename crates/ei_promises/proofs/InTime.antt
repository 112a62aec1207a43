-- Where a handler was called, the server has taken all that the client sent before its sync.
use Rattle.std.proofs.Common.{◌≡◌, ℕ, ◌<◌, true, List, ◌∷◌, ◌++◌, length, sym, ◌∙◌}
use Rattle.ei_spec.specs.Piece.{Piece}
use Rattle.ei_ends.specs.Sent.{Sent}
use Rattle.ei_ends.specs.Way.{End}
use Rattle.ei_ends.specs.Joined.{Joined}
use Rattle.ei_ends.proofs.Answered.{answered}
use Rattle.ei_handler.specs.declared.receipt.Receipt.{Receipt}
use Rattle.ei_event.specs.Converter.{ConverterView as ClientConverter}
use Rattle.ei_promises.specs.Promises.{IsSyncFor, CallsBehind}
use Rattle.ei_promises.specs.Keeping.{WasTaken, KeepsHandlers}

called_behind : (x y : End) (to_client to_server : Piece) → Joined true x y to_client to_server → (r : Receipt) → WasTaken r.callback y.taken → (a b : List Sent) (m : Sent) → y.sent ≡ a ++ (m ∷ b) → IsSyncFor r.callback m → length b < length x.taken
called_behind x y to_client to_server j r t a b m is s =
    answered true x y to_client to_server j.there j.back a b m s.new t.newer t.older t.message t.after j.tied is s.announces t.is (t.target ∙ sym s.callback)

pub in_time : {H : Type 0} (x y : End) (to_client to_server : Piece) (c : ClientConverter H) (next : ℕ) → Joined true x y to_client to_server → KeepsHandlers next y.taken c → CallsBehind c.receipts y.sent (length x.taken)
in_time x y to_client to_server c next j k = record {
  heard = λ r has a b m is s. called_behind x y to_client to_server j r (k.ended r has).0 a b m is s;
  once = k.once;
}
