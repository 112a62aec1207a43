use Rattle.std.proofs.Common.{◌≡◌, ◌+◌, ◌≤◌, ◌++◌, take}
use Rattle.std.specs.Prelude.{vec_len, vec_capacity}
use Rattle.ei_backend.specs.Endpoint.{endpoint_of}
use Rattle.ei_request.specs.Connection.{version_in}
use Rattle.ei_request.specs.Costs.{Spends, interfaces_cost}
use Rattle.ei_request.specs.Making.{announces_all, objects_of}
use Rattle.ei_request.proofs.MadeInTurn.{so_far}
use Rattle.ei_request.proofs.making.interfaces.Given as goal

-- the interfaces so far are announced, and the room for the others is left
abbrev pub invariant-loop-one : goal.invariant-loop-one
invariant-loop-one l = record {
  made : endpoint_of l.ctx ≡ announces_all (endpoint_of l.fn.ctx) (version_in l.versions) l.device.id (so_far l.allowed.given l.allowed.wanted (take l.one-index l.one-items));
  listed : l.objects.items ≡ l.fn.objects.items ++ objects_of (endpoint_of l.fn.ctx) (version_in l.versions) (so_far l.allowed.given l.allowed.wanted (take l.one-index l.one-items));
  spends : Spends (interfaces_cost (so_far l.allowed.given l.allowed.wanted (take l.one-index l.one-items))) l.fn.ctx l.ctx;
  len : vec_len l.objects ≤ vec_len l.fn.objects + l.one-index;
  capacity : vec_capacity l.objects ≡ vec_capacity l.fn.objects;
}
