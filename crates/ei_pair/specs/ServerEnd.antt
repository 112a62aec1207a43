-- What holds a server's endpoint, by that.
use Rattle.std.specs.Prelude.{◌≡◌, refl}
use Rattle.ei_backend.specs.Backend.{BackendView}
use Rattle.ei_pair.specs.declared.server_end.ServerEnd.{ServerEnd}
use Rattle.ei_pair.specs.declared.server_end.ServerEnd.TheVariants as end

-- the endpoint
abbrev pub endpoint_in : ServerEnd → BackendView
endpoint_in (end.Shaking context) = context
endpoint_in (end.Talking converter) = converter.handle.ctx

-- the same with another endpoint
abbrev pub with_endpoint_in : ServerEnd → BackendView → ServerEnd
with_endpoint_in (end.Shaking context) b = end.Shaking b
with_endpoint_in (end.Talking converter) b = end.Talking (record converter { handle = record converter.handle { ctx = b } })

pub endpoint_is : (s : ServerEnd) (b : BackendView) → endpoint_in (with_endpoint_in s b) ≡ b
endpoint_is (end.Shaking context) b = refl
endpoint_is (end.Talking converter) b = refl

pub same_endpoint : (s : ServerEnd) → with_endpoint_in s (endpoint_in s) ≡ s
same_endpoint (end.Shaking context) = refl
same_endpoint (end.Talking converter) = refl

pub last_endpoint : (s : ServerEnd) (b c : BackendView) → with_endpoint_in (with_endpoint_in s b) c ≡ with_endpoint_in s c
last_endpoint (end.Shaking context) b c = refl
last_endpoint (end.Talking converter) b c = refl
