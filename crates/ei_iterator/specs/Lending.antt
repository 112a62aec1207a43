-- What an iterator ends as, where a `&mut` to its endpoint is returned.
use Rattle.std.specs.Borrow.{Lends, MutBor, Fml, RattleType}
use Rattle.ei_backend.specs.Backend.{BackendView}
use Rattle.ei_client.specs.contracts.context.Context as context
use Rattle.ei_iterator.specs.Iterator.{IteratorView}
use Rattle.ei_iterator.specs.contracts.iterator.EiConvertEventIterator.{the_row}

-- the iterator ends with the endpoint that was left behind the reference
abbrev pub LendsContext : (H : RattleType) → MutBor (IteratorView H.Denot) → MutBor BackendView → Fml
LendsContext H i r = Lends (the_row H) context.the_row i r (λ w. record i.now { context = w })
