-- What a value ends as, where a `&mut` into it is returned.
use Rattle.std.proofs.Common.{◌≡◌}
use Rattle.std.specs.Borrow.{GName}
use mathlib.Core.Option.{Option}
use borrow.Follows.Closed.{read_of}

-- two ways to say what it ends as, that say the same at each value left behind the reference
pub same_read : {D E : Type 0} (name : Option GName) (f g : E → D) (v : D) → ((w : E) → f w ≡ g w) → read_of name f v ≡ read_of name g v
same_read name f g v e = λ i. read_of name (λ w. e w i) v
