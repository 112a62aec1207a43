use Rattle.std.proofs.Common.{◌≡◌, Option, Some, None, refl, sym, ◌∙◌}
use Rattle.std.specs.Option.{option_copied_mut, ghost_name_of}
use Rattle.std.specs.Borrow.{MutBor}
use borrow.Follows.Closed.{read_of}
use Rattle.ei_by_id.proofs.Maps.{got, written, differ_written}
use Rattle.ei_by_id.proofs.ById.get_mut.Goals as goal

-- two ways to say what the values end as, that say the same at each value left behind the reference, if there is one
same_if : {D V : Type 0} (r : Option (MutBor V)) (f g : V → D) (v : D) → ((old : V) → option_copied_mut r ≡ Some old → (w : V) → f w ≡ g w) →
    read_of (ghost_name_of r) f v ≡ read_of (ghost_name_of r) g v
same_if None f g v h = refl
same_if (Some r) f g v h = λ i. read_of (ghost_name_of (Some r)) (λ w. h r.now refl w i) v

pub invariant_of-self-lent : goal.invariant_of-self-lent
invariant_of-self-lent g c = λ o. (λ w. differ_written c.self.inside.values.items c.args.id w c.self.invariant, c.self.invariant)

pub returns : goal.returns
returns g c = rw (← c.self.view_is) (
  same_if c.get_mut.result _ _ _ (λ old found w. written c.self.inside.values.items c.args.id old w (sym c.get_mut.ensures.value ∙ found)),
  record { writes_back = tt; value = c.get_mut.ensures.value ∙ sym (got c.self.inside.values.items c.args.id) },
)
