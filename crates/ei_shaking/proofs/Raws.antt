-- The messages of the handshakes as they lie on a stream.
use Rattle.std.proofs.Common.{◌≡◌, ℕ, List, [], ◌∷◌, ◌++◌, map, Option, Some, None, refl, ap}
use Rattle.std.specs.Option.{option_map}
use Rattle.std.specs.List.{filter_map}
use Rattle.std.specs.FinMap as finite
use Rattle.ei_spec.specs.declared.interface.KnownInterface.{KnownInterface}
use Rattle.ei_spec.specs.Interface.{name_of, the_settled}
use Rattle.ei_spec.specs.Message.{Raw}
use Rattle.ei_spec.specs.NameMap.{NameMap}
use Rattle.ei_session.specs.Replies as replies
use Rattle.ei_ends.specs.Sent.{Sent, raw_of}
use Rattle.ei_greeting.specs.Shaking.{Greeter}
use Rattle.ei_greeting.specs.Shaking as greeter
use Rattle.ei_shaking.specs.Messages.{version_event, version_if, version_events, connection_event, settled_by, asked_by}
use Rattle.ei_shaking.proofs.AllOpen.{all_open}

pub asked_raws : (g : Greeter) → map raw_of (asked_by g) ≡ greeter.greeting g 0
unfolding all_open
asked_raws g = refl

version_raw : (i : KnownInterface) (v : ℕ) → raw_of (version_event i v) ≡ replies.settled_event 0 i v
version_raw i v = refl

some_raws : (versions : NameMap) (is : List KnownInterface) (more : List Sent) → map raw_of (filter_map (version_if versions) is ++ more) ≡
    filter_map (λ (i : KnownInterface). option_map (replies.settled_event 0 i) (finite.get versions (name_of i))) is ++ map raw_of more
some_raws versions [] more = refl
some_raws versions (i ∷ is) more = by (finite.get versions (name_of i)) refl (some_raws versions is more)
  where
    by : (o : Option ℕ) → finite.get versions (name_of i) ≡ o →
        map raw_of (filter_map (version_if versions) is ++ more) ≡ filter_map (λ (k : KnownInterface). option_map (replies.settled_event 0 k) (finite.get versions (name_of k))) is ++ map raw_of more →
        map raw_of (filter_map (version_if versions) (i ∷ is) ++ more) ≡ filter_map (λ (k : KnownInterface). option_map (replies.settled_event 0 k) (finite.get versions (name_of k))) (i ∷ is) ++ map raw_of more
    by None e next = rw e next
    by (Some v) e next = rw e (ap (λ (l : List Raw). raw_of (version_event i v) ∷ l) next)

pub settled_raws : (versions : NameMap) (serial id : ℕ) → map raw_of (settled_by versions serial id) ≡ replies.settled_events 0 (λ i. finite.get versions (name_of i)) ++ (replies.connection_event 0 serial id ∷ [])
unfolding version_events replies.settled_events
settled_raws versions serial id = some_raws versions the_settled (connection_event serial id ∷ [])
