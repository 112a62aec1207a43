-- The frame that comes behind inputs of its device alone.
use Rattle.std.proofs.Common.{◌≡◌, ℕ, Bool, cond, List, [], ◌∷◌, None, refl, ap, ◌∙◌}
use Rattle.ei_spec.specs.Groups.{Timed, Framed, Plain as Given}
use Rattle.ei_session.specs.Requests.{Request}
use Rattle.ei_filter.specs.declared.kind.Kind.{Kind}
use Rattle.ei_filter.specs.Kinds.{kind_of, is_input_of, frame_time}
use Rattle.ei_filter.specs.Steps.{frame_ahead}

none_ahead : (device : ℕ) → frame_ahead device [] ≡ None
unfolding frame_ahead
none_ahead device = refl

one_ahead : (device : ℕ) (item : Request) (later : List Request) → frame_ahead device (item ∷ later) ≡ cond (is_input_of device (kind_of item)) (frame_ahead device later) (frame_time device (kind_of item))
unfolding frame_ahead
one_ahead device (Timed d x t) later = refl
one_ahead device (Framed d s t) later = refl
one_ahead device (Given y) later = refl

-- a search that has come to an item: what it is decides
pub item_ahead : (device : ℕ) (items later rest : List Request) (item : Request) (kind : Kind) (b : Bool) → later ≡ item ∷ rest → kind ≡ kind_of item → is_input_of device kind ≡ b →
    frame_ahead device items ≡ frame_ahead device later → frame_ahead device items ≡ cond b (frame_ahead device rest) (frame_time device kind)
item_ahead device items later rest item kind b l k e so = so ∙ ap (frame_ahead device) l ∙ one_ahead device item rest ∙ rw (← k, e) refl

-- a search that has come to the end
pub end_ahead : (device : ℕ) (items later : List Request) → later ≡ [] → frame_ahead device items ≡ frame_ahead device later → frame_ahead device items ≡ None
end_ahead device items later l so = so ∙ ap (frame_ahead device) l ∙ none_ahead device
