-- What one item more does.
use Rattle.std.specs.Prelude.{◌≡◌, ℕ, Bool, true, false, ◌&&◌, List, [], ◌∷◌, Option, Some, None, is_some, ◌==◌, if◌then◌else◌}
use Rattle.ei_spec.specs.Groups.{Timed, Framed, Plain as Given}
use Rattle.ei_session.specs.Requests.{Request}
use Rattle.ei_filter.specs.declared.kind.Kind.{Kind}
use Rattle.ei_filter.specs.declared.kind.Kind.TheVariants as kinds
use Rattle.ei_filter.specs.declared.kind.Touch.{Touch}
use Rattle.ei_filter.specs.declared.past.Group.{Group}
use Rattle.ei_filter.specs.declared.past.Past.{Past}
use Rattle.ei_filter.specs.Begun.{begun_in, passes_as, after_input}
use Rattle.ei_filter.specs.Kinds.{at_time}

-- the time of the frame that comes behind inputs of the device alone, if one does
unfoldable pub frame_ahead : ℕ → List Request → Option ℕ
frame_ahead device [] = None
frame_ahead device (Timed d input time ∷ later) = if d == device then frame_ahead device later else None
frame_ahead device (Framed d serial time ∷ later) = if d == device then Some time else None
frame_ahead device (Given y ∷ later) = None

-- ---- groups

abbrev pub new_group : ℕ → List Request → Group
new_group device later = record { device = device; frame = frame_ahead device later; time = None }

-- the group of an input of the device, with these behind it
abbrev pub group_for : ℕ → List Request → Option Group → Group
group_for device later None = new_group device later
group_for device later (Some g) = if g.device == device then g else new_group device later

-- the time that a group has, or one that may stand for its frame's
abbrev pub IsTimeOf : (ℕ → ℕ → Type 0) → Option ℕ → Option ℕ → ℕ → Type 0
IsTimeOf may frame (Some t) time = time ≡ t
IsTimeOf may (Some own) None time = may own time
IsTimeOf may None None time = ⊥

-- the new time of a frame of the device, where an input of its group passed
abbrev pub time_for : ℕ → Option Group → Option ℕ
time_for device None = None
time_for device (Some g) = if g.device == device then g.time else None

-- ---- an item

-- what is handed out of it
abbrev pub handed : {A : Type 0} → Option A → List A
handed None = []
handed (Some item) = item ∷ []

abbrev pub if_timed : Option ℕ → Request → List Request
if_timed None item = []
if_timed (Some time) item = at_time time item ∷ []

-- an input of the group
abbrev pub PassesInput : (ℕ → ℕ → Type 0) → Bool → Group → Request → Option Group → List Request → Type 0
PassesInput may true g item new grown =
    (time : ℕ) × IsTimeOf may g.frame g.time time
    × (new ≡ Some (record g { time = Some time })) × (grown ≡ at_time time item ∷ [])
PassesInput may false g item new grown = (new ≡ Some g) × (grown ≡ [])

-- whether it passes
abbrev pub passes_in : Group → Touch → Bool → (ℕ → Bool) → Bool
passes_in g touch is_let begun = is_some g.frame && passes_as touch is_let begun

abbrev pub InputGoes : (ℕ → ℕ → Type 0) → Group → ℕ → Touch → Bool → Request → Past → Past → List Request → Type 0
InputGoes may g device touch is_let item old new grown =
    let passes = passes_in g touch is_let (λ t. begun_in device t old.begun.devices.items) in
    PassesInput may passes g item new.group grown
    × (new.begun.devices.items ≡ after_input device touch passes old.begun.devices.items)

-- an item of that kind, with those behind it, which the rules let through or not
abbrev pub Goes : (ℕ → ℕ → Type 0) → Bool → List Request → Request → Kind → Past → Past → List Request → Type 0
Goes may is_let later item (kinds.Input device touch) old new grown =
    InputGoes may (group_for device later old.group) device touch is_let item old new grown
Goes may is_let later item (kinds.Frame device time) old new grown =
    (grown ≡ if_timed (time_for device old.group) item)
    × (new.group ≡ None) × (new.begun.devices.items ≡ old.begun.devices.items)
Goes may is_let later item kinds.Other old new grown =
    (grown ≡ item ∷ []) × (new.group ≡ None) × (new.begun.devices.items ≡ old.begun.devices.items)
