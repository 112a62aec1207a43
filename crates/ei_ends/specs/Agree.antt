-- Which messages are dropped, and the agreement of what one end took with what the other sent. Lists have the newest first.
use Rattle.std.specs.Prelude.{◌≡◌, ℕ, ◌-◌, ◌≤◌, ◌⊎◌, Bool, true, false, ◌||◌, ◌&&◌, List, [], ◌∷◌, ◌++◌, length, drop, map, if◌then◌else◌}
use Rattle.ei_spec.specs.declared.handle.Handle.{Handle}
use Rattle.ei_ends.specs.Sent.{other, Sent, Got, Took, Missed, new_of, handles_in, IsAlike}
use Rattle.ei_ends.specs.Announced.{is_named, destroyed}

-- ---- what is dropped

-- the first so many that were sent
abbrev pub oldest : ℕ → List Sent → List Sent
oldest n sent = drop (length sent - n) sent

-- how many messages an end had sent when it took this
abbrev pub after_of : Got → ℕ
after_of (Took r after) = after
after_of (Missed id after) = after

-- the same of all that it took
abbrev pub afters : List Got → List ℕ
afters gots = map after_of gots

-- an end had sent no fewer messages when it took one than when it took the one before, and has sent this many now
unfoldable pub AreTimes : ℕ → List Got → Type 0
AreTimes now [] = Unit {0}
AreTimes now (g ∷ gots) = (after_of g ≤ now) × AreTimes (after_of g) gots

-- Whether the message that announced the object of that id was itself dropped: the reader had destroyed its target by one
-- of the first so many that it sent (`own`), or the message that announced that target was dropped.
unfoldable pub lost : Bool → List Sent → List Sent → List ℕ → ℕ → Bool
lost events own (m ∷ past) (after ∷ before) id =
    (is_named id (new_of events m) && (destroyed (other events) (oldest after own) m.target || lost events own past before m.target))
    || lost events own past before id
lost events own past before id = false

-- Whether a message to the target is dropped that was sent after `past` and is taken after so many own messages: the
-- reader destroyed the target by one of these, or the message that announced the target was itself dropped.
abbrev pub dropped : Bool → List Sent → List Sent → List ℕ → ℕ → ℕ → Bool
dropped events own past before after target = destroyed (other events) (oldest after own) target || lost events own past before target

-- ---- what was taken is what was sent

-- a message that was sent after `past` was taken so: it is read where it isn't dropped, and its target is told where it is
abbrev pub IsTaken : Bool → List Sent → List Sent → List Got → Sent → Got → Type 0
IsTaken events own past gots m (Took r after) = (after ≤ length own) × (dropped events own past (afters gots) after m.target ≡ false) × IsAlike m r
IsTaken events own past gots m (Missed id after) = (after ≤ length own) × (dropped events own past (afters gots) after m.target ≡ true) × (id ≡ m.target)

-- what was taken is, one by one, what was sent, where `own` is what the reader sent
unfoldable pub Agree : Bool → List Sent → List Sent → List Got → Type 0
Agree events own [] [] = Unit {0}
Agree events own (m ∷ past) (g ∷ gots) = IsTaken events own past gots m g × Agree events own past gots
Agree events own past gots = ⊥

-- ---- what will be taken

-- how the next message will be taken, where it has no handle: by the lists alone
abbrev pub next_got : Bool → List Sent → List Sent → List Got → Sent → Got
next_got events own past gots m =
    if dropped events own past (afters gots) (length own) m.target then Missed m.target (length own) else Took m (length own)

-- what an end that sent `own` has taken, once it took these messages too, the first first
abbrev pub all_got : Bool → List Sent → List Sent → List Got → List Sent → List Got
all_got events own past gots [] = gots
all_got events own past gots (m ∷ ms) = all_got events own (m ∷ past) (next_got events own past gots m ∷ gots) ms

-- each of these messages has no handle, or is dropped
abbrev pub NeedNoHandles : Bool → List Sent → List Sent → List Got → List Sent → Type 0
NeedNoHandles events own past gots [] = Unit {0}
NeedNoHandles events own past gots (m ∷ ms) =
    ((handles_in m ≡ []) ⊎ (dropped events own past (afters gots) (length own) m.target ≡ true))
    × NeedNoHandles events own (m ∷ past) (next_got events own past gots m ∷ gots) ms

-- ---- handles

-- the handles that were sent, the oldest first
unfoldable pub handles_sent : List Sent → List Handle
handles_sent [] = []
handles_sent (m ∷ past) = handles_sent past ++ handles_in m

-- the handles that were taken, the oldest first
unfoldable pub handles_got : List Got → List Handle
handles_got [] = []
handles_got (Took r after ∷ gots) = handles_got gots ++ handles_in r
handles_got (Missed id after ∷ gots) = handles_got gots

-- no message that was dropped had a handle
unfoldable pub KeepsHandles : List Sent → List Got → Type 0
KeepsHandles (m ∷ past) (Missed id after ∷ gots) = (handles_in m ≡ []) × KeepsHandles past gots
KeepsHandles (m ∷ past) (Took r after ∷ gots) = KeepsHandles past gots
KeepsHandles past gots = Unit {0}

-- each message that was taken is the very one that was sent, with its handles
unfoldable pub AllEqual : List Sent → List Got → Type 0
AllEqual (m ∷ past) (Missed id after ∷ gots) = AllEqual past gots
AllEqual (m ∷ past) (Took r after ∷ gots) = (r ≡ m) × AllEqual past gots
AllEqual past gots = Unit {0}
