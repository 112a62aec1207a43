-- Messages before the finish, and the finish.
use Rattle.std.proofs.Common.{◌≡◌, ℕ, ◌+◌, Bool, true, false, cond, ◌&&◌, ◌||◌, eqb, List, [], ◌∷◌, Option, Some, None, refl, sym, ap, ◌∙◌}
use Rattle.std.proofs.lemmas.Bool.{eqb-true}
use Rattle.ei_spec.specs.declared.interface.KnownInterface.{KnownInterface}
use Rattle.ei_spec.specs.declared.interface.KnownInterface.TheVariants as known
use Rattle.ei_spec.specs.Interface.{name_of}
use Rattle.ei_spec.specs.Message.{Raw}
use Rattle.ei_spec.specs.History.{last_said, total}
use Rattle.ei_spec.proofs.HistoryLaws.{said_before, occurs_or}
use Rattle.ei_session.specs.Setup.{Setup, seat_id}
use Rattle.ei_session.specs.Arguments.{request_args}
use Rattle.ei_session.specs.Asked.{asks}
use Rattle.ei_session.specs.Handshake.{is_finish, connected, is_the_finish, announced_by, announced, announces, version_if, settled, version}
use Rattle.ei_session.specs.Meaning.{Shake, shaking, meaning}
use Rattle.ei_session.specs.Devices.{next_id, device_interfaces}
use Rattle.ei_session.specs.Objects.{Entry, is_release, object, interfaces_left, gone}
use Rattle.ei_session.specs.Serial.{steps, serial}
use Rattle.ei_session.specs.Touches.{input}
use Rattle.ei_session.specs.Refusals.{synced, came}
use Rattle.ei_session.specs.Requests.{item}
use Rattle.ei_session.specs.Events.{reply}
use Rattle.ei_session.specs.ByMeaning.{item_for}
use Rattle.ei_session.specs.Kept.{Keeps, KeepsVersions}
use Rattle.ei_session.proofs.Choices.{and_left, and_right}
use Rattle.ei_session.proofs.ObjectShape.{at_finish, same_connected}
use Rattle.ei_session.proofs.FirstObjects.{the_handshake, never_released, shut_makes_nothing, not_the_finish, object_first}
use Rattle.ei_session.proofs.DeviceRange.{interfaces_kept, left_plain}
use Rattle.ei_session.proofs.SerialLaws.{gone_unknown, gone_plain, steps_quiet}
use Rattle.ei_session.proofs.ItemLaws.{item_unknown}
use Rattle.ei_session.proofs.ItemMeans.{item_asked, input_by}
use Rattle.ei_session.proofs.ReplyLaws.{reply_quiet}
use Rattle.ei_session.proofs.KeptByRequests.{no_step, same_next_id}

-- ---- what there is before the finish

pub early_next : (past : List Raw) → connected past ≡ false → next_id past ≡ seat_id + 1
unfolding next_id total
early_next [] off = refl
early_next (m ∷ past) off = let two = not_the_finish past m off in same_next_id past m (shut_makes_nothing past m two.1) ∙ early_next past two.1

early_interfaces : (past : List Raw) (d : ℕ) → connected past ≡ false → device_interfaces past d ≡ []
unfolding device_interfaces last_said
early_interfaces [] d off = refl
early_interfaces (m ∷ past) d off = let two = not_the_finish past m off in interfaces_kept past m d (shut_makes_nothing past m two.1) ∙ early_interfaces past d two.1

none_left : (past : List Raw) (d : ℕ) → device_interfaces past d ≡ [] → interfaces_left past d ≡ []
unfolding interfaces_left
none_left past d h = rw h refl

pub early_left : (past : List Raw) (d : ℕ) → connected past ≡ false → interfaces_left past d ≡ []
early_left past d off = none_left past d (early_interfaces past d off)

-- ---- what a message before the finish does

-- the handshake, or nothing
data First (o : Option Entry) : Type 0 where
  Shaking : o ≡ Some the_handshake → First o
  Nothing : o ≡ None → First o

first_at : (b : Bool) (o : Option Entry) → o ≡ cond b (Some the_handshake) None → First o
first_at true o h = Shaking h
first_at false o h = Nothing h

first_is : (past : List Raw) (m : Raw) → connected past ≡ false → First (object past m.id)
first_is past m off = first_at (eqb m.id 0) (object past m.id) (object_first past m.id off)

shaken : (past : List Raw) (id : ℕ) (o : Option Shake) → item_for past id None (shaking o) ≡ None
shaken past id None = refl
shaken past id (Some shake) = refl

module _ (past : List Raw) (m : Raw) (off : connected past ≡ false) where
  item_by : First (object past m.id) → item past m ≡ None
  unfolding meaning
  item_by (Shaking k) = item_asked past m the_handshake k ∙ shaken past m.id _
  item_by (Nothing k) = item_unknown past m k

  pub early_item : item past m ≡ None
  early_item = item_by (first_is past m off)

  input_at : First (object past m.id) → input past m ≡ None
  unfolding input
  input_at (Shaking k) = input_by past m the_handshake k
  input_at (Nothing k) = rw (k, input) refl

  pub early_input : input past m ≡ None
  early_input = input_at (first_is past m off)

  no_release : is_release (Some the_handshake) m ≡ false
  unfolding is_release
  no_release = never_released known.Handshake m refl

  gone_by : First (object past m.id) → gone past m ≡ []
  gone_by (Shaking k) = gone_plain past m the_handshake k no_release
  gone_by (Nothing k) = gone_unknown past m k

  pub early_gone : gone past m ≡ []
  early_gone = gone_by (first_is past m off)

  pub early_steps : steps past m ≡ 0
  early_steps = steps_quiet past m (shut_makes_nothing past m off) early_gone

  pub early_synced : synced past m ≡ None
  unfolding synced
  early_synced = rw (off, synced) refl

  reply_by : (setup : Setup) → is_the_finish past m ≡ false → First (object past m.id) → reply setup past m ≡ []
  unfolding reply
  reply_by setup f (Shaking k) = reply_quiet setup past m the_handshake f (shut_makes_nothing past m off) k no_release early_synced
  reply_by setup f (Nothing k) = rw (f, reply, shut_makes_nothing past m off, k, off) refl

  pub early_reply : (setup : Setup) → is_the_finish past m ≡ false → reply setup past m ≡ []
  early_reply setup f = reply_by setup f (first_is past m off)

  same_object : is_the_finish past m ≡ false → (id : ℕ) → object (m ∷ past) id ≡ object past id
  same_object f id = object_first (m ∷ past) id (same_connected past m f ∙ off) ∙ sym (object_first past id off)

  -- a message that isn't the finish keeps all but the versions
  pub early_keeps : (setup : Setup) → is_the_finish past m ≡ false → Keeps setup past m
  early_keeps setup f = record {
    same_objects = same_object f;
    same_left = λ d. left_plain past m d (shut_makes_nothing past m off) (same_object f);
    same_serial = no_step setup past m early_steps;
    same_next = same_next_id past m (shut_makes_nothing past m off);
    same_connected = same_connected past m f;
  }

-- ---- the finish

module _ (past : List Raw) (m : Raw) (f : is_the_finish past m ≡ true) where
  off_yet : connected past ≡ false
  off_yet = (at_finish past m f).1

  pub finish_id : m.id ≡ 0
  unfolding is_finish
  finish_id = eqb-true m.id 0 (and_left (eqb m.id 0) (eqb m.opcode 1) (at_finish past m f).0)

  finish_opcode : m.opcode ≡ 1
  unfolding is_finish
  finish_opcode = eqb-true m.opcode 1 (and_right (eqb m.id 0) (eqb m.opcode 1) (at_finish past m f).0)

  pub finish_serial : (setup : Setup) → serial setup (m ∷ past) ≡ serial setup past
  finish_serial setup = no_step setup past m (early_steps past m off_yet)

  pub finish_next : next_id (m ∷ past) ≡ next_id past
  finish_next = same_next_id past m (shut_makes_nothing past m off_yet)

  pub finish_left : (d : ℕ) → interfaces_left (m ∷ past) d ≡ []
  finish_left d = none_left (m ∷ past) d (interfaces_kept past m d (shut_makes_nothing past m off_yet) ∙ early_interfaces past d off_yet)

  pub finish_item : item past m ≡ None
  finish_item = early_item past m off_yet

  announces_none : (name : List ℕ) → announces name past m ≡ None
  unfolding announces announced
  announces_none name = let other : eqb m.opcode 4 ≡ false = ap (λ (n : ℕ). eqb n 4) finish_opcode in rw (off_yet, announces, announced, other) (by (eqb m.id 0))
    where
      by : (b : Bool) → version_if name (cond (b && false) (announced_by (request_args known.Handshake m)) None) ≡ None
      by true = refl
      by false = refl

  same_settled : (i : KnownInterface) → settled (m ∷ past) i ≡ settled past i
  unfolding settled
  same_settled i = rw (said_before (announces (name_of i)) past m (announces_none (name_of i)), settled) refl

  pub finish_versions : KeepsVersions past m
  unfolding version
  finish_versions = record { same_settled = same_settled; same_version = λ i. rw (same_settled i, version) refl }

-- ---- names and context types that came

pub came_more : (name : List ℕ) (past : List Raw) (m : Raw) → came name (m ∷ past) ≡ ((eqb m.id 0 && asks known.Handshake name m) || came name past)
unfolding came
came_more name past m = occurs_or (λ _ x. eqb x.id 0 && asks known.Handshake name x) past m
