-- A server that does steady acts says nothing that is refused.
use Rattle.std.proofs.Common.{◌≡◌, ℕ, true, List, [], ◌∷◌, ◌++◌, Option, Some, None, refl, sym, ap, subst, ◌∙◌}
use Rattle.std.specs.Prelude.{is_some, find}
use Rattle.ei_spec.specs.Piece.{Piece}
use Rattle.ei_spec.specs.declared.interface.KnownInterface.TheVariants as known
use Rattle.ei_backend.specs.Table.{found}
use Rattle.ei_ends.specs.Sent.{Sent}
use Rattle.ei_ends.specs.Way.{onto, End}
use Rattle.ei_ends.specs.Joined.{Joined}
use Rattle.ei_reported.specs.Said.{Said, said}
use Rattle.ei_reported.specs.Reported.{refusal}
use Rattle.ei_steady.specs.Steady.{NoneRefused, after}
use Rattle.ei_steady.proofs.StandsOn as stands_on
use Rattle.ei_told.specs.Told.{event_of, all_said, after_connection, behind_it, messages, NoneMissed, NeverRefused}
use Rattle.ei_told.proofs.Telling.{more_taken, never_refused}
use Rattle.ei_request.specs.Held.{SeatView, DeviceView, is_device}
use Rattle.ei_request.specs.Connection.{ConnectionView}
use Rattle.ei_acts.specs.Holding.{is_a_seat, said_by, StandsWith, KeepsSteady}
use Rattle.ei_acts.specs.There.{IdsDiffer, AllBelow, device_ids, seat_ids, AllInTable, AllSeatsThere}
use Rattle.ei_acts.specs.Acting.{Act, Rests, Resumes, Pauses, StartsEmulating, StopsEmulating, EndsFrame, SendsInput, TellsMissing, Answers, AddsSeat, AddsDevice, RemovesDevice, RemovesSeat, Disconnects}
use Rattle.ei_acts.specs.Acting.{sent_by, IsQuiet, Makes, IsSteady, Does, AllDone, all_sent, left_by, IsFresh}
use Rattle.ei_acts.proofs.Parts.{not_both}
use Rattle.ei_acts.proofs.Holds.{owner, all_interfaces, AreSame, all_same, HoldsNoMore, stands_on as holds_on}
use Rattle.ei_acts.proofs.Staying.{devices_stay, seats_stay}
use Rattle.ei_acts.proofs.Steadying.{below_more, resumed_steady, paused_steady, start_steady, stop_steady, frame_steady, invalid_steady, answer_steady, seat_comes_steady}
use Rattle.ei_acts.proofs.AnnouncedThere.{of_device}
use Rattle.ei_acts.proofs.Inputting.{input_steady}
use Rattle.ei_acts.proofs.DeviceSteady.{device_of_seat_steady}
use Rattle.ei_acts.proofs.GoingSteady.{device_goes_steady}
use Rattle.ei_acts.proofs.SeatSteady.{said_both, seat_goes_steady, disconnected_steady}

-- ---- nothing is sent

quiet_more : (old new : ConnectionView) → IsQuiet old new → HoldsNoMore old new
quiet_more old new q = record {
  next = q.next;
  seats = q.no_seat;
  devices = subst (AreSame old.devices) (sym q.devices) (all_same old.devices);
  there = λ h. record {
    devices = subst (AllInTable new.ctx.table) (sym q.devices) (devices_stay old.ctx.table new.ctx.table old.devices (λ id f i. q.stays id i.interface (of_device i.interface i.of_device) i.there) (λ id f i. q.stays id known.Device refl i) h.devices);
    seats = subst (AllSeatsThere new.ctx.table) (sym q.seats) (seats_stay old.ctx.table new.ctx.table old.seats (λ id f i. q.stays id known.Seat refl i) h.seats);
    seats_differ = subst (λ (ss : List SeatView). IdsDiffer (seat_ids ss)) (sym q.seats) h.seats_differ;
    seats_below = subst (λ (ss : List SeatView). AllBelow new.ctx.table.next_own (seat_ids ss)) (sym q.seats) (below_more old.ctx.table.next_own new.ctx.table.next_own (seat_ids old.seats) q.next h.seats_below);
  };
}

quiet_steady : (old new : ConnectionView) → IsQuiet old new → KeepsSteady [] old new
quiet_steady old new q before s = (tt, holds_on before old new (quiet_more old new q) s)

-- ---- each act

moved : (ms : List Sent) (old made new : ConnectionView) → new ≡ made → KeepsSteady ms old made → KeepsSteady ms old new
moved ms old made new e k = subst (KeepsSteady ms old) (sym e) k

made_steady : (a : Act) (old new : ConnectionView) → IsSteady a old → Makes a old new → KeepsSteady (sent_by a old) old new
made_steady Rests old new s d = quiet_steady old new d
made_steady (Resumes key device) old new s d = moved (sent_by (Resumes key device) old) old _ new d.1 (resumed_steady old key device d.0)
made_steady (Pauses key device) old new s d = moved (sent_by (Pauses key device) old) old _ new d.1 (paused_steady old key device d.0)
made_steady (StartsEmulating key device sequence) old new s d = moved (sent_by (StartsEmulating key device sequence) old) old _ new d.1 (start_steady old key device sequence d.0)
made_steady (StopsEmulating key device) old new s d = moved (sent_by (StopsEmulating key device) old) old _ new d.1 (stop_steady old key device d.0)
made_steady (EndsFrame key device time) old new s d = moved (sent_by (EndsFrame key device time) old) old _ new d.1 (frame_steady old key device time d.0)
made_steady (SendsInput message) old new s d = moved (sent_by (SendsInput message) old) old _ new d (input_steady old message s)
made_steady (TellsMissing id) old new s d = moved (sent_by (TellsMissing id) old) old _ new d (invalid_steady old id)
made_steady (Answers id meaning time) old new s d = moved (sent_by (Answers id meaning time) old) old _ new d.1.1 (answer_steady (record { handle = old; queue = d.1.0 }) id meaning time d.0)
made_steady (AddsSeat name given) old new s d = seat_comes_steady old new name given d
made_steady (AddsDevice key seat name kind wanted items) old new s d = device_of_seat_steady old new key seat name kind wanted items d.1 d.0 s
made_steady (RemovesDevice key) old new s d = device_goes_steady old new key d
made_steady (RemovesSeat id) old new s d = seat_goes_steady old new id d
made_steady (Disconnects reason text) old new s d = disconnected_steady old new reason text d

pub act_steady : (a : Act) (old new : ConnectionView) → Does a old new → KeepsSteady (sent_by a old) old new
act_steady a old new d = made_steady a old new d.steady d.made

-- ---- several

none_some : (a : ℕ) → ◌≡◌ {A = Option ℕ} None (Some a) → ⊥
none_some a h = absurd cc

pub begins : (c : ConnectionView) → IsFresh c → StandsWith [] c
begins c f = record {
  stands = record {
    seats = λ id e. absurd (not_both (is_a_seat (found c.ctx.table id)) e (f.no_seat id));
    devices = λ id e. absurd (not_both (is_some (find (is_device id) c.devices)) e (ap (λ (ds : List DeviceView). is_some (find (is_device id) ds)) f.devices));
    interfaces = λ id device e. absurd (none_some device (sym (ap (owner id) f.devices) ∙ e));
  };
  devices = subst (λ (ds : List DeviceView). IdsDiffer (device_ids ds)) (sym f.devices) tt;
  interfaces = subst (λ (ds : List DeviceView). IdsDiffer (all_interfaces ds)) (sym f.devices) tt;
  there = record {
    devices = subst (AllInTable c.ctx.table) (sym f.devices) tt;
    seats = subst (AllSeatsThere c.ctx.table) (sym f.seats) tt;
    seats_differ = subst (λ (ss : List SeatView). IdsDiffer (seat_ids ss)) (sym f.seats) tt;
    seats_below = subst (λ (ss : List SeatView). AllBelow c.ctx.table.next_own (seat_ids ss)) (sym f.seats) tt;
  };
}

pub all_steady : (steps : List (Act × ConnectionView)) (c : ConnectionView) → AllDone c steps → (before : List Said) → StandsWith before c → NoneRefused before (said_by (all_sent c steps)) × StandsWith (after before (said_by (all_sent c steps))) (left_by c steps)
all_steady [] c d before s = (tt, s)
all_steady (step ∷ steps) c d before s =
    let one = act_steady step.0 c step.1 d.0 before s in
    let first : List Said = said_by (sent_by step.0 c) in
    let rest = all_steady steps step.1 d.1 (after before first) one.1 in
    let says : said_by (sent_by step.0 c ++ all_sent step.1 steps) ≡ first ++ said_by (all_sent step.1 steps) = said_both (sent_by step.0 c) (all_sent step.1 steps) in
    let both : NoneRefused before (first ++ said_by (all_sent step.1 steps)) × StandsWith (after before (first ++ said_by (all_sent step.1 steps))) (left_by step.1 steps) = (
      stands_on.none_both before first (said_by (all_sent step.1 steps)) one.0 rest.0,
      subst (λ (l : List Said). StandsWith l (left_by step.1 steps)) (sym (stands_on.after_both before first (said_by (all_sent step.1 steps)))) rest.1,
    ) in
    subst (λ (l : List Said). NoneRefused before l × StandsWith (after before l) (left_by step.1 steps)) (sym says) both

pub never : (c : ConnectionView) (steps : List (Act × ConnectionView)) → IsFresh c → AllDone c steps → NeverRefused (after [] (said_by (all_sent c steps)))
never c steps f d = more_taken [] (said_by (all_sent c steps)) tt (all_steady steps c d [] (begins c f)).0

pub stands : (c : ConnectionView) (steps : List (Act × ConnectionView)) → IsFresh c → AllDone c steps → StandsWith (after [] (said_by (all_sent c steps))) (left_by c steps)
stands c steps f d = (all_steady steps c d [] (begins c f)).1

-- ---- in the list of all that was sent

pub said_onto : (ms past : List Sent) → all_said (onto ms past) ≡ after (all_said past) (said_by ms)
said_onto [] past = refl
said_onto (m ∷ ms) past = said_onto ms (m ∷ past)

pub connection_onto : (ms past all : List Sent) → after_connection past ≡ Some all → after_connection (onto ms past) ≡ Some (onto ms all)
unfolding after_connection
connection_onto [] past all e = e
connection_onto (m ∷ ms) past all e = connection_onto ms (m ∷ past) (m ∷ all) (ap (behind_it m) e)

-- ---- at the client

pub never_at_client : (x y : End) (to_y to_x : Piece) (c : ConnectionView) (steps : List (Act × ConnectionView)) (ms : List Sent) (r : Sent) → Joined true x y to_y to_x → NoneMissed y.taken → IsFresh c → AllDone c steps →
    after_connection x.sent ≡ Some (onto (all_sent c steps) []) → after_connection (messages y.taken) ≡ Some (r ∷ ms) → refusal (all_said ms) (said (event_of r)) ≡ None
never_at_client x y to_y to_x c steps ms r j none f d sent taken =
    never_refused x y to_y to_x (onto (all_sent c steps) []) ms r j none sent (subst NeverRefused (sym (said_onto (all_sent c steps) [])) (never c steps f d)) taken
