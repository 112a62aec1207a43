-- Why memory is wanted: at the message at the front, and on the way to it.
use Rattle.std.proofs.Common.{◌≡◌, ◌⊎◌, inl, inr, ℕ, ◌≤◌, Bool, true, false, ◌||◌, List, [], ◌∷◌, ◌++◌, length, Option, Some, None, refl, sym, ap, ◌∙◌, subst, arith}
use Rattle.std.specs.Option.{option_map}
use Rattle.std.proofs.lemmas.List.{length-append}
use Rattle.ei_spec.specs.Interface.{ObjectView}
use Rattle.ei_spec.specs.Message.{Raw, Front, Short, Unlawful, Whole, front}
use Rattle.ei_spec.specs.Stream.{Verdict, Reading, Accepted, Final, Refused, read}
use Rattle.ei_spec.proofs.GoesOn.{read_accepted, read_final, read_refused}
use Rattle.ei_backend.proofs.Lending.{rose_since}
use Rattle.ei_backend.specs.Message.{target_wants, front_wants}
use Rattle.ei_backend.specs.Outside.{Rose, SinkView}
use Rattle.ei_backend.specs.Table.{TableView, found}
use Rattle.ei_session.specs.Setup.{Setup}
use Rattle.ei_session.specs.Devices.{exhausts}
use Rattle.ei_session.specs.Objects.{Entry, object}
use Rattle.ei_session.specs.Refusals.{Refusal, refusal, verdict, is_disconnect, judge}
use Rattle.ei_standing.specs.Standing.{object_of}
use Rattle.ei_serve.specs.Around.{Around}
use Rattle.ei_serve.specs.Steps.{Goes, Breaks, BreaksFull}
use Rattle.ei_serve.specs.Wanting.{entry_wants, MayWant, StopWants, IsWanted}
use Rattle.ei_serve.proofs.Going.{extends, breaks_here, breaks_then}

-- ---- where reading stops at the front

-- a message that is handled is more than those before it
one_more : (m : Raw) (more past : List Raw) → past ≡ more ++ (m ∷ past) → ⊥
one_more m more past e = absurd (omega (arith, ap length e, length-append more (m ∷ past)))

unrefused_by : (b : Bool) (cause : Refusal) → verdict None b ≡ Refused cause → ⊥
unrefused_by true cause e = cc
unrefused_by false cause e = cc

-- what isn't refused isn't judged so
unrefused : (setup : Setup) (past : List Raw) (m : Raw) (cause : Refusal) → refusal setup past m ≡ None → judge setup past m ≡ Refused cause → ⊥
unfolding judge
unrefused setup past m cause fine j =
    let last = is_disconnect past m || exhausts past m in
    unrefused_by last cause (sym (ap (λ (o : Option Refusal). verdict o last) fine) ∙ j)

fine_by : (o : Option Refusal) (b : Bool) → verdict o b ≡ Accepted → o ≡ None
fine_by None b e = refl
fine_by (Some cause) b e = absurd cc

-- what is accepted isn't refused
pub fine_of : (setup : Setup) (past : List Raw) (m : Raw) → judge setup past m ≡ Accepted → refusal setup past m ≡ None
unfolding judge
fine_of setup past m j = fine_by (refusal setup past m) (is_disconnect past m || exhausts past m) j

module _ (setup : Setup) (past : List Raw) (rest : List ℕ) (w : MayWant setup past rest) where
  wants_by : (cause : Refusal) → judge setup past w.m ≡ Refused cause → (refusal setup past w.m ≡ None) ⊎ (entry_wants (object past w.m.id) w.m.opcode ≡ true) → entry_wants (object past w.m.id) w.m.opcode ≡ true
  wants_by cause j (inl fine) = absurd (unrefused setup past w.m cause fine j)
  wants_by cause j (inr wants) = wants

  stops_by : (v : Verdict Refusal) → judge setup past w.m ≡ v → past ≡ (read (judge setup) past rest).past → StopWants (read (judge setup) past rest)
  stops_by Accepted j e =
      let on = extends (judge setup) (w.m ∷ past) w.after in
      absurd (one_more w.m on.0 past (e ∙ ap (λ (r : Reading Refusal). r.past) (read_accepted (judge setup) past rest w.m w.after w.front_is j) ∙ on.1))
  stops_by Final j e = absurd (one_more w.m [] past (e ∙ ap (λ (r : Reading Refusal). r.past) (read_final (judge setup) past rest w.m w.after w.front_is j)))
  stops_by (Refused cause) j e =
      rw (read_refused (judge setup) past rest w.m w.after cause w.front_is j) (record { cause = cause; stop = refl; m = w.m; after = w.after; front_is = w.front_is; wants = wants_by cause j w.wants })

  -- where no more can be reached, reading stops at what may take memory to be read
  pub wanted_here : (old new : SinkView) → IsWanted (read (judge setup) past rest) past old new
  wanted_here old new e = inr (stops_by (judge setup past w.m) refl e)

  -- none of it was given or answered
  pub full_here : (times : List ℕ) (x : Around) → BreaksFull setup past times rest x x
  unfolding breaks_here
  full_here times x = record { breaks = breaks_here setup past times rest x; wanted = wanted_here x.sink x.sink }

-- the sink wanted it
pub full_of_sink : (setup : Setup) (past : List Raw) (times rest : List ℕ) (x y : Around) → Breaks setup past times rest x y → Rose x.sink.wants y.sink.wants → BreaksFull setup past times rest x y
full_of_sink setup past times rest x y breaks rose = record { breaks = breaks; wanted = λ e. inl rose }

-- ---- on the way

wanted_by : (r q : Reading Refusal) (x y z : SinkView) → r ≡ q → x.wants ≤ y.wants → Rose y.wants z.wants ⊎ StopWants q → Rose x.wants z.wants ⊎ StopWants r
wanted_by r q x y z same later (inl rose) = inl (rose_since x.wants y.wants z.wants later rose)
wanted_by r q x y z same later (inr stop) = inr (subst StopWants (sym same) stop)

-- what is wanted since later is wanted since earlier
pub wanted_since : (r q : Reading Refusal) (reached : List Raw) (x y z : SinkView) → r ≡ q → x.wants ≤ y.wants → IsWanted q reached y z → IsWanted r reached x z
wanted_since r q reached x y z same later w e = wanted_by r q x y z same later (w (e ∙ ap (λ (t : Reading Refusal). t.past) same))

pub full_then : (setup : Setup) (a b : List Raw) (times u s t : List ℕ) (x y z : Around) → read (judge setup) a s ≡ read (judge setup) b t → Goes setup a b times u x y → BreaksFull setup b (times ++ u) t y z → BreaksFull setup a times s x z
unfolding breaks_then
full_then setup a b times u s t x y z same g h = record {
  breaks = breaks_then setup a b times u s t x y z same g h.breaks;
  wanted = wanted_since (read (judge setup) a s) (read (judge setup) b t) h.breaks.reached x.sink y.sink z.sink same g.replies.wants h.wanted;
}

-- ---- what reading the front may take

target_so : (past : List Raw) (m : Raw) (o : Option ObjectView) (e : Option Entry) → o ≡ option_map (object_of m.id) e → target_wants false o m.opcode ≡ true → entry_wants e m.opcode ≡ true
target_so past m o None is w = absurd (let z : target_wants false None m.opcode ≡ true = subst (λ (t : Option ObjectView). target_wants false t m.opcode ≡ true) is w in cc)
target_so past m o (Some e) is w = subst (λ (t : Option ObjectView). target_wants false t m.opcode ≡ true) is w

front_so : (setup : Setup) (past : List Raw) (rest : List ℕ) (t : TableView) (f : Front) → ((id : ℕ) → found t id ≡ option_map (object_of id) (object past id)) → front rest ≡ f → front_wants false t f ≡ true → MayWant setup past rest
front_so setup past rest t Short there is w = absurd cc
front_so setup past rest t (Unlawful n) there is w = absurd cc
front_so setup past rest t (Whole m after) there is w = record { m = m; after = after; front_is = is; wants = inr (target_so past m (found t m.id) (object past m.id) (there m.id) w) }

-- where the table has these objects
pub front_may : (setup : Setup) (past : List Raw) (rest : List ℕ) (t : TableView) → ((id : ℕ) → found t id ≡ option_map (object_of id) (object past id)) → front_wants false t (front rest) ≡ true → MayWant setup past rest
front_may setup past rest t there w = front_so setup past rest t (front rest) there refl w
