-- What a client that follows its server heard, step by step.
use Rattle.std.proofs.Common.{◌≡◌, ℕ, ◌-◌, ◌<◌, ◌≤◌, true, false, ◌⊎◌, inl, inr, List, [], ◌∷◌, ◌++◌, map, length, drop, get_or, Option, Some, None, Result, Ok, Err, refl, sym, ap, subst, ◌∙◌, append_assoc, arith}
use Rattle.std.proofs.lemmas.List.{append-nil, length-append, drop-drop, get_or_append_left, get_or-append_right, get_or-drop}
use Rattle.std.proofs.lemmas.Bool.{cases_lt}
use Rattle.ei_spec.specs.History.{joined}
use Rattle.ei_types.specs.declared.error.Error.{Error}
use Rattle.ei_backend.specs.declared.message.PendingRequestResult.{PendingRequestResult}
use Rattle.ei_backend.specs.declared.message.PendingRequestResult.TheVariants as pending
use Rattle.ei_ends.specs.Sent.{Sent, Got, Took, Missed}
use Rattle.ei_ends.specs.Way.{End}
use Rattle.ei_client.specs.declared.event.Event.{Event}
use Rattle.ei_client.specs.declared.event.Event.TheVariants as event
use Rattle.ei_client.specs.declared.connection.Event.TheVariants as connection
use Rattle.ei_input.specs.declared.input_event.InputEvent.{InputEvent}
use Rattle.ei_reported.specs.Said.{Said, said}
use Rattle.ei_reported.specs.Reported.{Report, tells}
use Rattle.ei_reported.specs.Changes.{NewIdsDiffer}
use Rattle.ei_told.specs.Told.{all_said, messages}
use Rattle.ei_linked.specs.declared.side.Side.TheVariants as side
use Rattle.ei_linked.specs.Stored.{got_view, sent_view, having_read}
use Rattle.ei_linked.specs.declared.record.Got.{Got as StoredGot}
use Rattle.ei_linked.specs.declared.record.Record.{Record}
use Rattle.ei_linked.specs.Written.{stored_onto}
use Rattle.ei_event.specs.declared.event.EiEvent.{EiEvent}
use Rattle.ei_event.specs.Typed.{heard as heard_as, said_of, IsLawfulReason}
use Rattle.ei_event.specs.Kept.{KeptView}
use Rattle.ei_event.specs.Core.{core_of, report_of}
use Rattle.ei_event.specs.Handles.{Times, Handles as HandlesTold}
use Rattle.ei_event.specs.Converter.{ConverterView as ClientConverter, ping_in}
use Rattle.ei_following.specs.Core.{closed_group, used_by}
use Rattle.ei_heeding.specs.Heeding.{Heeds, HeedsOne, HeedsBy, IsHeard}
use Rattle.ei_promises.specs.Pair.{ClientStage, Follows, PairView}
use Rattle.ei_promises.specs.Stepping.{as_step, ponged, ponged_on, ReadsEvent, HasReason, MissesEvent, HandsEvent, ClientSteps, client_taken}
use Rattle.ei_promises.proofs.Events.{message_of}
use Rattle.ei_promises.proofs.Received.{event_taken, gone_taken}
use Rattle.ei_emit.specs.Carried.{Moment, moment, AnyAnswer, IsMoved, Takes, GoesOn, GoesBy}
use Rattle.ei_emitting.specs.Emits.{is_ping}
use Rattle.ei_emit.specs.Heard.{Gave, Accounts, AccountsOn, GoesOnOver, Hears}

-- ---- what the laws of the converter say

pub record HearingLaws : Type 0 where
  pub says : (e : Event) → IsLawfulReason e → said (heard_as e) ≡ said_of e
  pub handled : (start : ℕ) (before : List Said) (readings : List ℕ) (c new : KeptView) (e : Event) (told now : Option (List ℕ)) (result : Result Unit Error) →
      Heeds start before readings c → NewIdsDiffer (said_of e ∷ before) → HandlesTold c e told now result new → IsHeard result → HeedsBy start before e readings told now c new

-- ---- the clock

pub gave_none : (before now : Option (List ℕ)) → now ≡ before → Gave [] before now
gave_none before now e = record {
  are = λ told is k lt. absurd (omega (arith, lt));
  left = λ told is. e ∙ is;
}

by_place : (one more told : List ℕ) (k : ℕ) → ((j : ℕ) → j < length one → get_or one j 0 ≡ get_or told j 0) → ((j : ℕ) → j < length more → get_or more j 0 ≡ get_or (drop (length one) told) j 0) → k < length (one ++ more) → (k < length one) ⊎ (length one ≤ k) →
    get_or (one ++ more) k 0 ≡ get_or told k 0
by_place one more told k g h lt (inl front) = get_or_append_left one more 0 k front ∙ g k front
by_place one more told k g h lt (inr back) =
    let len = length-append one more in
    get_or-append_right one more (length one) k 0 refl back ∙ h (k - length one) (omega (arith, back, lt, len))
    ∙ get_or-drop (length one) told (k - length one) 0 ∙ ap (λ (n : ℕ). get_or told n 0) (omega (arith, back))

pub gave_more : (one more : List ℕ) (a b c : Option (List ℕ)) → Gave one a b → Gave more b c → Gave (one ++ more) a c
gave_more one more a b c g h = record {
  are = λ told is k lt. by_place one more told k (g.are told is) (h.are (drop (length one) told) (g.left told is)) lt (cases_lt k (length one));
  left = λ told is. h.left (drop (length one) told) (g.left told is) ∙ ap (λ (l : List ℕ). let o : Option (List ℕ) = Some l in o) (drop-drop (length more) (length one) told ∙ ap (λ (n : ℕ). drop n told) (sym (length-append one more)));
}

gave_times : (group : List InputEvent) (time : ℕ) (before now : Option (List ℕ)) → Times group time before now → Gave (used_by group time) before now
gave_times [] time before now t = gave_none before now t
gave_times (i ∷ is) time before now t = record {
  are = λ told is k lt. let first : k ≡ 0 = omega (arith, lt) in rw first (t told is).is;
  left = λ told is. (t told is).left;
}

-- ---- the account

-- one event more
accounts_one : (start : ℕ) (events : List Said) (readings used : List ℕ) (given : List EiEvent) (c new : KeptView) (e : Event) → Accounts start events readings given c → HeedsOne start events e readings used c new →
    Accounts start (said_of e ∷ events) (readings ++ used) given new
unfolding joined
accounts_one start events readings used given c new e a h = record {
  heeds = h.heeds;
  told = λ later.
      let now : List Report = tells start ((readings ++ used) ++ later) events (said_of e) in
      ap (λ (r : List ℕ). joined (tells start r) events ++ now) (append_assoc readings used later)
      ∙ ap (λ (l : List Report). l ++ now) (a.told (used ++ later))
      ∙ append_assoc (map report_of given) (map report_of c.queue) now
      ∙ ap (λ (l : List Report). map report_of given ++ l) (sym (h.queue later));
}

none_over : (c : KeptView) (before now : Option (List ℕ)) → now ≡ before → GoesOnOver [] c c before now
none_over c before now e = λ start events readings given a differ. record {
  used = [];
  gave = gave_none before now e;
  accounts = subst (λ (r : List ℕ). Accounts start events r given c) (sym (append-nil readings)) a;
}

-- more events and then one more
one_over : (laws : HearingLaws) (more : List Said) (e : Event) (c k new : KeptView) (a b d : Option (List ℕ)) → GoesOnOver more c k a b → HandlesTold k e b d (Ok tt) new → GoesOnOver (said_of e ∷ more) c new a d
one_over laws more e c k new a b d over handles = λ start events readings given account differ.
    let so : AccountsOn start (more ++ events) readings given a b k = over start events readings given account differ.1 in
    let h : HeedsBy start (more ++ events) e (readings ++ so.used) b d k new = laws.handled start (more ++ events) (readings ++ so.used) k new e b d (Ok tt) so.accounts.heeds differ handles tt in
    let last : List ℕ = used_by (closed_group (core_of k) (said_of e)) h.time in
    record {
      used = so.used ++ last;
      gave = gave_more so.used last a b d so.gave (gave_times (closed_group (core_of k) (said_of e)) h.time b d h.clock);
      accounts = subst (λ (r : List ℕ). Accounts start (said_of e ∷ (more ++ events)) r given new) (append_assoc readings so.used last)
          (accounts_one start (more ++ events) (readings ++ so.used) last given k new e so.accounts h.one);
    }

-- ---- what is sent

quiet : (e : Event) → is_ping (message_of e) ≡ false → ping_in e ≡ None
quiet (event.Connection target (connection.Ping ping)) f = absurd cc
quiet e f = refl

no_pong : (answer : Result Unit Error) (e : Event) → ping_in e ≡ None → ponged_on answer e ≡ []
no_pong (Ok t) e is = ap ponged is
no_pong (Err why) e is = refl

-- ---- one step

-- an answer that took the message
was_ok : (answer : Result Unit Error) → Ok true ≡ as_step answer → answer ≡ Ok tt
was_ok (Ok t) e = refl
was_ok (Err why) e = absurd cc

module _ (laws : HearingLaws) {H : Type 0} (f : ClientConverter H) (first : Moment H) where
  -- bytes came or went
  moved_on : (old new : Moment H) → IsMoved old.pair new.pair → new.told ≡ old.told → Hears f first old → Hears f first new
  moved_on old new m told h = record {
    left = h.left;
    follows = ap (λ (p : PairView H). p.client) m.kept ∙ h.follows;
    gots = h.gots;
    taken = ap (λ (l : List StoredGot). map got_view l) m.same.client_taken ∙ h.taken;
    hears = subst (λ (t : Option (List ℕ)). GoesOnOver (all_said (messages h.gots)) f.kept h.left.kept first.told t) (sym told) h.hears;
    silent = λ none. ap (λ (l : List Record). map sent_view l) m.same.client_sent ∙ h.silent none;
  }

  -- a message to no object was skipped
  skipped : (id : ℕ) (old new : Moment H) → ReadsEvent (Some (pending.InvalidObject id)) old.pair.ends (client_taken old.pair).ends → new.pair ≡ client_taken old.pair → new.told ≡ old.told → Hears f first old → Hears f first new
  skipped id old new reads is told h =
      let one = gone_taken true id old.pair.ends.client reads in
      record {
        left = h.left;
        follows = ap (λ (p : PairView H). p.client) is ∙ h.follows;
        gots = Missed id (length old.pair.ends.client.sent) ∷ h.gots;
        taken = ap (λ (p : PairView H). map got_view p.ends.client.taken) is ∙ ap (λ (x : End). x.taken) one ∙ ap (λ (l : List Got). Missed id (length old.pair.ends.client.sent) ∷ l) h.taken;
        hears = subst (λ (t : Option (List ℕ)). GoesOnOver (all_said (messages h.gots)) f.kept h.left.kept first.told t) (sym told) h.hears;
        silent = λ none. ap (λ (p : PairView H). map sent_view p.ends.client.sent) is ∙ ap (λ (x : End). x.sent) one ∙ h.silent none;
      }

  -- an event was heard
  heard_one : (e : Event) (old new : Moment H) (h : Hears f first old) → IsLawfulReason e → ReadsEvent (Some (pending.Request e)) old.pair.ends (client_taken old.pair).ends →
      HandsEvent AnyAnswer (Follows h.left) e old.told new.told (client_taken old.pair) (Ok true) new.pair → Hears f first new
  heard_one e old new h lawful reads s =
      let one = event_taken e old.pair.ends.client reads in
      let handles : HandlesTold h.left.kept e old.told new.told (Ok tt) s.left.kept = subst (λ (r : Result Unit Error). HandlesTold h.left.kept e old.told new.told r s.left.kept) (was_ok s.answer s.answers) s.handles in
      record {
        left = s.left;
        follows = ap (λ (p : PairView H). p.client) s.leaves;
        gots = Took (message_of e) (length old.pair.ends.client.sent) ∷ h.gots;
        taken = ap (λ (p : PairView H). map got_view p.ends.client.taken) s.leaves ∙ ap (λ (x : End). x.taken) one ∙ ap (λ (l : List Got). Took (message_of e) (length old.pair.ends.client.sent) ∷ l) h.taken;
        hears = subst (λ (x : Said). GoesOnOver (x ∷ all_said (messages h.gots)) f.kept s.left.kept first.told new.told) (sym (laws.says e lawful))
            (one_over laws (all_said (messages h.gots)) e f.kept h.left.kept s.left.kept first.told old.told new.told h.hears handles);
        silent = λ none. ap (λ (p : PairView H). map sent_view p.ends.client.sent) s.leaves ∙ ap (λ (l : List Sent). map sent_view (stored_onto false l (having_read true old.pair.ends.client).sent)) (no_pong s.answer e (quiet e none.0)) ∙ ap (λ (x : End). x.sent) one ∙ h.silent none.1;
      }

  -- the side took a message, or bytes alone came or went
  by_answer : (answer : Option (PendingRequestResult Event)) (old new : Moment H) → HasReason answer → ReadsEvent answer old.pair.ends (client_taken old.pair).ends →
      ClientSteps AnyAnswer answer old.told new.told old.pair (client_taken old.pair) (Ok true) new.pair → Hears f first old → Hears f first new
  by_answer None old new reason reads s h = absurd (let e = s.0 in cc)
  by_answer (Some (pending.InvalidObject id)) old new reason reads s h =
      let m = subst (λ (k : ClientStage H). MissesEvent k id (client_taken old.pair) (Ok true) new.pair) h.follows s.0 in
      skipped id old new reads m.1 s.1 h
  by_answer (Some (pending.Request e)) old new reason reads s h =
      heard_one e old new h reason reads (subst (λ (k : ClientStage H). HandsEvent AnyAnswer k e old.told new.told (client_taken old.pair) (Ok true) new.pair) h.follows s)
  by_answer (Some (pending.ParseError e)) old new reason reads s h = absurd s

  step_on : (old new : Moment H) → Takes side.Client old new → Hears f first old → Hears f first new
  step_on old new (inl t) h = by_answer t.answer old new t.reason t.reads t.steps h
  step_on old new (inr w) h = absurd (let e = w.answers in cc)

  goes_one : (old new : Moment H) → GoesOn side.Client old new → Hears f first old → Hears f first new
  goes_one old new g h = by g.takes (moved_on old (moment g.moved old.told) g.moves refl h)
    where
      by : Takes side.Client (moment g.moved old.told) new ⊎ (new ≡ moment g.moved old.told) → Hears f first (moment g.moved old.told) → Hears f first new
      by (inl t) k = step_on (moment g.moved old.told) new t k
      by (inr e) k = subst (λ (m : Moment H). Hears f first m) (sym e) k

  hears_none : first.pair.client ≡ Follows f → Hears f first first
  hears_none is = record { left = f; follows = is; gots = []; taken = refl; hears = none_over f.kept first.told first.told refl; silent = λ none. refl }

  pub goes_by : first.pair.client ≡ Follows f → (between : List (Moment H)) (last : Moment H) → GoesBy side.Client between first last → Hears f first last
  goes_by is [] last g = subst (λ (m : Moment H). Hears f first m) (sym g) (hears_none is)
  goes_by is (m ∷ earlier) last g = goes_one m last g.0 (goes_by is earlier m g.1)
