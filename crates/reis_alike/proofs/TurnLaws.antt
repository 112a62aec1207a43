-- What a turn came to, by how the connection is behind it.
use Rattle.std.proofs.Common.{◌≡◌, ℕ, true, false, List, [], ◌++◌, Option, Some, None, refl, sym, ap, subst, ◌∙◌}
use Rattle.ei_spec.specs.Message.{Raw, Front, Short, Whole, front, all_bytes}
use Rattle.ei_spec.specs.Stream.{Accepted, Final}
use Rattle.ei_types.specs.declared.error.Error.{Error}
use Rattle.ei_types.specs.declared.error.Error.TheVariants as error
use Rattle.ei_backend.specs.Backend.{BackendView, with_piece}
use Rattle.ei_session.specs.Setup.{Setup}
use Rattle.ei_session.specs.Devices.{exhausts}
use Rattle.ei_session.specs.Refusals.{judge}
use Rattle.ei_session.specs.Events.{reply}
use Rattle.ei_request.specs.declared.event.EisRequest.{EisRequest}
use Rattle.ei_serve.specs.Steps.{Refuses}
use Rattle.reis_eis.specs.declared.ending.Ending.TheVariants as ending
use Rattle.reis_eis.specs.declared.phase.Phase.{Phase}
use Rattle.reis_eis.specs.View.{EisView}
use Rattle.reis_eis.specs.Words.{context_in, unread_of, waiting_of, unsent_in}
use Rattle.reis_alike.specs.Standing.{StandsFor}
use Rattle.reis_alike.specs.Program.{Came, unread_with, HasOneAtMost, Turns}
use Rattle.reis_alike.specs.Alike.{TakesMessage}
use Rattle.reis_alike.proofs.Turning.{Answered}
use Rattle.reis_alike.proofs.Feeding.{Turned, Quiet, Answers, Overflown, Full, fed_with, bytes_with, context_with, some_context, stands_piece, turned}
use Rattle.reis_alike.proofs.Feeding.{Refuses as Refused}

module _ (setup : Setup) (past : List Raw) (readings : List ℕ) (c : Came) (old new : EisView) (handed : List EisRequest) (stands : StandsFor setup past readings old.phase) (one : HasOneAtMost (unread_with old c)) (t : Turns setup c old handed new) where
  abbrev b : BackendView
  b = (some_context setup past readings old.phase stands).0

  context : context_in old.phase ≡ Some b
  context = (some_context setup past readings old.phase stands).1

  came : Turned setup past readings c old.phase b handed new
  came = turned setup past readings c old stands b context handed new t one

  here : bytes_with b c ≡ unread_with old c
  here = ap (λ (o : Option BackendView). unread_of o ++ c.piece.bytes) (sym context)

  at : {x : Front} → front (unread_with old c) ≡ x → front (bytes_with b c) ≡ x
  at f = ap front here ∙ f

  same_unsent : (unsent_in (fed_with old.phase b c)).bytes ≡ (unsent_in old.phase).bytes
  same_unsent = ap (λ (o : Option BackendView). (waiting_of o).bytes) (context_with old.phase b (with_piece c.piece b) context) ∙ ap (λ (o : Option BackendView). (waiting_of o).bytes) (sym context)

  -- ---- none was whole

  abbrev Stays : Type 0
  Stays = (handed ≡ []) × StandsFor setup past readings new.phase × ((unsent_in new.phase).bytes ≡ (unsent_in old.phase).bytes)

  stays : front (unread_with old c) ≡ Short → new.ending ≡ None → Turned setup past readings c old.phase b handed new → Stays
  stays f e (Quiet fits short is none now) = (none, subst (λ (p : Phase). StandsFor setup past readings p) (sym now) (stands_piece setup past readings c.piece old.phase b context stands), ap (λ (p : Phase). (unsent_in p).bytes) now ∙ same_unsent)
  stays f e (Answers fits m after last g l is a) = let z : Short ≡ Whole m after = sym (at f) ∙ g in absurd cc
  stays f e (Refused fits x why some is none) = let z : None ≡ Some (ending.Refused x) = sym e ∙ is in absurd cc
  stays f e (Overflown many is none) = let z : None ≡ Some (ending.Refused error.HandleLimit) = sym e ∙ is in absurd cc
  stays f e (Full is) = let z : None ≡ Some (ending.Refused error.NoMemory) = sym e ∙ is in absurd cc

  pub waits : front (unread_with old c) ≡ Short → new.ending ≡ None → Stays
  waits f e = stays f e came

  -- ---- one was

  message_of : (m : Raw) (after : List ℕ) → Answered setup past m readings c.time after (fed_with old.phase b c) new.ending handed new → TakesMessage setup past m readings c.time old handed new
  message_of m after a = record {
    used = a.used;
    read = a.read;
    stands = a.stands;
    requests = a.requests;
    replies = a.unsent ∙ ap (λ (x : List ℕ). x ++ all_bytes (reply setup past m)) same_unsent;
  }

  same_message : (m other : Raw) (after rest : List ℕ) → Whole other rest ≡ Whole m after → other ≡ m
  same_message m other after rest e = cc

  takes_by : (m : Raw) (after : List ℕ) → front (unread_with old c) ≡ Whole m after → new.ending ≡ None → Turned setup past readings c old.phase b handed new → (judge setup past m ≡ Accepted) × TakesMessage setup past m readings c.time old handed new
  takes_by m after f e (Quiet fits short is none now) = let z : Short ≡ Whole m after = sym short ∙ at f in absurd cc
  takes_by m after f e (Answers fits other rest true g l is a) = let z : None ≡ Some ending.Disconnected = sym e ∙ is in absurd cc
  takes_by m after f e (Answers fits other rest false g l is a) =
      subst (λ (x : Raw). (judge setup past x ≡ Accepted) × TakesMessage setup past x readings c.time old handed new) (same_message m other after rest (sym g ∙ at f)) (l.judged, message_of other rest a)
  takes_by m after f e (Refused fits x why some is none) = let z : None ≡ Some (ending.Refused x) = sym e ∙ is in absurd cc
  takes_by m after f e (Overflown many is none) = let z : None ≡ Some (ending.Refused error.HandleLimit) = sym e ∙ is in absurd cc
  takes_by m after f e (Full is) = let z : None ≡ Some (ending.Refused error.NoMemory) = sym e ∙ is in absurd cc

  pub takes : (m : Raw) (after : List ℕ) → front (unread_with old c) ≡ Whole m after → new.ending ≡ None → (judge setup past m ≡ Accepted) × TakesMessage setup past m readings c.time old handed new
  takes m after f e = takes_by m after f e came

  -- ---- the client disconnected

  ends_by : (m : Raw) (after : List ℕ) → front (unread_with old c) ≡ Whole m after → new.ending ≡ Some ending.Disconnected → Turned setup past readings c old.phase b handed new →
      (judge setup past m ≡ Final) × (exhausts past m ≡ false) × TakesMessage setup past m readings c.time old handed new
  ends_by m after f e (Quiet fits short is none now) = let z : Short ≡ Whole m after = sym short ∙ at f in absurd cc
  ends_by m after f e (Answers fits other rest true g l is a) =
      subst (λ (x : Raw). (judge setup past x ≡ Final) × (exhausts past x ≡ false) × TakesMessage setup past x readings c.time old handed new) (same_message m other after rest (sym g ∙ at f)) (l.judged, l.enough refl, message_of other rest a)
  ends_by m after f e (Answers fits other rest false g l is a) = let z : Some ending.Disconnected ≡ None = sym e ∙ is in absurd cc
  ends_by m after f e (Refused fits x why some is none) = let z : Some ending.Disconnected ≡ Some (ending.Refused x) = sym e ∙ is in absurd cc
  ends_by m after f e (Overflown many is none) = let z : Some ending.Disconnected ≡ Some (ending.Refused error.HandleLimit) = sym e ∙ is in absurd cc
  ends_by m after f e (Full is) = let z : Some ending.Disconnected ≡ Some (ending.Refused error.NoMemory) = sym e ∙ is in absurd cc

  pub disconnects : (m : Raw) (after : List ℕ) → front (unread_with old c) ≡ Whole m after → new.ending ≡ Some ending.Disconnected →
      (judge setup past m ≡ Final) × (exhausts past m ≡ false) × TakesMessage setup past m readings c.time old handed new
  disconnects m after f e = ends_by m after f e came

  -- ---- it was refused

  refuses_by : (e : Error) → new.ending ≡ Some (ending.Refused e) → (e ≡ error.NoMemory → ⊥) → (e ≡ error.HandleLimit → ⊥) → Turned setup past readings c old.phase b handed new → Refuses setup past (unread_with old c) e × (handed ≡ [])
  refuses_by e is some few (Quiet fits short other none now) = let z : Some (ending.Refused e) ≡ None = sym is ∙ other in absurd cc
  refuses_by e is some few (Answers fits m after true g l other a) = let z : Some (ending.Refused e) ≡ Some ending.Disconnected = sym is ∙ other in absurd cc
  refuses_by e is some few (Answers fits m after false g l other a) = let z : Some (ending.Refused e) ≡ None = sym is ∙ other in absurd cc
  refuses_by e is some few (Refused fits x why wants other none) =
      let z : Some (ending.Refused x) ≡ Some (ending.Refused e) = sym other ∙ is in
      let same : x ≡ e = cc in
      (subst (λ (y : Error). Refuses setup past (unread_with old c) y) same (subst (λ (u : List ℕ). Refuses setup past u x) here why), none)
  refuses_by e is some few (Overflown many other none) =
      let z : Some (ending.Refused e) ≡ Some (ending.Refused error.HandleLimit) = sym is ∙ other in
      let same : e ≡ error.HandleLimit = cc in
      absurd (few same)
  refuses_by e is some few (Full other) =
      let z : Some (ending.Refused e) ≡ Some (ending.Refused error.NoMemory) = sym is ∙ other in
      let same : e ≡ error.NoMemory = cc in
      absurd (some same)

  pub refuses : (e : Error) → new.ending ≡ Some (ending.Refused e) → (e ≡ error.NoMemory → ⊥) → (e ≡ error.HandleLimit → ⊥) → Refuses setup past (unread_with old c) e × (handed ≡ [])
  refuses e is some few = refuses_by e is some few came
