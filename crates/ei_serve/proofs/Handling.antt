-- Every whole message, one after another.
use Rattle.std.proofs.Common.{◌≡◌, ℕ, ◌+◌, ◌≤◌, Bool, true, false, cond, Some, None, List, [], ◌∷◌, ◌++◌, length, Option, Result, Ok, Err, refl, ap}
use Rattle.std.proofs.Common.{sym, subst, ◌∙◌, append_assoc, arith}
use Rattle.std.proofs.lemmas.List.{append-nil}
use Rattle.ei_spec.specs.declared.handle.Handle.{Handle}
use Rattle.ei_spec.specs.Reading.{HeaderLength}
use Rattle.ei_spec.specs.Message.{Raw, Short, Unlawful, front}
use Rattle.ei_spec.specs.Stream.{Reading, read}
use Rattle.ei_spec.proofs.FrontLaws.{shorter}
use Rattle.ei_spec.proofs.GoesOn.{read_short, read_unlawful, read_accepted, read_final, read_refused}
use Rattle.ei_session.specs.Setup.{Setup}
use Rattle.ei_backend.specs.Endpoint.{Endpoint}
use Rattle.ei_session.specs.Refusals.{Refusal as Cause, Parse, judge}
use Rattle.ei_session.specs.Served.{Disconnect, IdsExhausted, Refused, answer_at}
use Rattle.ei_types.specs.declared.error.Error.{Error}
use Rattle.ei_types.specs.declared.error.Error.TheVariants as error
use Rattle.ei_wire.specs.declared.error.ParseError.TheVariants as parse_error
use Rattle.ei_serve.specs.declared.phase.Phase.{Phase}
use Rattle.ei_serve.specs.declared.phase.Phase.TheVariants as phase
use Rattle.ei_serve.specs.declared.phase.Step.TheVariants as step
use Rattle.ei_serve.specs.declared.session.Turn.{Turn}
use Rattle.ei_serve.specs.Around.{Around}
use Rattle.ei_serve.specs.Standing.{StandsAt, unread_in}
use Rattle.ei_serve.specs.Refusing.{refusal_of}
use Rattle.ei_serve.specs.Steps.{Goes, RefusesFront, RefusesStep, EndsWith, Waits, HandlesOne, Steps}
use Rattle.ei_serve.specs.Turning.{HandlesOn, HandlesTo, HandlesToRefusal, RefusesAll, HandlesAll}
use Rattle.ei_serve.proofs.Going.{goes_none, goes_then, breaks_then}
use Rattle.ei_serve.proofs.Wanted.{full_then}

-- the messages handled so far, the readings used, and what is unread; each of the n rounds took at least a byte
pub record Handling (setup : Setup) (past : List Raw) (times rest : List ℕ) (handles : List Handle) (n : ℕ) (p : Phase) (old new : Around) : Type 0 where
  pub now : List Raw
  pub used : List ℕ
  pub unread : List ℕ
  pub same : read (judge setup) past rest ≡ read (judge setup) now unread
  pub phase : StandsAt setup now (times ++ used) unread handles p
  pub fewer : length unread + n ≤ length rest
  pub goes : Goes setup past now times used old new

pub with_times : (setup : Setup) (past : List Raw) (a b rest : List ℕ) (handles : List Handle) (p : Phase) → a ≡ b → StandsAt setup past a rest handles p → StandsAt setup past b rest handles p
with_times setup past a b rest handles p e s = subst (λ (t : List ℕ). StandsAt setup past t rest handles p) e s

-- no reading is used before the connection
pub none_used : (times : List ℕ) → times ≡ [] → times ++ [] ≡ []
none_used times e = append-nil times ∙ e

pub none_yet : (setup : Setup) (past : List Raw) (times rest : List ℕ) (handles : List Handle) (p : Phase) (x : Around) → StandsAt setup past times rest handles p → Handling setup past times rest handles 0 p x x
none_yet setup past times rest handles p x s = record {
  now = past;
  used = [];
  unread = rest;
  same = refl;
  phase = with_times setup past times (times ++ []) rest handles p (sym (append-nil times)) s;
  fewer = omega arith;
  goes = goes_none setup past times x;
}

module _ (setup : Setup) (past : List Raw) (times rest : List ℕ) (handles : List Handle) (n : ℕ) (p q : Phase) (x y z : Around) (h : Handling setup past times rest handles n p x y) where
  -- one message more
  one_more_by : HandlesOne setup h.now (times ++ h.used) h.unread handles q y z → Handling setup past times rest handles (n + 1) q x z
  one_more_by s =
      let less = shorter h.unread s.m s.after s.front_is in
      record {
        now = s.m ∷ h.now;
        used = h.used ++ s.used;
        unread = s.after;
        same = h.same ∙ read_accepted (judge setup) h.now h.unread s.m s.after s.front_is s.accepted;
        phase = with_times setup (s.m ∷ h.now) ((times ++ h.used) ++ s.used) (times ++ (h.used ++ s.used)) s.after handles q (append_assoc times h.used s.used) s.stands;
        fewer = omega (arith, less, h.fewer);
        goes = goes_then setup past h.now (s.m ∷ h.now) times h.used s.used x y z h.goes s.goes;
      }

  pub one_more : Steps setup h.now (times ++ h.used) h.unread handles (Ok step.Handled) q y z → Handling setup past times rest handles (n + 1) q x z
  one_more s = one_more_by s

  -- what was read, where reading goes on to this
  all_of : (r : Reading Cause) → read (judge setup) h.now h.unread ≡ r → read (judge setup) past rest ≡ r
  all_of r e = h.same ∙ e

  goes_all : (r : Reading Cause) (used : List ℕ) → read (judge setup) h.now h.unread ≡ r → Goes setup h.now r.past (times ++ h.used) used y z → Goes setup past (read (judge setup) past rest).past times (h.used ++ used) x z
  goes_all r used e g = rw (all_of r e) (goes_then setup past h.now r.past times h.used used x y z h.goes g)

  waits_by : Waits setup h.now (times ++ h.used) h.unread handles q y z → HandlesOn setup past times rest handles q x z
  waits_by s =
      let e = read_short (judge setup) h.now h.unread s.short in
      let stands = with_times setup h.now (times ++ h.used) (times ++ (h.used ++ [])) h.unread handles q (ap (λ (u : List ℕ). times ++ u) (sym (append-nil h.used))) s.stands in
      record { used = h.used ++ []; stands = rw (all_of _ e) (record { waits = refl; phase = stands }); goes = goes_all _ [] e s.goes }

  pub waits : Steps setup h.now (times ++ h.used) h.unread handles (Ok step.Waiting) q y z → HandlesOn setup past times rest handles q x z
  waits s = waits_by s

  -- the message was the last
  ends_so : (b : Bool) → EndsWith setup h.now (times ++ h.used) h.unread b y z → HandlesTo setup past times rest (cond b IdsExhausted Disconnect) x z
  ends_so b s =
      let e = read_final (judge setup) h.now h.unread s.m s.after s.front_is s.final in
      record {
        used = h.used ++ [];
        answer_is = ap (λ (r : Reading Cause). answer_at r) (all_of _ e) ∙ ap (λ (b : Bool). cond b IdsExhausted Disconnect) s.exhausts_is;
        goes = goes_all _ [] e s.goes;
      }

  pub ends : Steps setup h.now (times ++ h.used) h.unread handles (Ok step.Disconnect) q y z → HandlesTo setup past times rest Disconnect x z
  ends s = ends_so false s

  refused_so : (refusal : Option Cause) → RefusesFront setup h.now h.unread refusal → Goes setup h.now h.now (times ++ h.used) [] y z → HandlesToRefusal setup past times rest refusal x z
  refused_so None f g = absurd f
  refused_so (Some refusal) f g =
      let e = read_refused (judge setup) h.now h.unread f.0 f.1 refusal f.2 f.3 in
      record { used = h.used ++ []; answer_is = ap (λ (r : Reading Cause). answer_at r) (all_of _ e); goes = goes_all _ [] e g }

  unlawful_so : (k : ℕ) → front h.unread ≡ Unlawful k → Goes setup h.now h.now (times ++ h.used) [] y z → HandlesTo setup past times rest (Refused (Parse (HeaderLength k))) x z
  unlawful_so k f g =
      let e = read_unlawful (judge setup) h.now h.unread k f in
      record { used = h.used ++ []; answer_is = ap (λ (r : Reading Cause). answer_at r) (all_of _ e); goes = goes_all _ [] e g }

  pub refuses_all : (e : Error) → RefusesStep setup h.now (times ++ h.used) h.unread e y z → RefusesAll setup past times rest e x z
  refuses_all error.WriteFault s = breaks_then setup past h.now times h.used rest h.unread x y z h.same h.goes s
  refuses_all error.NoMemory s = full_then setup past h.now times h.used rest h.unread x y z h.same h.goes s
  refuses_all error.IdsExhausted s = ends_so true s
  refuses_all (error.Parse (parse_error.HeaderLength k)) s = unlawful_so k s.0 s.1
  refuses_all e s = refused_so (refusal_of e) s.0 s.1

-- no byte is left after as many rounds as there were bytes
nothing_left : (bytes : List ℕ) → length bytes ≡ 0 → front bytes ≡ Short
unfolding front
nothing_left [] e = refl
nothing_left (b ∷ bytes) e = absurd (omega (arith, e))

pub all_read : (setup : Setup) (past : List Raw) (times rest : List ℕ) (handles : List Handle) (n : ℕ) (p : Phase) (x y : Around) → Handling setup past times rest handles n p x y → n ≡ length rest → HandlesOn setup past times rest handles p x y
all_read setup past times rest handles n p x y h e =
    let none : length h.unread ≡ 0 = omega (arith, h.fewer, e) in
    let s = read_short (judge setup) h.now h.unread (nothing_left h.unread none) in
    record { used = h.used; stands = rw (h.same ∙ s) (record { waits = refl; phase = h.phase }); goes = rw (h.same ∙ s) h.goes }

-- so many bytes are unread in a phase that stands
pub unread_at : (setup : Setup) (past : List Raw) (times rest : List ℕ) (handles : List Handle) (p : Phase) → StandsAt setup past times rest handles p → unread_in p ≡ length rest
unread_at setup past times rest handles (phase.Handshake b h) s = ap (λ (e : Endpoint). length e.unread) s.1.endpoint
unread_at setup past times rest handles (phase.Connected c) s = ap length s.unread
unread_at setup past times rest handles phase.Over s = absurd s

-- the rounds ended with as many as there were bytes
pub all_rounds : (n len rest : ℕ) → len ≤ n → n ≤ len → len ≡ rest → n ≡ rest
all_rounds n len rest least most e = omega (arith, least, most, e)

pub refused : (setup : Setup) (past : List Raw) (times rest : List ℕ) (handles : List Handle) (n : ℕ) (p q : Phase) (x y z : Around) (h : Handling setup past times rest handles n p x y) (r : Result Turn Error) (e : Error) → r ≡ Err e → Steps setup h.now (times ++ h.used) h.unread handles (Err e) q y z → HandlesAll setup past times rest handles r q x z
refused setup past times rest handles n p q x y z h r e same s = rw same (refuses_all setup past times rest handles n p q x y z h e s)
