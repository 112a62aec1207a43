-- One message, in either phase.
use Rattle.std.proofs.Common.{◌≡◌, ◌⊎◌, inl, inr, ℕ, Bool, true, false, List, [], ◌∷◌, ◌++◌, Option, None, Result, Err, refl, ap, sym, subst, ◌∙◌, arith}
use Rattle.std.proofs.lemmas.List.{append-nil}
use Rattle.ei_spec.specs.declared.handle.Handle.{Handle}
use Rattle.ei_spec.specs.Message.{Raw, Whole, front, all_bytes}
use Rattle.ei_backend.specs.Outside.{Rose, SinkView}
use Rattle.ei_spec.specs.Stream.{Reading, Accepted}
use Rattle.ei_spec.proofs.GoesOn.{read_accepted}
use Rattle.ei_session.specs.Setup.{Setup}
use Rattle.ei_session.specs.Handshake.{connected, is_finish, is_the_finish}
use Rattle.ei_session.specs.Requests.{Request as Asked, item, framed}
use Rattle.ei_session.specs.Replies.{finish_events}
use Rattle.ei_session.specs.Events.{reply, replies}
use Rattle.ei_session.specs.Refusals.{Refusal, judge}
use Rattle.ei_session.proofs.AllParts.{framed_more, replies_more}
use Rattle.ei_session.proofs.BeforeTheFinish.{early_item, early_reply}
use Rattle.ei_session.proofs.GivenByItem.{gives_none, frames_none}
use Rattle.ei_session.proofs.ReplyLaws.{reply_finish}
use Rattle.ei_request.specs.declared.event.EisRequest.{EisRequest}
use Rattle.ei_types.specs.declared.error.Error.{Error}
use Rattle.ei_types.specs.declared.error.Error.TheVariants as error
use Rattle.ei_serve.specs.declared.phase.Phase.{Phase}
use Rattle.ei_serve.specs.declared.phase.Step.{Step}
use Rattle.ei_serve.specs.Around.{Around, around, no_source}
use Rattle.ei_serve.specs.Steps.{Refuses, RefusesStep, IsTold, IsToldInPart, Goes, Breaks, BreaksFull, TellsFinish, TellsFinishInPart, CutsOff, ConnectsPhase, Steps}
use Rattle.ei_serve.proofs.Puts.{puts_one}
use Rattle.ei_serve.proofs.Going.{goes_none, gives_none as gave_none, replies_none, extends}
use Rattle.ei_serve.proofs.Wanted.{fine_of, full_here, full_of_sink}

pub refused_step : (setup : Setup) (past : List Raw) (times rest : List ℕ) (e : Error) (x : Around) → Refuses setup past rest e → RefusesStep setup past times rest e x x
refused_step setup past times rest error.WriteFault x h = absurd h
refused_step setup past times rest error.IdsExhausted x h = absurd h
refused_step setup past times rest error.NoMemory x h = full_here setup past rest h times x
refused_step setup past times rest e x h = (h, goes_none setup past times x)

-- ---- what a message gives

framed_quiet : (setup : Setup) (readings : List ℕ) (past : List Raw) (m : Raw) → item past m ≡ None → framed setup readings (m ∷ past) ≡ framed setup readings past
framed_quiet setup readings past m i =
    framed_more setup readings past m
    ∙ ap (λ (x : List Asked). framed setup readings past ++ x) (gives_none setup readings past m i)
    ∙ append-nil (framed setup readings past)

pub replied : (setup : Setup) (past : List Raw) (m : Raw) (events : List Raw) → reply setup past m ≡ events → replies setup (m ∷ past) ≡ replies setup past ++ events
replied setup past m events e = replies_more setup past m ∙ ap (λ (x : List Raw). replies setup past ++ x) e

module _ (setup : Setup) (past : List Raw) (m : Raw) (events : List Raw) (times : List ℕ) (out : List EisRequest) (readings : Option (List ℕ)) (old new : SinkView) (i : item past m ≡ None) (r : reply setup past m ≡ events) where
  -- a message that gives nothing, and whose answer was told
  pub goes_told : IsTold events old new → Goes setup past (m ∷ past) times [] (around no_source out old readings) (around no_source out new readings)
  goes_told told = record {
    behind = (m ∷ [], refl);
    gives = gave_none setup past (m ∷ past) times out (λ given. framed_quiet setup given past m i);
    replies = record { told = λ held h. (events, replied setup past m events r, told.told held h); puts = puts_one setup past m (all_bytes events) old.puts new.puts (ap all_bytes (sym r)) told.puts; wants = told.wants };
    drawn = λ told is. refl;
    leaves = λ told is. is;
    frames = omega (arith, frames_none setup past m i);
  }

  -- or only in part
  pub breaks_told : (rest after : List ℕ) → front rest ≡ Whole m after → judge setup past m ≡ Accepted → IsToldInPart events old new → Breaks setup past times rest (around no_source out old readings) (around no_source out new readings)
  breaks_told rest after w j told =
      let on = extends (judge setup) (m ∷ past) after in
      record {
        reached = m ∷ past;
        used = [];
        behind = (m ∷ [], refl);
        ahead = (on.0, ap (λ (u : Reading Refusal). u.past) (read_accepted (judge setup) past rest m after w j) ∙ on.1);
        gives = gave_none setup past (m ∷ past) times out (λ given. framed_quiet setup given past m i);
        replies = record { told = λ held h. let t = told.told held h in (events, t.0, replied setup past m events r, t.1); puts = puts_one setup past m (all_bytes events) old.puts new.puts (ap all_bytes (sym r)) told.puts };
        drawn = λ told is. refl;
        leaves = λ told is. is;
        least = omega (arith, frames_none setup past m i);
        most = omega (arith, frames_none setup past m i);
      }

  -- for want of memory of the sink
  full_told : (rest after : List ℕ) → front rest ≡ Whole m after → judge setup past m ≡ Accepted → Rose old.wants new.wants → IsToldInPart events old new → BreaksFull setup past times rest (around no_source out old readings) (around no_source out new readings)
  full_told rest after w j rose told = full_of_sink setup past times rest (around no_source out old readings) (around no_source out new readings) (breaks_told rest after w j told) rose

-- ---- during the handshake

finish_is : (past : List Raw) (m : Raw) (b : Bool) → connected past ≡ false → is_finish m ≡ b → is_the_finish past m ≡ b
unfolding is_the_finish
finish_is past m true e f = rw (e, f) refl
finish_is past m false e f = rw (e, f) refl

-- all but the finish is answered by nothing
pub goes_quiet : (setup : Setup) (past : List Raw) (m : Raw) (times : List ℕ) (x : Around) → connected past ≡ false → is_finish m ≡ false → Goes setup past (m ∷ past) times [] x x
goes_quiet setup past m times x e f = record {
  behind = (m ∷ [], refl);
  gives = gave_none setup past (m ∷ past) times x.out (λ given. framed_quiet setup given past m (early_item past m e));
  replies = replies_none setup past (m ∷ past) x.sink (replied setup past m [] (early_reply past m e setup (finish_is past m false e f)) ∙ append-nil (replies setup past));
  drawn = λ told is. refl;
  leaves = λ told is. is;
  frames = omega (arith, frames_none setup past m (early_item past m e));
}

finish_reply : (setup : Setup) (past : List Raw) (m : Raw) → connected past ≡ false → is_finish m ≡ true → reply setup past m ≡ finish_events setup past
finish_reply setup past m e f = reply_finish setup past m (finish_is past m true e f)

-- the finish is answered by its events
pub goes_finish : (setup : Setup) (past : List Raw) (m : Raw) (times : List ℕ) (out : List EisRequest) (readings : Option (List ℕ)) (old new : SinkView) → connected past ≡ false → is_finish m ≡ true → TellsFinish setup past old new → Goes setup past (m ∷ past) times [] (around no_source out old readings) (around no_source out new readings)
goes_finish setup past m times out readings old new e f told = goes_told setup past m (finish_events setup past) times out readings old new (early_item past m e) (finish_reply setup past m e f) told

-- ---- the answers of a step

pub steps_refused : (setup : Setup) (past : List Raw) (times rest : List ℕ) (handles : List Handle) (r : Result Step Error) (p : Phase) (e : Error) (x : Around) → r ≡ Err e → Refuses setup past rest e → Steps setup past times rest handles r p x x
steps_refused setup past times rest handles r p e x same h = rw same (refused_step setup past times rest e x h)

-- where not all the events of the finish were told
module _ (setup : Setup) (past : List Raw) (m : Raw) (times rest after : List ℕ) (out : List EisRequest) (readings : Option (List ℕ)) (old new : SinkView) (u : connected past ≡ false) (w : front rest ≡ Whole m after) (j : judge setup past m ≡ Accepted) (f : is_finish m ≡ true) where
  abbrev seen : SinkView → Around
  seen sink = around no_source out sink readings

  untold_finish : BreaksFull setup past times rest (seen old) (seen old)
  untold_finish = full_here setup past rest (record { m = m; after = after; front_is = w; wants = inl (fine_of setup past m j) }) times (seen old)

  finish_full : (new ≡ old) ⊎ (Rose old.wants new.wants × TellsFinishInPart setup past old new) → BreaksFull setup past times rest (seen old) (seen new)
  finish_full (inl same) = subst (λ (s : SinkView). BreaksFull setup past times rest (seen old) (seen s)) (sym same) untold_finish
  finish_full (inr told) = full_told setup past m (finish_events setup past) times out readings old new (early_item past m u) (finish_reply setup past m u f) rest after w j told.0 told.1

  finish_cut : (e : Error) → CutsOff setup past e old new → RefusesStep setup past times rest e (seen old) (seen new)
  finish_cut error.WriteFault told = breaks_told setup past m (finish_events setup past) times out readings old new (early_item past m u) (finish_reply setup past m u f) rest after w j told
  finish_cut error.NoMemory c = finish_full c
  finish_cut e c = absurd c

pub steps_cut_off : (setup : Setup) (past : List Raw) (times rest : List ℕ) (handles : List Handle) (r : Result Step Error) (p : Phase) (m : Raw) (after : List ℕ) (e : Error) (out : List EisRequest) (readings : Option (List ℕ)) (old new : SinkView) → r ≡ Err e → connected past ≡ false → front rest ≡ Whole m after → judge setup past m ≡ Accepted → is_finish m ≡ true → CutsOff setup past e old new → Steps setup past times rest handles r p (around no_source out old readings) (around no_source out new readings)
steps_cut_off setup past times rest handles r p m after e out readings old new same u w j f c =
    rw same (finish_cut setup past m times rest after out readings old new u w j f e c)

pub connect_cut_off : (setup : Setup) (before : List Raw) (finish : Raw) (after : List ℕ) (handles : List Handle) (r : Result Unit Error) (p : Phase) (e : Error) (old new : SinkView) → r ≡ Err e → CutsOff setup before e old new → ConnectsPhase setup before finish after handles r p old new
connect_cut_off setup before finish after handles r p e old new same h = rw same h
