-- What waits at a client that follows its server is handed out to the user.
use Rattle.std.proofs.Common.{◌≡◌, ℕ, List, [], ◌++◌, map, refl, sym, ap, subst, ◌∙◌}
use Rattle.std.proofs.lemmas.List.{append-nil, map-append}
use Rattle.ei_ends.specs.Sent.{Sent}
use Rattle.ei_reported.specs.Said.{Said}
use Rattle.ei_told.specs.Told.{all_said}
use Rattle.ei_event.specs.declared.event.EiEvent.{EiEvent}
use Rattle.ei_event.specs.Kept.{KeptView}
use Rattle.ei_event.specs.Core.{report_of}
use Rattle.ei_event.specs.Converter.{with_queue}
use Rattle.ei_promises.specs.Pair.{ClientStage, Asks, Follows, PairView}
use Rattle.ei_emit.specs.Heard.{Accounts}
use Rattle.ei_emit.specs.Queued.{queue_in, emptied}
use Rattle.ei_emit.specs.Stands.{Script, with_given, Served, Followed, Stands, EmitterView, emitter, StandsFor}

-- the pair, of whose client the events were taken out
abbrev pub emptied_pair : {H : Type 0} → PairView H → PairView H
emptied_pair p = record p { client = emptied p.client }

pub none_queued : {H : Type 0} (k : ClientStage H) → queue_in (emptied k) ≡ []
none_queued (Asks h) = refl
none_queued (Follows c) = refl

-- what was queued is given
all_given : (start : ℕ) (events : List Said) (readings : List ℕ) (given : List EiEvent) (c : KeptView) → Accounts start events readings given c → Accounts start events readings (given ++ c.queue) (record c { queue = [] })
all_given start events readings given c a = record {
  heeds = record {
    follows = record {
      differ = a.heeds.follows.differ;
      seats = a.heeds.follows.seats;
      devices = a.heeds.follows.devices;
      interfaces = a.heeds.follows.interfaces;
      serial = a.heeds.follows.serial;
      frames = a.heeds.follows.frames;
    };
    placed = a.heeds.placed;
  };
  told = λ later.
      a.told later
      ∙ sym (map-append report_of given c.queue)
      ∙ sym (append-nil (map report_of (given ++ c.queue)));
}

module _ {H : Type 0} (s : Script) (p : PairView H) where
  served_so : (said : List Sent) → Served s.start s.before said p → Served s.start s.before said (emptied_pair p)
  served_so said v = record {
    whole = v.whole;
    steady = v.steady;
    wanted = v.wanted;
    server = v.server;
    serves = v.serves;
    endpoint = v.endpoint;
    behind = v.behind;
    emits = v.emits;
  }

  followed_so : (said : List Sent) → Followed s said p → Followed (with_given (queue_in p.client) s) said (emptied_pair p)
  followed_so said f = record {
    wanted = f.wanted;
    client = with_queue [] f.client;
    follows = ap emptied f.follows;
    behind = f.behind;
    none_missed = f.none_missed;
    stay = f.stay;
    accounts = subst (λ (k : ClientStage H). Accounts s.start (all_said said) s.readings (s.given ++ queue_in k) (record f.client.kept { queue = [] })) (sym f.follows)
        (all_given s.start (all_said said) s.readings s.given f.client.kept f.accounts);
  }

  stands_so : Stands s p → Stands (with_given (queue_in p.client) s) (emptied_pair p)
  stands_so t = record { said = t.said; served = served_so t.said t.served; followed = followed_so t.said t.followed; all = t.all }

-- the emitter stands for the script with the events that were given
pub given_out : {H : Type 0} (s : Script) (e : EmitterView H) (p : PairView H) → StandsFor s e → p ≡ emptied_pair e.pair → StandsFor (with_given (queue_in e.pair.client) s) (emitter p e.seat e.devices)
given_out {H} s e p t is =
    subst (λ (q : PairView H). StandsFor (with_given (queue_in e.pair.client) s) (emitter q e.seat e.devices)) (sym is)
    (record { pair = stands_so s e.pair t.pair; seat = t.seat; devices = t.devices })

-- nothing is queued then
pub none_left_in : {H : Type 0} (p old : PairView H) → p ≡ emptied_pair old → queue_in p.client ≡ []
none_left_in {H} p old is = ap (λ (q : PairView H). queue_in q.client) is ∙ none_queued old.client
