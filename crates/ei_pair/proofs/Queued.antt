-- What was queued at a side was handed out: what a pair keeps holds.
use Rattle.std.proofs.Common.{◌≡◌, List, Option, Some, refl, sym, subst}
use Rattle.ei_input.specs.Queue.{rest_of}
use Rattle.ei_event.specs.declared.event.EiEvent.{EiEvent}
use Rattle.ei_event.specs.Converter.{ConverterView as ClientConverter, with_queue}
use Rattle.ei_request.specs.declared.event.EisRequest.{EisRequest}
use Rattle.ei_request.specs.Converter.{ConverterView as ServerConverter}
use Rattle.ei_promises.specs.Pair.{PairView, Follows, Serves}
use Rattle.ei_promises.specs.Keeping.{Keeps}
use Rattle.ei_pair.specs.declared.server_end.ServerEnd.{ServerEnd}
use Rattle.ei_pair.specs.declared.server_end.ServerEnd.TheVariants as end
use Rattle.ei_pair.specs.Parts.{PartsView, pair_in}
use Rattle.ei_pair.specs.Stepped.{IsSound}
use Rattle.ei_pair.proofs.Sound.{is_sound}

abbrev pub ClientQueueSaid : Type 0 → Type 0
ClientQueueSaid H = (p : PairView H) (f : ClientConverter H) (queue : List EiEvent) → p.client ≡ Follows f → Keeps p → Keeps (record p { client = Follows (with_queue queue f) })

abbrev pub ServerQueueSaid : Type 0 → Type 0
ServerQueueSaid H = (p : PairView H) (c : ServerConverter) (queue : List EisRequest) → p.server ≡ Serves c → Keeps p → Keeps (record p { server = Serves (record c { queue = queue }) })

pub client_queue : {H : Type 0} (said : ClientQueueSaid H) (p : PartsView H) (f g : ClientConverter H) → p.converter ≡ Some f → IsSound p → g ≡ with_queue (rest_of f.kept.queue) f → IsSound (record p { converter = Some g })
client_queue {H} said p f g is sound rest =
    let was : IsSound (record p { converter = Some f }) = subst (λ (o : Option (ClientConverter H)). IsSound (record p { converter = o })) is sound in
    subst (λ (c : ClientConverter H). IsSound (record p { converter = Some c })) (sym rest)
    (is_sound (record p { converter = Some (with_queue (rest_of f.kept.queue) f) }) sound.kept.pair.world
    (said (pair_in (record p { converter = Some f })) f (rest_of f.kept.queue) refl was.kept.keeps) sound.serial)

abbrev pub with_server : {H : Type 0} → ServerEnd → PartsView H → PartsView H
with_server s p = record p { ends = record p.ends { server = record p.ends.server { context = s } } }

pub server_queue : {H : Type 0} (said : ServerQueueSaid H) (p : PartsView H) (c d : ServerConverter) → p.ends.server.context ≡ end.Talking c → IsSound p → d ≡ record c { queue = rest_of c.queue } → IsSound (with_server (end.Talking d) p)
server_queue {H} said p c d is sound rest =
    let was : IsSound (with_server (end.Talking c) p) = subst (λ (s : ServerEnd). IsSound (with_server s p)) is sound in
    subst (λ (x : ServerConverter). IsSound (with_server (end.Talking x) p)) (sym rest)
    (is_sound (with_server (end.Talking (record c { queue = rest_of c.queue })) p) was.kept.pair.world
    (said (pair_in (with_server (end.Talking c) p)) c (rest_of c.queue) refl was.kept.keeps) sound.serial)
