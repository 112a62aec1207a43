use Rattle.ei_serve.proofs.Reading.{reads_shaking, reads_connected}
use Rattle.ei_serve.proofs.phase.Phase.read.Goals as goal

pub returns-in-Handshake-clause-reads : goal.returns-in-Handshake-clause-reads
returns-in-Handshake-clause-reads g c = λ setup past times rest handles short h.
    let s = rw c.in-Handshake.is at h in
    reads_shaking setup past times rest handles _ _ _ _ _ _ short s c.read.ensures.reads.reads

pub returns-in-Connected-clause-reads : goal.returns-in-Connected-clause-reads
returns-in-Connected-clause-reads g c = λ setup past times rest handles short h.
    let s = rw c.in-Connected.is at h in
    reads_connected setup past times rest handles c.in-Connected.converter _ _ _ _ _ _ short s c.handle_mut.ensures.value c.context_mut.ensures.value c.read-in-Connected.ensures.reads.reads
