use Rattle.ei_hub.proofs.hub.Hub.serve_all.Goals as goal

pub returns-clause-kept : goal.returns-clause-kept
returns-clause-kept g c = λ k d e at now. (c.serve_rounds.ensures.since k d e at now).kept

pub returns-clause-alone : goal.returns-clause-alone
returns-clause-alone g c = λ k setup start pieces times d e at now. (c.serve_rounds.ensures.since k d e at now).alone setup start pieces times

pub returns-clause-source : goal.returns-clause-source
returns-clause-source g c = λ k d e at now. (c.serve_rounds.ensures.since k d e at now).source

pub returns-clause-sink : goal.returns-clause-sink
returns-clause-sink g c = λ k d e at now. (c.serve_rounds.ensures.since k d e at now).sink
