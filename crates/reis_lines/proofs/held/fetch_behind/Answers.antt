use Rattle.std.proofs.Common.{arith}
use Rattle.reis_lines.proofs.GaveLaws.{fetched_gave, fetched_none, fetched_answer, fetched_fault}
use Rattle.reis_lines.proofs.HeldLaws.{fetched}
use Rattle.reis_lines.proofs.held.fetch_behind.Goals as goal

pub returns-clause-text : goal.returns-clause-text
returns-clause-text g c = λ text told. fetched _ _ c.fetch.result c.args.room.now c.fetch.new.bytes _ text c.args.end (omega arith) c.fetch.ensures.size c.fetch.ensures.fetches.text told

pub returns-clause-given : goal.returns-clause-given
returns-clause-given g c = fetched_gave c.fetch.result c.args.room.now c.fetch.new.bytes _ _ _ c.args.end (omega arith) c.fetch.ensures.size c.fetch.ensures.fetches.given

pub returns-clause-none_given : goal.returns-clause-none_given
returns-clause-none_given g c = fetched_none c.fetch.result _ _ _ c.fetch.ensures.fetches.given

pub returns-clause-answered : goal.returns-clause-answered
returns-clause-answered g c = fetched_answer c.fetch.result c.args.room.now c.fetch.new.bytes _ _ _ c.args.end (omega arith) c.fetch.ensures.size c.fetch.ensures.fetches.fetches

pub returns-clause-faulted : goal.returns-clause-faulted
returns-clause-faulted g c = fetched_fault c.fetch.result c.fetch.new.bytes _ _ c.fetch.ensures.fetches.fetches
