use Rattle.reis_strict.proofs.Telling.{first, resumed, paused, removed, passed, reserved}
use Rattle.reis_strict.proofs.laws.told.Goals as goal

pub returns-clause-first : goal.returns-clause-first
returns-clause-first c = first

pub returns-clause-resumed : goal.returns-clause-resumed
returns-clause-resumed c = λ devices history device stands. resumed devices history stands device

pub returns-clause-paused : goal.returns-clause-paused
returns-clause-paused c = λ devices history device stands. paused devices history stands device

pub returns-clause-removed : goal.returns-clause-removed
returns-clause-removed c = λ devices history device stands. removed devices history stands device

pub returns-clause-passed : goal.returns-clause-passed
returns-clause-passed c = λ devices history role request stands passes. passed devices history stands request role passes

pub returns-clause-reserved : goal.returns-clause-reserved
returns-clause-reserved c = λ devices history device stands. reserved devices history stands device
