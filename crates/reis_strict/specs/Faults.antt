-- What the faults are in words.
use Rattle.std.specs.Prelude.{ℕ, List, codes}
use Rattle.reis_strict.specs.declared.fault.Fault.{Fault}
use Rattle.reis_strict.specs.declared.fault.Fault.TheVariants as fault

abbrev pub fault_text : Fault → List ℕ
fault_text fault.OfReceiver = codes "events of a receiver"
fault_text fault.StartedTwice = codes "start_emulating while emulating"
fault_text fault.NotStarted = codes "stop_emulating without start_emulating"
fault_text fault.NotEmulating = codes "input without start_emulating"
