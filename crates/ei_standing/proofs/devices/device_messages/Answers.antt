use Rattle.ei_standing.proofs.FrameLaw.{after_frame}
use Rattle.ei_standing.proofs.ClosingLaws.{after_start, after_stop, after_ready}
use Rattle.ei_standing.proofs.InputLaws.{after_input}
use Rattle.ei_standing.proofs.DeviceReleases.{after_release}
use Rattle.ei_standing.proofs.InterfaceReleases.{after_interface_release}
use Rattle.ei_standing.proofs.devices.device_messages.Goals as goal

pub returns-clause-input : goal.returns-clause-input
returns-clause-input c = after_input

pub returns-clause-frame : goal.returns-clause-frame
returns-clause-frame c = after_frame

pub returns-clause-start : goal.returns-clause-start
returns-clause-start c = after_start

pub returns-clause-stop : goal.returns-clause-stop
returns-clause-stop c = after_stop

pub returns-clause-ready : goal.returns-clause-ready
returns-clause-ready c = after_ready

pub returns-clause-closed : goal.returns-clause-closed
returns-clause-closed c = after_release

pub returns-clause-released : goal.returns-clause-released
returns-clause-released c = after_interface_release
