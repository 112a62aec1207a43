use Rattle.std.proofs.Common.{refl}
use Rattle.ei_spec.proofs.EachInterface.{interfaces}
use Rattle.ei_spec.proofs.TableLaws.{in_order, names_differ}
use Rattle.ei_spec.proofs.RowNames.{row_of_name}
use Rattle.ei_spec.proofs.RowHandles.{few_handles, new_or_handle}
use Rattle.ei_spec.proofs.laws.all_messages.Goals as goal

pub returns : goal.returns
returns c = record { interfaces = interfaces; requests = refl; events = refl; opcodes = in_order; names = names_differ; by_name = row_of_name; handles = few_handles; announcing = new_or_handle }
