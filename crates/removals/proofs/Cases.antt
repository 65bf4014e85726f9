-- The worked states are swept as the table says.
use mathlib.Core.Path.{refl}
use Rattle.calculus.specs.Names.{names_of_reference, names_of_all, names_of_action, names_of_process}
use Rattle.machine.specs.Names.{names}
use Rattle.removals.specs.Sweeping.{occurrences, clearable, unless_cleared, sweep_by, sweep, sweep_state}
use Rattle.removals.specs.Cases.{AllSweep, table, TableSweeps}

pub table_sweeps : TableSweeps
unfolding AllSweep table sweep_state sweep sweep_by unless_cleared clearable occurrences names names_of_process names_of_action names_of_all names_of_reference
table_sweeps = (refl, (refl, (refl, (refl, (refl, (refl, (refl, (refl, (refl, tt)))))))))
