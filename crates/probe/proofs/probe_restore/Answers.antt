-- Restore's number is below 4,294,967,296.
use Rattle.probe.proofs.Numbers.{restore-low}
use Rattle.probe.proofs.probe_restore.Goals as goal

pub saved_after-requires : goal.saved_after-requires
saved_after-requires c = restore-low _ _ _ c.restore-done.ensures
