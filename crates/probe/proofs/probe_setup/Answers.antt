-- Setup's number is below 4,294,967,296.
use Rattle.probe.proofs.Numbers.{setup-low}
use Rattle.probe.proofs.probe_setup.Goals as goal

pub saved_after-requires : goal.saved_after-requires
saved_after-requires c = setup-low _ _ _ _ _ _ _ _ c.setup_by_rule-done.ensures
