-- Both numbers are below 4,294,967,296.
use Rattle.std.proofs.Common.{◌<◌, arith}
use Rattle.rules.specs.Entries.{code}
use Rattle.probe.proofs.Numbers.{save-low}
use Rattle.probe.proofs.saved_after.Goals.{After-save-saved}
use Rattle.probe.proofs.saved_after.Goals as goal

low : (c : After-save-saved) → code c.save-saved.result < 4294967296
low c = save-low _ _ _ _ c.save-saved.ensures

pub overflow_mul-result : goal.overflow_mul-result
overflow_mul-result c = omega (arith, low (goal.at.overflow_mul-result c).After-save-saved, c.number-2.ensures)

pub overflow_add-result : goal.overflow_add-result
overflow_add-result c = omega (arith, low (goal.at.overflow_add-result c).After-save-saved, c.number.ensures, c.number-2.ensures)
