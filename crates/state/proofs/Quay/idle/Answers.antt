-- The idle state is valid.
use Rattle.std.proofs.Common.{sym, subst}
use Rattle.rules.proofs.calls.Kept.{idle-valid}
use Rattle.rules.specs.Valid.{Valid}
use Rattle.state.proofs.Quay.idle.Goals as goal

pub empty-requires : goal.empty-requires
empty-requires c = subst Valid (sym c.idle.ensures) idle-valid
