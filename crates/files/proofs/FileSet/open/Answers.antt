-- No shares: the set of the files with cached pages. Else that of the file chosen, if any has cached pages.
use Rattle.std.proofs.Common.{subst}
use Rattle.files.proofs.Holding.{victim-of-held}
use Rattle.files.proofs.Leading.{victim-of-one, victim-of-none}
use Rattle.files.specs.Leads.{SharesOf}
use Rattle.files.proofs.FileSet.open.Goals as goal

pub returns-in_default : goal.returns-in_default
returns-in_default c = λ v cached fetching w a h. victim-of-held _ w (subst (SharesOf v) c.in_default.is a) _ h _ c.held.ensures

pub returns-in-Some-chosen : goal.returns-in-Some-chosen
returns-in-Some-chosen c = λ v cached fetching w a h.
    victim-of-one v c.in-Some.shares c.args.held.now (subst (SharesOf v) c.in-Some.is a) cached fetching w h _ c.in-Some-chosen.ensures _ c.of.ensures

pub returns-in-None : goal.returns-in-None
returns-in-None c = λ v cached fetching w a h.
    victim-of-none v c.in-Some.shares c.args.held.now (subst (SharesOf v) c.in-Some.is a) cached fetching w h c.in-None.ensures _
