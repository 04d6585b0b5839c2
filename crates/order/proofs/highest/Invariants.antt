-- Invariant: no cached page of the files passed that are of the set ranks higher than the best (`Highest`).
use Rattle.rules.specs.declared.View.{View}
use Rattle.files.specs.Sets.{in_set}
use Rattle.uses.specs.Shown.{Shows, seen}
use Rattle.order.specs.Searches.{AllAhead}
use Rattle.order.proofs.Searching.{Highest}
use Rattle.order.proofs.highest.Given as goal

abbrev pub invariant-loop-file : goal.invariant-loop-file
invariant-loop-file l =
    (v : View) → Shows l.sight v → AllAhead (seen l.sight v) (in_set l.files) → Highest (seen l.sight v) (in_set l.files) l.file l.best
