-- Invariant: of the files passed no page of the set that is ahead of no reader goes before the best (`Rear`).
use Rattle.std.proofs.Common.{List, ℕ}
use Rattle.rules.specs.declared.View.{View}
use Rattle.files.specs.Sets.{in_set}
use Rattle.uses.specs.declared.Terms.{Terms}
use Rattle.uses.specs.Sights.{Sighted, state_under}
use Rattle.rears.specs.Rears.{Rear}
use Rattle.rears.proofs.furthest_behind.Given as goal

abbrev pub invariant-loop-file : goal.invariant-loop-file
invariant-loop-file l =
    (t : Terms) (v : View) (fetching : List ℕ) → Sighted t l.sight.sizes.now l.sight.seats.now l.sight.cached.now fetching v
    → Rear (state_under t v l.sight.cached.now fetching) (in_set l.files) l.file l.best
