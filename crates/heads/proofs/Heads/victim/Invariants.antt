-- Invariant: of the set's pages in the files passed none goes before the best, and the heads known are their files'.
use Rattle.rules.specs.declared.View.{View}
use Rattle.files.specs.Sets.{in_set}
use Rattle.uses.specs.Shown.{Shows, seen}
use Rattle.heads.specs.Heads.{HeadIs, Kept}
use Rattle.heads.proofs.Heads.victim.Given as goal

abbrev pub invariant-loop-file : goal.invariant-loop-file
invariant-loop-file l =
    (v : View) → Shows l.sight v → Kept (seen l.sight v) l.sight.terms.done l.initial.self
    → HeadIs (seen l.sight v) l.sight.terms.done (in_set l.files) l.file l.best × Kept (seen l.sight v) l.sight.terms.done l.self
