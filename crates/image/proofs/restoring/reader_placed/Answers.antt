-- File, pace, last page and position are tested one after the other.
use Rattle.std.proofs.Common.{get_or, refl, sym, ◌∙◌}
use Rattle.rules.specs.Views.{no_pages}
use Rattle.rules.specs.Image.{reader_placed}
use Rattle.rules.proofs.laws.Cases.{file_there}
use Rattle.parts.specs.Files.{sized_with}
use Rattle.image.proofs.Checks.{on, off}
use Rattle.image.proofs.Slots.{range-holds}
use Rattle.image.proofs.restoring.reader_placed.Goals as goal

pub returns-then-no_file : goal.returns-then-no_file
unfolding reader_placed
returns-then-no_file c = rw (sym c.no_file.ensures ∙ c.if-no_file.true)

pub bounds-sizes-r : goal.bounds-sizes-r
bounds-sizes-r c = (file_there (sized_with c.args.sizes.now no_pages) c.args.r.now.file (sym c.no_file.ensures ∙ c.if-no_file.false)).0

pub returns-then-within : goal.returns-then-within
unfolding reader_placed
returns-then-within c =
    let r = c.args.r.now in
    rw (sym c.no_file.ensures ∙ c.if-no_file.false)
    (on _ _ _ _ c.within.ensures c.if-within.true
    (range-holds (get_or c.args.sizes.now r.file 0) r.position r.last c.no_range.result c.no_range.ensures.value))

pub returns-else-within : goal.returns-else-within
unfolding reader_placed
returns-else-within c = rw (sym c.no_file.ensures ∙ c.if-no_file.false) (off _ _ _ _ c.within.ensures c.if-within.false refl)
