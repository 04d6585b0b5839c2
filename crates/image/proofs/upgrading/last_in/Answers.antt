-- The number stands as it is, or is 0: in an empty slot, for a file that is none of the eight, or for a file's size.
use Rattle.std.proofs.Common.{rules}
use Rattle.image.proofs.Upgrades.{last-stands, last_empty, last-far, last-size}
use Rattle.image.proofs.upgrading.last_in.Goals as goal

pub returns-then-last-ne0 : goal.returns-then-last-ne0
returns-then-last-ne0 c = search (last-stands, rules)

pub returns-then-get-eq0 : goal.returns-then-get-eq0
returns-then-get-eq0 c = search (last_empty, rules)

pub returns-then-file-gt7 : goal.returns-then-file-gt7
returns-then-file-gt7 c = search (last-far, rules)

pub returns : goal.returns
returns c = search (last-size, rules)
