-- Assumes nothing. By the bytes: none, one, more.
use Rattle.text.proofs.Asks.{starts_none, starts_alone, starts_comma, starts_next}
use Rattle.text.proofs.starts_well.Goals as goal

pub returns-in-empty : goal.returns-in-empty
returns-in-empty c = starts_none _ c.in-empty.len_below

pub returns-in-len1 : goal.returns-in-len1
returns-in-len1 c = starts_alone _ c.in-len1.len_at_least c.in-len1.len_below

pub returns-then-letter-ne44 : goal.returns-then-letter-ne44
returns-then-letter-ne44 c = starts_next _ c.in-len2-up.len_at_least c.if-letter-ne44.true

pub returns-else-letter-ne44 : goal.returns-else-letter-ne44
returns-else-letter-ne44 c = starts_comma _ c.in-len2-up.len_at_least c.if-letter-ne44.false
