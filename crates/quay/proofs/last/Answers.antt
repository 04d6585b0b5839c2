-- What is handed back is what the call left at the front of the buffer. Assumes nothing.
use Rattle.std.proofs.Common.{sym, length-take-le}
use Rattle.lines.proofs.Taking.{finish-fits}
use Rattle.quay.proofs.last.Goals as goal

pub slice_bounds-result-end : goal.slice_bounds-result-end
slice_bounds-result-end c = sym (length-take-le _ _ (finish-fits _ _ _ _ c.finish-len.ensures))
