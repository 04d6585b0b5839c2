-- One less of the file.
use native.Mathlib.Omega.{arith}
use Rattle.parts.proofs.Carried.{held-put}
use Rattle.parts.proofs.page_out.Goals as goal

pub returns : goal.returns
returns c = λ cached h b there. held-put cached _ _ 0 _ (omega arith) (omega arith) there h (omega arith)
