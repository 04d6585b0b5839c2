-- The head known is the file's; else the page found is put.
use Rattle.heads.proofs.Besting.{head-put}
use Rattle.heads.proofs.Heads.head.Goals as goal

pub returns : goal.returns
returns c = λ v g a.
    head-put _ g.valid _ c.requires.1 _ _ _ _ _ c.of.ensures c.lasting-head.ensures (c.first_among.ensures v g) a
