-- The line is obeyed as it was taken apart; one that asks nothing is refused.
use Rattle.std.proofs.Common.{refl, sym, ◌∙◌}
use Rattle.text.proofs.Asks.{command-few, responds-some, responds-none}
use Rattle.lines.proofs.answer_line.Goals as goal

pub obey-requires : goal.obey-requires
obey-requires c = (command-few _ _ (sym c.command_in-asked.ensures ∙ c.in-Some.is), c.requires.1)

pub returns-in-Some-clause-gives : goal.returns-in-Some-clause-gives
returns-in-Some-clause-gives c = rw (responds-some _ _ (sym c.command_in-asked.ensures ∙ c.in-Some.is) c.args.q.now) c.obey.ensures

pub returns-in-None-clause-gives : goal.returns-in-None-clause-gives
returns-in-None-clause-gives c =
    rw (responds-none c.args.q.now _ (sym c.command_in-asked.ensures ∙ c.in-None.is)) (record { state_is = refl; line = c.tell.ensures })
