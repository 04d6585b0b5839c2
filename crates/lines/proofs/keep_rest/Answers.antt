-- A line ends still, and all stays; or the bytes left are put behind the text.
use Prim.Native.Nat.{◌-◌}
use mathlib.Core.Path.{refl, ap, ◌∙◌}
use mathlib.Core.List.{◌++◌}
use native.Mathlib.Omega.{arith}
use lib.ListN.{length, drop, length-drop}
use lib.Seq.{take_all}
use Rattle.text.specs.Cuts.{text_in, kept}
use Rattle.lines.proofs.keep_rest.Goals as goal

pub returns-then-end-chunk : goal.returns-then-end-chunk
returns-then-end-chunk c =
    record { value = λ _. (refl, refl); rest = λ h. absurd (omega (arith, c.if-end-chunk.true)) }

pub returns : goal.returns
returns c =
    let text = c.args.text.now in
    let chunk = c.args.chunk.now in
    let next = c.args.next in
    let all = take_all (length chunk - next) (drop next chunk) (omega (arith, length-drop next chunk)) in
    record { value = λ h. absurd (omega (arith, c.if-end-chunk.false)); rest = λ _. (refl, c.append.ensures ∙ ap (λ l. kept text (text_in text ++ l)) all) }
