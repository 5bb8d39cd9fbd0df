use Rattle.sets.proofs.Fitting.{small_grammar}
use Rattle.sets.proofs.Growing.{grows}
use Rattle.sets.proofs.words.SetWords.settle.Goals as goal

pub loop-smaller : goal.loop-smaller
loop-smaller g c =
    let made = c.args.table.now in
    grows _ c.loop.self c.round.new.sets (small_grammar made.draft made.ok) c.loop.invariant.sound c.loop-test.ensures.grown
