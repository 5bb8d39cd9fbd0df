use Rattle.std.specs.Iterator.Adapters.{rev_source}
use Rattle.std.specs.Slice.Iter.{iter_rest}
use Rattle.sets.proofs.Following.{DoneLast}
use Rattle.sets.proofs.Walks.{FromBack}
use Rattle.sets.proofs.words.SetWords.add_last.Given as goal

abbrev pub invariant-loop-item : goal.invariant-loop-item
invariant-loop-item l =
    FromBack l.production.items.items (iter_rest (rev_source l.item-iterator)) (DoneLast l.initial.self l.production.left l.grown l.self)
