use Rattle.std.specs.Iterator.Adapters.{rev_source}
use Rattle.std.specs.Slice.Iter.{iter_rest}
use Rattle.sets.specs.Words.{held}
use Rattle.sets.proofs.Following.{DoneInside}
use Rattle.sets.proofs.Walks.{FromBack}
use Rattle.sets.proofs.words.SetWords.add_inside.Given as goal

abbrev pub invariant-loop-item : goal.invariant-loop-item
invariant-loop-item l =
    FromBack l.production.items.items (iter_rest (rev_source l.item-iterator)) (DoneInside (held l.initial.self) l.after (held l.self))
