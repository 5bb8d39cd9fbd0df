use Rattle.table.specs.Grammar.{grammar}
use Rattle.sets.specs.Words.{held}
use Rattle.sets.proofs.Settling.{sound_start, settled}
use Rattle.sets.proofs.Smallest.{defined, smallest}
use Rattle.sets.proofs.words.SetWords.find.Goals as goal

pub settle-requires : goal.settle-requires
settle-requires c = sound_start _ _ c.requires

pub returns : goal.returns
returns c =
    let first = c.settle.ensures in
    let inside = c.inside_round.ensures in
    let last = c.settle-2.ensures in
    let meets =
    settled (grammar c.args.table.now.draft) (held c.args.self.now) (held c.settle.new.self) (held c.inside_round.new.self) (held c.settle-2.new.self)
    c.requires first.within (λ n p at. (first.met n p at).0) (λ n p at. (first.met n p at).1) inside.within inside.sound inside.inside
    last.within last.sound last.met in
    record { defined = defined _ _ last.sound meets; smallest = smallest _ _ last.sound meets }
