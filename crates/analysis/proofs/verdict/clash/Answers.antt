use Rattle.analysis.proofs.Searching.{none_placed}
use Rattle.analysis.proofs.verdict.clash.Goals as goal

pub returns-in-0 : goal.returns-in-0
returns-in-0 g c = none_placed _ _ _ c.write_contested.ensures c.place_all.new.self c.place_all.ensures c.in-0.is
